-- A journal that is cut (docs/RULES.md, "The journal"). Definitions only.
use Rattle.std.specs.Prelude.{ℕ, ◌+◌, ◌-◌, cond, List, [], ◌∷◌, leb, eqb, length, Ok}
use Rattle.records.specs.declared.Record.{Record}
use Rattle.records.specs.declared.Found.TheVariants.{End, Short}
use Rattle.records.specs.Reading.{Reading, none, more}
use Rattle.records.specs.Record.{bytes_of}

-- of the journal of these records, which begins at an offset, the first n bytes: the records that are whole in them, then the
-- end at a boundary and else a record that is cut off
unfoldable pub whole_from : ℕ → List Record → ℕ → Reading
whole_from at [] n = none at (Ok End)
whole_from at (r ∷ rs) n =
    cond (leb (length (bytes_of r)) n)
    (more r (whole_from (at + length (bytes_of r)) rs (n - length (bytes_of r))))
    (none at (Ok (cond (eqb n 0) End Short)))

abbrev pub whole_of : List Record → ℕ → Reading
whole_of rs n = whole_from 0 rs n
