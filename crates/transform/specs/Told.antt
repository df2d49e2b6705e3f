-- A transform that was computed, with its flag, and the entries of one that go through f64 (docs/RULES.md, "Transforms"). Definitions
-- only.
use Rattle.std.specs.Prelude.{Bool, false, not, ◌||◌, List, [], ◌∷◌, Float}
use Rattle.float_laws.specs.Formula.{◌⊕◌}
use Rattle.float_laws.specs.Narrow.{narrow_of, kept}
use Rattle.transform.specs.declared.Computed.{Computed}
use Rattle.transform.specs.declared.Transform.{Transform}
use Rattle.transform.specs.declared.entry.Entry.{Entry}
use Rattle.transform.specs.Row.{row_of}

abbrev pub computed_of : Transform → Bool → Computed
computed_of t b = record { transform = t; rounded = b }

-- x narrowed once, flagged where it is not kept
abbrev pub entry_of : Float → Entry
entry_of x = record { value = narrow_of x; rounded = not (kept x) }

abbrev pub moved_of : Entry → Float → Entry
moved_of n by = record { value = n.value ⊕ by; rounded = n.rounded }

-- one of these was rounded
unfoldable pub some_rounded : List Entry → Bool
some_rounded [] = false
some_rounded (n ∷ l) = n.rounded || some_rounded l

-- six entries in the order of `from_row`
abbrev pub entries_of : Entry → Entry → Entry → Entry → Entry → Entry → Computed
entries_of sx ky kx sy tx ty =
    computed_of (row_of sx.value ky.value kx.value sy.value tx.value ty.value)
    (some_rounded (sx ∷ ky ∷ kx ∷ sy ∷ tx ∷ ty ∷ []))
