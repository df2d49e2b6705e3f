-- The date table of a conic: cut by both axes, every second point from the first on, rounded down (docs/RULES.md, "Dates").
-- Definitions only.
use Rattle.std.specs.Prelude.{◌≡◌, ℕ, ◌+◌, ◌*◌, ◌^◌, Bool, true, cond, not, ◌&&◌, ◌||◌, List, [], ◌∷◌, ◌++◌, map, length, drop, nat_lt, Result, Ok, Err, Float}
use Rattle.std.proofs.lemmas.List.Edits.{sets}
use Rattle.point.specs.declared.Point.{Point}
use Rattle.point.specs.Numbers.{flat}
use Rattle.conic.specs.declared.Conic.{Conic}
use Rattle.conic.specs.declared.Rule.TheVariants.{BothAxes}
use Rattle.conic.specs.Chop.{conic_from, chop_by_rule}
use Rattle.conic.specs.Level.{ceiling}
use Rattle.conic_cut.specs.Cut.{written}
use Rattle.date_table.specs.declared.Refusal.{Refusal}
use Rattle.date_table.specs.declared.Refusal.TheVariants.{LevelTooHigh, BufferTooShort, EntryOutOfRange, TableFalls}
use Rattle.date_table.specs.Answers.{number_of_refusal, values_of_refusal, number_of_made, values_of_made}
use Rattle.date_table.specs.Table.{rising}
use Rattle.date_table.specs.Whole.{in_range, whole_of}

-- ---- the points
-- whatever rule it carries
abbrev pub by_both_axes : Conic → Conic
by_both_axes c = conic_from c.p0 c.p1 c.p2 c.weight BothAxes

-- every second point, from the first on
unfoldable pub every_second : List Point → List Point
every_second [] = []
every_second (p ∷ []) = p ∷ []
every_second (p ∷ q ∷ ps) = p ∷ every_second ps

-- the coordinates that are taken of a list of points, x then y for each; and these rounded down
abbrev pub taken_of : List Point → List Float
taken_of ps = flat (every_second ps)

abbrev pub rounded_of : List Point → List ℕ
rounded_of ps = map whole_of (taken_of ps)

unfoldable pub all_in_range : List Float → Bool
all_in_range [] = true
all_in_range (x ∷ l) = in_range x && all_in_range l

abbrev pub cut_of : ℕ → Conic → List Point
cut_of n c = written chop_by_rule n (by_both_axes c)

-- what the test of a table leaves in a buffer: the table at its start, or the buffer as it was
abbrev pub stored_by : Result (Unit {0}) Refusal → List ℕ → List ℕ → List ℕ
stored_by (Ok passed) l t = sets l 0 t
stored_by (Err why) l t = l

-- ---- the call, at the level n, into a table of len numbers, from a source that may be short
abbrev pub table_room : ℕ → ℕ
table_room n = 2 * (2 ^ n + 1)

-- the first refusal that applies, 1, 2, 10, then 12; and else what is well
abbrev pub refuse_made : {A : Type 0} → ℕ → ℕ → Bool → Conic → (Refusal → A) → A → A
refuse_made n len short c refused well =
    cond (nat_lt ceiling n) (refused LevelTooHigh)
    (cond (nat_lt len (table_room n) || short) (refused BufferTooShort)
    (cond (not (all_in_range (taken_of (cut_of n c)))) (refused EntryOutOfRange)
    (cond (not (rising (rounded_of (cut_of n c)))) (refused TableFalls) well)))

unfoldable pub made_answer : ℕ → ℕ → Bool → Conic → Result ℕ Refusal
made_answer n len short c = refuse_made n len short c Err (Ok (2 ^ n + 1))

unfoldable pub made_table : ℕ → Conic → Bool → List ℕ → List ℕ
made_table n c short l = refuse_made n (length l) short c (λ _. l) (rounded_of (cut_of n c) ++ drop (table_room n) l)

-- the answer, its number and its values, and the table at exit; two that meet it are one (`one_made` of proofs/Unique)
pub record MadeInto (n : ℕ) (c : Conic) (short : Bool) (l : List ℕ) (r : Result ℕ Refusal) (l₁ : List ℕ) : Type 0 where
  pub answer : r ≡ made_answer n (length l) short c
  pub number : number_of_made r ≡ refuse_made n (length l) short c number_of_refusal 0
  pub values : values_of_made r ≡ refuse_made n (length l) short c values_of_refusal ((2 ^ n + 1) ∷ [])
  pub table : l₁ ≡ made_table n c short l
