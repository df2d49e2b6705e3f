-- Every figure of the list holds: one claim that is computed, and from it what each figure means. Assumes nothing.
use mathlib.Core.Path.{◌≡◌, refl}
use mathlib.Core.List.{List, [], ◌∷◌}
use lib.Dec.{T}
use lib.Ieee.{of_bits, to_bits, fits, add, sub, mul, div, lt, le}
use Rattle.float_laws.specs.Absolute.{abs_of}
use Rattle.float_laws.specs.Narrow.{round_to}
use Rattle.float_laws.specs.Root.{root_of}
use Rattle.float_laws.proofs.RootMeaning.{both}
use Rattle.quad_roots.specs.Roots.{roots_of, discriminant_of, divided_of, two_roots, collected, q_of}
use Rattle.conic.specs.Between.{passes}
use Rattle.conic.specs.Chop.{line_of, wide_middle, lines_at, halves_at, chop_at, chop_by_rule}
use Rattle.conic.specs.Mend.{nearer_of, ordered_of, mended_of}
use Rattle.conic.specs.Rule.{test_along}
use Rattle.point.specs.Numbers.{flat}
use Rattle.conic_cut.specs.Cut.{cut_points, all_finite, pinned, written, cut_answer}
use Rattle.checked_list.specs.Figures.{Figure, root, narrowed, absolute, roots, between, cut, answered, refused}
use Rattle.checked_list.specs.Figures.{bits, at, corner, Holds, AllHold, figures}

-- what is left to compute of a figure: a root is nearest where it is the computed one
abbrev Computed : Figure → Type 0
Computed (root f x r) = T (fits f (of_bits f x)) × (of_bits f r ≡ root_of f (of_bits f x))
Computed (narrowed x r) = Holds (narrowed x r)
Computed (absolute x r) = Holds (absolute x r)
Computed (roots a b c l) = Holds (roots a b c l)
Computed (between t a b c answer) = Holds (between t a b c answer)
Computed (cut u w n quads whole l) = Holds (cut u w n quads whole l)
Computed (answered n len quads) = Holds (answered n len quads)
Computed (refused n len number) = Holds (refused n len number)

abbrev AllComputed : List Figure → Type 0
AllComputed [] = Unit {0}
AllComputed (g ∷ l) = Computed g × AllComputed l

holds : (g : Figure) → Computed g → Holds g
holds (root f x r) h = (both f (of_bits f x) (of_bits f r) h.0 h.1).1
holds (narrowed x r) h = h
holds (absolute x r) h = h
holds (roots a b c l) h = h
holds (between t a b c answer) h = h
holds (cut u w n quads whole l) h = h
holds (answered n len quads) h = h
holds (refused n len number) h = h

hold : (l : List Figure) → AllComputed l → AllHold l
hold [] h = tt
hold (g ∷ l) h = (holds g h.0, hold l h.1)

infixr 4 ◌&◌
abbrev ◌&◌ : {A B : Type 0} → A → B → A × B
a & b = (a, b)

all_computed : AllComputed figures
unfolding
    bits at corner root_of round_to roots_of discriminant_of divided_of two_roots collected q_of passes test_along
    chop_by_rule chop_at halves_at lines_at line_of wide_middle mended_of ordered_of nearer_of abs_of cut_points all_finite pinned written flat cut_answer
    of_bits to_bits fits add sub mul div lt le
all_computed =
    (tt & refl) & (tt & refl) & (tt & refl) & (tt & refl) & (tt & refl) & refl & refl & refl & refl & refl
    & refl & refl & refl & refl & refl & refl & refl & refl & refl
    & (refl & refl & refl) & (refl & refl & refl) & (refl & refl & refl) & (refl & refl & refl) & (refl & refl & refl) & refl & refl & refl & refl & tt

pub all_hold : AllHold figures
all_hold = hold figures all_computed
