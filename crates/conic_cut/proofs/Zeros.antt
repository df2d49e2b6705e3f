-- Order speaks of numbers and not of bits: where zeros change their sign, points run one way exactly if they did before, and a conic
-- meets the premise exactly if it did before. Assumes nothing.
use mathlib.Core.Path.{◌≡◌, sym}
use mathlib.Core.Bool.{Bool}
use mathlib.Core.List.{List, [], ◌∷◌}
use mathlib.Core.Logic.{inl, inr, ⊎_elim}
use lib.Ieee.{Float, le}
use Rattle.float_laws.specs.Zeros.{SameNumber}
use Rattle.float_laws.proofs.Zeros.{le_alike, finite-alike}
use Rattle.point.specs.declared.Point.{Point}
use Rattle.conic.specs.declared.Conic.{Conic}
use Rattle.conic.specs.Chop.{along}
use Rattle.conic.specs.Rule.{Axis}
use Rattle.conic.proofs.Zeros.{exact_alike}
use Rattle.conic_cut.specs.Order.{Steps, ge, OneWay, FiniteCoordinates, Premise}
use Rattle.conic_cut.specs.Zeros.{SameNumbers, SameCorners}

same_back : (k : Axis) (ps qs : List Point) → SameNumbers k ps qs → SameNumbers k qs ps
unfolding SameNumbers
same_back k [] [] e = tt
same_back k [] (q ∷ m) e = absurd e
same_back k (p ∷ l) [] e = absurd e
same_back k (p ∷ l) (q ∷ m) e = (sym e.0, same_back k l m e.1)

-- ---- points
steps_alike : (R : Float → Float → Bool) → ((x y x₁ y₁ : Float) → SameNumber x x₁ → SameNumber y y₁ → R x y ≡ R x₁ y₁)
    → (k : Axis) (ps qs : List Point) → SameNumbers k ps qs → Steps R k ps → Steps R k qs
unfolding Steps SameNumbers
steps_alike R alike k [] [] e h = tt
steps_alike R alike k [] (q ∷ m) e h = absurd e
steps_alike R alike k (p ∷ l) [] e h = absurd e
steps_alike R alike k (p ∷ []) (q ∷ []) e h = tt
steps_alike R alike k (p ∷ []) (q ∷ q₁ ∷ m) e h = absurd e.1
steps_alike R alike k (p ∷ p₁ ∷ l) (q ∷ []) e h = absurd e.1
steps_alike R alike k (p ∷ p₁ ∷ l) (q ∷ q₁ ∷ m) e h =
    (rw (← alike (along k p) (along k p₁) (along k q) (along k q₁) e.0 e.1.0) h.0, steps_alike R alike k (p₁ ∷ l) (q₁ ∷ m) e.1 h.1)

one_way_still : (k : Axis) (ps qs : List Point) → SameNumbers k ps qs → OneWay k ps → OneWay k qs
one_way_still k ps qs e h =
    ⊎_elim
    (λ up. inl (steps_alike le le_alike k ps qs e up))
    (λ down. inr (steps_alike ge (λ x y x₁ y₁ p q. le_alike y x y₁ x₁ q p) k ps qs e down))
    h

pub one_way_alike : (k : Axis) (ps qs : List Point) → SameNumbers k ps qs → (OneWay k ps → OneWay k qs) × (OneWay k qs → OneWay k ps)
one_way_alike k ps qs e = (one_way_still k ps qs e, one_way_still k qs ps (same_back k ps qs e))

-- ---- conics
finite_still : (p q : Point) → ((j : Axis) → SameNumber (along j p) (along j q)) → FiniteCoordinates p → FiniteCoordinates q
finite_still p q e h = λ j. rw (← finite-alike (along j p) (along j q) (e j)) (h j)

premise_still : (k : Axis) (c d : Conic) → SameCorners c d → Premise k c → Premise k d
unfolding SameNumbers
premise_still k c d e h =
    record {
      start = finite_still c.p0 d.p0 (λ j. (e j).0) h.start;
      middle = finite_still c.p1 d.p1 (λ j. (e j).1.0) h.middle;
      end = finite_still c.p2 d.p2 (λ j. (e j).1.1.0) h.end;
      between = rw (← exact_alike (along k c.p0) (along k c.p1) (along k c.p2) (along k d.p0) (along k d.p1) (along k d.p2)
          (e k).0 (e k).1.0 (e k).1.1.0) h.between;
    }

pub premise_alike : (k : Axis) (c d : Conic) → SameCorners c d → (Premise k c → Premise k d) × (Premise k d → Premise k c)
premise_alike k c d e = (
  premise_still k c d e,
  premise_still k d c (λ j. same_back j (c.p0 ∷ c.p1 ∷ c.p2 ∷ []) (d.p0 ∷ d.p1 ∷ d.p2 ∷ []) (e j)),
)
