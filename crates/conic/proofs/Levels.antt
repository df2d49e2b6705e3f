-- A level that is chosen is no higher than the ceiling, and an answer has the number and the values that the table gives it. Assumes nothing.
use mathlib.Core.Path.{◌≡◌, refl, ap, ◌∙◌}
use mathlib.Core.Bool.{Bool, true, false, cond}
use Prim.Native.Nat.{ℕ, zero, suc, max, ◌+◌, ◌-◌, ◌<◌, ◌≤◌}
use native.Mathlib.Omega.{arith}
use lib.Ieee.{Float, le}
use Rattle.std.specs.Prelude.{Result, Ok, Err}
use Rattle.float_laws.specs.Formula.{◌⊗◌, quarter32}
use Rattle.conic.specs.declared.Conic.{Conic}
use Rattle.conic.specs.declared.Refusal.{Refusal}
use Rattle.conic.specs.declared.leveling.Limits.{Limits}
use Rattle.conic.specs.declared.Refusal.TheVariants.{LevelTooHigh, BufferTooShort, PointNotFinite, BadTolerance}
use Rattle.conic.specs.Level.{error_of, quarterings_of, at_least_one, level_of, bad_ceiling, bad_tolerance, conic_finite, refuse_level, level_answer, limits_of, level_by, Chosen}
use Rattle.conic.specs.Refusal.{number_of_level, values_of_level}

one_more : (b : Bool) (m n : ℕ) → m ≤ n → cond b 0 (suc m) ≤ suc n
one_more true m n h = omega arith
one_more false m n h = omega arith

few : (n : ℕ) (e t : Float) → quarterings_of n e t ≤ n
unfolding quarterings_of
few zero e t = omega arith
few (suc n) e t = one_more (le e t) (quarterings_of n (e ⊗ quarter32) t) n (few n (e ⊗ quarter32) t)

low : (n m : ℕ) → n ≤ m → 1 ≤ m → at_least_one n ≤ m
low zero m h k = k
low (suc n) m h k = h

pub level_low : (m : ℕ) (c : Conic) (t : Float) → 1 ≤ m → level_of m c t ≤ m
unfolding level_of
level_low m c t k = low (quarterings_of m (error_of c) t) m (few m (error_of c) t) k

pub within : (n : ℕ) (e t : Float) → le e t ≡ true → quarterings_of n e t ≡ 0
unfolding quarterings_of
within zero e t h = refl
within (suc n) e t h = rw h

pub none : (n : ℕ) (e t : Float) → n ≡ 0 → quarterings_of n e t ≡ 0
unfolding quarterings_of
none n e t h = rw h

-- one step more, of n at most of which p are done
pub beyond : (n p : ℕ) (e t : Float) → p < n → le e t ≡ false
    → quarterings_of (n - p) e t ≡ suc (quarterings_of (n - (p + 1)) (e ⊗ quarter32) t)
unfolding quarterings_of
beyond n p e t h f = let k : n - p ≡ suc (n - (p + 1)) = omega arith in rw (k, f)

pub at_least : (n : ℕ) → max n 1 ≡ at_least_one n
at_least zero = refl
at_least (suc n) = omega arith

module _ {A : Type 0} (of : Result ℕ Refusal → A) where
  of_answer : (none bad short good : Bool) (n : ℕ)
      → of (cond none (Err LevelTooHigh)
      (cond bad (Err BadTolerance) (cond short (Err BufferTooShort) (cond good (Ok n) (Err PointNotFinite)))))
      ≡ cond none (of (Err LevelTooHigh))
      (cond bad (of (Err BadTolerance)) (cond short (of (Err BufferTooShort)) (cond good (of (Ok n)) (of (Err PointNotFinite)))))
  of_answer true bad short good n = refl
  of_answer false true short good n = refl
  of_answer false false true good n = refl
  of_answer false false false true n = refl
  of_answer false false false false n = refl

  told : (m : ℕ) (short : Bool) (c : Conic) (t : Float) (r : Result ℕ Refusal) → r ≡ level_answer m short c t
      → of r ≡ refuse_level m short c t (λ q. of (Err q)) (of (Ok (level_of m c t)))
  unfolding level_answer
  told m short c t r e = ap of e ∙ of_answer (bad_ceiling m) (bad_tolerance t) short (conic_finite c) (level_of m c t)

pub chosen : {m : ℕ} {short : Bool} {c : Conic} {t : Float} {r : Result ℕ Refusal} → r ≡ level_answer m short c t → Chosen m short c t r
chosen {m} {short} {c} {t} {r} e = record { answer = e; number = told number_of_level m short c t r e; values = told values_of_level m short c t r e }

-- within the limits the answer is the level's
pub by_level : (m : ℕ) (short : Bool) (c : Conic) (t : Float) (l : Limits) (r : Result ℕ Refusal) → short ≡ false → limits_of t m ≡ Ok l
    → r ≡ level_by l c → Chosen m short c t r
unfolding level_answer
by_level m short c t l r s e h = grind (arith, chosen)
