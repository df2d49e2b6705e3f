-- A record that is put together of a known kind and its words, of 32 bits, is of that kind and has these words. Assumes nothing.
use mathlib.Core.Path.{◌≡◌, refl, sym, ap, ◌∙◌, subst}
use mathlib.Core.Bool.{Bool, true, false}
use mathlib.Core.List.{List, [], ◌∷◌}
use Prim.Native.Nat.{ℕ, zero, suc, ◌+◌}
use native.Mathlib.Omega.{arith}
use lib.Dec.{eqb}
use lib.ListN.{length, get_or}
use borrow.Author.Tests.{eqb-true, eqb-false}
use Rattle.records.specs.Numbers.{AllBelow}
use Rattle.records.specs.Record.{kind_of, words_of, count_of, record_of, Fits}
use Rattle.records.proofs.Counts.{none}
use Rattle.records.proofs.Signed.{pattern_signed, signed_fits}

-- ---- n words of a list, one by one; all of them are the list
words_from : List ℕ → ℕ → ℕ → List ℕ
words_from ws i zero = []
words_from ws i (suc n) = get_or ws i 0 ∷ words_from ws (i + 1) n

from_next : (w : ℕ) (ws : List ℕ) (i n : ℕ) → words_from (w ∷ ws) (suc i) n ≡ words_from ws i n
unfolding words_from
from_next w ws i zero = refl
from_next w ws i (suc n) =
    let z : suc i + 1 ≡ suc (i + 1) = omega arith in
    ap (λ (l : List ℕ). get_or ws i 0 ∷ l) (ap (λ (k : ℕ). words_from (w ∷ ws) k n) z ∙ from_next w ws (i + 1) n)

from_all : (ws : List ℕ) → words_from ws 0 (length ws) ≡ ws
unfolding words_from
from_all [] = refl
from_all (w ∷ ws) = ap (λ (l : List ℕ). w ∷ l) (from_next w ws 0 (length ws) ∙ from_all ws)

-- ---- a record of a kind and words
pub record Together (k : ℕ) (ws : List ℕ) : Type 0 where
  pub kind : kind_of (record_of k ws) ≡ k
  pub words : words_of (record_of k ws) ≡ ws
  pub fits : Fits (record_of k ws)

one_by_one : (k : ℕ) (ws : List ℕ) → (count_of k ≡ 0 → ⊥) → AllBelow (words_from ws 0 (count_of k))
    → (kind_of (record_of k ws) ≡ k) × ((words_of (record_of k ws) ≡ words_from ws 0 (count_of k)) × Fits (record_of k ws))
unfolding words_of record_of words_from count_of Fits AllBelow
one_by_one k ws some = go (eqb k 1) (eqb k 2) (eqb k 3) refl refl refl
  where
    Is : ℕ → Type 0
    Is x = AllBelow (words_from ws 0 (count_of x))
        → (kind_of (record_of x ws) ≡ x) × ((words_of (record_of x ws) ≡ words_from ws 0 (count_of x)) × Fits (record_of x ws))

    first : Is 1
    first h = (refl, (refl, h))

    second : Is 2
    second h = (refl, (refl, h))

    third : Is 3
    third h = (refl, (ap (λ (x : ℕ). x ∷ []) (pattern_signed (get_or ws 0 0) h.0), signed_fits (get_or ws 0 0) h.0))

    go : (a b c : Bool) → eqb k 1 ≡ a → eqb k 2 ≡ b → eqb k 3 ≡ c → Is k
    go true b c e₁ e₂ e₃ = subst Is (sym (eqb-true k 1 e₁)) first
    go false true c e₁ e₂ e₃ = subst Is (sym (eqb-true k 2 e₂)) second
    go false false true e₁ e₂ e₃ = subst Is (sym (eqb-true k 3 e₃)) third
    go false false false e₁ e₂ e₃ = absurd (some (sym (none k (eqb-false k 1 e₁) (eqb-false k 2 e₂) (eqb-false k 3 e₃))))

pub together : (k : ℕ) (ws : List ℕ) → (count_of k ≡ 0 → ⊥) → length ws ≡ count_of k → AllBelow ws → Together k ws
together k ws some l below =
    let all : words_from ws 0 (count_of k) ≡ ws = ap (words_from ws 0) (sym l) ∙ from_all ws in
    let t = one_by_one k ws some (subst AllBelow (sym all) below) in
    record { kind = t.0; words = t.1.0 ∙ all; fits = t.1.1 }
