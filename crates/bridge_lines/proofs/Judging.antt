-- Laws on what is wrong with a line: how one word after the other is judged, and where that ends. Assumes nothing.
use Rattle.std.proofs.Common.{◌≡◌, ℕ, ◌+◌, ◌<◌, ◌≤◌, Bool, true, false, eqb, ltb, List, [], ◌∷◌, length, get_or, drop, sym, refl, ap, ◌∙◌, add-one, arith, drop_of_length-le, drop-cons, ltb-false, ltb-true, le-ltb, ne_eqb}
use lib.ListN.{get_or-eq_default}
use borrow.Author.Tests.{eqb-true, eqb-false}
use Rattle.std.specs.Prelude.{Ok, Some, None}
use Rattle.bridge_lines.specs.declared.Fault.TheVariants.{NoNumber, OutOfRange, TooFew, TooMany}
use Rattle.bridge_lines.specs.Reading.{bad, has_form, in_range, judged, bridge_of, line_of}
use Rattle.bridge_lines.specs.Words.{words_of}
use Rattle.bridge_lines.proofs.Split.{no_empty}

-- an empty word is past the last one
past_by : (t : Bool) (l : List ℕ) (k : ℕ) → ltb k (length (words_of l)) ≡ t → length (get_or (words_of l) k []) ≡ 0 →
    length (words_of l) ≤ k
past_by true l k e h = omega (arith, ltb-true k (length (words_of l)) e, no_empty l k (ltb-true k (length (words_of l)) e))
past_by false l k e h = ltb-false k (length (words_of l)) e

pub ends : (l : List ℕ) (k : ℕ) → length (get_or (words_of l) k []) ≡ 0 → drop k (words_of l) ≡ []
ends l k h = drop_of_length-le (words_of l) (past_by (ltb k (length (words_of l))) l k refl h)

goes_by : (t : Bool) (ws : List (List ℕ)) (k : ℕ) → ltb k (length ws) ≡ t → (length (get_or ws k []) ≡ 0 → ⊥) → k < length ws
goes_by true ws k e h = ltb-true k (length ws) e
goes_by false ws k e h = absurd (h (ap length (get_or-eq_default ws [] (ltb-false k (length ws) e))))

pub goes : (ws : List (List ℕ)) (k : ℕ) → (length (get_or ws k []) ≡ 0 → ⊥) → drop k ws ≡ get_or ws k [] ∷ drop (k + 1) ws
goes ws k h = rw add-one (drop-cons ws k [] (goes_by (ltb k (length ws)) ws k refl h))

-- a word that was asked whether it is empty
pub empty : {n : ℕ} {r : Bool} → r ≡ eqb n 0 → r ≡ true → n ≡ 0
empty {n} e h = eqb-true n 0 (sym e ∙ h)

pub not_empty : {n : ℕ} {r : Bool} → r ≡ eqb n 0 → r ≡ false → n ≡ 0 → ⊥
not_empty {n} e h = eqb-false n 0 (sym e ∙ h)

-- ---- where k words are right

module _ (ws : List (List ℕ)) (k : ℕ) (known : judged (k + 1) (drop k ws) (bridge_of ws) ≡ line_of ws) where
  pub blank : k ≡ 0 → drop k ws ≡ [] → Ok None ≡ line_of ws
  unfolding judged
  blank z e = rw (z) at (rw e at known)

  pub too_few : k < 8 → (k ≡ 0 → ⊥) → drop k ws ≡ [] → bad (k + 1) TooFew ≡ line_of ws
  unfolding judged
  too_few h z e =
      let t : ltb 8 (k + 1) ≡ false = le-ltb 8 (k + 1) (omega arith) in
      let o : eqb (k + 1) 1 ≡ false = ne_eqb (k + 1) 1 (λ n. z (omega arith)) in
      rw (t, o) at (rw e at known)

  module _ (h : k < 8) (e : drop k ws ≡ get_or ws k [] ∷ drop (k + 1) ws) where
    pub no_number : has_form (k + 1) (get_or ws k []) ≡ false → bad (k + 1) NoNumber ≡ line_of ws
    unfolding judged
    no_number f =
        let t : ltb 8 (k + 1) ≡ false = le-ltb 8 (k + 1) (omega arith) in
        rw (t, f) at (rw e at known)

    pub out_of_range : has_form (k + 1) (get_or ws k []) ≡ true → in_range (k + 1) (get_or ws k []) ≡ false → bad (k + 1) OutOfRange ≡ line_of ws
    unfolding judged
    out_of_range f r =
        let t : ltb 8 (k + 1) ≡ false = le-ltb 8 (k + 1) (omega arith) in
        rw (t, f, r) at (rw e at known)

    pub right : has_form (k + 1) (get_or ws k []) ≡ true → in_range (k + 1) (get_or ws k []) ≡ true →
        judged (k + 1 + 1) (drop (k + 1) ws) (bridge_of ws) ≡ line_of ws
    unfolding judged
    right f r =
        let t : ltb 8 (k + 1) ≡ false = le-ltb 8 (k + 1) (omega arith) in
        rw (t, f, r) at (rw e at known)

-- ---- where eight are

module _ (ws : List (List ℕ)) (known : judged 9 (drop 8 ws) (bridge_of ws) ≡ line_of ws) where
  pub too_many : drop 8 ws ≡ get_or ws 8 [] ∷ drop 9 ws → bad 9 TooMany ≡ line_of ws
  unfolding judged
  too_many e = rw e at known

  pub good : drop 8 ws ≡ [] → Ok (Some (bridge_of ws)) ≡ line_of ws
  unfolding judged
  good e = rw e at known
