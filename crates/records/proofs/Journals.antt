-- Reading record after record: each step, and that the bound on their number is never reached. Assumes nothing.
use Rattle.std.specs.Prelude.{Result, Ok, Err}
use mathlib.Core.Path.{◌≡◌, refl, sym, ap, ◌∙◌}
use mathlib.Core.Bool.{Bool, true, false, cond}
use mathlib.Core.List.{List}
use Prim.Native.Nat.{ℕ, zero, suc, ◌+◌, ◌-◌, ◌<◌}
use native.Mathlib.Omega.{arith}
use lib.ListN.{length}
use Rattle.records.specs.declared.Record.{Record}
use Rattle.records.specs.declared.Refused.{Refused}
use Rattle.records.specs.declared.Found.{Found}
use Rattle.records.specs.declared.Found.TheVariants.{Whole, End, Short}
use Rattle.records.specs.Reading.{read_of, none, more, read_on, read_up_to, read_from, ended_by}
use Rattle.records.proofs.Judged.{forward}

-- ---- one more than enough changes nothing
one_more : (f : ℕ) (s : List ℕ) (at : ℕ) → length s - at < f → read_up_to (suc f) s at ≡ read_up_to f s at
unfolding read_up_to read_on
one_more zero s at h = absurd (omega arith)
one_more (suc f) s at h = go (λ next i. one_more f s next i) (read_of s at) refl
  where
    go : ((next : ℕ) → length s - next < f → read_up_to (suc f) s next ≡ read_up_to f s next) → (a : Result Found Refused) → read_of s at ≡ a
        → read_on (λ n. read_up_to (suc f) s n) at a ≡ read_on (λ n. read_up_to f s n) at a
    go after (Ok (Whole r next)) e = ap (more r) (after next (omega (arith, forward s at r next e)))
    go after (Ok End) e = refl
    go after (Ok Short) e = refl
    go after (Err bad) e = refl

enough_and : (k f : ℕ) (s : List ℕ) (at : ℕ) → length s - at < f → read_up_to (k + f) s at ≡ read_up_to f s at
enough_and zero f s at h = let z : 0 + f ≡ f = omega arith in ap (λ (n : ℕ). read_up_to n s at) z
enough_and (suc k) f s at h =
    let z : suc k + f ≡ suc (k + f) = omega arith in
    ap (λ (n : ℕ). read_up_to n s at) z ∙ one_more (k + f) s at (omega arith) ∙ enough_and k f s at h

-- any bound that is enough is as good as another
pub enough : (f : ℕ) (s : List ℕ) (at : ℕ) → length s - at < f → read_up_to f s at ≡ read_from s at
unfolding read_from
enough f s at h =
    let m = suc (length s - at) in
    let y : f ≡ (f - m) + m = omega arith in
    let z : suc (length s) ≡ (suc (length s) - m) + m = omega arith in
    ap (λ (n : ℕ). read_up_to n s at) y
    ∙ enough_and (f - m) m s at (omega arith)
    ∙ sym (ap (λ (n : ℕ). read_up_to n s at) z ∙ enough_and (suc (length s) - m) m s at (omega arith))

-- ---- what a whole record is followed by
pub read_more : (s : List ℕ) (at : ℕ) (r : Record) (next : ℕ) → read_of s at ≡ Ok (Whole r next) → read_from s at ≡ more r (read_from s next)
unfolding read_from read_up_to read_on
read_more s at r next h =
    ap (read_on (λ n. read_up_to (length s) s n) at) h
    ∙ ap (more r) (enough (length s) s next (omega (arith, forward s at r next h)))

-- and where there is none
pub read_end : (s : List ℕ) (at : ℕ) → read_of s at ≡ Ok End → read_from s at ≡ none at (Ok End)
unfolding read_from read_up_to read_on
read_end s at h = ap (read_on (λ n. read_up_to (length s) s n) at) h

pub read_short : (s : List ℕ) (at : ℕ) → read_of s at ≡ Ok Short → read_from s at ≡ none at (Ok Short)
unfolding read_from read_up_to read_on
read_short s at h = ap (read_on (λ n. read_up_to (length s) s n) at) h

pub read_refused : (s : List ℕ) (at : ℕ) (bad : Refused) → read_of s at ≡ Err bad → read_from s at ≡ none at (Err bad)
unfolding read_from read_up_to read_on
read_refused s at bad h = ap (read_on (λ n. read_up_to (length s) s n) at) h

-- at the end or in a record that is cut off
pub read_stop : (s : List ℕ) (at : ℕ) (b : Bool) → read_of s at ≡ Ok (cond b End Short) → read_from s at ≡ none at (Ok (cond b End Short))
read_stop s at true h = read_end s at h
read_stop s at false h = read_short s at h

-- ---- where the last whole record ended, by what stands behind it
module _ (s : List ℕ) (at : ℕ) where
  pub refused_end : (bad : Refused) → read_of s at ≡ Err bad → ended_by (read_from s at) ≡ Err bad
  refused_end bad h = ap ended_by (read_refused s at bad h)

  pub found_end : (found : Found) → read_of s at ≡ Ok found → ((r : Record) (next : ℕ) → found ≡ Whole r next → ⊥) → ended_by (read_from s at) ≡ Ok at
  found_end (Whole r next) h none = absurd (none r next refl)
  found_end End h none = ap ended_by (read_end s at h)
  found_end Short h none = ap ended_by (read_short s at h)
