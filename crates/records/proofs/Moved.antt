-- Nothing before an offset is read: what stands there, and what is read from there on, is that of the rest, moved. Assumes
-- nothing.
use Rattle.std.specs.Prelude.{Result, Ok, Err}
use mathlib.Core.Path.{◌≡◌, refl, sym, ap, ◌∙◌}
use mathlib.Core.Bool.{Bool, true, false, cond}
use mathlib.Core.List.{List, [], ◌++◌, append_assoc}
use Prim.Native.Nat.{ℕ, zero, suc, ◌+◌, ◌-◌}
use native.Mathlib.Omega.{arith}
use lib.Dec.{eqb, ltb, leb}
use lib.ListN.{length, drop, length-drop}
use lib.Seq.{drop-drop}
use borrow.Author.Tests.{leb-true, leb-false, le-leb, lt-leb}
use Rattle.records.specs.declared.Record.{Record}
use Rattle.records.specs.declared.Found.{Found}
use Rattle.records.specs.declared.Refused.{Refused}
use Rattle.records.specs.declared.Found.TheVariants.{Whole, End, Short}
use Rattle.records.specs.Laws.{moved, behind}
use Rattle.records.specs.Numbers.{word, half, words_at}
use Rattle.records.specs.Reading.{refused, read_of, Reading, none, more, read_on, read_up_to, read_from, read_all}
use Rattle.records.specs.Record.{count_of, record_of, length_of}
use Rattle.records.proofs.Journals.{enough}
use Rattle.records.proofs.Judged.{answer_of}
use Rattle.records.proofs.Patterns.{word-drop, half-drop, words_drop}

-- ---- one record
-- the answers, whatever the tests showed
carried : (d : ℕ) (v : Record) (to : ℕ) (b₁ b₂ b₃ b₄ b₅ b₆ b₇ : Bool)
    → answer_of (d + 0) v (d + to) b₁ b₂ b₃ b₄ b₅ b₆ b₇ ≡ moved d (answer_of 0 v to b₁ b₂ b₃ b₄ b₅ b₆ b₇)
carried d v to true b₂ b₃ b₄ b₅ b₆ b₇ = refl
carried d v to false true b₃ b₄ b₅ b₆ b₇ = refl
carried d v to false false true b₄ b₅ b₆ b₇ = refl
carried d v to false false false true b₅ b₆ b₇ = refl
carried d v to false false false false true b₆ b₇ = refl
carried d v to false false false false false false b₇ = refl
carried d v to false false false false false true true = refl
carried d v to false false false false false true false = refl

none_left : (l at : ℕ) → leb l at ≡ leb (l - at) 0
none_left l at = go (leb l at) refl
  where
    go : (b : Bool) → leb l at ≡ b → b ≡ leb (l - at) 0
    go true e = sym (le-leb (l - at) 0 (omega (arith, leb-true l at e)))
    go false e = sym (lt-leb (l - at) 0 (omega (arith, leb-false l at e)))

pub nothing_before : (s : List ℕ) (at : ℕ) → read_of s at ≡ moved at (read_of (drop at s) 0)
unfolding read_of
nothing_before s at =
    let t = drop at s in
    let k = half t 4 in
    let size = word t 0 in
    let e₀ : at + 0 ≡ at = omega arith in
    let e₁ : length t - 0 ≡ length s - at = ap (λ (n : ℕ). n - 0) (length-drop at s) ∙ omega arith in
    let e₂ : leb (length t) 0 ≡ leb (length s) at = ap (λ (n : ℕ). leb n 0) (length-drop at s) ∙ sym (none_left (length s) at) in
    let e₃ : size ≡ word s at = word-drop s at 0 ∙ ap (word s) e₀ in
    let e₄ : k ≡ half s (at + 4) = half-drop s at 4 in
    let e₅ : words_at t 6 (count_of (half s (at + 4))) ≡ words_at s (at + 6) (count_of (half s (at + 4))) = words_drop s at 6 (count_of (half s (at + 4))) in
    let e₆ : at + (0 + 4 + word s at) ≡ at + 4 + word s at = omega arith in
    sym (sym (carried at (record_of k (words_at t 6 (count_of k))) (0 + 4 + size) (leb (length t) 0) (ltb (length t - 0) 4) (ltb size 2) (ltb (length t - 0) 6) (eqb (count_of k) 0)
    (eqb size (length_of (count_of k))) (ltb (length t - 0) (4 + size)))
    ∙ rw (e₀, e₁, e₂, e₃, e₄, e₅, e₆))

-- ---- record after record
moved-moved : (d e : ℕ) (f : Result Found Refused) → moved d (moved e f) ≡ moved (d + e) f
moved-moved d e (Ok (Whole r next)) = let z : d + (e + next) ≡ d + e + next = omega arith in ap (λ (n : ℕ). Ok (Whole r n)) z
moved-moved d e (Ok End) = refl
moved-moved d e (Ok Short) = refl
moved-moved d e (Err bad) = let z : d + (e + bad.at) ≡ d + e + bad.at = omega arith in ap (refused bad.why) z

moved_nowhere : (f : Result Found Refused) → moved 0 f ≡ f
moved_nowhere (Ok (Whole r next)) = let z : 0 + next ≡ next = omega arith in ap (λ (n : ℕ). Ok (Whole r n)) z
moved_nowhere (Ok End) = refl
moved_nowhere (Ok Short) = refl
moved_nowhere (Err bad) = let z : 0 + bad.at ≡ bad.at = omega arith in ap (refused bad.why) z

same : (rs : List Record) (p q : ℕ) (f g : Result Found Refused) → p ≡ q → f ≡ g
    → ◌≡◌ {A = Reading} (record { records = rs; place = p; stop = f }) (record { records = rs; place = q; stop = g })
same rs p q f g e h = cc

pub behind_nothing : (a : Reading) → behind [] 0 a ≡ a
behind_nothing a = same a.records (0 + a.place) a.place (moved 0 a.stop) a.stop (omega arith) (moved_nowhere a.stop)

-- some records, then others
pub behind-behind : (r rs : List Record) (d e : ℕ) (a : Reading) → behind r d (behind rs e a) ≡ behind (r ++ rs) (d + e) a
behind-behind r rs d e a =
    ap (λ (l : List Record). record { records = l; place = d + (e + a.place); stop = moved d (moved e a.stop) }) (sym (append_assoc r rs a.records))
    ∙ same ((r ++ rs) ++ a.records) (d + (e + a.place)) (d + e + a.place) (moved d (moved e a.stop)) (moved (d + e) a.stop) (omega arith) (moved-moved d e a.stop)

-- none, where there is an end or a record that is cut off
pub behind_stop : (at : ℕ) (b : Bool) → behind [] at (none 0 (Ok (cond b End Short))) ≡ none at (Ok (cond b End Short))
behind_stop at true = same [] (at + 0) at (Ok End) (Ok End) (omega arith) refl
behind_stop at false = same [] (at + 0) at (Ok Short) (Ok Short) (omega arith) refl

up_to_moved : (f : ℕ) (s : List ℕ) (at : ℕ) → read_up_to f s at ≡ behind [] at (read_up_to f (drop at s) 0)
unfolding read_up_to read_on
up_to_moved zero s at = sym (behind_stop at true)
up_to_moved (suc f) s at = ap (read_on (λ n. read_up_to f s n) at) (nothing_before s at) ∙ go (λ t n. up_to_moved f t n) (read_of (drop at s) 0)
  where
    go : ((t : List ℕ) (n : ℕ) → read_up_to f t n ≡ behind [] n (read_up_to f (drop n t) 0)) → (a : Result Found Refused)
        → read_on (λ n. read_up_to f s n) at (moved at a) ≡ behind [] at (read_on (λ n. read_up_to f (drop at s) n) 0 a)
    go on (Ok (Whole r next)) =
        ap (more r)
        (on s (at + next)
        ∙ ap (λ (t : List ℕ). behind [] (at + next) (read_up_to f t 0)) (sym (drop-drop next at s))
        ∙ sym (behind-behind [] [] at next (read_up_to f (drop next (drop at s)) 0))
        ∙ ap (behind [] at) (sym (on (drop at s) next)))
    go on (Ok End) = sym (behind_stop at true)
    go on (Ok Short) = sym (behind_stop at false)
    go on (Err bad) =
        let z : at + 0 ≡ at = omega arith in
        sym (same [] (at + 0) at (refused bad.why (at + bad.at)) (refused bad.why (at + bad.at)) z refl)

-- what is read from an offset on is what is read of the rest
pub read_rest : (s : List ℕ) (at : ℕ) → read_from s at ≡ behind [] at (read_all (drop at s))
unfolding read_all read_from
read_rest s at = up_to_moved (suc (length s)) s at ∙ ap (behind [] at) (enough (suc (length s)) (drop at s) 0 (omega (arith, length-drop at s)))
