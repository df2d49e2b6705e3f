-- A journal of good records, whole, cut anywhere, and with something behind it. Assumes nothing.
use Rattle.std.specs.Prelude.{Ok}
use mathlib.Core.Path.{◌≡◌, refl, sym, ap, ◌∙◌}
use mathlib.Core.Bool.{Bool, true, false, cond}
use mathlib.Core.List.{List, [], ◌∷◌, ◌++◌, append_assoc, append-nil}
use Prim.Native.Nat.{ℕ, ◌+◌, ◌-◌, ◌≤◌, ◌<◌}
use native.Mathlib.Omega.{arith}
use lib.Dec.{leb, eqb}
use lib.ListN.{length, take, length-append}
use lib.Seq.{take-append-add, take-append-le, take-nil, drop-append_seam}
use borrow.Author.Tests.{leb-true, leb-false}
use Rattle.records.specs.declared.Record.{Record}
use Rattle.records.specs.declared.Found.TheVariants.{End, Short}
use Rattle.records.specs.Cut.{whole_from}
use Rattle.records.specs.Laws.{moved, behind, exactly, CutAnywhere, CutInARecord, Uncut}
use Rattle.records.specs.Reading.{Reading, none, more, read_all}
use Rattle.records.specs.Record.{bytes_of, journal_of, Fits, AllFit}
use Rattle.records.proofs.First.{read_first, cut_first}
use Rattle.records.proofs.Journals.{read_more, read_stop}
use Rattle.records.proofs.Judged.{at_end}
use Rattle.records.proofs.Moved.{behind_nothing, behind-behind, behind_stop, read_rest}

-- ---- a record, and journals, with something behind them
record_then : (r : Record) → Fits r → (t : List ℕ) → read_all (bytes_of r ++ t) ≡ behind (r ∷ []) (length (bytes_of r)) (read_all t)
unfolding read_all
record_then r fit t =
    let b = bytes_of r in
    read_more (b ++ t) 0 r (length b) (read_first r fit t)
    ∙ ap (more r) (read_rest (b ++ t) (length b) ∙ ap (λ (l : List ℕ). behind [] (length b) (read_all l)) (drop-append_seam b t))

pub journal_then : (rs : List Record) (t : List ℕ) → AllFit rs → read_all (journal_of rs ++ t) ≡ behind rs (length (journal_of rs)) (read_all t)
unfolding journal_of AllFit
journal_then [] t fit = sym (behind_nothing (read_all t))
journal_then (r ∷ rs) t fit =
    let b = bytes_of r in
    let js = journal_of rs in
    ap read_all (append_assoc b js t)
    ∙ record_then r fit.0 (js ++ t)
    ∙ ap (behind (r ∷ []) (length b)) (journal_then rs t fit.1)
    ∙ behind-behind (r ∷ []) rs (length b) (length js) (read_all t)
    ∙ ap (λ (n : ℕ). behind (r ∷ rs) n (read_all t)) (sym (length-append b js))

-- nothing, and a record that is not whole
pub read_nothing : read_all [] ≡ none 0 (Ok End)
unfolding read_all
read_nothing = read_stop [] 0 true (sym (at_end [] 0 (omega arith)))

cut_record : (r : Record) → Fits r → (m : ℕ) → m < length (bytes_of r) → read_all (take m (bytes_of r)) ≡ none 0 (Ok (cond (eqb m 0) End Short))
unfolding read_all
cut_record r fit m h = read_stop (take m (bytes_of r)) 0 (eqb m 0) (cut_first r fit m h)

-- ---- cut anywhere
take_past : (a t : List ℕ) (n : ℕ) → length a ≤ n → take n (a ++ t) ≡ a ++ take (n - length a) t
take_past a t n h =
    let e : n ≡ length a + (n - length a) = omega arith in
    ap (λ (k : ℕ). take k (a ++ t)) e ∙ take-append-add a t (n - length a)

cut_from : (at : ℕ) (rs : List Record) (n : ℕ) → AllFit rs → behind [] at (read_all (take n (journal_of rs))) ≡ whole_from at rs n
unfolding AllFit journal_of whole_from
cut_from at [] n fit = ap (λ (l : List ℕ). behind [] at (read_all l)) (take-nil n) ∙ ap (behind [] at) read_nothing ∙ behind_stop at true
cut_from at (r ∷ rs) n fit = go (λ k m. cut_from k rs m fit.1) (leb (length (bytes_of r)) n) refl
  where
    b : List ℕ
    b = bytes_of r

    js : List ℕ
    js = journal_of rs

    go : ((k m : ℕ) → behind [] k (read_all (take m js)) ≡ whole_from k rs m) → (c : Bool) → leb (length b) n ≡ c
        → behind [] at (read_all (take n (b ++ js)))
        ≡ cond c (more r (whole_from (at + length b) rs (n - length b))) (none at (Ok (cond (eqb n 0) End Short)))
    go on true e =
        let m = n - length b in
        ap (λ (l : List ℕ). behind [] at (read_all l)) (take_past b js n (leb-true (length b) n e))
        ∙ ap (behind [] at) (record_then r fit.0 (take m js))
        ∙ behind-behind [] (r ∷ []) at (length b) (read_all (take m js))
        ∙ ap (more r) (on (at + length b) m)
    go on false e =
        let i : n < length b = leb-false (length b) n e in
        ap (λ (l : List ℕ). behind [] at (read_all l)) (take-append-le n b js (omega arith))
        ∙ ap (behind [] at) (cut_record r fit.0 n i)
        ∙ behind_stop at (eqb n 0)

pub cut_anywhere : CutAnywhere
cut_anywhere rs n fit = sym (behind_nothing (read_all (take n (journal_of rs)))) ∙ cut_from 0 rs n fit

-- ---- told by the place of the cut
pub journal_append : (a b : List Record) → journal_of (a ++ b) ≡ journal_of a ++ journal_of b
unfolding journal_of
journal_append [] b = refl
journal_append (r ∷ a) b = ap (λ (l : List ℕ). bytes_of r ++ l) (journal_append a b) ∙ sym (append_assoc (bytes_of r) (journal_of a) (journal_of b))

fit_front : (a b : List Record) → AllFit (a ++ b) → AllFit a
unfolding AllFit
fit_front [] b fit = tt
fit_front (r ∷ a) b fit = (fit.0, fit_front a b fit.1)

fit_next : (a b : List Record) (r : Record) → AllFit (a ++ (r ∷ b)) → Fits r
unfolding AllFit
fit_next [] b r fit = fit.0
fit_next (x ∷ a) b r fit = fit_next a b r fit.1

-- records, and then the end or a record that is cut off
up_to : (rs : List Record) (at : ℕ) (b : Bool) → behind rs at (none 0 (Ok (cond b End Short))) ≡ exactly rs at (Ok (cond b End Short))
up_to rs at b =
    ap (λ (l : List Record). record { records = l; place = (behind [] at (none 0 (Ok (cond b End Short)))).place; stop = moved at (Ok (cond b End Short)) }) (append-nil rs)
    ∙ ap (λ (a : Reading). exactly rs a.place a.stop) (behind_stop at b)

pub cut_in_a_record : CutInARecord
unfolding journal_of
cut_in_a_record a b r m fit h =
    let ja = journal_of a in
    let l : take (length ja + m) (journal_of (a ++ (r ∷ b))) ≡ ja ++ take m (bytes_of r) =
    ap (take (length ja + m)) (journal_append a (r ∷ b))
    ∙ take-append-add ja (bytes_of r ++ journal_of b) m
    ∙ ap (λ (x : List ℕ). ja ++ x) (take-append-le m (bytes_of r) (journal_of b) (omega arith)) in
    ap read_all l
    ∙ journal_then a (take m (bytes_of r)) (fit_front a (r ∷ b) fit)
    ∙ ap (behind a (length ja)) (cut_record r (fit_next a b r fit) m h)
    ∙ up_to a (length ja) (eqb m 0)

pub uncut : Uncut
uncut rs fit =
    ap read_all (sym (append-nil (journal_of rs)))
    ∙ journal_then rs [] fit
    ∙ ap (behind rs (length (journal_of rs))) read_nothing
    ∙ up_to rs (length (journal_of rs)) true
