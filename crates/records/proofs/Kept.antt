-- What is read of any bytes is what stands before the place where reading stopped; so it is restored by writing, and a pad
-- writes on there. Assumes nothing.
use Rattle.std.specs.Prelude.{Result, Ok, Err}
use mathlib.Core.Path.{◌≡◌, refl, sym, ap, ◌∙◌, subst}
use mathlib.Core.Bool.{Bool, true, false}
use mathlib.Core.List.{List, [], ◌∷◌, ◌++◌, append-nil}
use Prim.Native.Nat.{ℕ, zero, suc, ◌+◌, ◌-◌, ◌≤◌, ◌<◌}
use native.Mathlib.Omega.{arith}
use lib.Dec.{ltb}
use lib.ListN.{length, get_or, take, drop, length-append, length-take, length-drop, get_or-eq_default}
use lib.Seq.{get_or-take, get_or-drop, take-add, take-length, take-take, take_at, sets, sets-eq, length-sets}
use borrow.Author.Tests.{ltb-true, ltb-false, le-leb}
use Rattle.records.specs.declared.Found.{Found}
use Rattle.records.specs.declared.Refused.{Refused}
use Rattle.records.specs.declared.Found.TheVariants.{Whole, End, Short}
use Rattle.records.specs.declared.Record.{Record}
use Rattle.records.specs.Laws.{moved, behind, exactly, Restored, RestoredByWriting, GoodIsRestored, BothAreRead, WritesOn}
use Rattle.records.specs.Numbers.{Bytes}
use Rattle.records.specs.Reading.{read_of, Reading, none, more, read_from, read_all, end_at, end_of}
use Rattle.records.specs.Record.{bytes_of, journal_of, Fits, AllFit}
use Rattle.records.specs.Writing.{stored_over, write_all}
use Rattle.records.proofs.Cuts.{journal_then, journal_append, uncut}
use Rattle.records.proofs.Journals.{read_more, read_end, read_short, read_refused}
use Rattle.records.proofs.Judged.{forward, none_left}
use Rattle.records.proofs.Moved.{read_rest}
use Rattle.records.proofs.Stores.{sets_then, to, before, up_to_it}
use Rattle.records.proofs.There.{there}

-- ---- what is known of the reading of some bytes
record Told (s : List ℕ) (a : Reading) : Type 0 where
  pub bytes : journal_of a.records ≡ take a.place s
  pub fit : AllFit a.records
  pub inside : a.place ≤ length s
  pub ends : a.stop ≡ Ok End → a.place ≡ length s

no_records : (s : List ℕ) (f : Result Found Refused) → (f ≡ Ok End → 0 ≡ length s) → Told s (none 0 f)
unfolding journal_of AllFit
no_records s f e = record { bytes = refl; fit = tt; inside = omega arith; ends = e }

moved_end : (d : ℕ) (f : Result Found Refused) → moved d f ≡ Ok End → f ≡ Ok End
moved_end d (Ok (Whole r next)) e = cc
moved_end d (Ok End) e = refl
moved_end d (Ok Short) e = cc
moved_end d (Err bad) e = cc

rest_bytes : (s : List ℕ) (n : ℕ) → Bytes s → Bytes (drop n s)
unfolding Bytes
rest_bytes s n h i = let e = get_or-drop n s i 0 in omega (arith, h (n + i), e)

-- a record, and what is known of the rest
one_more : (s : List ℕ) (r : Record) (next : ℕ) (a : Reading) → Bytes s → read_of s 0 ≡ Ok (Whole r next) → Told (drop next s) a → Told s (more r (behind [] next a))
unfolding journal_of AllFit
one_more s r next a h e t =
    let z : next - 0 ≡ next = omega arith in
    let d = length-drop next s in
    let f = forward s 0 r next e in
    record {
      bytes =
          ap (λ (l : List ℕ). l ++ journal_of a.records) ((there s 0 next r h e).0 ∙ ap (λ (n : ℕ). take n s) z)
          ∙ ap (λ (l : List ℕ). take next s ++ l) t.bytes
          ∙ sym (take-add next a.place s);
      fit = ((there s 0 next r h e).1, t.fit);
      inside = omega (arith, t.inside);
      ends = λ m. omega (arith, t.ends (moved_end next a.stop m));
    }

told_up_to : (g : ℕ) (s : List ℕ) → length s < g → Bytes s → Told s (read_all s)
unfolding read_all
told_up_to zero s h b = absurd (omega arith)
told_up_to (suc g) s h b = go (λ t i c. told_up_to g t i c) (read_of s 0) refl
  where
    go : ((t : List ℕ) → length t < g → Bytes t → Told t (read_all t)) → (a : Result Found Refused) → read_of s 0 ≡ a → Told s (read_from s 0)
    go on (Ok (Whole r next)) e =
        let d : length (drop next s) < g = omega (arith, length-drop next s, forward s 0 r next e) in
        subst (Told s) (sym (read_more s 0 r next e ∙ ap (more r) (read_rest s next)))
        (one_more s r next (read_all (drop next s)) b e (on (drop next s) d (rest_bytes s next b)))
    go on (Ok End) e = subst (Told s) (sym (read_end s 0 e)) (no_records s (Ok End) (λ _. omega (arith, none_left s 0 e)))
    go on (Ok Short) e = subst (Told s) (sym (read_short s 0 e)) (no_records s (Ok Short) (λ z. cc))
    go on (Err bad) e = subst (Told s) (sym (read_refused s 0 bad e)) (no_records s (Err bad) (λ z. cc))

told : (s : List ℕ) → Bytes s → Told s (read_all s)
told s b = told_up_to (suc (length s)) s (omega arith) b

pub restored : Restored
restored s b = (told s b).bytes

-- where it stopped at the end
all_of_it : (s : List ℕ) → Bytes s → (read_all s).stop ≡ Ok End → journal_of (read_all s).records ≡ s
all_of_it s b e = (told s b).bytes ∙ ap (λ (n : ℕ). take n s) ((told s b).ends e) ∙ take-length s

pub both_are_read : BothAreRead
both_are_read s t b e =
    let j = all_of_it s b e in
    ap (λ (l : List ℕ). read_all (l ++ t)) (sym j)
    ∙ journal_then (read_all s).records t (told s b).fit
    ∙ ap (λ (l : List ℕ). behind (read_all s).records (length l) (read_all t)) j

-- ---- written one behind the other
write_all_lem : (rs : List Record) (l : List ℕ) (at : ℕ) → at + length (journal_of rs) ≤ length l → write_all l at rs ≡ sets l at (journal_of rs)
unfolding write_all journal_of stored_over
write_all_lem [] l at h = refl
write_all_lem (r ∷ rs) l at h =
    let b = bytes_of r in
    let n = length-append b (journal_of rs) in
    let e : stored_over l at b ≡ sets l at b = simp (le-leb (at + length b) (length l) (omega arith)) in
    ap (λ (x : List ℕ). write_all x (at + length b) rs) e
    ∙ write_all_lem rs (sets l at b) (at + length b) (omega (arith, length-sets l at b))
    ∙ sets_then b (journal_of rs) l at (at + length b) refl

-- by which the first bytes of the buffer are their journal
written_all : (rs : List Record) (s l : List ℕ) → journal_of rs ≡ s → length s ≤ length l → take (length s) (write_all l 0 rs) ≡ s
written_all rs s l j h =
    let n : 0 + length (journal_of rs) ≤ length l = omega (arith, ap length j) in
    ap (take (length s)) (write_all_lem rs l 0 n ∙ ap (sets l 0) j ∙ sets-eq s l 0 (omega arith)) ∙ take_at s (drop (0 + length s) l) (length s) refl

pub restored_by_writing : RestoredByWriting
restored_by_writing s l b e h = written_all (read_all s).records s l (all_of_it s b e) h

pub good_is_restored : GoodIsRestored
good_is_restored rs l fit h =
    let e : (read_all (journal_of rs)).records ≡ rs = ap (λ (a : Reading). a.records) (uncut rs fit) in
    ap (λ (x : List Record). take (length (journal_of rs)) (write_all l 0 x)) e ∙ written_all rs (journal_of rs) l refl h

-- ---- writing on
-- the place where reading stopped, unless that is a refused record
stopped_at : (place at : ℕ) (f : Result Found Refused) → end_at place f ≡ Ok at → place ≡ at
stopped_at place at (Ok found) e = cc
stopped_at place at (Err bad) e = cc

part_bytes : (l : List ℕ) (n : ℕ) → Bytes l → Bytes (take n l)
unfolding Bytes
part_bytes l n h i = go (ltb i n) refl
  where
    go : (b : Bool) → ltb i n ≡ b → get_or (take n l) i 0 < 256
    go true e = omega (arith, h i, get_or-take n l i 0 (ltb-true i n e))
    go false e = omega (arith, get_or-eq_default (take n l) 0 {n = i} (omega (arith, length-take n l, ltb-false i n e)))

fit_one : (rs : List Record) (r : Record) → AllFit rs → Fits r → AllFit (rs ++ (r ∷ []))
unfolding AllFit
fit_one [] r fits fit = (fit, tt)
fit_one (x ∷ rs) r fits fit = (fits.0, fit_one rs r fits.1 fit)

pub writes_on : WritesOn
unfolding end_of journal_of
writes_on l n at next r b fit e made =
    let s = take n l in
    let a = read_all s in
    let t = told s (part_bytes l n b) in
    let p : a.place ≡ at = stopped_at a.place at a.stop e in
    let m : at ≤ n = omega (arith, t.inside, length-take n l) in
    let front : take at l ≡ journal_of a.records = sym (t.bytes ∙ ap (λ (k : ℕ). take k s) p ∙ take-take at n l m) in
    let rs = a.records ++ (r ∷ []) in
    let j : take next (stored_over l at (bytes_of r)) ≡ journal_of rs =
    up_to_it l (bytes_of r) at next made
    ∙ ap (λ (x : List ℕ). x ++ bytes_of r) front
    ∙ ap (λ (x : List ℕ). journal_of a.records ++ x) (sym (append-nil (bytes_of r)))
    ∙ sym (journal_append a.records (r ∷ [])) in
    let z : length (journal_of rs) ≡ next =
    ap length (sym j ∙ up_to_it l (bytes_of r) at next made)
    ∙ length-append (take at l) (bytes_of r)
    ∙ ap (λ (k : ℕ). k + length (bytes_of r)) (before l (bytes_of r) at next made)
    ∙ sym (to l (bytes_of r) at next made) in
    ap read_all j ∙ uncut rs (fit_one a.records r t.fit fit) ∙ ap (λ (k : ℕ). exactly rs k (Ok End)) z
