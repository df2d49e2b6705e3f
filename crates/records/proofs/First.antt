-- A record at the start of some bytes: read back where all of it is there, and short where it is cut. Assumes nothing.
use Rattle.std.specs.Prelude.{Ok}
use mathlib.Core.Path.{◌≡◌, refl, sym, ap, ◌∙◌}
use mathlib.Core.Bool.{Bool, true, false, cond}
use mathlib.Core.List.{List, [], ◌∷◌, ◌++◌}
use Prim.Native.Nat.{ℕ, ◌+◌, ◌*◌, ◌≤◌, ◌<◌}
use native.Mathlib.Omega.{arith}
use lib.Dec.{eqb, ltb}
use lib.ListN.{length, take, drop, length-append}
use lib.Seq.{length-take-le, take_at, sets-eq}
use borrow.Author.Tests.{eqb-true, eqb-false, ltb-true, ltb-false}
use Rattle.records.specs.declared.Record.{Record}
use Rattle.records.specs.declared.Record.TheVariants.{Conic, Transform, Correction}
use Rattle.records.specs.declared.Found.TheVariants.{Whole, End, Short}
use Rattle.records.specs.Numbers.{two, four, fours, half, word, words_at, AllBelow}
use Rattle.records.specs.Reading.{read_of}
use Rattle.records.specs.Record.{kind_of, words_of, count_of, record_of, length_of, bytes_for, bytes_of, Fits, words_over}
use Rattle.records.proofs.Judged.{at_end, no_length, no_kind, cut_off, whole}
use Rattle.records.proofs.Patterns.{word-four, words_drop, word-take, half-take, length_is}
use Rattle.records.proofs.Signed.{pattern_below, signed_pattern}
use Rattle.records.proofs.Stores.{length-bytes_for}

-- ---- all that tells one kind from another
pub record Known (r : Record) : Type 0 where
  pub small : kind_of r < 65536
  pub some : length (words_of r) ≡ 0 → ⊥
  pub few : length (words_of r) < 8
  pub count : length (words_of r) ≡ count_of (kind_of r)
  pub below : AllBelow (words_of r)
  pub back : record_of (kind_of r) (words_of r) ≡ r

pub known : (r : Record) → Fits r → Known r
unfolding Fits AllBelow words_of count_of record_of
known (Conic c) fit = record { small = omega arith; some = λ e. omega arith; few = omega arith; count = refl; below = fit; back = refl }
known (Transform t) fit = record { small = omega arith; some = λ e. omega arith; few = omega arith; count = refl; below = fit; back = refl }
known (Correction z) fit =
    record {
      small = omega arith;
      some = λ e. omega arith;
      few = omega arith;
      count = refl;
      below = (pattern_below z fit, tt);
      back = ap Correction (signed_pattern z fit);
    }

few_words : (r : Record) → length (words_of r) < 8
unfolding words_of
few_words (Conic c) = omega arith
few_words (Transform t) = omega arith
few_words (Correction z) = omega arith

pub at_most_34 : (r : Record) → length (bytes_of r) ≤ 34
unfolding bytes_of
at_most_34 r = omega (arith, length-bytes_for (kind_of r) (words_of r), few_words r)

words_back : (ws q : List ℕ) → AllBelow ws → words_at (fours ws ++ q) 0 (length ws) ≡ ws
unfolding words_at fours four AllBelow
words_back [] q h = refl
words_back (w ∷ ws) q h =
    ap (λ (x : ℕ). x ∷ words_at (four w ++ (fours ws ++ q)) 4 (length ws)) (word-four w (fours ws ++ q) h.0)
    ∙ ap (λ (l : List ℕ). w ∷ l) (sym (words_drop (four w ++ (fours ws ++ q)) 4 0 (length ws)) ∙ words_back ws q h.1)

-- ---- the length and the kind at the start, whatever follows, and the words behind them
head_kind : (f k : ℕ) (t : List ℕ) → k < 65536 → half (four f ++ (two k ++ t)) 4 ≡ k
unfolding four two half
head_kind f k t h = omega arith

head_words : (f k : ℕ) (ws q : List ℕ) → AllBelow ws → words_at (four f ++ (two k ++ (fours ws ++ q))) 6 (length ws) ≡ ws
unfolding four two
head_words f k ws q h = sym (words_drop (four f ++ (two k ++ (fours ws ++ q))) 6 0 (length ws)) ∙ words_back ws q h

module _ (r : Record) (fit : Fits r) where
  k : Known r
  k = known r fit

  abbrev n : ℕ
  n = length (words_of r)

  pub length-bytes : length (bytes_of r) ≡ 6 + 4 * n
  unfolding bytes_of
  length-bytes = length-bytes_for (kind_of r) (words_of r)

  head_size : (t : List ℕ) → 2 + 4 * n ≡ word (four (length_of n) ++ t) 0
  head_size t = sym (word-four (length_of n) t (omega (arith, length_is n, k.few)) ∙ length_is n)

  -- all of it is there
  pub read_first : (q : List ℕ) → read_of (bytes_of r ++ q) 0 ≡ Ok (Whole r (length (bytes_of r)))
  unfolding bytes_of bytes_for four two
  read_first q =
      let f = length_of n in
      let t = fours (words_of r) ++ q in
      let s = bytes_of r ++ q in
      let l : length s ≡ 6 + 4 * n + length q = length-append (bytes_of r) q ∙ ap (λ (x : ℕ). x + length q) length-bytes in
      let size : 2 + 4 * n ≡ word s 0 = head_size (two (kind_of r) ++ t) in
      let kind : kind_of r ≡ half s 4 = sym (head_kind f (kind_of r) t k.small) in
      let words : r ≡ record_of (kind_of r) (words_at s 6 (count_of (kind_of r))) =
      sym (ap (λ (x : ℕ). record_of (kind_of r) (words_at s 6 x)) (sym k.count) ∙ ap (record_of (kind_of r)) (head_words f (kind_of r) (words_of r) q k.below) ∙ k.back) in
      let z : length (bytes_of r) ≡ 0 + (4 + (2 + 4 * n)) = omega (arith, length-bytes) in
      sym (whole s 0 (omega arith) (omega arith) (2 + 4 * n) size (omega arith) (omega arith) (kind_of r) n kind k.count k.some refl r (omega arith) words)
      ∙ ap (λ (x : ℕ). Ok (Whole r x)) (sym z)

  -- its first m bytes are not all of it
  pub cut_first : (m : ℕ) → m < length (bytes_of r) → read_of (take m (bytes_of r)) 0 ≡ Ok (cond (eqb m 0) End Short)
  unfolding bytes_of bytes_for
  cut_first m h = go (eqb m 0) refl
    where
      s : List ℕ
      s = take m (bytes_of r)

      l : length s ≡ m
      l = length-take-le m (bytes_of r) (omega arith)

      size : 4 ≤ m → 2 + 4 * n ≡ word s 0
      size i = head_size (two (kind_of r) ++ fours (words_of r)) ∙ sym (word-take m (bytes_of r) 0 i)

      kind : 6 ≤ m → kind_of r ≡ half s 4
      kind i = sym (half-take m (bytes_of r) 4 i ∙ head_kind (length_of n) (kind_of r) (fours (words_of r)) k.small)

      third : 4 ≤ m → (b : Bool) → ltb m 6 ≡ b → Ok Short ≡ read_of s 0
      third i true e = no_kind s 0 (omega (arith, l)) (omega (arith, l)) (2 + 4 * n) (size i) (omega arith) (omega (arith, l, ltb-true m 6 e))
      third i false e =
          cut_off s 0 (omega (arith, l)) (omega (arith, l)) (2 + 4 * n) (size i) (omega arith) (omega (arith, l, ltb-false m 6 e)) (kind_of r) n
          (kind (ltb-false m 6 e)) k.count k.some refl (omega (arith, l, length-bytes))

      next : 0 < m → (b : Bool) → ltb m 4 ≡ b → Ok Short ≡ read_of s 0
      next i true e = no_length s 0 (omega (arith, l)) (omega (arith, l, ltb-true m 4 e))
      next i false e = third (ltb-false m 4 e) (ltb m 6) refl

      go : (b : Bool) → eqb m 0 ≡ b → read_of s 0 ≡ Ok (cond b End Short)
      go true e = sym (at_end s 0 (omega (arith, l, eqb-true m 0 e)))
      go false e = sym (next (omega (arith, eqb-false m 0 e)) (ltb m 4) refl)

-- ---- its kind, and as many words as that has of seven over which its own are stored
pub bytes_by_words : (z : List ℕ) (r : Record) → Fits r → (k n : ℕ) (ws : List ℕ) → k ≡ kind_of r → n ≡ count_of k → ws ≡ words_over r z → length z ≡ 7
    → bytes_for k (take n ws) ≡ bytes_of r
unfolding bytes_of words_over
bytes_by_words z r fit k n ws kind count words seven =
    let m = known r fit in
    let z' : n ≡ length (words_of r) = count ∙ ap count_of kind ∙ sym m.count in
    let front : take n ws ≡ words_of r =
    ap (take n) (words ∙ sets-eq (words_of r) z 0 (omega (arith, m.few))) ∙ take_at (words_of r) (drop (0 + length (words_of r)) z) n (sym z') in
    ap (λ (x : ℕ). bytes_for x (take n ws)) kind ∙ ap (bytes_for (kind_of r)) front
