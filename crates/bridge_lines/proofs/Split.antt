-- Laws on the words of a line: which is the first, what the others are, and that none is empty. Assumes nothing.
use Rattle.std.proofs.Common.{◌≡◌, ℕ, zero, suc, ◌+◌, ◌-◌, ◌<◌, Bool, true, false, List, [], ◌∷◌, ◌++◌, length, get_or, take, drop, sym, refl, ap, ◌∙◌, append_assoc, append-nil, add-zero, arith, get_or-drop, drop-drop}
use Rattle.bridge_lines.specs.Words.{is_blank, before, from, ahead, words_after, words_of}
use Rattle.bridge_lines.specs.Kinds.{is_of}
use Rattle.bridge_lines.proofs.Bytes.{sits, part, rest}
use Rattle.bridge_lines.specs.declared.scan.Kind.TheVariants.{Blank, NoBlank}

skip_by : (t : Bool) (b : ℕ) (l : List ℕ) → is_blank b ≡ t → words_of (from (is_of NoBlank) l) ≡ words_of l →
    words_of (from (is_of NoBlank) (b ∷ l)) ≡ words_of (b ∷ l)
unfolding is_of from words_after ahead
skip_by true b l e h = rw e h
skip_by false b l e h = rw (e, e)

-- blanks in front do not count
pub skip : (l : List ℕ) → words_of (from (is_of NoBlank) l) ≡ words_of l
unfolding from
skip [] = refl
skip (b ∷ l) = skip_by (is_blank b) b l refl (skip l)

run_by : (t : Bool) (b : ℕ) (l w : List ℕ) → is_blank b ≡ t →
    ((v : List ℕ) → words_after v l ≡ ahead (v ++ before (is_of Blank) l) (words_of (from (is_of Blank) l))) →
    words_after w (b ∷ l) ≡ ahead (w ++ before (is_of Blank) (b ∷ l)) (words_of (from (is_of Blank) (b ∷ l)))
unfolding is_of before from words_after ahead
run_by true b l w e h = rw (e, e, append-nil)
run_by false b l w e h = rw (e, h (w ++ b ∷ []), append_assoc)

run : (l w : List ℕ) → words_after w l ≡ ahead (w ++ before (is_of Blank) l) (words_of (from (is_of Blank) l))
unfolding before from words_after ahead
run [] w = rw append-nil
run (b ∷ l) w = run_by (is_blank b) b l w refl (λ v. run l v)

begins_by : (t : Bool) (b : ℕ) (l : List ℕ) → is_blank b ≡ t → length (before (is_of NoBlank) (b ∷ l)) ≡ 0 →
    words_of (b ∷ l) ≡ before (is_of Blank) (b ∷ l) ∷ words_of (from (is_of Blank) (b ∷ l))
unfolding is_of before from ahead
begins_by true b l e h = absurd (none (rw e at h))
  where
    none : suc (length (before (is_of NoBlank) l)) ≡ 0 → ⊥
    none h = omega arith
begins_by false b l e h = rw e (run (b ∷ l) [] ∙ rw e)

-- no blank in front: the first word reaches to the first blank
pub this_word : (l : List ℕ) → length (before (is_of NoBlank) l) ≡ 0 → get_or (words_of l) 0 [] ≡ before (is_of Blank) l
unfolding before words_after ahead
this_word [] h = refl
this_word (b ∷ l) h = rw (begins_by (is_blank b) b l refl h)

pub other_words : (l : List ℕ) → length (before (is_of NoBlank) l) ≡ 0 → drop 1 (words_of l) ≡ words_of (from (is_of Blank) l)
unfolding from words_after ahead
other_words [] h = refl
other_words (b ∷ l) h = rw (begins_by (is_blank b) b l refl h)

-- ---- at an index i of the line t, where n words are passed and none is cut

abbrev pub Stands : List ℕ → ℕ → ℕ → Type 0
Stands t i n = (length (before (is_of NoBlank) (drop i t)) ≡ 0) × (words_of (drop i t) ≡ drop n (words_of t))

pub start : (t : List ℕ) (i : ℕ) → i ≡ 0 + length (before (is_of NoBlank) t) → Stands t i 0
start t i h =
    let e : drop i t ≡ from (is_of NoBlank) t = rest (is_of NoBlank) t 0 i h in
    (rw e (sits (is_of NoBlank) t), rw e (skip t))

pub next : (t : List ℕ) (i n e j : ℕ) → Stands t i n → e ≡ i + length (before (is_of Blank) (drop i t)) →
    j ≡ e + length (before (is_of NoBlank) (drop e t)) → Stands t j (n + 1)
next t i n e j h f g =
    let a : drop e t ≡ from (is_of Blank) (drop i t) = rest (is_of Blank) t i e f in
    let b : drop j t ≡ from (is_of NoBlank) (drop e t) = rest (is_of NoBlank) t e j g in (
      rw b (sits (is_of NoBlank) (drop e t)),
      rw b (skip (drop e t) ∙ rw a (sym (other_words (drop i t) h.0) ∙ rw h.1 (drop-drop 1 n (words_of t)))),
    )

pub word_at : (t : List ℕ) (i n e : ℕ) → Stands t i n → e ≡ i + length (before (is_of Blank) (drop i t)) →
    take (e - i) (drop i t) ≡ get_or (words_of t) n []
word_at t i n e h f =
    part (is_of Blank) t i e f
    ∙ sym (this_word (drop i t) h.0)
    ∙ rw h.1 (get_or-drop n (words_of t) 0 [] ∙ ap (λ (k : ℕ). get_or (words_of t) k []) (add-zero n))

-- ---- no word is empty

abbrev Full : List (List ℕ) → Type 0
Full ws = (k : ℕ) → k < length ws → 0 < length (get_or ws k [])

full_ahead : (w : List ℕ) (ws : List (List ℕ)) → Full ws → Full (ahead w ws)
unfolding ahead
full_ahead [] ws h k g = h k g
full_ahead (b ∷ w) ws h zero g = omega arith
full_ahead (b ∷ w) ws h (suc k) g = h k (omega arith)

full_by : (t : Bool) (b : ℕ) (l w : List ℕ) → is_blank b ≡ t → ((v : List ℕ) → Full (words_after v l)) → Full (words_after w (b ∷ l))
unfolding words_after
full_by true b l w e h = rw e (full_ahead w (words_of l) (h []))
full_by false b l w e h = rw e (h (w ++ b ∷ []))

full : (l w : List ℕ) → Full (words_after w l)
unfolding words_after
full [] w = full_ahead w [] (λ k h. absurd (no k h))
  where
    no : (k : ℕ) → k < 0 → ⊥
    no k h = omega arith
full (b ∷ l) w = full_by (is_blank b) b l w refl (λ v. full l v)

pub no_empty : (l : List ℕ) → Full (words_of l)
no_empty l = full l []
