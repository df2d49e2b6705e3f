-- One number there and back: a float comes back from its word, a word from its float, and a NaN's pattern as the quiet NaN's.
-- Assumes nothing.
use mathlib.Core.Path.{◌≡◌, sym, ◌∙◌, subst}
use mathlib.Core.Bool.{Bool, true, false, not, cond}
use Prim.Native.Nat.{ℕ}
use lib.Dec.{T}
use lib.Ieee.{Float, nan, binary32, nan_bits, of_bits, to_bits}
use lib.Ieee.Bits.{of_bits-to_bits, to_bits-of_bits, nan_bits_is}
use lib.Ieee.Compare.{differs_from_itself}
use Rattle.float_laws.proofs.Squares.{nan_test}
use Rattle.record_shapes.specs.Each.{Plain}
use Rattle.record_shapes.specs.Laws.{FloatsComeBack, WordsComeBack, NansComeBackAsOne}

pub floats_back : FloatsComeBack
floats_back = of_bits-to_bits binary32

pub reads_nan : (n : ℕ) → T (nan_bits binary32 n) → of_bits binary32 n ≡ nan
reads_nan n t =
    let x = of_bits binary32 n in
    differs_from_itself x (subst T (nan_bits_is binary32 n ∙ sym (nan_test x)) t)

pub writes_nan : (x : Float) → x ≡ nan → to_bits binary32 x ≡ 2143289344
unfolding to_bits
writes_nan x e = rw e

pub nans_back : NansComeBackAsOne
nans_back n t = writes_nan (of_bits binary32 n) (reads_nan n t)

pub plain_back : (n : ℕ) → Plain n → to_bits binary32 (of_bits binary32 n) ≡ n
plain_back n p = to_bits-of_bits binary32 n p.0 (subst (λ (t : Bool). T (not t)) (nan_bits_is binary32 n) p.1)

pub words_back : WordsComeBack
words_back n w = go (nan_bits binary32 n) (nans_back n) (λ p. plain_back n (w, p))
  where
    go : (t : Bool) → (T t → to_bits binary32 (of_bits binary32 n) ≡ 2143289344) → (T (not t) → to_bits binary32 (of_bits binary32 n) ≡ n)
        → to_bits binary32 (of_bits binary32 n) ≡ cond t 2143289344 n
    go true one same = one tt
    go false one same = same tt
