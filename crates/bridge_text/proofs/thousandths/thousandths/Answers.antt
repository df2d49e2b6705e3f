-- `thousandths::thousandths` meets its contract: the fields of the pattern tell the size. Assumes nothing.
use mathlib.Core.Path.{◌≡◌, sym, ap, ◌∙◌, subst}
use Prim.Native.Nat.{ℕ, ◌/◌, ◌%◌}
use mathlib.Core.Bool.{Bool, not}
use native.Mathlib.Omega.{arith}
use lib.Dec.{T, leb}
use lib.Ieee.{binary32, fits, is_nan, to_bits, of_fields}
use lib.Ieee.Bits.{to_bits-lt}
use Rattle.float_ground.proofs.Apart.{fields_are, fields_in, fields_infinite}
use Rattle.bridge_text.specs.Thousandths.{thousandths_of}
use Rattle.bridge_text.proofs.Sizes.{of_nan, of_low, of_high}
use Rattle.bridge_text.proofs.thousandths.thousandths.Goals as goal
use Rattle.bridge_text.proofs.thousandths.thousandths.Goals.{Start}

held : (c : Start) → T (fits binary32 c.args.v)
held c = subst T (sym c.well_formed.0.1) tt

abbrev bits : Start → ℕ
bits c = to_bits binary32 c.args.v

abbrev field : Start → ℕ
field c = bits c % 2147483648 / 8388608

abbrev negative : Start → Bool
negative c = leb 2147483648 (bits c)

-- v is what its fields stand for
is : (c : Start) → thousandths_of (of_fields binary32 (negative c) (field c) (bits c % 8388608)) ≡ thousandths_of c.args.v
is c = ap thousandths_of (fields_are binary32 c.args.v (held c))

pub returns-then-is_nan : goal.returns-then-is_nan
returns-then-is_nan c = of_nan c.args.v (sym c.is_nan.ensures.value ∙ c.if-is_nan.true)

pub float_to_bits-b : goal.float_to_bits-b
float_to_bits-b c = c.if-is_nan.ensures.not_nan

pub overflow_cast-b : goal.overflow_cast-b
overflow_cast-b c = omega (arith, to_bits-lt binary32 c.args.v (held (goal.at.overflow_cast-b c).Start))

pub returns-then-field-eq255 : goal.returns-then-field-eq255
unfolding thousandths_of
returns-then-field-eq255 c =
    let s = (goal.at.returns-then-field-eq255 c).Start in
    let n : T (not (is_nan c.args.v)) = c.if-is_nan.ensures.not_nan in
    let z : bits s % 8388608 ≡ 0 = (fields_in binary32 c.args.v (held s) n).1.1 c.if-field-eq255.true in
    sym (sym (is s) ∙ ap thousandths_of (fields_infinite binary32 (negative s) (field s) (bits s % 8388608) c.if-field-eq255.true z))

pub returns-then-field-eq0 : goal.returns-then-field-eq0
returns-then-field-eq0 c =
    let s = (goal.at.returns-then-field-eq0 c).Start in
    c.scaled.ensures ∙ sym (of_low (negative s) (field s) (bits s % 8388608) c.if-field-eq0.true) ∙ is s

pub returns : goal.returns
returns c =
    let s = (goal.at.returns c).Start in
    c.scaled-2.ensures ∙ sym (of_high (negative s) (field s) (bits s % 8388608) c.if-field-eq0.false c.if-field-eq255.false) ∙ is s
