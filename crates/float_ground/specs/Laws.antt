-- What holds of narrowing, whatever is narrowed (docs/RULES.md, "The float ground"). Statements only; proofs/Losses proves them.
use Rattle.std.specs.Prelude.{Bool, ◌≡◌, T, eqb, Float}
use Rattle.std.specs.Float.{nan, inf, binary64}
use Rattle.std.specs.Float.Ieee.{fits, of_bits}
use Rattle.float_laws.specs.Formula.{minus_zero32}
use Rattle.float_laws.specs.Narrow.{narrow_of, kept}
use Rattle.float_ground.specs.declared.narrowing.Narrowed.TheVariants.{Exact, Rounded}
use Rattle.float_ground.specs.Narrowed.{narrowed_of, value_of, loss_of}

-- the number is the nearest one, whatever became of it
abbrev pub SameValue : Type 0
SameValue = (x : Float) → value_of (narrowed_of x) ≡ narrow_of x

-- exact exactly where widening it back gives x, a zero's sign too, or both are NaN: what is widened is the same `Float`, and a NaN is one
abbrev pub ExactWhereKept : Type 0
ExactWhereKept =
    (x : Float) → T (fits binary64 x) → ((r : Float) → narrowed_of x ≡ Exact r → r ≡ x) × (narrow_of x ≡ x → narrowed_of x ≡ Exact x)

-- nothing is lost exactly where the value is kept, which is what flags go by
abbrev pub NothingLost : Type 0
NothingLost = (x : Float) → eqb (loss_of (narrowed_of x)) 0 ≡ kept x

-- an infinity or a NaN that is given is exact
abbrev pub GivenIsExact : Type 0
GivenIsExact = ((s : Bool) → narrowed_of (inf s) ≡ Exact (inf s)) × (narrowed_of nan ≡ Exact nan)

-- −2^-200 is rounded to −0
abbrev pub TinyNegative : Type 0
TinyNegative = narrowed_of (of_bits binary64 0xb370_0000_0000_0000) ≡ Rounded minus_zero32
