-- What holds of inverses (docs/RULES.md, "Transforms"). Statements only; proofs/Finite and proofs/Undone prove them.
use Rattle.std.specs.Prelude.{true, false, ◌≡◌, Ok, Err}
use Rattle.float_laws.specs.Formula.{zero32, one32}
use Rattle.transform.specs.declared.Computed.{Computed}
use Rattle.transform.specs.declared.Transform.{Transform}
use Rattle.transform.specs.declared.invert.Refusal.TheVariants.{NotFinite}
use Rattle.transform.specs.Row.{row_of, scale_of}
use Rattle.transform.specs.Kinds.{is_identity, is_finite}
use Rattle.transform.specs.Told.{computed_of}
use Rattle.transform.specs.Inverse.{invert_of}

-- an inverse that is given is finite in all of its entries
abbrev pub GivenIsFinite : Type 0
GivenIsFinite = (t : Transform) (c : Computed) → invert_of t ≡ Ok c → is_finite c.transform ≡ true

-- an identity is never refused: it is given as it is, and nothing was narrowed
abbrev pub IdentityIsGiven : Type 0
IdentityIsGiven = (t : Transform) → is_identity t ≡ true → invert_of t ≡ Ok (computed_of t false)

-- the all-zero matrix, which does not skew, and a scale of 0 across
abbrev pub ZerosAreNotFinite : Type 0
ZerosAreNotFinite = (invert_of (row_of zero32 zero32 zero32 zero32 zero32 zero32) ≡ Err NotFinite) × (invert_of (scale_of zero32 one32) ≡ Err NotFinite)
