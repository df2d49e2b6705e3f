-- What holds of the definitions, for every rule and along both axes (docs/RULES.md, "Conics"). Statements only; proofs/OneWay proves them.
use Rattle.std.specs.Prelude.{◌≡◌, true, Float}
use Rattle.conic.specs.declared.Conic.{Conic}
use Rattle.conic.specs.declared.chopping.Line.{Line}
use Rattle.conic.specs.declared.chopping.Lines.{Lines}
use Rattle.conic.specs.declared.depth.Depth.{Depth}
use Rattle.conic.specs.declared.ruling.Test.{Test}
use Rattle.conic.specs.declared.ruling.Test.TheVariants.{Never, Product, Exact}
use Rattle.conic.specs.Chop.{plain_lines, whole_middle, halves_at, mended_lines, settled_lines, chop_at}
use Rattle.conic.specs.Mend.{in_order, settled_of}

-- a test that something passes
abbrev pub Asks : Test → Type 0
Asks Never = ⊥
Asks Product = Unit {0}
Asks Exact = Unit {0}

-- a line that runs one way over a finite distance passes every test
abbrev pub PassesEveryTest : Type 0
PassesEveryTest = (t : Test) → Asks t → (a c : Float) (l : Line) → settled_of a c l ≡ true → in_order t a c l ≡ true

-- so where each line that the conic's rule puts in order does, no line is moved
abbrev pub StaysByEveryRule : Type 0
StaysByEveryRule = (c : Conic) (l : Lines) → settled_lines c l ≡ true → mended_lines c l ≡ l

-- and where the plain middle passes the finite test too, the plain lines make the halves that the rule asks for
abbrev pub PlainIsTheChop : Type 0
PlainIsTheChop =
    (d : Depth) (c : Conic) (l : Lines) → l ≡ plain_lines d.scale c → whole_middle l ≡ true → settled_lines c l ≡ true
    → halves_at d.weight c l ≡ chop_at d c
