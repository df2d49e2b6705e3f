-- The kinds of bytes that are looked for (docs/RULES.md, "Bridges as text"). Definitions only.
use Rattle.std.specs.Prelude.{ℕ, Bool, not}
use Rattle.bridge_lines.specs.declared.scan.Kind.{Kind}
use Rattle.bridge_lines.specs.declared.scan.Kind.TheVariants.{Blank, NoBlank, Point, Hash}
use Rattle.bridge_lines.specs.Words.{is_blank, is_point, is_hash}

unfoldable pub is_of : Kind → ℕ → Bool
is_of Blank b = is_blank b
is_of NoBlank b = not (is_blank b)
is_of Point b = is_point b
is_of Hash b = is_hash b
