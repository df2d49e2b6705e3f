-- Six entries have a flag where one of them does. Assumes nothing.
use mathlib.Core.Path.{◌≡◌, refl}
use mathlib.Core.Bool.{Bool, true, false, ◌||◌}

-- the flags as the code joins them
pub joined : (a b c d e f : Bool) → (a || b || c || d || e || f) ≡ (a || (b || (c || (d || (e || (f || false))))))
joined true b c d e f = refl
joined false true c d e f = refl
joined false false true d e f = refl
joined false false false true e f = refl
joined false false false false true f = refl
joined false false false false false true = refl
joined false false false false false false = refl
