-- The number and the values of what a search for the maximum curvature answers. Assumes nothing.
use mathlib.Core.Path.{◌≡◌, refl}
use mathlib.Core.Bool.{Bool, true, false, cond}
use lib.Ieee.{Float}
use Rattle.std.proofs.Common.{List, Result}
use Rattle.quads.specs.declared.NoCurvature.{NoCurvature}
use Rattle.quads.specs.Answers.{number_of_curvature, values_of_curvature}
use Rattle.quads.specs.Quads.{quad_curvature, curvature_answer, curvature_number, curvature_values}

of_cond : {A B : Type 0} (f : A → B) (t : Bool) (x y : A) → f (cond t x y) ≡ cond t (f x) (f y)
of_cond f true x y = refl
of_cond f false x y = refl

pub curvature_numbered : {x : Result Float NoCurvature} (l : List Float) → x ≡ curvature_answer l → number_of_curvature x ≡ curvature_number l
unfolding quad_curvature
curvature_numbered l e = rw e (simp (of_cond number_of_curvature))

pub curvature_valued : {x : Result Float NoCurvature} (l : List Float) → x ≡ curvature_answer l → values_of_curvature x ≡ curvature_values l
unfolding quad_curvature
curvature_valued l e = rw e (simp (of_cond values_of_curvature))
