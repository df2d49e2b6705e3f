-- `nyerdzumak::conics::auto` meets its contract, by those of `from_points` and `compute`. Assumes nothing.
use mathlib.Core.Path.{refl, sym, ◌∙◌}
use Rattle.std.proofs.Common.{rules}
use Rattle.nyerdzumak.proofs.Autos.{auto_taken}
use Rattle.nyerdzumak.proofs.conics.auto.Goals as goal

pub returns-in_err-quads-clause-value : goal.returns-in_err-quads-clause-value
returns-in_err-quads-clause-value c =
    let taken = auto_taken _ _ _ _ c.from_points.ensures.answer c.in_ok-c.was in
    rw (taken.0, ← c.compute-cut.ensures.answer, c.in_err-quads.was) (search rules)

pub returns-in_err-quads-clause-out : goal.returns-in_err-quads-clause-out
returns-in_err-quads-clause-out c =
    let taken = auto_taken _ _ _ _ c.from_points.ensures.answer c.in_ok-c.was in
    rw (taken.0, ← c.compute-cut.ensures.answer, c.in_err-quads.was) refl

pub returns-clause-value : goal.returns-clause-value
returns-clause-value c =
    let taken = auto_taken _ _ _ _ c.from_points.ensures.answer c.in_ok-c.was in
    rw taken.0 (sym c.in_ok-quads.was ∙ c.compute-cut.ensures.answer)

pub returns-clause-out : goal.returns-clause-out
returns-clause-out c =
    let taken = auto_taken _ _ _ _ c.from_points.ensures.answer c.in_ok-c.was in
    rw (taken.0, taken.1, ← c.compute-cut.ensures.answer, c.in_ok-quads.was) c.compute-cut.ensures.points
