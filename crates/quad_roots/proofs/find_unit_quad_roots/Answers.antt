-- `quad_roots::find_unit_quad_roots` meets its contract: its roots rise, as those that are collected do. Assumes nothing.
use Rattle.quad_roots.proofs.Rising.{collected_rising}
use Rattle.quad_roots.proofs.find_unit_quad_roots.Goals as goal

pub returns-then-a-clause-inside : goal.returns-then-a-clause-inside
returns-then-a-clause-inside c = collected_rising _ _ c.collected.ensures c.valid_unit_divide.ensures.inside tt

pub returns-clause-inside : goal.returns-clause-inside
returns-clause-inside c =
    collected_rising _ _ c.collected-2.ensures c.valid_unit_divide-2.ensures.inside c.valid_unit_divide-3.ensures.inside
