use Rattle.light.proofs.Each.{mapped_next, mapped-last}
use Rattle.light.proofs.filling.fill_each.Goals as goal

pub loop-i-preserved : goal.loop-i-preserved
loop-i-preserved g c = λ f sees. mapped_next (c.loop-i.invariant f sees) c.loop-i-test.true (sees _ _ c.see.ensures)

pub returns : goal.returns
returns g c = λ f sees. mapped-last (c.loop-i.invariant f sees) c.loop-i-test.false
