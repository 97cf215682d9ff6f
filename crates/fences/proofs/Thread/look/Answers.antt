use Rattle.std.proofs.Common.{arith}
use Rattle.fences.specs.Places.{grown_more, grown_all}
use Rattle.fences.proofs.Thread.look.Goals as goal

pub loop-p-preserved : goal.loop-p-preserved
loop-p-preserved c = grown_more _ _ _ _ _ _ _ c.loop-p.invariant c.onward_from-met.ensures

pub returns : goal.returns
returns c = grown_all _ _ _ _ _ _ _ (omega (arith, c.length-p-end.ensures)) c.loop-p.invariant
