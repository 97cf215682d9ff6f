use Rattle.std.proofs.Common.{arith}
use Rattle.shelf.specs.Back.{link_there, walked_back, finished}
use Rattle.shelf.proofs.write_schedule.Goals as goal

pub offset_bounds-links-slot : goal.offset_bounds-links-slot
offset_bounds-links-slot c = omega (arith, link_there _ _ _ _ _ _ _ c.loop-left-test.true c.loop-left.invariant)

pub bounds-links-slot : goal.bounds-links-slot
bounds-links-slot c = link_there _ _ _ _ _ _ _ c.loop-left-test.true c.loop-left.invariant

pub loop-left-preserved : goal.loop-left-preserved
loop-left-preserved c = walked_back _ _ _ _ _ _ _ c.loop-left-test.true c.loop-left.invariant

pub returns : goal.returns
returns c = finished _ _ _ _ _ _ _ c.loop-left-test.false c.loop-left.invariant
