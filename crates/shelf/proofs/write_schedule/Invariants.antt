-- `shelf::write_schedule` meets its contract: what is left of the walk, followed by the schedule from there on, stays the same.
use Rattle.shelf.specs.Back.{WalkingBack}
use Rattle.shelf.proofs.write_schedule.Given as goal

abbrev pub invariant-loop-left : goal.invariant-loop-left
invariant-loop-left l = WalkingBack l.links l.steps l.from l.initial.schedule l.schedule l.left l.slot
