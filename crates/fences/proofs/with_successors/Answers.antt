-- `fences::with_successors` meets its contract: the next place, the jump's place, or both.
use Rattle.rules.specs.Fences.{onward}
use Rattle.fences.specs.Places.{joined_one, joined_two}
use Rattle.fences.proofs.ReadLaws.{put_next}
use Rattle.fences.proofs.with_successors.Goals as goal

pub returns-in-On : goal.returns-in-On
unfolding onward
returns-in-On c = rw c.in-On.is (joined_one _ _ _ (put_next c.put.ensures))

pub returns-in-To : goal.returns-in-To
unfolding onward
returns-in-To c = rw c.in-To.is (joined_one _ _ _ c.put-in-To.ensures)

pub returns-in-ToIf : goal.returns-in-ToIf
unfolding onward
returns-in-ToIf c = rw c.in-ToIf.is (joined_two _ _ _ _ _ (put_next c.put-onto_next.ensures) c.put-in-ToIf.ensures)
