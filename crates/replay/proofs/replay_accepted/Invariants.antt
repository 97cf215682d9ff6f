-- `replay::replay_accepted` meets its contract: the steps before i lead to the state.
use Rattle.rules.specs.File.{job_of}
use Rattle.replay.specs.Steps.{Stepping}
use Rattle.replay.proofs.replay_accepted.Given as goal

abbrev pub invariant-loop-i : goal.invariant-loop-i
invariant-loop-i l = Stepping (job_of l.job.bytes.now) l.schedule l.x l.i
