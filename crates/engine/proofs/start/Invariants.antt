-- `engine::start` meets its contract. The invariant: the variables that were passed have their initial values, and all else is 0 and empty.
use Rattle.rules.specs.File.{job_of}
use Rattle.engine.proofs.StartLaws.{Started}
use Rattle.engine.proofs.start.Given as goal

abbrev pub invariant-loop-cell : goal.invariant-loop-cell
invariant-loop-cell l = Started (job_of l.job.bytes.now) l.x l.cell
