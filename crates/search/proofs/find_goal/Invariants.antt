-- `search::find_goal` meets its contract: no slot that was passed holds a goal.
use Rattle.lent.specs.Looking.{Looking}
use Rattle.rules.specs.File.{job_of}
use Rattle.search.specs.Coded.{coding}
use Rattle.search.proofs.find_goal.Given as goal

abbrev pub invariant-loop-i : goal.invariant-loop-i
invariant-loop-i l = Looking (coding (job_of l.job.bytes.now)) l.table l.lo l.count l.i
