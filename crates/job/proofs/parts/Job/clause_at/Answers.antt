-- `job::parts::Job::clause_at` meets its contract: the layout says where the clauses begin, and the table what the bytes of an item are.
use mathlib.Core.Path.{sym}
use native.Mathlib.Omega.{arith}
use Rattle.rules.specs.File.{job_of}
use Rattle.reach.specs.ListLaws.{at_past}
use Rattle.job.proofs.parts.Job.clause_at.Goals as goal
use Rattle.job.proofs.parts.Job.clause_at.Goals.{After-from}

pub returns-then-clause_count-i : goal.returns-then-clause_count-i
returns-then-clause_count-i c =
    sym (at_past (job_of c.args.self.now.bytes.now).clauses c.args.i (omega (arith, c.clause_count.ensures)))

-- i is one of the clauses
-- those before it
-- it is wholly there
