-- `engine::clauses_hold` meets its contract. The invariant: the clauses from i on decide.
use mathlib.Core.Path.{◌≡◌}
use lib.ListN.{drop}
use Rattle.rules.specs.File.{job_of}
use Rattle.rules.specs.Goal.{every, clause_holds}
use Rattle.state.specs.Held.{held}
use Rattle.engine.proofs.clauses_hold.Given as goal

abbrev pub invariant-loop-i : goal.invariant-loop-i
invariant-loop-i l = every (clause_holds (held l.x)) (job_of l.job.bytes.now).clauses ≡ every (clause_holds (held l.x)) (drop l.i (job_of l.job.bytes.now).clauses)
