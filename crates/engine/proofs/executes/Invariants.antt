-- `engine::executes` meets its contract. The invariant: the mask has the enabled steps below t. Threads from T up have none.
use mathlib.Core.Path.{◌≡◌}
use Rattle.rules.specs.File.{job_of}
use Rattle.rules.specs.Step.{enabled_below}
use Rattle.state.specs.Held.{held}
use Rattle.engine.proofs.executes.Given as goal

abbrev pub invariant-loop-t : goal.invariant-loop-t
invariant-loop-t l = l.mask ≡ enabled_below (job_of l.job.bytes.now) (held l.x) l.t
