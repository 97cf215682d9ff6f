-- `engine::enabled` meets its contract. The invariant: the mask has the enabled steps below 4 + 8t. Threads from T up have none.
use mathlib.Core.Path.{◌≡◌}
use Prim.Native.Nat.{◌+◌, ◌*◌}
use Rattle.rules.specs.Limits.{most_threads, most_variables}
use Rattle.rules.specs.File.{job_of}
use Rattle.rules.specs.Step.{enabled_below}
use Rattle.state.specs.Held.{held}
use Rattle.engine.proofs.enabled.Given as goal

abbrev pub invariant-loop-t : goal.invariant-loop-t
invariant-loop-t l = l.mask ≡ enabled_below (job_of l.job.bytes.now) (held l.x) (most_threads + most_variables * l.t)
