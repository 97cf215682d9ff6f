-- `engine::flushes` meets its contract. The invariant: the mask has the enabled steps below 4 + 8t + v. Variables from V up have none.
use mathlib.Core.Path.{◌≡◌}
use Prim.Native.Nat.{◌+◌, ◌*◌, ◌^◌, ◌<◌}
use Rattle.rules.specs.Limits.{most_threads, most_variables}
use Rattle.rules.specs.State.{State}
use Rattle.rules.specs.Job.{Job}
use Rattle.rules.specs.Step.{enabled_below}
use Rattle.buffer.specs.Held.{held_pending}
use Rattle.engine.specs.At.{FlushesOf}
use Rattle.engine.proofs.flushes.Given as goal

abbrev pub invariant-loop-v : goal.invariant-loop-v
invariant-loop-v l = (l.mask < 2 ^ (most_threads + most_variables * l.t + l.v))
    × ((j : Job) (x : State) → FlushesOf j x l.model l.vars l.t (held_pending l.pending) →
    l.before ≡ enabled_below j x (most_threads + most_variables * l.t) → l.mask ≡ enabled_below j x (most_threads + most_variables * l.t + l.v))
