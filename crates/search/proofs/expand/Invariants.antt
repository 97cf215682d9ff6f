-- `search::expand` meets its contract: the steps below the lowest that is left were tried, as many as the iterator has tries less than at first.
use Prim.Native.Nat.{◌-◌}
use Rattle.shelf.specs.Front.{memory, Fits}
use Rattle.rules.specs.Limits.{slot_size}
use Rattle.rules.specs.File.{job_of}
use Rattle.state.specs.Held.{held}
use Rattle.search.specs.Walking.{Walking}
use Rattle.search.proofs.expand.Given as goal

abbrev pub invariant-loop-s : goal.invariant-loop-s
invariant-loop-s l = Walking (job_of l.job.bytes.now) l.slots l.q (held l.x) l.initial.s-iterator.tries (memory l.initial.table l.initial.links l.initial.at) (memory l.table l.links l.at) l.s-iterator.left (l.initial.s-iterator.tries - l.s-iterator.tries)
    × Fits slot_size l.slots l.table l.links l.index l.width l.at
