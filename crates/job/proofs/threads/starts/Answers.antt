use Prim.Native.Nat.{◌<◌}
use native.Mathlib.Omega.{arith}
use Rattle.readers.specs.Passed.{count_in}
use Rattle.job.specs.Laid.{ThreadsGood}
use Rattle.job.proofs.ThreadLaws.{walked_none, walked_inside, walked_next}
use Rattle.job.proofs.threads.starts.Goals as goal
use Rattle.job.proofs.threads.starts.Goals.{After-from, At-loop-t, In-loop-t}

good : (c : At-loop-t) → ThreadsGood c.args.job.now
good c = c.requires

below : (c : In-loop-t) → c.loop-t.t < count_in c.args.job.now
below c = let count = c.from-count.ensures in omega arith

pub loop-t-init : goal.loop-t-init
loop-t-init c =
    (omega arith, rw (c.value_size.ensures, c.width-w.ensures, c.from.ensures) (walked_none c.requires))

pub behind-at-requires : goal.behind-at-requires
behind-at-requires c = walked_inside (good (goal.at.behind-at-requires c).At-loop-t) c.loop-t.invariant.1 (below c)

pub loop-t-preserved : goal.loop-t-preserved
loop-t-preserved c =
    let next = below (goal.at.loop-t-preserved c).In-loop-t in
    (omega arith, rw (c.behind-at.ensures, c.width-w.ensures) (walked_next (good (goal.at.loop-t-preserved c).At-loop-t) c.loop-t.invariant.1 next))
