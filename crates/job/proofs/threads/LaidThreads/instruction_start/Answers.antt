-- `job::threads::LaidThreads::instruction_start` meets its contract: the place is one of the thread's, so the thread is there.
use mathlib.Core.Path.{◌≡◌}
use Prim.Native.Nat.{◌*◌}
use native.Mathlib.Omega.{arith}
use Rattle.rules.specs.Limits.{item_size}
use Rattle.job.specs.Stages.{width_in}
use Rattle.job.proofs.ThreadLaws.{place_there, place_inside}
use Rattle.job.proofs.threads.LaidThreads.instruction_start.Goals as goal
use Rattle.job.proofs.threads.LaidThreads.instruction_start.Goals.{After-from}

pub bounds-self-t : goal.bounds-self-t
bounds-self-t c =
    let laid = c.args.self.now.laid in
    let t = place_there laid _ _ c.requires in omega (arith, laid.head.most)

pub overflow_add-result : goal.overflow_add-result
overflow_add-result c = let inside = place_inside c.args.self.now.laid _ _ c.requires in omega arith

-- the instructions before the place
passed_over : (c : After-from) →
    c.item_size.result * c.from.result ≡ item_size (width_in c.args.self.now.bytes.now) * c.args.p
passed_over c = rw (c.item_size.ensures, c.width.ensures, c.from.ensures)

pub overflow_add-result-2 : goal.overflow_add-result-2
overflow_add-result-2 c =
    let inside = place_inside c.args.self.now.laid _ _ c.requires in
    omega (arith, passed_over c)
