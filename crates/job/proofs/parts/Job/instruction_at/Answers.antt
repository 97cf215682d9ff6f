-- `job::parts::Job::instruction_at` meets its contract: the layout says where the thread begins, and the table what its bytes are.
use mathlib.Core.List.{[]}
use mathlib.Core.Path.{sym, ◌∙◌}
use Prim.Native.Nat.{◌<◌}
use native.Mathlib.Omega.{arith}
use lib.ListN.{length, get_or}
use Rattle.rules.specs.File.{job_of}
use Rattle.rules.specs.Step.{instruction_at}
use Rattle.job.specs.Stages.{threads_of}
use Rattle.reach.specs.ListLaws.{at_past}
use Rattle.job.proofs.ThreadLaws.{at_of_at, place_inside, place_holds}
use Rattle.job.proofs.parts.Job.instruction_at.Goals as goal
use Rattle.job.proofs.parts.Job.instruction_at.Goals.{Else-n-p}

-- p is a place of the thread
within : (c : Else-n-p) → c.args.p < length (get_or (threads_of c.args.self.now.bytes.now) c.args.t [])
within c = rw c.args.self.now.laid.code (let n = c.code_length-n.ensures in omega arith)

pub returns-then-n-p : goal.returns-then-n-p
unfolding instruction_at
returns-then-n-p c =
    let a = c.args in
    let threads = (job_of a.self.now.bytes.now).threads in
    sym (at_of_at threads a.t a.p ∙ at_past (get_or threads a.t []) a.p (omega (arith, c.code_length-n.ensures)))

pub instruction_from-requires : goal.instruction_from-requires
instruction_from-requires c =
    rw (c.instruction_start-at.ensures, c.threads.ensures.starts, c.threads.ensures.bytes) (place_inside c.args.self.now.laid.starts _ _ (within (goal.at.instruction_from-requires c).Else-n-p))

pub returns : goal.returns
unfolding instruction_at
returns c =
    let laid = c.args.self.now.laid in
    c.instruction_from.ensures
    ∙ rw (c.instruction_start-at.ensures, c.threads.ensures.starts, c.threads.ensures.bytes, c.code_length-n.ensures, ← laid.code) (place_holds laid.starts c.args.t c.args.p (within (goal.at.returns c).Else-n-p))
    ∙ sym (at_of_at (job_of c.args.self.now.bytes.now).threads c.args.t c.args.p)
