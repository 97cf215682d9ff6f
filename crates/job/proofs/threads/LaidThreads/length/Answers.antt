-- `job::threads::LaidThreads::length` meets its contract: n stands where the thread begins; a thread that is not there is empty.
use mathlib.Core.List.{[]}
use mathlib.Core.Path.{sym, ap}
use native.Mathlib.Omega.{arith}
use lib.ListN.{length, get_or-eq_default}
use Rattle.job.specs.Stages.{threads_of}
use Rattle.job.proofs.ThreadLaws.{threads_number, starts_good, start_laid}
use Rattle.job.proofs.threads.LaidThreads.length.Goals as goal

pub bounds-self-self : goal.bounds-self-self
bounds-self-self c =
    omega (arith, (start_laid c.args.self.now.laid c.args.t c.if-t-self.true).inside)

pub returns-then-t-self : goal.returns-then-t-self
returns-then-t-self c =
    (start_laid c.args.self.now.laid c.args.t c.if-t-self.true).number

pub returns-else-t-self : goal.returns-else-t-self
returns-else-t-self c =
    let number = threads_number _ (starts_good c.args.self.now.laid) in
    sym (ap length (get_or-eq_default (threads_of c.args.self.now.bytes.now) [] {n = c.args.t} (omega arith)))
