-- `job::threads::starts` meets its contract: each thread begins where the one before it ends.
use Prim.Native.Nat.{◌≤◌}
use Rattle.readers.specs.Passed.{count_in}
use Rattle.job.proofs.ThreadLaws.{Walked}
use Rattle.job.proofs.threads.starts.Given as goal

abbrev pub invariant-loop-t : goal.invariant-loop-t
invariant-loop-t l = (l.t ≤ count_in l.job) × Walked l.job l.threads l.at l.t
