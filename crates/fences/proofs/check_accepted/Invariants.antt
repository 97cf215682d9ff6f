-- `fences::check_accepted` meets its contract: no thread before has an open pair.
use Prim.Native.Nat.{ℕ, ◌<◌}
use Rattle.fences.specs.Places.{thread_of, NoneIn}
use Rattle.fences.proofs.check_accepted.Given as goal

abbrev pub invariant-loop-number : goal.invariant-loop-number
invariant-loop-number l = (n : ℕ) → n < l.number → NoneIn (thread_of l.job.bytes.now n)
