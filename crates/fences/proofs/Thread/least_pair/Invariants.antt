-- `fences::Thread::least_pair` meets its contract: no store place before has an open load.
use Prim.Native.Nat.{ℕ, ◌<◌}
use Rattle.fences.specs.Places.{code, NoneAt}
use Rattle.fences.proofs.Thread.least_pair.Given as goal

abbrev pub invariant-loop-store : goal.invariant-loop-store
invariant-loop-store l = (s : ℕ) → s < l.store → NoneAt (code l.self) s
