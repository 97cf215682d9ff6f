-- `fences::Thread::look` meets its contract: the set has grown by the places before p.
use Prim.Native.Nat.{◌<◌}
use Rattle.fences.specs.Places.{code, Grown}
use Rattle.fences.proofs.Thread.look.Given as goal

abbrev pub invariant-loop-p : goal.invariant-loop-p
invariant-loop-p l = Grown l.walks.by (code l.self) l.walks.first (λ q. q < l.p) l.earlier l.met
