-- `fences::Thread::places_met` meets its contract: the last look began with a sound set; it ends when a look adds nothing.
use mathlib.Core.List.{List}
use Prim.Native.Nat.{ℕ, ◌-◌, ◌^◌, ◌<◌}
use lib.ListN.{length}
use Rattle.bits.specs.Bits.{width}
use Rattle.rules.specs.declared.Instr.{Instr}
use Rattle.rules.specs.declared.Passing.{Passing}
use Rattle.fences.specs.Places.{code, Sound, Grown}
use Rattle.fences.proofs.Thread.places_met.Given as goal

pub record Looking (by : Passing) (code : List Instr) (first earlier met : ℕ) : Type 0 where
  pub fits : met < 2 ^ width
  pub sound : Sound by code first earlier
  pub grown : Grown by code first (λ q. q < length code) earlier met

abbrev pub invariant-looks : goal.invariant-looks
invariant-looks l = Looking l.walks.by (code l.self) l.walks.first l.earlier l.met

abbrev pub decreases-looks : goal.decreases-looks
decreases-looks l = 2 ^ width - l.earlier
