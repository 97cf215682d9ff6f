-- A system whose steps say why they may not be taken. A search does not ask why: without the reasons it is a transition system.
use Rattle.std.specs.Prelude.{Bool, ℕ}
use Rattle.std.proofs.Math.Option.{Option, none, some}
use Rattle.reach.specs.System.{System}

-- what a step gives: the state after it, or the reason why it may not be taken
pub data Stepped (State Reason : Type 0) : Type 0 where
  gives : State → Stepped State Reason
  withheld : Reason → Stepped State Reason

-- the reason forgotten
abbrev pub forget : {State Reason : Type 0} → Stepped State Reason → Option State
forget (gives y) = some y
forget (withheld why) = none

pub record Explained : Type 1 where
  pub State : Type 0
  pub Reason : Type 0
  pub start : State
  pub step : ℕ → State → Stepped State Reason
  pub goal : State → Bool

-- the transition system that is left when the reasons are forgotten
abbrev pub system_of : Explained → System
system_of M = record { State = M.State; start = M.start; next = λ s x. forget (M.step s x); goal = M.goal }
