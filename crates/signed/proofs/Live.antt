-- Dead code never runs: under every model each thread stands at a place to which moves lead from its place 0.
use Rattle.std.specs.Prelude.{◌≡◌, ◌⊎◌, List, [], ◌∷◌, ℕ}
use Rattle.std.proofs.Math.Path.{subst}
use Rattle.std.proofs.Common.{inl, inr}
use Rattle.std.proofs.Math.Option.{some}
use Rattle.reach.specs.System.{run}
use Rattle.reach.specs.RunLaws.{andThen_some}
use Rattle.rules.specs.State.{State, place, with_variable, with_buffer}
use Rattle.rules.specs.Job.{Job}
use Rattle.rules.specs.Step.{flushed, next}
use Rattle.rules.specs.Machine.{machine}
use Rattle.signed.specs.Steps.{Ran, Flushed, next_either}
use Rattle.signed.specs.Live.{AllLive, executed_live}

module _ (j : Job) where
  step_live : (s : ℕ) (x y : State) → next j s x ≡ some y → AllLive j x → AllLive j y
  unfolding flushed with_variable with_buffer place
  step_live s x y e live = which (next_either j s x y e)
    where
      which : Ran j s x y ⊎ ((t : ℕ) × (v : ℕ) × Flushed j t v x y) → AllLive j y
      which (inl r) = subst (AllLive j) r.is (executed_live j j.model s r.instr x r.stands live)
      which (inr (t, v, f)) = subst (AllLive j) f.is live

  pub run_live : (w : List ℕ) (x y : State) → run (machine j) w x ≡ some y → AllLive j x → AllLive j y
  run_live [] x y e live = let f : some x ≡ some y = e in let same : x ≡ y = cc in subst (AllLive j) same live
  run_live (s ∷ w) x y e live =
      let r = andThen_some (next j s x) (run (machine j) w) y e in
      run_live w r.0 y r.2 (step_live s x r.0 r.1 live)
