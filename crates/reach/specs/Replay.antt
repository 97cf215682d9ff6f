-- What the three answers of a replay mean: 01, "Replay and fence check", and request 5, over any system that says why a step may not be taken.
use Rattle.std.specs.Prelude.{◌≡◌, Bool, true, false, List, [], ◌∷◌, ℕ, suc, T, take}
use Rattle.std.proofs.Math.Option.{some}
use Rattle.std.proofs.Math.ListN.{get_elem?}
use Rattle.reach.specs.Meaning.{LeadsTo}
use Rattle.reach.specs.Explained.{gives, withheld, Explained, system_of}

pub data Replayed (Reason : Type 0) : Type 0 where
  reaches : Replayed Reason
  falls_short : Replayed Reason
  stuck : (i : ℕ) (why : Reason) → Replayed Reason

-- "stuck at i", counted from 0, for the first step not enabled: the steps before it can be run, and it may not be taken then, for this reason
pub record StuckAt (M : Explained) (w : List ℕ) (i : ℕ) (why : M.Reason) : Type 0 where
  pub there : M.State
  pub before : LeadsTo (system_of M) (take i w) there
  pub step : ℕ
  pub step_at : get_elem? w i ≡ some step
  pub not_enabled : M.step step there ≡ withheld why

-- else "reaches" or "falls short" by the state at the end
abbrev pub ReplaysTo : (M : Explained) → List ℕ → Replayed M.Reason → Type 0
ReplaysTo M w reaches = (x : M.State) × LeadsTo (system_of M) w x × T (M.goal x)
ReplaysTo M w falls_short = (x : M.State) × LeadsTo (system_of M) w x × (¬ (T (M.goal x)))
ReplaysTo M w (stuck i why) = StuckAt M w i why

-- The answer that means so, step by step.

unfoldable pub at_end : {Reason : Type 0} → (goal : Bool) → Replayed Reason
at_end true = reaches
at_end false = falls_short

-- from the state x, to which i steps led
unfoldable pub replay_from : (M : Explained) → (i : ℕ) → List ℕ → (x : M.State) → Replayed M.Reason
replay_from M i [] x = at_end (M.goal x)
replay_from M i (s ∷ w) x = elim (M.step s x) [ withheld why ↦ stuck i why | gives y ↦ replay_from M (suc i) w y ]

unfoldable pub replay : (M : Explained) → List ℕ → Replayed M.Reason
replay M w = replay_from M 0 w M.start
