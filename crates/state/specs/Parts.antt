-- What the functions over parts of a state ask and promise.
use Rattle.std.specs.Prelude.{◌≡◌, ℕ, suc, ◌<◌}
use Rattle.rules.specs.Limits.{most_threads, byte_values}
use Rattle.rules.specs.State as rules
use Rattle.state.specs.Held.{held, StateOk}
use Rattle.state.specs.declared.State.{State}

-- a state as it should be, and one of its threads
pub record At (s : State) (t : ℕ) : Type 0 where
  pub ok : StateOk s
  pub thread : t < most_threads

-- the same, and the thread's next place is a byte too
pub record Runs (s : State) (t : ℕ) : Type 0 where
  pub ok : StateOk s
  pub thread : t < most_threads
  pub next_place : suc (rules.place t (held s)) < byte_values

-- the state that it holds is this
pub record Holds (s : State) (x : rules.State) : Type 0 where
  pub ok : StateOk s
  pub is : held s ≡ x
