-- What the machine of a job asks of a state: that it is one of the job's machine.
use Rattle.std.specs.Prelude.{◌≡◌, List, ℕ, ◌<◌, length, replicate}
use Rattle.rules.specs.Limits.{most_threads, most_variables, registers_each, all_registers}
use Rattle.rules.specs.State.{Pending}
use Rattle.rules.specs.State as states
use Rattle.rules.specs.Job.{Job}
use Rattle.rules.specs.Step.{may_execute, instruction_at, May}
use Rattle.rules.specs.File.{job_of}
use Rattle.rules.specs.Sound.{WellFormed}
use Rattle.rules.specs.declared.Model.{Model}
use Rattle.rules.specs.declared.Clause.{Clause}
use Rattle.rules.specs.declared.Clause.TheVariants.{PlaceIs, RegisterIs, MemoryIs}
use Rattle.state.specs.Held.{held, StateOk}
use Rattle.state.specs.declared.State.{State}

pub record At (bytes : List ℕ) (s : State) : Type 0 where
  pub ok : StateOk s
  pub well : WellFormed (job_of bytes) (held s)

-- may thread t execute at place p, with these stores pending, and why not?
abbrev pub may_execute_at : Job → (t p : ℕ) → List Pending → May
may_execute_at j t p b = may_execute j.model j.capacity (instruction_at j t p) b

-- a job's thread t has these stores pending; the job has this model and so many variables
pub record FlushesOf (j : Job) (x : states.State) (m : Model) (vars t : ℕ) (b : List Pending) : Type 0 where
  pub model : m ≡ j.model
  pub variables : vars ≡ length j.initial
  pub thread : t < length j.threads
  pub stores : b ≡ states.pending t x

-- the state in which all is 0 and empty
abbrev pub blank : states.State
blank =
    record {
      places = replicate most_threads 0;
      registers = replicate all_registers 0;
      memory = replicate most_variables 0;
      buffers = replicate most_threads states.empty_buffer;
    }

-- a clause speaks of parts that a state has
abbrev pub ClauseOk : Clause → Type 0
ClauseOk (PlaceIs t p) = t < most_threads
ClauseOk (RegisterIs t r k) = (t < most_threads) × (r < registers_each)
ClauseOk (MemoryIs v k) = v < most_variables
