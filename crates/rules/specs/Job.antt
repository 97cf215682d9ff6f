-- An accepted job, and the state that it starts in.
use Rattle.std.specs.Prelude.{Bool, List, ◌++◌, ℕ, ◌-◌, length, replicate}
use Rattle.rules.specs.Limits.{most_threads, most_variables, all_registers, width_of}
use Rattle.rules.specs.State.{State, empty_buffer}
use Rattle.rules.specs.declared.Width.{Width}
use Rattle.rules.specs.declared.Model.{Model}
use Rattle.rules.specs.declared.Instr.{Instr}
use Rattle.rules.specs.declared.Clause.{Clause}

-- T is the number of threads, V that of the initial values, a thread's n that of its instructions, K that of the clauses
pub record Job : Type 0 where
  pub version : ℕ
  pub model : Model
  pub capacity : ℕ
  pub initial : List ℕ
  pub threads : List (List Instr)
  pub all_empty : Bool
  pub clauses : List Clause

-- request 10: how wide the job's values are
abbrev pub width : Job → Width
width j = width_of j.version

-- "At the start all places and registers are 0, buffers are empty, variables hold the job's initial values." "What a job doesn't use stays 0."
unfoldable pub start : Job → State
start j =
    record {
      places = replicate most_threads 0;
      registers = replicate all_registers 0;
      memory = j.initial ++ replicate (most_variables - length j.initial) 0;
      buffers = replicate most_threads empty_buffer;
    }
