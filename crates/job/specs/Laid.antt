-- What a layout says of a job's bytes.
use Rattle.std.specs.Prelude.{◌≡◌, Bool, List, ℕ, ◌+◌, ◌*◌, ◌≤◌, ◌<◌, length, get_or}
use Rattle.std.proofs.Math.Option.{some}
use Rattle.std.proofs.Math.ListN.{get_elem?}
use Rattle.rules.specs.Limits.{most_threads, head_size, value_size, item_size}
use Rattle.rules.specs.Job.{Job}
use Rattle.rules.specs.File as file
use Rattle.rules.specs.Sound.{JobIn}
use Rattle.rules.specs.declared.Clause.{Clause}
use Rattle.rules.specs.declared.Model.{Model}
use Rattle.job.specs.declared.Layout.{Layout}
use Rattle.job.specs.declared.Starts.{Starts}
use Rattle.readers.specs.Passed.{At, count_in, vars_in, passed}
use Rattle.job.specs.Passed.{clause_in_bytes}
use Rattle.job.specs.Stages.{width_in, threads_read, threads_of}

-- a head that was good: its bytes are there, and the threads that it counts have room in a layout
pub record HeadGood (bytes : List ℕ) : Type 0 where
  pub there : head_size ≤ length bytes
  pub most : count_in bytes ≤ most_threads

-- threads that were good, behind such a head
pub record ThreadsGood (bytes : List ℕ) : Type 0 where
  pub head : HeadGood bytes
  pub end : ℕ
  pub read : passed (threads_read bytes (count_in bytes)) ≡ At end

-- each thread begins, with its n, where reading those before it has come to, and the goal behind them all; 0 for a thread that is not there
pub record StartsLaid (bytes : List ℕ) (s : Starts) : Type 0 where
  pub head : HeadGood bytes
  pub room : length s.threads ≡ most_threads
  pub threads : (t : ℕ) → t < count_in bytes → passed (threads_read bytes t) ≡ At (get_or s.threads t 0)
  pub absent : (t : ℕ) → count_in bytes ≤ t → get_or s.threads t 0 ≡ 0
  pub goal : passed (threads_read bytes (count_in bytes)) ≡ At s.goal

-- a goal whose flag stands at `at`: K behind it, and then the clauses, up to the end
pub record GoalLaid (bytes : List ℕ) (at : ℕ) (flag : Bool) (clauses : List Clause) : Type 0 where
  pub flag_is : file.flag_of (get_or bytes at 0) ≡ some flag
  pub number : get_or bytes (at + 1) 0 ≡ length clauses
  pub ends : at + 2 + item_size (width_in bytes) * length clauses ≡ length bytes
  pub clauses_are : (i : ℕ) → i < length clauses → clause_in_bytes bytes (width_in bytes) (vars_in bytes) (threads_of bytes) (at + 2 + item_size (width_in bytes) * i) ≡ get_elem? clauses i

pub record Laid (bytes : List ℕ) (l : Layout) (j : Job) : Type 0 where
  pub version : l.version ≡ j.version
  pub model : l.model ≡ j.model
  pub capacity : l.capacity ≡ j.capacity
  pub threads : l.threads ≡ length j.threads
  pub vars : l.vars ≡ length j.initial
  pub initial_inside : head_size + value_size (width_in bytes) * length j.initial ≤ length bytes
  pub initial : (i : ℕ) → i < length j.initial → file.value bytes (width_in bytes) (head_size + value_size (width_in bytes) * i) ≡ get_or j.initial i 0
  pub starts : StartsLaid bytes l.starts
  pub code : threads_of bytes ≡ j.threads
  pub goal : GoalLaid bytes l.starts.goal j.all_empty j.clauses

-- bytes that hold a job, and its model
pub record AcceptedUnder (bytes : List ℕ) (m : Model) : Type 0 where
  pub decoded : file.decode bytes ≡ file.accepted (file.job_of bytes)
  pub model : m ≡ (file.job_of bytes).model

-- bytes that hold a job, and its layout
pub record IsAccepted (bytes : List ℕ) (l : Layout) : Type 0 where
  pub decoded : file.decode bytes ≡ file.accepted (file.job_of bytes)
  pub in_range : JobIn (file.job_of bytes)
  pub laid : Laid bytes l (file.job_of bytes)
