-- Which step a number stands for, and what the instruction that a thread stands at says of its step.
use Rattle.std.specs.Prelude.{Ok, Err, Option, Some}
use mathlib.Core.Path.{◌≡◌, refl, sym, ap, ◌∙◌}
use mathlib.Core.Logic.{◌⊎◌, inl, inr}
use mathlib.Core.List.{List}
use Prim.Native.Nat.{ℕ, ◌+◌, ◌*◌, ◌≤◌, ◌<◌}
use native.Mathlib.Omega.{arith}
use native.Mathlib.Decide.{dec_lt}
use lib.ListN.{length}
use borrow.Author.Tests.{lt-ltb, le-ltb}
use Rattle.rules.specs.Limits.{most_threads, most_variables, most_pending, step_bound}
use Rattle.rules.specs.State.{Pending, State, place, pending}
use Rattle.rules.specs.Job.{Job}
use Rattle.rules.specs.Kinds.{wait_of}
use Rattle.rules.specs.Step.{free, may_execute, may_flush, instruction_at, flush_thread, flush_variable, may, flushed, after_execute, after}
use Rattle.rules.specs.MayLaws.{may_executes, may_flushes, may_flushes_to, none_from_bound, execute_of_thread, execute_of_no_thread, flush_of_variable, flush_of_no_thread, flush_of_no_variable}
use Rattle.rules.specs.declared.Reason.TheVariants.{NoSuchStep}
use Rattle.rules.specs.File.{job_of}
use Rattle.rules.specs.Keeps.{capacity_most, stands}
use Rattle.rules.specs.declared.Model.{Model}
use Rattle.rules.specs.declared.Instr.{Instr}
use Rattle.job.specs.Laid.{IsAccepted}
use Rattle.tables.specs.Told.{told}
use Rattle.job.specs.declared.Layout.{Layout}
use Rattle.machine.specs.Operands.{InstrOk, free_more}
use Rattle.engine.specs.At.{may_execute_at}

-- a flush of a thread below 4 is numbered below 36
thread_in : (k : ℕ) {n : ℕ} → n ≤ most_threads → flush_thread k < n → k < step_bound
unfolding flush_thread
thread_in k few h = omega arith

module _ (j : Job) (x : State) where
  -- below T a thread executes
  pub may_of_execute :
      (t : ℕ) → t < most_threads → t < length j.threads → {p : ℕ} {b : List Pending} → p ≡ place t x → b ≡ pending t x →
      may_execute_at j t p b ≡ may j t x
  may_of_execute t h there at own = rw (may_executes j x t h, execute_of_thread j x t there, at, own)

  after_of_execute : (t : ℕ) → t < most_threads → after j t x ≡ after_execute j.model t (instruction_at j t (place t x)) x
  unfolding after
  after_of_execute t h = rw (lt-ltb t most_threads h)

  -- from 4 on it flushes, to a variable below V
  pub may_of_flush :
      (k : ℕ) → most_threads ≤ k → length j.threads ≤ most_threads → flush_thread k < length j.threads → flush_variable k < length j.initial →
      {m : Model} {b : List Pending} → m ≡ j.model → b ≡ pending (flush_thread k) x → may_flush m (flush_variable k) b ≡ may j k x
  may_of_flush k low few there used model own =
      rw (may_flushes j x k low (thread_in k few there), flush_of_variable j x (flush_thread k) (flush_variable k) there used, model, own)

  pub after_of_flush : (k : ℕ) → most_threads ≤ k → after j k x ≡ flushed (flush_thread k) (flush_variable k) x
  unfolding after
  after_of_flush k low = rw (le-ltb k most_threads low)

  -- there is no other step
  pub no_execute : (k : ℕ) → k < most_threads → length j.threads ≤ k → may j k x ≡ Err NoSuchStep
  no_execute k h absent = may_executes j x k h ∙ execute_of_no_thread j x k absent

  pub no_flush :
      (k : ℕ) → most_threads ≤ k → (length j.threads ≤ flush_thread k) ⊎ (length j.initial ≤ flush_variable k) → may j k x ≡ Err NoSuchStep
  no_flush k low absent = which (dec_lt k step_bound) absent
    where
      which : Dec (k < step_bound) → (length j.threads ≤ flush_thread k) ⊎ (length j.initial ≤ flush_variable k) → may j k x ≡ Err NoSuchStep
      which (no beyond) a = none_from_bound j x k (omega arith)
      which (yes h) (inl a) = may_flushes j x k low h ∙ flush_of_no_thread j x (flush_thread k) (flush_variable k) a
      which (yes h) (inr a) = may_flushes j x k low h ∙ flush_of_no_variable j x (flush_thread k) (flush_variable k) a

  -- step 4 + 8t + v flushes thread t's store to v
  pub may_flush_at :
      (t v : ℕ) → t < most_threads → v < most_variables → t < length j.threads → v < length j.initial → {m : Model} {b : List Pending} →
      m ≡ j.model → b ≡ pending t x → may_flush m v b ≡ may j (most_threads + most_variables * t + v) x
  may_flush_at t v h l there used model own = rw (may_flushes_to j x t v h l, flush_of_variable j x t v there used, model, own)

-- T and V are an accepted job's numbers of threads and variables.
module _ {bytes : List ℕ} {l : Layout} (a : IsAccepted bytes l) where
  pub few_threads : length (job_of bytes).threads ≤ most_threads
  few_threads = a.in_range.threads_most

  pub few_variables : length (job_of bytes).initial ≤ most_variables
  few_variables = a.in_range.variables_most

  pub thread_there : {t : ℕ} → t < l.threads → t < length (job_of bytes).threads
  thread_there h = omega (arith, h, a.laid.threads)

  pub thread_low : {t : ℕ} → t < l.threads → t < most_threads
  thread_low h = omega (arith, thread_there h, few_threads)

  pub all_threads : {t : ℕ} → t ≤ l.threads → l.threads ≤ t → t ≡ length (job_of bytes).threads
  all_threads h k = omega (arith, h, k, a.laid.threads)

  pub thread_absent : {t : ℕ} → l.threads ≤ t → length (job_of bytes).threads ≤ t
  thread_absent h = omega (arith, h, a.laid.threads)

  pub variable_there : {v : ℕ} → v < l.vars → v < length (job_of bytes).initial
  variable_there h = omega (arith, h, a.laid.vars)

  pub variable_absent : {v : ℕ} → l.vars ≤ v → length (job_of bytes).initial ≤ v
  variable_absent h = omega (arith, h, a.laid.vars)

-- Of an accepted job, the place p of thread t was read.
module _ {bytes : List ℕ} {l : Layout} (a : IsAccepted bytes l) (t p : ℕ) {r : Option Instr} (read : told r ≡ instruction_at (job_of bytes) t p) where
  stands_at : {q : Option Instr} → r ≡ q → instruction_at (job_of bytes) t p ≡ told q
  stands_at e = sym read ∙ ap told e

  pub may_by_read :
      {q : Option Instr} → r ≡ q → (b : List Pending) → may_execute l.model l.capacity (told q) b ≡ may_execute_at (job_of bytes) t p b
  may_by_read e b = rw (stands_at e, a.laid.model, a.laid.capacity)

  pub operands_by_read : {i : Instr} → r ≡ Some i → InstrOk i
  operands_by_read {i} e =
      record {
        width = _;
        vars = _;
        n = _;
        few = a.in_range.variables_most;
        fits = (stands (job_of bytes) a.in_range t p i (stands_at e)).operands;
      }

  -- a state x that is at it
  module _ (x : State) (thread : t < most_threads) (at : p ≡ place t x) where
    pub after_by_read : {q : Option Instr} → r ≡ q → after_execute l.model t (told q) x ≡ after (job_of bytes) t x
    after_by_read e = rw (after_of_execute (job_of bytes) x t thread, ← at, stands_at e, a.laid.model)

    pub free_by_read :
        {i : Instr} → r ≡ Some i → may (job_of bytes) t x ≡ Ok tt → free l.model most_pending (wait_of i) (pending t x) ≡ Ok tt
    unfolding may_execute
    free_by_read {i} e may =
        let j = job_of bytes in
        let few : l.capacity ≤ most_pending = rw a.laid.capacity (capacity_most j.model j.capacity a.in_range.capacity) in
        let there : t < length j.threads = (stands j a.in_range t p i (stands_at e)).thread in
        free_more few (pending t x) l.model (wait_of i) (may_by_read e (pending t x) ∙ may_of_execute j x t thread there at refl ∙ may)
