-- Laws of what rules give: what a step that may be taken has passed, and which step a number stands for.
use Rattle.std.specs.Prelude.{◌≡◌, Bool, ◌&&◌, length, Ok, Err, is_ok}
use Rattle.std.proofs.Math.Path.{refl, ap₂}
use Rattle.std.proofs.Common.{ap, ◌∙◌}
use Rattle.std.proofs.Math.Bool.{true, false}
use Rattle.std.proofs.lemmas.Bool.{false≢true}
use Rattle.std.proofs.Math.Option.{some, none-ne-some}
use Prim.Native.Nat.{ℕ, ◌+◌, ◌*◌, ◌≤◌, ◌<◌}
use native.Mathlib.Omega.{arith}
use borrow.Author.Tests.{lt-ltb, le-ltb, ltb-true}
use Rattle.reach.specs.Explained.{forget}
use Rattle.rules.specs.Limits.{most_threads, most_variables, step_bound}
use Rattle.rules.specs.State.{State, place, pending}
use Rattle.rules.specs.Job.{Job}
use Rattle.rules.specs.Step.{needs, ◌then◌, by_may, may_execute, may_flush, instruction_at, flush_thread, flush_variable, has_thread, has_variable, May}
use Rattle.rules.specs.Step.{may_execute_of, may_flush_of, may}
use Rattle.rules.specs.Tests.{both_true}
use Rattle.rules.specs.declared.Reason.{Reason}
use Rattle.rules.specs.declared.Reason.TheVariants.{NoSuchStep}

-- A rule lets a step pass, or has a reason.

pub no_is_not_yes : {why : Reason} → ◌≡◌ {A = May} (Err why) (Ok tt) → ⊥
no_is_not_yes e = false≢true (ap is_ok e)

pub needs_yes : (b : Bool) (why : Reason) → needs b why ≡ Ok tt → b ≡ true
needs_yes true why e = refl
needs_yes false why e = absurd (no_is_not_yes e)

pub then_yes : (a c : May) → (a then c) ≡ Ok tt → (a ≡ Ok tt) × (c ≡ Ok tt)
then_yes (Ok tt) c e = (refl, e)
then_yes (Err why) c e = absurd (no_is_not_yes e)

-- a step that leads on may be taken, and leads to the state after it
pub taken_some : (m : May) (x y : State) → forget (by_may m x) ≡ some y → (m ≡ Ok tt) × (x ≡ y)
taken_some (Ok tt) x y e = (refl, cc)
taken_some (Err why) x y e = absurd (none-ne-some y e)

module _ (j : Job) (x : State) where
  -- below 4 a thread executes
  pub may_executes : (t : ℕ) → t < most_threads → may j t x ≡ may_execute_of j t x
  unfolding may
  may_executes t h = rw (lt-ltb t most_threads h)

  -- from 4 on it flushes
  pub may_flushes :
      (s : ℕ) → most_threads ≤ s → s < step_bound → may j s x ≡ may_flush_of j (flush_thread s) (flush_variable s) x
  unfolding may
  may_flushes s low h = rw (le-ltb s most_threads low, lt-ltb s step_bound h)

  -- step 4 + 8t + v flushes thread t's store to v
  pub may_flushes_to :
      (t v : ℕ) → t < most_threads → v < most_variables → may j (most_threads + most_variables * t + v) x ≡ may_flush_of j t v x
  unfolding flush_thread flush_variable
  may_flushes_to t v h l =
      let s : ℕ = most_threads + most_variables * t + v in
      let thread : flush_thread s ≡ t = omega arith in
      let variable : flush_variable s ≡ v = omega arith in
      may_flushes s (omega arith) (omega arith) ∙ ap₂ (λ t v. may_flush_of j t v x) thread variable

  -- from 36 on there is no step
  pub none_from_bound : (s : ℕ) → step_bound ≤ s → may j s x ≡ Err NoSuchStep
  unfolding may
  none_from_bound s h =
      let low : most_threads ≤ s = omega arith in
      rw (le-ltb s most_threads low, le-ltb s step_bound h)

  -- a thread of the job executes by the instruction at its place and its buffer
  pub execute_of_thread :
      (t : ℕ) → t < length j.threads → may_execute_of j t x ≡ may_execute j.model j.capacity (instruction_at j t (place t x)) (pending t x)
  unfolding may_execute_of has_thread
  execute_of_thread t h = rw (lt-ltb t (length j.threads) h)

  pub execute_of_no_thread : (t : ℕ) → length j.threads ≤ t → may_execute_of j t x ≡ Err NoSuchStep
  unfolding may_execute_of has_thread
  execute_of_no_thread t h = rw (le-ltb t (length j.threads) h)

  -- and flushes to a variable of the job by its buffer
  pub flush_of_variable :
      (t v : ℕ) → t < length j.threads → v < length j.initial → may_flush_of j t v x ≡ may_flush j.model v (pending t x)
  unfolding may_flush_of has_thread has_variable
  flush_of_variable t v h l = rw (lt-ltb t (length j.threads) h, lt-ltb v (length j.initial) l)

  pub flush_of_no_thread : (t v : ℕ) → length j.threads ≤ t → may_flush_of j t v x ≡ Err NoSuchStep
  unfolding may_flush_of has_thread
  flush_of_no_thread t v h = rw (le-ltb t (length j.threads) h)

  pub flush_of_no_variable : (t v : ℕ) → length j.initial ≤ v → may_flush_of j t v x ≡ Err NoSuchStep
  unfolding may_flush_of has_variable
  flush_of_no_variable t v h = which (has_thread j t) refl
    where
      which : (b : Bool) → has_thread j t ≡ b → may_flush_of j t v x ≡ Err NoSuchStep
      which true e = rw (e, le-ltb v (length j.initial) h)
      which false e = rw e

  -- what may execute is a thread of the job, and its instruction waits for nothing
  pub execute_passed :
      (t : ℕ) → may_execute_of j t x ≡ Ok tt →
      (t < length j.threads) × (may_execute j.model j.capacity (instruction_at j t (place t x)) (pending t x) ≡ Ok tt)
  unfolding may_execute_of has_thread
  execute_passed t e =
      let p = then_yes (needs (has_thread j t) NoSuchStep) (may_execute j.model j.capacity (instruction_at j t (place t x)) (pending t x)) e in
      (ltb-true _ _ (needs_yes (has_thread j t) NoSuchStep p.0), p.1)

  -- what may be flushed is of a thread and to a variable of the job
  pub flush_passed :
      (t v : ℕ) → may_flush_of j t v x ≡ Ok tt →
      (t < length j.threads) × (v < length j.initial) × (may_flush j.model v (pending t x) ≡ Ok tt)
  unfolding may_flush_of has_thread has_variable
  flush_passed t v e =
      let p = then_yes (needs (has_thread j t && has_variable j v) NoSuchStep) (may_flush j.model v (pending t x)) e in
      let q = both_true (has_thread j t) (has_variable j v) (needs_yes (has_thread j t && has_variable j v) NoSuchStep p.0) in
      (ltb-true _ _ q.0, ltb-true _ _ q.1, p.1)
