-- A step by its number: thread t at the instruction where it stands, or the flush of thread t's store to v.
use Rattle.std.specs.Prelude.{◌≡◌, refl, ◌⊎◌, List, [], ◌++◌, ℕ, ◌+◌, ◌*◌, ◌≤◌, ◌<◌, get_or, Ok}
use Rattle.std.proofs.Math.Path.{sym}
use Rattle.std.proofs.Common.{◌∙◌, inl, inr}
use Rattle.std.proofs.Math.Option.{Option, none, some}
use native.Mathlib.Omega.{arith}
use Rattle.std.proofs.Math.Decide.{dec_lt}
use Rattle.std.proofs.Math.ListN.{length, get_elem?}
use borrow.Author.Tests.{lt-ltb, le-ltb}
use Rattle.reach.specs.ListLaws.{at_get_or, at_below}
use Rattle.reach.specs.System.{System, run}
use Rattle.reach.specs.RunLaws.{andThen_some, run_append}
use Rattle.rules.specs.Limits.{most_threads, most_variables, step_bound}
use Rattle.rules.specs.State.{State, place, pending}
use Rattle.rules.specs.Job.{Job, width}
use Rattle.rules.specs.Kinds.{wait_of}
use Rattle.rules.specs.Step.{free, may_execute, may_flush, executed, flushed, instruction_at, flush_thread, flush_variable, may, after_execute, after, step, next}
use Rattle.rules.specs.MayLaws.{no_is_not_yes, taken_some, may_executes, may_flushes, may_flushes_to, none_from_bound, execute_of_thread, flush_of_variable, execute_passed, flush_passed}
use Rattle.rules.specs.Sound.{InstrIn, JobIn}
use Rattle.rules.specs.Keeps.{instruction_of_thread, stands}
use Rattle.rules.specs.declared.Instr.{Instr}

-- a run, and a run from where it ends
pub run_then : (S : System) (u v : List ℕ) (x y z : S.State) → run S u x ≡ some y → run S v y ≡ some z → run S (u ++ v) x ≡ some z
run_then S u v x y z e d = rw (run_append, e) d

-- a thread's instructions, none for a thread that the job doesn't have
abbrev pub code : Job → ℕ → List Instr
code j t = get_or j.threads t []

-- a thread that stands at an instruction is one of the job's
pub code_there : (j : Job) (t p : ℕ) (i : Instr) → get_elem? (code j t) p ≡ some i → get_elem? j.threads t ≡ some (code j t)
unfolding instruction_at
code_there j t p i e =
    let r = andThen_some (get_elem? j.threads t) (λ c. get_elem? c p) i (instruction_of_thread j t p ∙ e) in
    rw (at_get_or j.threads t r.0 [] r.1) r.1

-- thread t may execute the instruction where it stands, and y is the state after it
pub record Ran (j : Job) (t : ℕ) (x y : State) : Type 0 where
  pub low : t < most_threads
  pub instr : Instr
  pub stands : get_elem? (code j t) (place t x) ≡ some instr
  pub may : free j.model j.capacity (wait_of instr) (pending t x) ≡ Ok tt
  pub is : executed j.model t instr x ≡ y

-- thread t's store to v may be flushed, and y is the state after it
pub record Flushed (j : Job) (t v : ℕ) (x y : State) : Type 0 where
  pub low : t < most_threads
  pub may : may_flush j.model v (pending t x) ≡ Ok tt
  pub is : flushed t v x ≡ y

module _ (j : Job) where
  pub instr_in : JobIn j → (t p : ℕ) (i : Instr) → get_elem? (code j t) p ≡ some i → InstrIn (width j) (length j.initial) (length (code j t)) i
  instr_in ok t p i e = (stands j ok t p i (instruction_of_thread j t p ∙ e)).operands

  pub next_runs : (t : ℕ) (x : State) (i : Instr) → t < most_threads → get_elem? (code j t) (place t x) ≡ some i
      → free j.model j.capacity (wait_of i) (pending t x) ≡ Ok tt → next j t x ≡ some (executed j.model t i x)
  unfolding step after may_execute after_execute
  next_runs t x i low e f =
      let there : t < length j.threads = at_below j.threads t (code j t) (code_there j t (place t x) i e) in
      rw (may_executes j x t low, execute_of_thread j x t there, lt-ltb _ _ low, instruction_of_thread j t (place t x), e, f)

  pub next_flushes : (t v : ℕ) (x : State) → t < most_threads → v < most_variables → t < length j.threads → v < length j.initial
      → may_flush j.model v (pending t x) ≡ Ok tt → next j (most_threads + most_variables * t + v) x ≡ some (flushed t v x)
  unfolding step after flush_thread flush_variable
  next_flushes t v x low small there used f =
      let s = most_threads + most_variables * t + v in
      let from : most_threads ≤ s = omega arith in
      let thread : flush_thread s ≡ t = omega arith in
      let to : flush_variable s ≡ v = omega arith in
      rw (may_flushes_to j x t v low small, flush_of_variable j x t v there used, f, le-ltb _ _ from, thread, to)

  -- a step that was taken is one or the other
  pub next_either : (s : ℕ) (x y : State) → next j s x ≡ some y → Ran j s x y ⊎ ((t : ℕ) × (v : ℕ) × Flushed j t v x y)
  unfolding step after flush_thread flush_variable may_execute after_execute
  next_either s x y e =
      let g = taken_some (may j s x) (after j s x) y e in
      which (dec_lt s most_threads) (dec_lt s step_bound) g.0 g.1
    where
      runs : s < most_threads → (o : Option Instr) → instruction_at j s (place s x) ≡ o
          → may_execute j.model j.capacity o (pending s x) ≡ Ok tt → after_execute j.model s o x ≡ y → Ran j s x y
      runs low none at f d = absurd (no_is_not_yes f)
      runs low (some i) at f d = record { low = low; instr = i; stands = sym (instruction_of_thread j s (place s x)) ∙ at; may = f; is = d }

      which : Dec (s < most_threads) → Dec (s < step_bound) → may j s x ≡ Ok tt → after j s x ≡ y → Ran j s x y ⊎ ((t : ℕ) × (v : ℕ) × Flushed j t v x y)
      which (yes low) b f d =
          let passed = execute_passed j x s (sym (may_executes j x s low) ∙ f) in
          inl (runs low (instruction_at j s (place s x)) refl passed.1 (rw (lt-ltb _ _ low) at d))
      which (no n) (yes below) f d =
          let from : most_threads ≤ s = omega arith in
          let passed = flush_passed j x (flush_thread s) (flush_variable s) (sym (may_flushes j x s from below) ∙ f) in
          inr (flush_thread s, flush_variable s, record { low = omega arith; may = passed.2; is = rw (le-ltb _ _ from) at d })
      which (no n) (no beyond) f d = absurd (no_is_not_yes (sym (none_from_bound j x s (omega arith)) ∙ f))
