-- A step is withheld for the first reason that applies, and given where none does: `Reasons` is met by `Step` `step`, for every job, number and state.
use Rattle.std.specs.Prelude.{◌≡◌, ◌⊎◌, Bool, [], ℕ, ◌≤◌, ◌<◌, get_or, Ok, Err}
use Rattle.std.proofs.Math.Path.{refl, ap, subst}
use Rattle.std.proofs.Common.{sym, ◌∙◌}
use Rattle.std.proofs.Math.Logic.{inl, inr}
use Rattle.std.proofs.Math.Bool.{true, false}
use Rattle.std.proofs.Math.Option.{Option, none, some}
use native.Mathlib.Omega.{arith}
use Rattle.std.proofs.Math.Decide.{dec_lt}
use Rattle.std.proofs.Math.ListN.{length}
use Rattle.reach.specs.ListLaws.{below_at}
use Rattle.reach.specs.RunLaws.{none_is_not_some}
use Rattle.reach.specs.Explained.{Stepped, gives, withheld, forget}
use Rattle.rules.specs.Limits.{most_threads, step_bound}
use Rattle.rules.specs.State.{State, place, pending}
use Rattle.rules.specs.Job.{Job}
use Rattle.rules.specs.Kinds.{wait_of}
use Rattle.rules.specs.Step.{is_empty, needs, has_room, free, may_execute, instruction_at, flush_thread, flush_variable, May}
use Rattle.rules.specs.Step.{may_execute_of, may_flush_of, may, after, by_may, step}
use Rattle.rules.specs.Reasons.{number_of, same_number, Flushes, Applies, FirstThatApplies}
use Rattle.rules.specs.MayLaws.{may_executes, may_flushes, none_from_bound, execute_of_thread, execute_of_no_thread, flush_of_variable, flush_of_no_thread, flush_of_no_variable}
use Rattle.rules.specs.Keeps.{instruction_of_thread}
use Rattle.rules.specs.declared.Instr.{Instr}
use Rattle.rules.specs.declared.Wait.{Wait}
use Rattle.rules.specs.declared.Wait.TheVariants.{Never, ForRoom, UntilEmpty}
use Rattle.rules.specs.declared.Reason.{Reason}
use Rattle.rules.specs.declared.Reason.TheVariants.{NoSuchStep, ThreadEnded, BufferFull, BufferNotEmpty}
use Rattle.rules.specs.ReasonLaws.{NoneBelow, none_below_one, none_below_next, empty_is, not_empty, wait_number, waits_store, drain_waits, waits_drain, with_room, without_room, Judged, judged_alike, Executing, Flushing, Beyond, none_executing, not_ended, same_wait, no_store, judged_model, executing_applies, applies_executing, flushing_applies, applies_flushing, beyond_applies, applies_beyond}

module _ (j : Job) (x : State) where
  -- thread t stands at the instruction i
  module _ (t : ℕ) (there : t < length j.threads) (i : Instr) (at : instruction_at j t (place t x) ≡ some i) where
    no_drain : (w : Wait) → wait_of i ≡ w → ¬ (wait_number w ≡ 2) → ¬ (Executing j x t BufferNotEmpty)
    unfolding wait_number
    no_drain w e n h = n (same_wait j x t there i at w UntilEmpty e h.0 h.1 (drain_waits h.0 h.2))

    judged_wait : (w : Wait) → wait_of i ≡ w → Judged (Executing j x t) (free j.model j.capacity w (pending t x))
    unfolding free wait_number
    judged_wait Never e =
        none_executing j x t
        (none_below_next (Executing j x t) BufferNotEmpty
        (none_below_next (Executing j x t) BufferFull (not_ended j x t there i at) (no_store j x t there i at Never e (λ d. omega arith)))
        (no_drain Never e (λ d. omega arith)))
    judged_wait ForRoom e = which (has_room j.model j.capacity (pending t x)) refl
      where
        which : (b : Bool) → has_room j.model j.capacity (pending t x) ≡ b → Judged (Executing j x t) (needs b BufferFull)
        which true room =
            none_executing j x t
            (none_below_next (Executing j x t) BufferNotEmpty
            (none_below_next (Executing j x t) BufferFull (not_ended j x t there i at) (λ h. omega (arith, with_room _ _ _ room h.3, h.4)))
            (no_drain ForRoom e (λ d. omega arith)))
        which false full = let h = without_room j.model j.capacity (pending t x) full in ((i, at, waits_store i e, h.0, h.1), not_ended j x t there i at)
    judged_wait UntilEmpty e = which (is_empty (pending t x)) refl
      where
        not_full : NoneBelow (Executing j x t) 4
        not_full = none_below_next (Executing j x t) BufferFull (not_ended j x t there i at) (no_store j x t there i at UntilEmpty e (λ d. omega arith))

        which : (b : Bool) → is_empty (pending t x) ≡ b → Judged (Executing j x t) (needs b BufferNotEmpty)
        which true empty = none_executing j x t (none_below_next (Executing j x t) BufferNotEmpty not_full (λ h. h.3 (empty_is (pending t x) empty)))
        which false some_pending = ((i, at, waits_drain i e, not_empty (pending t x) some_pending), not_full)

  judged_execute : (t : ℕ) → Judged (Executing j x t) (may_execute_of j t x)
  unfolding may_execute
  judged_execute t = which (dec_lt t (length j.threads))
    where
      by_place : t < length j.threads → (o : Option Instr) → instruction_at j t (place t x) ≡ o → Judged (Executing j x t) (may_execute j.model j.capacity o (pending t x))
      by_place there none e = (ended (dec_lt (place t x) (length (get_or j.threads t []))), none_below_next (Executing j x t) NoSuchStep (none_below_one (Executing j x t)) (λ beyond. omega arith))
        where
          ended : Dec (place t x < length (get_or j.threads t [])) → length (get_or j.threads t []) ≤ place t x
          ended (no n) = omega arith
          ended (yes l) =
              let k = below_at (get_or j.threads t []) (place t x) l in
              absurd (none_is_not_some (sym e ∙ instruction_of_thread j t (place t x) ∙ k.1))
      by_place there (some i) e = judged_wait t there i e (wait_of i) refl

      which : Dec (t < length j.threads) → Judged (Executing j x t) (may_execute_of j t x)
      which (yes l) = subst (Judged (Executing j x t)) (sym (execute_of_thread j x t l)) (by_place l (instruction_at j t (place t x)) refl)
      which (no n) =
          let beyond : length j.threads ≤ t = omega arith in
          subst (Judged (Executing j x t)) (sym (execute_of_no_thread j x t beyond)) (beyond, none_below_one (Executing j x t))

  module _ (t v : ℕ) where
    judged_flush : Judged (Flushing j x t v) (may_flush_of j t v x)
    judged_flush = which (dec_lt t (length j.threads)) (dec_lt v (length j.initial))
      where
        there : t < length j.threads → v < length j.initial → ¬ ((length j.threads ≤ t) ⊎ (length j.initial ≤ v))
        there l k (inl beyond) = omega arith
        there l k (inr beyond) = omega arith

        which : Dec (t < length j.threads) → Dec (v < length j.initial) → Judged (Flushing j x t v) (may_flush_of j t v x)
        which (yes l) (yes k) =
            let low : NoneBelow (Flushing j x t v) 5 =
            none_below_next (Flushing j x t v) BufferNotEmpty
            (none_below_next (Flushing j x t v) BufferFull
            (none_below_next (Flushing j x t v) ThreadEnded
            (none_below_next (Flushing j x t v) NoSuchStep (none_below_one (Flushing j x t v)) (there l k)) (λ h. h)) (λ h. h)) (λ h. h) in
            subst (Judged (Flushing j x t v)) (sym (flush_of_variable j x t v l k)) (judged_model j x t v low j.model refl)
        which (no n) k =
            let beyond : length j.threads ≤ t = omega arith in
            subst (Judged (Flushing j x t v)) (sym (flush_of_no_thread j x t v beyond)) (inl beyond, none_below_one (Flushing j x t v))
        which (yes l) (no n) =
            let beyond : length j.initial ≤ v = omega arith in
            subst (Judged (Flushing j x t v)) (sym (flush_of_no_variable j x t v beyond)) (inr beyond, none_below_one (Flushing j x t v))

  -- What is said of every number comes to that: a number is that of one step.

  may_judged : (s : ℕ) → Judged (Applies j s x) (may j s x)
  unfolding flush_thread flush_variable
  may_judged s = which (dec_lt s most_threads) (dec_lt s step_bound)
    where
      which : Dec (s < most_threads) → Dec (s < step_bound) → Judged (Applies j s x) (may j s x)
      which (yes low) d =
          judged_alike (Executing j x s) (Applies j s x) (executing_applies j x s low) (applies_executing j x s low) (may j s x)
          (subst (Judged (Executing j x s)) (sym (may_executes j x s low)) (judged_execute s))
      which (no n) (yes high) =
          let t = flush_thread s in
          let v = flush_variable s in
          let from : most_threads ≤ s = omega arith in
          let is : Flushes s t v = (omega arith, omega arith, omega arith) in
          judged_alike (Flushing j x t v) (Applies j s x) (flushing_applies j x s t v is) (applies_flushing j x s t v is) (may j s x)
          (subst (Judged (Flushing j x t v)) (sym (may_flushes j x s from high)) (judged_flush t v))
      which (no n) (no high) =
          let beyond : step_bound ≤ s = omega arith in
          judged_alike (Beyond j x) (Applies j s x) (beyond_applies j x s beyond) (applies_beyond j x s beyond) (may j s x)
          (subst (Judged (Beyond j x)) (sym (none_from_bound j x s beyond)) (tt, none_below_one (Beyond j x)))

  module _ (s : ℕ) where
    judged_step : (m : May) → may j s x ≡ m → Judged (Applies j s x) m
    judged_step m e = subst (Judged (Applies j s x)) e (may_judged s)

    -- a step that is withheld: its reason applies, and no earlier one does
    pub withheld_first : (why : Reason) → step j s x ≡ withheld why → FirstThatApplies j s x why
    unfolding step
    withheld_first why e = which (may j s x) refl e
      where
        which : (m : May) → may j s x ≡ m → by_may m (after j s x) ≡ withheld why → FirstThatApplies j s x why
        which (Ok tt) is d = absurd (none_is_not_some (sym (ap forget d)))
        which (Err because) is d =
            let same : because ≡ why = cc in
            let h = subst (λ m. Judged (Applies j s x) (Err m)) same (judged_step (Err because) is) in
            record { applies = h.0; none_earlier = h.1 }

    -- a step that is given: no reason applies
    pub given_none_applies : (y : State) → step j s x ≡ gives y → (why : Reason) → ¬ (Applies j s x why)
    unfolding step
    given_none_applies y e = which (may j s x) refl e
      where
        which : (m : May) → may j s x ≡ m → by_may m (after j s x) ≡ gives y → (why : Reason) → ¬ (Applies j s x why)
        which (Ok tt) is d = judged_step (Ok tt) is
        which (Err because) is d = absurd (none_is_not_some (ap forget d))

    -- and the other way: where a reason is the first that applies, the step is withheld for it
    pub first_withheld : (why : Reason) → FirstThatApplies j s x why → step j s x ≡ withheld why
    first_withheld why h = which (step j s x) refl
      where
        same : (because : Reason) → FirstThatApplies j s x because → because ≡ why
        same because k =
            let up : ¬ (number_of because < number_of why) = λ l. h.none_earlier because l k.applies in
            let down : ¬ (number_of why < number_of because) = λ l. k.none_earlier why l h.applies in
            same_number because why (omega arith)

        which : (o : Stepped State Reason) → step j s x ≡ o → step j s x ≡ withheld why
        which (gives y) e = absurd (given_none_applies y e why h.applies)
        which (withheld because) e = e ∙ ap withheld (same because (withheld_first because e))

    -- where none applies, it leads on
    pub none_applies_given : ((why : Reason) → ¬ (Applies j s x why)) → step j s x ≡ gives (after j s x)
    unfolding step
    none_applies_given h = which (may j s x) refl
      where
        which : (m : May) → may j s x ≡ m → by_may m (after j s x) ≡ gives (after j s x)
        which (Ok tt) is = refl
        which (Err because) is = absurd (h because (judged_step (Err because) is).0)
