-- The mask of the enabled steps, one step more.
use Rattle.std.specs.Prelude.{is_ok}
use mathlib.Core.Path.{◌≡◌, refl, sym, ap, ap₂, ◌∙◌}
use mathlib.Core.Logic.{inl, inr}
use mathlib.Core.Bool.{Bool, true, false, false≢true}
use mathlib.Core.List.{List, [], ◌∷◌}
use Prim.Native.Nat.{ℕ, zero, suc, ◌+◌, ◌-◌, ◌*◌, ◌^◌, ◌≤◌, ◌<◌}
use native.Mathlib.Nat.{add-zero, add-suc}
use native.Mathlib.Numerals.{add-one}
use native.Mathlib.Omega.{arith}
use lib.ListN.{length}
use Rattle.rules.specs.Limits.{most_threads, most_variables, step_bound}
use Rattle.rules.specs.State.{Pending, State, pending}
use Rattle.rules.specs.Job.{Job}
use Rattle.rules.specs.Step.{is_empty, is_pending_to, may_flush, flush_thread, flush_variable, may, enabled_below}
use Rattle.rules.specs.declared.Model.{Model}
use Rattle.rules.specs.declared.Model.TheVariants.{Sc, Tso, Pso}
use Rattle.bits.specs.Bits.{weight}
use Rattle.bits.specs.BitLaws.{mask_fits}
use Rattle.engine.specs.Mask.{enabled_builds}
use Rattle.engine.proofs.StepLaws.{may_flush_at, no_execute, no_flush}

-- nothing is flushed from an empty buffer
none_to_flush : (m : Model) (v : ℕ) (b : List Pending) → is_empty b ≡ true → is_ok (may_flush m v b) ≡ false
unfolding is_empty may_flush is_pending_to
none_to_flush Sc v b h = refl
none_to_flush Tso v [] h = refl
none_to_flush Tso v (p ∷ b) h = absurd (false≢true h)
none_to_flush Pso v [] h = refl
none_to_flush Pso v (p ∷ b) h = absurd (false≢true h)

module _ (j : Job) (x : State) where
  abbrev on : ℕ → Bool
  on s = is_ok (may j s x)

  pub enabled_fits_below : (n : ℕ) → enabled_below j x n < 2 ^ n
  enabled_fits_below n = mask_fits on (enabled_below j x) (enabled_builds j x) n

  -- the mask with the bit of one more step
  pub enabled_more :
      (n m r : ℕ) (b : Bool) → m ≡ enabled_below j x n → b ≡ is_ok (may j n x) → r ≡ m + weight b n → r ≡ enabled_below j x (n + 1)
  enabled_more n m r b e o h =
      h ∙ ap₂ (λ y b. y + weight b n) e o ∙ sym (ap (enabled_below j x) (add-one n) ∙ (enabled_builds j x).more n)

  -- steps that may not be taken add nothing
  none_more : (n k : ℕ) → ((i : ℕ) → i < k → is_ok (may j (n + i) x) ≡ false) → enabled_below j x (n + k) ≡ enabled_below j x n
  none_more n zero h = rw add-zero
  none_more n (suc k) h =
      ap (enabled_below j x) (add-suc n k)
      ∙ (enabled_builds j x).more (n + k)
      ∙ ap (λ b. enabled_below j x (n + k) + weight b (n + k)) (h k (omega arith))
      ∙ add-zero (enabled_below j x (n + k))
      ∙ none_more n k (λ i l. h i (omega arith))

  -- up to another number
  none_up_to : (n m : ℕ) → n ≤ m → ((s : ℕ) → n ≤ s → s < m → is_ok (may j s x) ≡ false) → enabled_below j x n ≡ enabled_below j x m
  none_up_to n m h none =
      let up : n + (m - n) ≡ m = omega arith in
      sym (none_more n (m - n) (λ i l. none (n + i) (omega arith) (omega arith))) ∙ ap (enabled_below j x) up

  -- threads from T up add no execute step
  pub absent_execute_none : length j.threads ≤ most_threads → enabled_below j x (length j.threads) ≡ enabled_below j x most_threads
  absent_execute_none few =
      none_up_to (length j.threads) most_threads few (λ s absent low. ap is_ok (no_execute j x s low absent))

  -- variables from V up add no flush
  pub absent_variables_add_none :
      (t : ℕ) → t < most_threads → length j.initial ≤ most_variables →
      enabled_below j x (most_threads + most_variables * t + length j.initial) ≡ enabled_below j x (most_threads + most_variables * (t + 1))
  unfolding flush_variable
  absent_variables_add_none t h few =
      none_up_to _ _ (omega arith)
      (λ s from to. ap is_ok (no_flush j x s (omega arith) (inr (omega arith))))

  -- threads from T up add no flush
  pub absent_threads_add_none :
      length j.threads ≤ most_threads → enabled_below j x (most_threads + most_variables * length j.threads) ≡ enabled_below j x step_bound
  unfolding flush_thread
  absent_threads_add_none few =
      none_up_to _ _ (omega arith)
      (λ s from to. ap is_ok (no_flush j x s (omega arith) (inl (omega arith))))

  pub empty_adds_none :
      (t : ℕ) → t < most_threads → t < length j.threads → length j.initial ≤ most_variables → is_empty (pending t x) ≡ true →
      enabled_below j x (most_threads + most_variables * t) ≡ enabled_below j x (most_threads + most_variables * (t + 1))
  empty_adds_none t h there few empty =
      sym
      (none_more (most_threads + most_variables * t) (length j.initial)
      (λ v l. ap is_ok (sym (may_flush_at j x t v h (omega arith) there l refl refl)) ∙ none_to_flush j.model v (pending t x) empty))
      ∙ absent_variables_add_none t h few
