-- The enabled steps as one number: bit s is set exactly when step s may be taken, and 0 exactly when it has a reason; none from 36 up.
use Rattle.std.specs.Prelude.{◌≡◌, ◌↔◌, Bool, true, ℕ, ◌+◌, ◌^◌, ◌≤◌, ◌<◌, Ok, Err, is_ok}
use Rattle.std.proofs.Math.Path.{refl, ap}
use Rattle.std.proofs.Common.{sym, ◌∙◌, arith}
use Rattle.std.proofs.lemmas.Bool.{false≢true}
use Rattle.std.proofs.Math.Decide.{dec_lt}
use Rattle.bits.specs.Bits.{width, bit_of, Has, weight, Builds}
use Rattle.bits.specs.BitLaws.{bit_most, mask_fits}
use Rattle.bits.proofs.BitLaws.{mask_above, mask_has}
use Rattle.rules.specs.Limits.{step_bound}
use Rattle.rules.specs.State.{State}
use Rattle.rules.specs.Job.{Job}
use Rattle.reach.specs.Explained.{withheld, forget}
use Rattle.reach.specs.RunLaws.{none_is_not_some}
use Rattle.rules.specs.Step.{may, after, by_may, step, bit, enabled_below, enabled, May}
use Rattle.rules.specs.MayLaws.{no_is_not_yes, none_from_bound}
use Rattle.rules.specs.declared.Reason.{Reason}

at_most_one : (n : ℕ) → n ≤ 1 → ¬ (n ≡ 1) → n ≡ 0
at_most_one n small not = omega arith

module _ (j : Job) (x : State) where
  abbrev on : ℕ → Bool
  on s = is_ok (may j s x)

  -- the enabled steps are the mask of the steps that may be taken
  pub enabled_builds : Builds on (enabled_below j x)
  unfolding enabled_below
  enabled_builds = record { start = refl; more = λ s. ap (λ y. enabled_below j x s + y) (same (may j s x) s) }
    where
      same : (m : May) (s : ℕ) → bit m s ≡ weight (is_ok m) s
      same (Ok tt) s = refl
      same (Err why) s = refl

  yes_is : (m : May) → is_ok m ≡ true → m ≡ Ok tt
  yes_is (Ok tt) e = refl
  yes_is (Err why) e = absurd (false≢true e)

  -- no step has a number from 36 up
  pub may_below : (s : ℕ) → may j s x ≡ Ok tt → s < step_bound
  may_below s h = which (dec_lt s step_bound)
    where
      which : Dec (s < step_bound) → s < step_bound
      which (yes l) = l
      which (no l) = absurd (no_is_not_yes (sym (none_from_bound j x s (omega arith)) ∙ h))

  pub enabled_fits : enabled j x < 2 ^ width
  unfolding enabled
  enabled_fits = omega (arith, mask_fits on (enabled_below j x) enabled_builds step_bound)

  -- from 36 up no bit is set
  pub enabled_above : (s : ℕ) → step_bound ≤ s → bit_of (enabled j x) s ≡ 0
  unfolding enabled
  enabled_above s h = mask_above on (enabled_below j x) enabled_builds step_bound s h

  -- a step whose bit is set may be taken
  pub enabled_may : (s : ℕ) → Has (enabled j x) s → may j s x ≡ Ok tt
  unfolding enabled
  enabled_may s h = yes_is (may j s x) ((mask_has on (enabled_below j x) enabled_builds step_bound s).0 h).1

  -- and the bit of a step that may be taken is set
  pub may_enabled : (s : ℕ) → may j s x ≡ Ok tt → Has (enabled j x) s
  unfolding enabled
  may_enabled s h = (mask_has on (enabled_below j x) enabled_builds step_bound s).1 (may_below s h, ap is_ok h)

  -- bit s is 0 exactly when step s has a reason
  pub zero_exactly : (s : ℕ) → (bit_of (enabled j x) s ≡ 0) ↔ ((why : Reason) × (step j s x ≡ withheld why))
  unfolding step
  zero_exactly s = (λ off. which (may j s x) refl off, λ h. back (may j s x) refl h.1)
    where
      which : (m : May) → may j s x ≡ m → bit_of (enabled j x) s ≡ 0 → (why : Reason) × (by_may m (after j s x) ≡ withheld why)
      which (Ok tt) e off = absurd (omega (arith, may_enabled s e))
      which (Err why) e off = (why, refl)

      back : (m : May) → may j s x ≡ m → {why : Reason} → by_may m (after j s x) ≡ withheld why → bit_of (enabled j x) s ≡ 0
      back (Ok tt) e h = absurd (none_is_not_some (sym (ap forget h)))
      back (Err why) e h = at_most_one _ (bit_most (enabled j x) s) (λ one. no_is_not_yes (sym e ∙ enabled_may s one))
