-- Laws of a set's bits that rest on other laws: what a mask has, and what the count gives.
use Rattle.std.specs.Prelude.{◌≡◌, refl, ◌⊎◌, ◌↔◌, Bool, true, false}
use Rattle.std.proofs.Common.{sym, ap, ◌∙◌, inl, inr, eq-or-lt_of_le}
use Prim.Native.Nat.{ℕ, zero, suc, ◌+◌, ◌^◌, ◌≤◌, ◌<◌}
use native.Mathlib.Omega.{arith}
use Rattle.std.proofs.Math.Decide.{dec_lt}
use Rattle.bits.specs.Bits.{width, bit_of, Has, digit, weight, Builds, count_of, Counted}
use Rattle.bits.specs.BitLaws.{bit_above, added_under, added_at, mask_fits, count_most, count_of_zero, count_only_zero, count_less}

-- A mask that is built from its tests.

module _ (on : ℕ → Bool) (f : ℕ → ℕ) (b : Builds on f) where
  pub mask_at : (n s : ℕ) → s < n → bit_of (f n) s ≡ digit (on s)
  mask_at zero s h = absurd (omega arith)
  mask_at (suc n) s h = rw (b.more n) (last (eq-or-lt_of_le (omega arith)) (mask_at n s))
    where
      last : (s ≡ n) ⊎ (s < n) → (s < n → bit_of (f n) s ≡ digit (on s)) → bit_of (f n + weight (on n) n) s ≡ digit (on s)
      last (inl e) rest = rw e (added_at (on n) (f n) n (mask_fits on f b n))
      last (inr l) rest = added_under (on n) (f n) n s l ∙ rest l

  pub mask_above : (n s : ℕ) → n ≤ s → bit_of (f n) s ≡ 0
  mask_above n s h = bit_above (f n) n s (mask_fits on f b n) h

  -- the mask has exactly the numbers below n at which the test holds
  pub mask_has : (n s : ℕ) → Has (f n) s ↔ ((s < n) × (on s ≡ true))
  mask_has n s = (λ h. below (dec_lt s n) h, λ p. mask_at n s p.0 ∙ ap digit p.1)
    where
      holds : (b : Bool) → digit b ≡ 1 → b ≡ true
      holds true e = refl
      holds false e = absurd (omega arith)

      below : Dec (s < n) → Has (f n) s → (s < n) × (on s ≡ true)
      below (yes l) h = (l, holds (on s) (sym (mask_at n s l) ∙ h))
      below (no l) h = absurd (omega (arith, mask_above n s (omega arith)))

-- What the count gives, as one.

module _ (m : ℕ) (h : m < 2 ^ width) where
  pub count_law : Counted m (count_of m)
  count_law =
      record {
        is = refl;
        most = count_most m width;
        empty = λ e. rw e (count_of_zero width);
        only_empty = count_only_zero width m h;
        one_less = count_less width m h;
      }
