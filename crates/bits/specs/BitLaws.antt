-- Laws of a set's bits: one number more, the lowest number and the set without it, and the count.
use Rattle.std.specs.Prelude.{◌≡◌, refl, ◌⊎◌, Bool, true, false}
use Rattle.std.proofs.Common.{sym, ap, ◌∙◌, inl, inr, add-zero, zero-add, one-mul, pow-suc, mul_comm, div-one, pow_pos, shl_exact}
use Prim.Native.Nat.{ℕ, zero, suc, ◌+◌, ◌-◌, ◌*◌, ◌/◌, ◌%◌, ◌^◌, ◌≤◌, ◌<◌, max}
use Rattle.std.proofs.Math.Nat.{div-div-eq-div-mul}
use native.Mathlib.Omega.{arith}
use Rattle.std.proofs.Math.Decide.{dec_lt, ℕ_discrete}
use Rattle.std.specs.Int.Bits.{bit_and, bit_or, and_step, or_step, and_self, or_shifted_r, or_add_and}
use Rattle.std.proofs.lemmas.Nat.{and_mask, and_le_r}
use Rattle.std.specs.Int.Count.{ones, ones_step, count_trailing_zeros, under, trailing_of_zero}
use Rattle.bits.specs.Bits.{width, bit_of, Has, digit, weight, mask_below, Builds, lowest_of, without_lowest_of, count_below, Behind, Lowest, WithoutLowest, Put}

-- Bits.

parity : (m : ℕ) → (m % 2 ≡ 0) ⊎ (m % 2 ≡ 1)
parity m = cases (m % 2) refl (omega arith)
  where
    cases : (d : ℕ) → m % 2 ≡ d → d < 2 → (m % 2 ≡ 0) ⊎ (m % 2 ≡ 1)
    cases zero e h = inl e
    cases (suc zero) e h = inr e
    cases (suc (suc d)) e h = absurd (omega arith)

pub bit_most : (m s : ℕ) → bit_of m s ≤ 1
unfolding bit_of
bit_most m zero = omega arith
bit_most m (suc s) = bit_most (m / 2) s

pub bit_of_zero : (s : ℕ) → bit_of 0 s ≡ 0
unfolding bit_of
bit_of_zero zero = refl
bit_of_zero (suc s) = bit_of_zero s

half_below : (m n : ℕ) → m < 2 ^ suc n → m / 2 < 2 ^ n
half_below m n h = omega (arith, pow-suc 2 n)

-- a number below 2 ^ n has no bit from n up
pub bit_above : (m n s : ℕ) → m < 2 ^ n → n ≤ s → bit_of m s ≡ 0
unfolding bit_of
bit_above m zero s h l = let e : m ≡ 0 = omega arith in rw e (bit_of_zero s)
bit_above m (suc n) zero h l = absurd (omega arith)
bit_above m (suc n) (suc s) h l = bit_above (m / 2) n s (half_below m n h) (omega arith)

-- two numbers below 2 ^ n with the same bits are equal
pub same_bits : (n a b : ℕ) → a < 2 ^ n → b < 2 ^ n → ((s : ℕ) → s < n → bit_of a s ≡ bit_of b s) → a ≡ b
unfolding bit_of
same_bits zero a b h k e = omega arith
same_bits (suc n) a b h k e =
    let halves : a / 2 ≡ b / 2 = same_bits n (a / 2) (b / 2) (half_below a n h) (half_below b n k) (λ s l. e (suc s) (omega arith)) in
    omega (arith, e 0 (omega arith))

bit_shifted : (m s : ℕ) → bit_of m s ≡ m / 2 ^ s % 2
unfolding bit_of
bit_shifted m zero = rw div-one
bit_shifted m (suc s) = bit_shifted (m / 2) s ∙ rw (div-div-eq-div-mul, pow-suc, mul_comm 2)

-- as the code reads it
pub bit_read : (m s : ℕ) → bit_and (m / 2 ^ s) 1 ≡ bit_of m s
bit_read m s = and_mask (m / 2 ^ s) 1 ∙ sym (bit_shifted m s)

-- One number more, above all others.

half_added : (m s : ℕ) → (m + 2 ^ suc s) / 2 ≡ m / 2 + 2 ^ s
half_added m s = omega (arith, pow-suc 2 s)

power_under : (m s t : ℕ) → t < s → bit_of (m + 2 ^ s) t ≡ bit_of m t
unfolding bit_of
power_under m zero t h = absurd (omega arith)
power_under m (suc s) zero h = omega (arith, pow-suc 2 s)
power_under m (suc s) (suc t) h = rw half_added (power_under (m / 2) s t (omega arith))

power_at : (m s : ℕ) → m < 2 ^ s → bit_of (m + 2 ^ s) s ≡ 1
unfolding bit_of
power_at m zero h = omega arith
power_at m (suc s) h = rw half_added (power_at (m / 2) s (half_below m s h))

pub added_under : (b : Bool) (m s t : ℕ) → t < s → bit_of (m + weight b s) t ≡ bit_of m t
added_under true m s t h = power_under m s t h
added_under false m s t h = rw add-zero

pub added_at : (b : Bool) (m s : ℕ) → m < 2 ^ s → bit_of (m + weight b s) s ≡ digit b
added_at true m s h = power_at m s h
added_at false m s h = rw add-zero (bit_above m s s h (omega arith))

pub added_below : (b : Bool) (m s : ℕ) → m < 2 ^ s → m + weight b s < 2 ^ suc s
added_below true m s h = omega (arith, pow-suc 2 s)
added_below false m s h = omega (arith, pow-suc 2 s)

-- as the code puts it in
pub added_or : (m s : ℕ) → Behind m s → bit_or m ((1 * 2 ^ s) % 2 ^ width) ≡ m + 2 ^ s
added_or m s b =
    rw (shl_exact {a = 1} 1 s width (omega arith) (omega (arith, b.in_width)), or_shifted_r 1 s m b.free) (omega arith)

-- One number more, wherever it stands.

pub or_bit : (a b s : ℕ) → bit_of (bit_or a b) s ≡ max (bit_of a s) (bit_of b s)
unfolding bit_of
or_bit a b zero = rw or_step (omega arith)
or_bit a b (suc s) =
    let half : bit_or a b / 2 ≡ bit_or (a / 2) (b / 2) = rw or_step (omega arith) in
    rw half (or_bit (a / 2) (b / 2) s)

power_has : (x : ℕ) → bit_of (2 ^ x) x ≡ 1
power_has x = rw (zero-add (2 ^ x)) at (power_at 0 x (pow_pos x))

power_only : (x s : ℕ) → ¬ (s ≡ x) → bit_of (2 ^ x) s ≡ 0
power_only x s n = which (dec_lt s x)
  where
    which : Dec (s < x) → bit_of (2 ^ x) s ≡ 0
    which (yes l) = rw (zero-add (2 ^ x), bit_of_zero s) at (power_under 0 x s l)
    which (no l) = bit_above (2 ^ x) (suc x) s (omega (arith, pow-suc 2 x, pow_pos x)) (omega arith)

put_power : (m x : ℕ) → Put m x (bit_or m (2 ^ x))
put_power m x =
    record {
      there = λ l. rw (or_bit m (2 ^ x) x, power_has x) (omega (arith, bit_most m x));
      kept = λ s h. rw (or_bit m (2 ^ x) s, h) (omega (arith, bit_most (2 ^ x) s));
      only = λ s h. which s (ℕ_discrete s x) h;
      no_less = omega (arith, or_add_and m (2 ^ x), and_le_r m (2 ^ x));
    }
  where
    which : (s : ℕ) → Dec (s ≡ x) → Has (bit_or m (2 ^ x)) s → (s ≡ x) ⊎ Has m s
    which s (yes e) h = inl e
    which s (no n) h = inr (omega (arith, rw (or_bit m (2 ^ x) s, power_only x s n) at h))

-- as the code puts it in
pub put_law : (m x : ℕ) → x < width → Put m x (bit_or m ((1 * 2 ^ x) % 2 ^ width))
put_law m x h = rw (shl_exact {a = 1} 1 x width (omega arith) (omega arith), one-mul (2 ^ x)) (put_power m x)

pub put_beyond : (m x : ℕ) → width ≤ x → Put m x m
put_beyond m x h = record { there = λ l. absurd (omega arith); kept = λ s k. k; only = λ s k. inr k; no_less = omega arith }

-- A mask that is built from its tests.

module _ (on : ℕ → Bool) (f : ℕ → ℕ) (b : Builds on f) where
  pub mask_is : (n : ℕ) → f n ≡ mask_below on n
  unfolding mask_below
  mask_is zero = b.start
  mask_is (suc s) = rw (b.more s, mask_is s)

  pub mask_fits : (n : ℕ) → f n < 2 ^ n
  mask_fits zero = omega (arith, b.start)
  mask_fits (suc s) = rw (b.more s) (added_below (on s) (f s) s (mask_fits s))

-- The lowest number of a set, over any number of places: what an odd number has, and an even one of its half, is had by all.

module _ (P : ℕ → ℕ → ℕ → Type 0) (none : P 0 0 0) (odd : (k m : ℕ) → m % 2 ≡ 1 → P (suc k) m 0)
    (even : (k m t : ℕ) → m % 2 ≡ 0 → P k (m / 2) t → P (suc k) m (suc t)) where
  by_lowest : (k m : ℕ) → m < 2 ^ k → P k m (count_trailing_zeros k m)
  unfolding count_trailing_zeros
  by_lowest zero m h = let e : m ≡ 0 = omega arith in rw e none
  by_lowest (suc k) m h = turn (parity m) (by_lowest k (m / 2) (half_below m k h))
    where
      turn : (m % 2 ≡ 0) ⊎ (m % 2 ≡ 1) → P k (m / 2) (count_trailing_zeros k (m / 2)) → P (suc k) m (under (m % 2) (count_trailing_zeros k (m / 2)))
      turn (inl e) rest = rw e (even k m (count_trailing_zeros k (m / 2)) e rest)
      turn (inr e) rest = rw e (odd k m e)

pub lowest_in_width : (k m : ℕ) → m < 2 ^ k → 0 < m → count_trailing_zeros k m < k
lowest_in_width =
    by_lowest (λ k m t. 0 < m → t < k) (λ p. omega arith) (λ k m e p. omega arith)
    (λ k m t e rest p. omega (arith, rest (omega arith)))

pub lowest_set : (k m : ℕ) → m < 2 ^ k → 0 < m → Has m (count_trailing_zeros k m)
unfolding bit_of
lowest_set =
    by_lowest (λ k m t. 0 < m → Has m t) (λ p. absurd (omega arith)) (λ k m e p. e) (λ k m t e rest p. rest (omega arith))

abbrev Least : ℕ → ℕ → ℕ → Type 0
Least k m t = (s : ℕ) → s < t → bit_of m s ≡ 0

pub lowest_least : (k m : ℕ) → m < 2 ^ k → (s : ℕ) → s < count_trailing_zeros k m → bit_of m s ≡ 0
unfolding bit_of
lowest_least = by_lowest Least (λ s l. absurd (omega arith)) (λ k m e s l. absurd (omega arith)) even
  where
    even : (k m t : ℕ) → m % 2 ≡ 0 → Least k (m / 2) t → Least (suc k) m (suc t)
    even k m t e rest zero l = e
    even k m t e rest (suc s) l = rest s (omega arith)

-- The set without its lowest number.

trailing_even : (k m : ℕ) → m % 2 ≡ 0 → count_trailing_zeros (suc k) m ≡ suc (count_trailing_zeros k (m / 2))
unfolding count_trailing_zeros
trailing_even k m e = rw e

half_less : (m t : ℕ) → (m - 2 ^ suc t) / 2 ≡ m / 2 - 2 ^ t
half_less m t = omega (arith, pow-suc 2 t)

abbrev Kept : ℕ → ℕ → ℕ → Type 0
Kept k m t = (s : ℕ) → ¬ (s ≡ t) → bit_of (m - 2 ^ t) s ≡ bit_of m s

pub without_kept : (k m : ℕ) → m < 2 ^ k → (s : ℕ) → ¬ (s ≡ count_trailing_zeros k m) → bit_of (m - 2 ^ count_trailing_zeros k m) s ≡ bit_of m s
unfolding bit_of
without_kept = by_lowest Kept (λ s n. refl) odd even
  where
    odd : (k m : ℕ) → m % 2 ≡ 1 → Kept (suc k) m 0
    odd k m e zero n = absurd (n refl)
    odd k m e (suc s) n = let half : (m - 1) / 2 ≡ m / 2 = omega arith in rw half

    even : (k m t : ℕ) → m % 2 ≡ 0 → Kept k (m / 2) t → Kept (suc k) m (suc t)
    even k m t e rest zero n = omega (arith, pow-suc 2 t)
    even k m t e rest (suc s) n = rw half_less (rest s (λ d. n (ap suc d)))

pub without_cleared : (k m : ℕ) → m < 2 ^ k → bit_of (m - 2 ^ count_trailing_zeros k m) (count_trailing_zeros k m) ≡ 0
unfolding bit_of
without_cleared =
    by_lowest (λ k m t. bit_of (m - 2 ^ t) t ≡ 0) refl (λ k m e. omega arith) (λ k m t e rest. rw half_less rest)

-- as the code clears it
pub without_and : (k m : ℕ) → m < 2 ^ k → bit_and m (m - 1) ≡ m - 2 ^ count_trailing_zeros k m
without_and = by_lowest (λ k m t. bit_and m (m - 1) ≡ m - 2 ^ t) refl odd even
  where
    odd : (k m : ℕ) → m % 2 ≡ 1 → bit_and m (m - 1) ≡ m - 1
    odd k m e =
        let half : (m - 1) / 2 ≡ m / 2 = omega arith in
        and_step m (m - 1) ∙ rw (half, and_self) (omega arith)

    even : (k m t : ℕ) → m % 2 ≡ 0 → bit_and (m / 2) (m / 2 - 1) ≡ m / 2 - 2 ^ t → bit_and m (m - 1) ≡ m - 2 ^ suc t
    even k m t e rest =
        let half : (m - 1) / 2 ≡ m / 2 - 1 = omega arith in
        and_step m (m - 1) ∙ rw (half, rest) (omega (arith, pow-suc 2 t))

-- The count.

count_half : (m n : ℕ) → count_below m (suc n) ≡ m % 2 + count_below (m / 2) n
unfolding count_below bit_of
count_half m zero = omega arith
count_half m (suc n) = rw (count_half m n) (omega arith)

pub count_is_ones : (n m : ℕ) → m < 2 ^ n → ones m ≡ count_below m n
unfolding ones count_below
count_is_ones zero m h = let e : m ≡ 0 = omega arith in rw e
count_is_ones (suc n) m h = ones_step m ∙ rw (count_half m n, count_is_ones n (m / 2) (half_below m n h))

pub count_most : (m n : ℕ) → count_below m n ≤ n
unfolding count_below
count_most m zero = omega arith
count_most m (suc n) = omega (arith, count_most m n, bit_most m n)

pub count_of_zero : (n : ℕ) → count_below 0 n ≡ 0
unfolding count_below
count_of_zero zero = refl
count_of_zero (suc n) = omega (arith, count_of_zero n, bit_of_zero n)

pub count_only_zero : (n m : ℕ) → m < 2 ^ n → count_below m n ≡ 0 → m ≡ 0
count_only_zero zero m h e = omega arith
count_only_zero (suc n) m h e =
    let c = count_half m n in
    omega (arith, count_only_zero n (m / 2) (half_below m n h) (omega arith))

pub count_less : (k m : ℕ) → m < 2 ^ k → 0 < m → count_below (m - 2 ^ count_trailing_zeros k m) k + 1 ≡ count_below m k
count_less = by_lowest (λ k m t. 0 < m → count_below (m - 2 ^ t) k + 1 ≡ count_below m k) (λ p. absurd (omega arith)) odd even
  where
    odd : (k m : ℕ) → m % 2 ≡ 1 → 0 < m → count_below (m - 1) (suc k) + 1 ≡ count_below m (suc k)
    odd k m e p =
        let half : (m - 1) / 2 ≡ m / 2 = omega arith in
        rw (count_half (m - 1) k, count_half m k, half) (omega arith)

    even : (k m t : ℕ) → m % 2 ≡ 0 → (0 < m / 2 → count_below (m / 2 - 2 ^ t) k + 1 ≡ count_below (m / 2) k) → 0 < m →
        count_below (m - 2 ^ suc t) (suc k) + 1 ≡ count_below m (suc k)
    even k m t e rest p =
        rw (count_half (m - 2 ^ suc t) k, count_half m k, half_less) (omega (arith, rest (omega arith), pow-suc 2 t))

-- What the operations give, each as one.

module _ (m : ℕ) (h : m < 2 ^ width) where
  pub lowest_law : Lowest m (lowest_of m)
  lowest_law =
      record {
        is = refl;
        in_width = lowest_in_width width m h;
        set = lowest_set width m h;
        least = lowest_least width m h;
        empty = λ e. rw e (trailing_of_zero width);
      }

  pub without_lowest_law : WithoutLowest m (without_lowest_of m)
  without_lowest_law =
      record {
        is = refl;
        kept = without_kept width m h;
        cleared = without_cleared width m h;
        smaller = λ p. omega (arith, pow_pos (lowest_of m));
      }
