-- A set of numbers below 64 as one number: bit s is 1 when s is in the set.
use Rattle.std.specs.Prelude.{◌≡◌, ◌⊎◌, Option, MatchOption, Bool, true, false, ℕ, zero, suc, ◌+◌, ◌-◌, ◌/◌, ◌%◌, ◌^◌, ◌≤◌, ◌<◌}
use Rattle.std.specs.Int.Count.{count_trailing_zeros}

-- as many numbers as a word has bits
abbrev pub width : ℕ
width = 64

unfoldable pub bit_of : ℕ → ℕ → ℕ
bit_of m zero = m % 2
bit_of m (suc s) = bit_of (m / 2) s

abbrev pub Has : ℕ → ℕ → Type 0
Has m s = bit_of m s ≡ 1

abbrev pub digit : Bool → ℕ
digit true = 1
digit false = 0

-- what bit s adds to a number
abbrev pub weight : Bool → ℕ → ℕ
weight true s = 2 ^ s
weight false s = 0

-- the numbers below n at which a test holds
unfoldable pub mask_below : (ℕ → Bool) → ℕ → ℕ
mask_below on zero = 0
mask_below on (suc s) = mask_below on s + weight (on s) s

-- f builds that mask, in whatever words: as `mask_below on` itself
pub record Builds (on : ℕ → Bool) (f : ℕ → ℕ) : Type 0 where
  pub start : f 0 ≡ 0
  pub more : (s : ℕ) → f (suc s) ≡ f s + weight (on s) s

-- the lowest number of a set; the width where the set is empty
abbrev pub lowest_of : ℕ → ℕ
lowest_of m = count_trailing_zeros width m

-- the set less its lowest number; nothing is left of the empty set
abbrev pub without_lowest_of : ℕ → ℕ
without_lowest_of m = m - 2 ^ lowest_of m

-- how many numbers below n a set has
unfoldable pub count_below : ℕ → ℕ → ℕ
count_below m zero = 0
count_below m (suc s) = count_below m s + bit_of m s

abbrev pub count_of : ℕ → ℕ
count_of m = count_below m width

-- s may be put behind all numbers of m
pub record Behind (m s : ℕ) : Type 0 where
  pub in_width : s < width
  pub free : m < 2 ^ s

pub record Lowest (m r : ℕ) : Type 0 where
  pub is : r ≡ lowest_of m
  pub in_width : 0 < m → r < width
  pub set : 0 < m → Has m r
  pub least : (s : ℕ) → s < r → bit_of m s ≡ 0
  pub empty : m ≡ 0 → r ≡ width

pub record WithoutLowest (m r : ℕ) : Type 0 where
  pub is : r ≡ without_lowest_of m
  pub kept : (s : ℕ) → ¬ (s ≡ lowest_of m) → bit_of r s ≡ bit_of m s
  pub cleared : bit_of r (lowest_of m) ≡ 0
  pub smaller : 0 < m → r < m

pub record Counted (m r : ℕ) : Type 0 where
  pub is : r ≡ count_of m
  pub most : r ≤ width
  pub empty : m ≡ 0 → r ≡ 0
  pub only_empty : r ≡ 0 → m ≡ 0
  pub one_less : 0 < m → count_of (without_lowest_of m) + 1 ≡ r

-- the set with x in it too; a word has no number from its width up
pub record Put (m x r : ℕ) : Type 0 where
  pub there : x < width → Has r x
  pub kept : (s : ℕ) → Has m s → Has r s
  pub only : (s : ℕ) → Has r s → (s ≡ x) ⊎ Has m s
  pub no_less : m ≤ r

-- the next number of a set: the lowest, which leaves the others; there is none where the set is empty
abbrev pub Next : (m : ℕ) → Option ℕ → (left : ℕ) → Type 0
Next m r left = MatchOption r ((m ≡ 0) × (left ≡ 0)) (λ s. (0 < m) × Lowest m s × WithoutLowest m left)
