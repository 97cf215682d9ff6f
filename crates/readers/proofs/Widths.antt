-- A value has one byte or two; and so many bytes for each of several items.
use Prim.Native.Nat.{ℕ, ◌+◌, ◌*◌, ◌≤◌, ◌<◌}
use native.Mathlib.Nat.{mul-le-mul_left, mul-le-mul}
use native.Mathlib.Omega.{arith}
use Rattle.rules.specs.Limits.{byte_values, value_size, item_size, word_size}
use Rattle.rules.specs.declared.Width.{Width}
use Rattle.rules.specs.declared.Width.TheVariants.{One, Two}

pub size_positive : (w : Width) → 1 ≤ value_size w
size_positive One = omega arith
size_positive Two = omega arith

pub size_most : (w : Width) → value_size w ≤ word_size
size_most One = omega arith
size_most Two = omega arith

-- as many values or items as a byte counts have few bytes
pub few_bytes : (w : Width) (size k : ℕ) → size ≤ item_size w → k < byte_values → size * k ≤ item_size Two * byte_values
few_bytes w size k h b =
    mul-le-mul {n₁ = size} {m₁ = k} {n₂ = item_size Two} {m₂ = byte_values} (omega (arith, size_most w)) (omega arith)

-- of n items of one size, each ends before they all do
pub one_fits : (size i n : ℕ) → i < n → size * i + size ≤ size * n
one_fits size i n h = let all : size * (i + 1) ≤ size * n = mul-le-mul_left size (omega arith) in omega arith
