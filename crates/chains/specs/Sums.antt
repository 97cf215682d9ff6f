-- The chain that bytes belong to: a number that follows from them alone, spread over all chains. No product and no sum on the way has more than
-- 64 bits: a half of a piece has 32, a weight 26, and there are at most 62 halves.
use Rattle.std.specs.Prelude.{List, ℕ, zero, suc, ◌+◌, ◌*◌, ◌/◌, ◌%◌, ◌≤◌, ◌<◌, min, length}
use Rattle.std.proofs.Common.{mul-le-mul, mul-le-mul_right, arith}
use Rattle.span.specs.Pieces.{piece_size, piece_at}

-- the values of a half of a piece, and of a weight
abbrev pub word_values : ℕ
word_values = 4294967296

abbrev pub weight_values : ℕ
weight_values = 67108864

-- so many pieces are weighed
abbrev pub most_pieces : ℕ
most_pieces = 31

-- a weight for each piece: the bits in the middle of a product
abbrev pub weight_at : ℕ → ℕ
weight_at i = (i * 40503001 + 52637036) * (i * 63270273 + 17885061) / 16384 % weight_values

-- the upper and the lower half of a weight change places
abbrev pub turned : ℕ → ℕ
turned w = (w % 8192) * 8192 + w / 8192

-- the lower half of a piece by its weight, and the upper by the weight turned
abbrev pub weighed : (x w : ℕ) → ℕ
weighed x w = (x % word_values) * w + (x / word_values) * turned w

-- the first n pieces of the bytes, weighed one after the other
unfoldable pub sum_below : List ℕ → (n : ℕ) → ℕ
sum_below bytes zero = 0
sum_below bytes (suc i) = sum_below bytes i + weighed (piece_at bytes (piece_size * i)) (weight_at i)

abbrev pub pieces_of : List ℕ → ℕ
pieces_of bytes = min (length bytes / piece_size) most_pieces

-- what a piece weighs at most
abbrev pub product_values : ℕ
product_values = 576460752303423488

-- the sum weighed once more, and of that the bits in the middle, as a part of the width
abbrev pub last_weight : ℕ
last_weight = 58320731

abbrev pub spread : (x width : ℕ) → ℕ
spread x width = (weighed x last_weight / 65536 % word_values) * width / word_values

abbrev pub chain_of : List ℕ → (width : ℕ) → ℕ
chain_of bytes width = spread (sum_below bytes (pieces_of bytes)) width

-- a number below the width
pub chain_below : (bytes : List ℕ) (width : ℕ) → 0 < width → chain_of bytes width < width
chain_below bytes width some =
    let x = weighed (sum_below bytes (pieces_of bytes)) last_weight / 65536 % word_values in
    let product : x * width ≤ 4294967295 * width = mul-le-mul_right width (omega arith) in
    omega (arith, product, some)

-- the product that a weight is taken from has 62 bits
pub weight_fits : (i : ℕ) → i < most_pieces → (i * 40503001 + 52637036) * (i * 63270273 + 17885061) ≤ 4611686018427387904
weight_fits i below =
    let both : (i * 40503001 + 52637036) * (i * 63270273 + 17885061) ≤ 2147483648 * 2147483648 =
    mul-le-mul {n₁ = i * 40503001 + 52637036} {m₁ = i * 63270273 + 17885061} {n₂ = 2147483648} {m₂ = 2147483648} (omega (arith, below)) (omega (arith, below)) in
    omega (arith, both)

-- a half of a piece by a weight has 58 bits, so a piece weighs less than product-values, and 31 of them less than 2^64
pub product_small : (x w : ℕ) → x < word_values → w < weight_values → x * w ≤ 288230376151711744
product_small x w small light =
    let both : x * w ≤ word_values * weight_values = mul-le-mul {n₁ = x} {m₁ = w} {n₂ = word_values} {m₂ = weight_values} (omega arith) (omega arith) in
    omega (arith, both)
