-- The formatter's capital hex digits are those of `specs/Hex`.
use Rattle.std.proofs.Common.{◌≡◌, ℕ, ◌<◌, ◌-◌, ◌/◌, ◌%◌, ◌^◌, true, false, [], eqb, refl, arith}
use Rattle.std.proofs.lemmas.Bool.{agree_below_at, eqb-true}
use Rattle.std.proofs.lemmas.Fmt.{hex_byte}
use Rattle.std.specs.Fmt.{digit_glyph, digits, format_spec, padded_integral}
use Rattle.bench.specs.Hex.{capital, two_digits}

capital_glyph : (d : ℕ) → d < 16 → digit_glyph true d ≡ capital d
capital_glyph d h = eqb-true _ _ (agree_below_at (λ k. eqb (digit_glyph true k) (capital k)) (λ k. true) 16 d refl h)

-- what `{:02X}` writes of a byte
pub hex_digits : (n : ℕ) → n < 256 → padded_integral (format_spec 32 0 4 2 (2 ^ 64 - 1)) false [] (digits 16 true n) ≡ two_digits n
hex_digits n h = rw (hex_byte true n h, capital_glyph (n / 16) (omega arith), capital_glyph (n % 16) (omega arith))
