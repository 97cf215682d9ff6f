-- One less takes the lowest set bit off, and of the empty set nothing is left, whatever is and-ed with it.
use Rattle.std.proofs.Common.{◌≡◌, ℕ, zero, suc, ◌+◌, ◌-◌, ◌%◌, ◌^◌, ◌<◌, sym, subst, bit_and, arith}
use Rattle.std.proofs.lemmas.Nat.{and_le_l}
use Rattle.bits.specs.Bits.{width, without_lowest_of, WithoutLowest}
use Rattle.bits.specs.BitLaws.{without_and, without_lowest_law}
use Rattle.bits.proofs.without_lowest.Goals as goal

wrapped : (m : ℕ) → m < 2 ^ width → bit_and m ((m + (2 ^ width - 1)) % 2 ^ width) ≡ without_lowest_of m
wrapped zero h = omega (arith, and_le_l 0 (2 ^ width - 1))
wrapped (suc n) h =
    let one_less : (suc n + (2 ^ width - 1)) % 2 ^ width ≡ suc n - 1 = omega arith in
    rw one_less (without_and width (suc n) h)

pub returns : goal.returns
returns c = subst (WithoutLowest c.args.m) (sym (wrapped c.args.m (omega arith))) (without_lowest_law c.args.m (omega arith))
