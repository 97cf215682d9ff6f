-- Bit s is what a shift by s leaves lowest; a u64 has none from 64 up.
use Rattle.std.proofs.Common.{ap, eqb, arith}
use Rattle.std.proofs.lemmas.Bool.Decides.{nat_tests}
use Rattle.bits.specs.Bits.{width}
use Rattle.bits.specs.BitLaws.{bit_read, bit_above}
use Rattle.bits.proofs.has.Goals as goal

pub returns-then-s-lt64 : goal.returns-then-s-lt64
returns-then-s-lt64 c = ap (λ b. eqb b 1) (bit_read c.args.m c.args.s)

pub returns-else-s-lt64 : goal.returns-else-s-lt64
returns-else-s-lt64 c = rw (bit_above c.args.m width c.args.s (omega arith) (omega arith)) (grind (arith, nat_tests))
