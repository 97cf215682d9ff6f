-- No bit of the set stands at s or above, so or-ing the bit in adds it.
use Rattle.bits.specs.BitLaws.{added_or}
use Rattle.bits.proofs.with_bit.Goals as goal

pub returns-then-on : goal.returns-then-on
returns-then-on c = rw c.if-on.true (added_or c.args.m c.args.s c.requires)
