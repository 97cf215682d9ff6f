-- Or-ing the bit in puts the number into the set; past the word there is no place for it.
use native.Mathlib.Omega.{arith}
use Rattle.bits.specs.BitLaws.{put_law}
use Rattle.bits.proofs.put.Goals as goal

pub returns-then-x-lt64 : goal.returns-then-x-lt64
returns-then-x-lt64 c = put_law c.args.m c.args.x (omega arith)
