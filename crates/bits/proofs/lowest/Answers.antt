-- The machine counts trailing zeros; that is the lowest number.
use native.Mathlib.Omega.{arith}
use Rattle.bits.specs.BitLaws.{lowest_law}
use Rattle.bits.proofs.lowest.Goals as goal

pub returns : goal.returns
returns c = lowest_law c.args.m (omega arith)
