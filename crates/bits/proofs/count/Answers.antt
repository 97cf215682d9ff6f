-- The machine counts ones; that is the count of the numbers below 64.
use mathlib.Core.Path.{sym, subst}
use Prim.Native.Nat.{◌^◌, ◌<◌}
use native.Mathlib.Omega.{arith}
use Rattle.bits.specs.Bits.{width, Counted}
use Rattle.bits.specs.BitLaws.{count_is_ones}
use Rattle.bits.proofs.BitLaws.{count_law}
use Rattle.bits.proofs.count.Goals as goal

pub returns : goal.returns
returns c =
    let m = c.args.m in
    let fits : m < 2 ^ width = omega arith in
    subst (Counted m) (sym (count_is_ones width m fits)) (count_law m fits)
