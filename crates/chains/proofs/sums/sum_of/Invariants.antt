-- `sums::sum_of` meets its contract: so many pieces are in the sum, and it has room for each.
use mathlib.Core.Path.{◌≡◌}
use Prim.Native.Nat.{◌*◌, ◌≤◌}
use Rattle.chains.specs.Sums.{sum_below, product_values}
use Rattle.chains.proofs.sums.sum_of.Given as goal

abbrev pub invariant-loop-i : goal.invariant-loop-i
invariant-loop-i l = record {
  is : l.sum ≡ sum_below l.bytes l.i;
  room : l.sum ≤ product_values * l.i;
}
