-- `known` meets its contract: a slot that holds the bytes is still ahead on the chain.
use mathlib.Core.Path.{◌≡◌}
use Prim.Native.Nat.{ℕ, ◌≤◌, ◌<◌}
use lib.ListN.{length}
use Rattle.lent.specs.Parts.{slot_at}
use Rattle.chains.specs.Chains.{On}
use Rattle.chains.proofs.known.Given as goal

abbrev pub invariant-loop-slot : goal.invariant-loop-slot
invariant-loop-slot l = record {
  counted : l.number ≤ l.count;
  ahead : (i : ℕ) → i < l.count → slot_at (length l.bytes) l.table i ≡ l.bytes → On l.index l.width i l.number;
}

abbrev pub decreases-loop-slot : goal.decreases-loop-slot
decreases-loop-slot l = l.number
