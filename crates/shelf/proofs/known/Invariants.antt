-- `shelf::known` meets its contract: no slot that was passed holds the bytes.
use mathlib.Core.Path.{◌≡◌}
use Prim.Native.Nat.{ℕ, ◌≤◌, ◌<◌}
use lib.ListN.{length}
use Rattle.lent.specs.Parts.{slot_at}
use Rattle.shelf.proofs.known.Given as goal

abbrev pub invariant-loop-i : goal.invariant-loop-i
invariant-loop-i l = (k : ℕ) → l.i ≤ k → k < l.count → slot_at (length l.bytes) l.table k ≡ l.bytes → ⊥
