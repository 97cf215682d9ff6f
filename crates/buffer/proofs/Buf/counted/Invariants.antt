-- `buffer::Buf::counted` meets its contract. The invariant: the groups of the entries below i are lowered, the others as they were.
use Rattle.std.proofs.Common.{◌≡◌, ◌/◌, get_or}
use Rattle.rules.specs.Limits.{group_unit}
use Rattle.buffer.specs.Held.{entries}
use Rattle.buffer.proofs.GroupLaws.{Lowering}
use Rattle.buffer.proofs.Buf.counted.Given as goal

abbrev pub invariant-loop-i : goal.invariant-loop-i
invariant-loop-i l = Lowering (entries l.self.slots) (get_or l.self.slots 0 0 / group_unit) l.counted.slots l.i × (l.counted.count ≡ l.self.count)
