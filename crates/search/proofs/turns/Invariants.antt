-- `search::turns` meets its contract: before each turn, and before each state of it, the memory holds what a search holds there.
use mathlib.Core.Path.{◌≡◌}
use Prim.Native.Nat.{◌+◌, ◌-◌}
use Rattle.lent.specs.Searching.{Searching}
use Rattle.shelf.specs.Front.{memory, Ready}
use Rattle.rules.specs.Limits.{slot_size}
use Rattle.rules.specs.File.{job_of}
use Rattle.search.specs.Coded.{coding}
use Rattle.search.proofs.turns.Given as goal

abbrev pub invariant-turns : goal.invariant-turns
invariant-turns l = Searching (coding (job_of l.job.bytes.now)) l.slots l.fn.table l.fn.links l.d l.mark l.mark (memory l.table l.links l.front)
    × (l.schedule ≡ l.fn.schedule)
    × Ready slot_size l.slots l.table l.index l.width l.front.count

abbrev pub decreases-turns : goal.decreases-turns
decreases-turns l = l.slots - l.mark

abbrev pub invariant-loop-next : goal.invariant-loop-next
invariant-loop-next l = Searching (coding (job_of l.job.bytes.now)) l.slots l.fn.table l.fn.links (l.d + 1) l.count l.next (memory l.table l.links l.front)
    × (l.schedule ≡ l.fn.schedule)
    × Ready slot_size l.slots l.table l.index l.width l.front.count
