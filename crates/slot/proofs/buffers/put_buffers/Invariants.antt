-- `slot::buffers::put_buffers` meets its contract: the buffers done so far are over the table.
use lib.ListN.{take}
use Rattle.slot.specs.Bytes.{buffers_bytes}
use Rattle.span.specs.Span.{Laid}
use Rattle.slot.proofs.buffers.put_buffers.Given as goal

abbrev pub invariant-loop-t : goal.invariant-loop-t
invariant-loop-t l = Laid l.initial.table l.table l.at (buffers_bytes (take l.t l.b-items))
