-- `slot::buffers::put_buffer` meets its contract: the count, and from the next byte on the entries.
use mathlib.Core.Path.{◌∙◌}
use native.Mathlib.Omega.{arith}
use lib.ListN.{length-set}
use Rattle.slot.specs.Bytes.{buffer_bytes}
use Rattle.span.specs.SpanLaws.{laid_cons}
use Rattle.slot.proofs.buffers.put_buffer.Goals as goal

pub returns : goal.returns
unfolding buffer_bytes
returns c =
    let given = c.args in
    let full = c.put_bytes-arg-3-1.given in
    let entries = laid_cons given.table.now given.at given.b.count given.b.slots (omega (arith, full, c.requires)) in
    record { is = c.put_bytes.ensures.is ∙ entries; size = c.put_bytes.auto.table ∙ simp length-set }
