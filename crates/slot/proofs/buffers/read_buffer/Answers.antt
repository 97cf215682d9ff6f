-- `slot::buffers::read_buffer` meets its contract: the count, and from the next byte on the entries.
use Rattle.slot.proofs.BufferLaws.{read_buffer_bytes}
use Rattle.slot.proofs.buffers.read_buffer.Goals as goal

pub returns : goal.returns
returns c =
    let read = c.read_bytes in
    read_buffer_bytes c.args.table.now c.args.at read.new.out c.requires read.ensures
