-- `slot::read_slot` meets its contract: the four parts one after another are the slot's bytes.
use Rattle.slot.proofs.StateLaws.{read_parts}
use Rattle.slot.proofs.read_slot.Goals as goal

pub returns : goal.returns
returns c =
    let places = c.read_bytes in
    let registers = c.read_bytes-2 in
    let memory = c.read_bytes-3 in
    let buffers = c.read_buffers-bufs in
    read_parts c.args.table.now c.args.i c.requires
    places.new.out registers.new.out memory.new.out buffers.result
    places.ensures registers.ensures memory.ensures buffers.ensures
