-- `slot::bytes_of` meets its contract: the four parts one after another are the state's bytes.
use mathlib.Core.Path.{refl}
use Rattle.slot.proofs.StateLaws.{laid_out}
use Rattle.slot.proofs.Sizes.{state_sized}
use Rattle.slot.proofs.bytes_of.Goals as goal

pub returns : goal.returns
returns c =
    let sizes = state_sized c.args.x _ c.well_formed.0 in
    laid_out c.args.x sizes _ c.put_bytes.new.table c.put_bytes-2.new.table c.put_bytes-3.new.table c.put_buffers.new.table refl
    c.put_bytes.ensures.is
    c.put_bytes-2.ensures.is
    c.put_bytes-3.ensures.is
    c.put_buffers.ensures.is
