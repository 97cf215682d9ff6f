-- `buffer::Buf::is_empty` meets its contract: as many stores are pending as the count says.
use Rattle.buffer.specs.Held.{number, held_pending}
use Rattle.buffer.specs.HeldLaws.{held_number}
use Rattle.buffer.proofs.PlaceLaws.{empty_by_number}
use Rattle.buffer.proofs.Buf.is_empty.Goals as goal

pub returns : goal.returns
returns c =
    let b = c.args.self in
    empty_by_number (held_pending b) (number b) (held_number b c.requires)
