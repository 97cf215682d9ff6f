-- `buffer::Buf::first_after` meets its contract: group and variable are in the order of the bytes.
use Rattle.std.proofs.Common.{rules}
use Rattle.buffer.specs.Places.{is_after}
use Rattle.buffer.specs.Held.{entry}
use Rattle.buffer.proofs.PlaceLaws.{before_by_byte, not_leb}
use Rattle.buffer.proofs.ReadLaws.{found}
use Rattle.buffer.proofs.Buf.first_after.Goals as goal

pub returns : goal.returns
returns c =
    found c.args.self c.requires (is_after (entry c.args.store.byte c.args.store.value)) _ _ c.position.ensures
    (λ e t h. rw (before_by_byte e.byte c.args.store.byte e.value c.args.store.value, not_leb e.byte c.args.store.byte) (search rules))
