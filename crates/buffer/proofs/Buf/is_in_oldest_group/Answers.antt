-- `buffer::Buf::is_in_oldest_group` meets its contract: one is pending where the search finds one.
use Rattle.std.proofs.Common.{sym, ◌∙◌}
use Rattle.buffer.specs.Held.{held_pending}
use Rattle.buffer.specs.Places.{is_next_to}
use Rattle.buffer.proofs.PlaceLaws.{next_within}
use Rattle.buffer.proofs.ReadLaws.{found_within}
use Rattle.buffer.proofs.Buf.is_in_oldest_group.Goals as goal

pub returns : goal.returns
returns c =
    let l = held_pending c.args.self in
    c.is_some.ensures ∙ found_within (is_next_to c.args.v) l _ c.oldest_next_to.ensures ∙ sym (next_within c.args.v l)
