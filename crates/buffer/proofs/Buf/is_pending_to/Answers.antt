-- `buffer::Buf::is_pending_to` meets its contract: one is pending where the search finds one.
use Rattle.std.proofs.Common.{sym, ◌∙◌}
use Rattle.buffer.specs.Held.{held_pending}
use Rattle.buffer.specs.Places.{is_to}
use Rattle.buffer.proofs.PlaceLaws.{pending_within}
use Rattle.buffer.proofs.ReadLaws.{found_within}
use Rattle.buffer.proofs.Buf.is_pending_to.Goals as goal

pub returns : goal.returns
returns c =
    let l = held_pending c.args.self in
    c.is_some.ensures ∙ found_within (is_to c.args.v) l _ c.oldest_to.ensures.is ∙ sym (pending_within c.args.v l)
