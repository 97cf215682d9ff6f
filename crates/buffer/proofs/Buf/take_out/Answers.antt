-- `buffer::Buf::take_out` meets its contract: the entries behind the oldest store to v move down.
use Rattle.std.proofs.Common.{ap, sym, ◌∙◌, ◌+◌, ◌*◌, arith, Some, None}
use Rattle.std.specs.List.{copy_within}
use Rattle.rules.specs.Limits.{entry_size}
use Rattle.buffer.specs.Held.{held_pending}
use Rattle.buffer.specs.Places.{is_to}
use Rattle.buffer.proofs.MoveLaws.{nothing_taken, take_out_takes}
use Rattle.buffer.proofs.ReadLaws.{at_first}
use Rattle.buffer.proofs.Buf.take_out.Goals as goal

pub returns-in_default : goal.returns-in_default
returns-in_default c =
    let a = c.args in
    let none = at_first (is_to a.v) (held_pending a.self) None (sym c.in_default.is ∙ c.oldest_to.ensures.is) in
    nothing_taken a.self a.v c.requires (omega (arith, none))

pub returns : goal.returns
returns c =
    let a = c.args in
    let at = c.in-Some.at in
    let oldest = at_first (is_to a.v) (held_pending a.self) (Some at) (sym c.in-Some.is ∙ c.oldest_to.ensures.is) in
    let moved = c.copy_within in
    let copied = ap (λ n. copy_within a.self.slots (entry_size * (at + 1)) (entry_size * n) (entry_size * at)) c.number-n.ensures in
    rw (c.set_entry.ensures, c.number-n.ensures, c.entry-value.ensures)
    (take_out_takes a.self a.v c.requires at oldest.0 oldest.1 moved.new.self (moved.ensures.after ∙ copied) (moved.ensures.len ∙ c.requires.size))
