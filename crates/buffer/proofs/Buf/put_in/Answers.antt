-- `buffer::Buf::put_in` meets its contract: the entries move up, and the store is written at the index.
use Rattle.std.proofs.Common.{ap, ◌∙◌, ◌+◌, ◌*◌}
use Rattle.std.specs.List.{copy_within}
use Rattle.rules.specs.Limits.{entry_size}
use Rattle.buffer.proofs.MoveLaws.{put_in_holds}
use Rattle.buffer.proofs.Buf.put_in.Goals as goal

pub returns : goal.returns
returns c =
    let a = c.args in
    let moved = c.copy_within in
    let copied = ap (λ n. copy_within a.self.slots (entry_size * a.at) (entry_size * n) (entry_size * (a.at + 1))) c.number-n.ensures in
    rw c.set_entry.ensures
    (put_in_holds a.self a.at a.store.byte a.store.value c.requires moved.new.self (moved.ensures.after ∙ copied) (moved.ensures.len ∙ c.requires.room.ok.size))
