-- `buffer::Buf::pending` meets its contract: the count byte without the mark is how many entries are held.
use mathlib.Core.Path.{sym}
use Rattle.buffer.specs.HeldLaws.{held_number}
use Rattle.buffer.proofs.Buf.pending.Goals as goal

pub returns : goal.returns
returns c = sym (held_number c.args.self c.requires)
