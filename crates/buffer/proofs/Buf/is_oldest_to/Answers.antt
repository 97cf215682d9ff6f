-- `buffer::Buf::is_oldest_to` meets its contract: the oldest store is the entry at index 0.
use Rattle.std.proofs.Common.{arith}
use Rattle.std.proofs.lemmas.Bool.{eq-eqb}
use Rattle.buffer.proofs.ReadLaws.{oldest_first, none_oldest}
use Rattle.buffer.proofs.Buf.is_oldest_to.Goals as goal

pub returns-then-n-ne0 : goal.returns-then-n-ne0
returns-then-n-ne0 c = rw (c.variable.ensures, c.entry.ensures) (oldest_first c.args.self c.requires c.args.v (omega arith))

pub returns-else-n-ne0 : goal.returns-else-n-ne0
returns-else-n-ne0 c =
    rw (eq-eqb _ _ c.if-n-ne0.false) (none_oldest c.args.self c.requires c.args.v (omega arith))
