-- `buffer::Buf::newest` meets its contract. The invariant: what is pending from index i on is not to v.
use Rattle.buffer.proofs.ReadLaws.{Unseen}
use Rattle.buffer.proofs.Buf.newest.Given as goal

abbrev pub invariant-loop-i : goal.invariant-loop-i
invariant-loop-i l = Unseen l.v l.memory l.self l.i
