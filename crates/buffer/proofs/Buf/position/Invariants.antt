-- `buffer::Buf::position` meets its contract. The invariant: the test failed so far.
use Rattle.buffer.specs.Posts.{Fails}
use Rattle.buffer.proofs.Buf.position.Given as goal

abbrev pub invariant-loop-i : goal.invariant-loop-i
invariant-loop-i g l = Fails (goal.F-post g l.test) l.self l.i
