-- `buffer::Buf::marked` meets its contract: 128 is added behind a store, and an empty buffer stays empty.
use native.Mathlib.Omega.{arith}
use Rattle.buffer.proofs.GroupLaws.{none_marked, marks}
use Rattle.buffer.proofs.Buf.marked.Goals as goal

pub returns-then-n-eq0 : goal.returns-then-n-eq0
returns-then-n-eq0 c =
    none_marked c.args.self c.requires c.empty.result c.if-n-eq0.true c.empty.ensures

pub returns : goal.returns
returns c =
    marks c.args.self c.requires (omega (arith, c.if-n-eq0.false))
