-- `buffer::Buf::joined_group` meets its contract: the newest, or behind a WFENCE the next.
use native.Mathlib.Numerals.{add-one}
use borrow.Author.Tests.{le-leb, lt-leb}
use Rattle.rules.specs.Step.{joined_group}
use Rattle.buffer.proofs.Buf.joined_group.Goals as goal

pub returns-then-self-ge-MARK_UNIT : goal.returns-then-self-ge-MARK_UNIT
unfolding joined_group
returns-then-self-ge-MARK_UNIT c = rw (le-leb _ _ c.if-self-ge-MARK_UNIT.true, add-one, c.newest_group-newest.ensures.0)

pub returns : goal.returns
unfolding joined_group
returns c = rw (lt-leb _ _ c.if-self-ge-MARK_UNIT.false) c.newest_group-newest.ensures.0
