-- `tables::place_clause` meets its contract: a place past the thread's end is refused, whatever the other bytes are.
use mathlib.Core.Bool.{and-true}
use borrow.Author.Tests.{le-leb}
use native.Mathlib.Omega.{arith}
use Rattle.rules.specs.File.{zero_ok}
use Rattle.tables.proofs.ToldLaws.{told_given}
use Rattle.tables.proofs.place_clause.Goals as goal

pub returns-then-c-from : goal.returns-then-c-from
unfolding zero_ok
returns-then-c-from c = rw (le-leb c.args.c c.args.n (omega (arith, c.from.ensures, c.if-c-from.true)), and-true, c.then_some.ensures) (told_given _ _)
