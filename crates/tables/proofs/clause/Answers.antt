-- `tables::clause` meets its contract: each arm is its row of the table, and past the table's end nothing is given.
use mathlib.Core.Path.{◌≡◌}
use mathlib.Core.Option.{none}
use Prim.Native.Nat.{ℕ, ◌≤◌}
use native.Mathlib.Omega.{arith}
use lib.ListN.{get_or-eq_default}
use Rattle.rules.specs.File.{clause_of, register_ok, zero_ok}
use Rattle.tables.proofs.ToldLaws.{told_given}
use Rattle.tables.proofs.clause.Goals as goal

pub returns-in-1 : goal.returns-in-1
unfolding clause_of
returns-in-1 c = rw c.in-1.is c.place_clause.ensures

pub returns-in-2 : goal.returns-in-2
unfolding clause_of register_ok zero_ok
returns-in-2 c = rw (c.in-2.is, c.then_some.ensures) (told_given _ _)

pub returns-in-3 : goal.returns-in-3
unfolding clause_of register_ok zero_ok
returns-in-3 c = rw (c.in-3.is, c.then_some-in-3.ensures) (told_given _ _)

pub returns-in-0 : goal.returns-in-0
unfolding clause_of
returns-in-0 c = rw c.in-0.in-0-own.keys4

beyond : (vars count n kind a b c : ℕ) → 4 ≤ kind → none ≡ clause_of vars count n kind a b c
unfolding clause_of
beyond vars count n kind a b c h = rw (get_or-eq_default _ _ h)

pub returns-in-0-2 : goal.returns-in-0-2
returns-in-0-2 c = beyond _ _ _ c.args.i.op _ _ _ (omega (arith, c.in-0.in-0-own.rest))
