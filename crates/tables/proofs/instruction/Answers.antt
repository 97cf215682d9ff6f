-- `tables::instruction` meets its contract: each arm is its row of the table, and past the table's end nothing is given.
use mathlib.Core.Path.{◌≡◌}
use mathlib.Core.Option.{none}
use Prim.Native.Nat.{ℕ, ◌+◌, ◌≤◌}
use native.Mathlib.Omega.{arith}
use lib.ListN.{get_or-eq_default}
use Rattle.rules.specs.File.{instruction_of, register_ok, zero_ok, from_second}
use Rattle.tables.proofs.ToldLaws.{told_given}
use Rattle.tables.proofs.instruction.Goals as goal

pub returns-in-1 : goal.returns-in-1
unfolding instruction_of register_ok zero_ok
returns-in-1 c = rw (c.in-1.is, c.then_some.ensures) (told_given _ _)

pub returns-in-2 : goal.returns-in-2
unfolding instruction_of register_ok zero_ok
returns-in-2 c = rw (c.in-2.is, ← c.width.ensures, c.then_some-in-2.ensures) (told_given _ _)

pub returns-in-3 : goal.returns-in-3
unfolding instruction_of register_ok zero_ok
returns-in-3 c = rw (c.in-3.is, c.then_some-in-3.ensures) (told_given _ _)

pub returns-in-4 : goal.returns-in-4
unfolding instruction_of register_ok zero_ok
returns-in-4 c = rw (c.in-4.is, c.then_some-in-4.ensures) (told_given _ _)

pub returns-in-5 : goal.returns-in-5
unfolding instruction_of register_ok zero_ok
returns-in-5 c = rw (c.in-5.is, c.then_some-in-5.ensures) (told_given _ _)

pub returns-in-6 : goal.returns-in-6
unfolding instruction_of register_ok zero_ok
returns-in-6 c = rw (c.in-6.is, c.then_some-in-6.ensures) (told_given _ _)

pub returns-in-7 : goal.returns-in-7
unfolding instruction_of register_ok zero_ok
returns-in-7 c = rw (c.in-7.is, c.then_some-in-7.ensures) (told_given _ _)

pub returns-in-8 : goal.returns-in-8
unfolding instruction_of register_ok zero_ok
returns-in-8 c = rw (c.in-8.is, c.then_some-in-8.ensures) (told_given _ _)

pub returns-in-9 : goal.returns-in-9
unfolding instruction_of register_ok zero_ok
returns-in-9 c = rw (c.in-9.is, c.then_some-in-9.ensures) (told_given _ _)

pub returns-in-10 : goal.returns-in-10
unfolding instruction_of register_ok from_second
returns-in-10 c = rw (c.in-10.is, c.then_some-in-10.ensures) (told_given _ _)

pub returns-in-11 : goal.returns-in-11
unfolding instruction_of zero_ok from_second
returns-in-11 c = rw (c.in-11.is, c.then_some-in-11.ensures) (told_given _ _)

pub returns-in-0 : goal.returns-in-0
unfolding instruction_of
returns-in-0 c = rw c.in-0.in-0-own.keys12

-- omega tells at most six numbers from one
five-more : (n k : ℕ) → k ≤ n → ¬ (n ≡ k) → ¬ (n ≡ k + 1) → ¬ (n ≡ k + 2) → ¬ (n ≡ k + 3) → ¬ (n ≡ k + 4) → k + 5 ≤ n
five-more n k h a b c d e = omega arith

two_more : (n k : ℕ) → k ≤ n → ¬ (n ≡ k) → ¬ (n ≡ k + 1) → k + 2 ≤ n
two_more n k h a b = omega arith

beyond : (version vars n op a b c : ℕ) → 12 ≤ op → none ≡ instruction_of version vars n op a b c
unfolding instruction_of
beyond version vars n op a b c h = rw (get_or-eq_default _ _ h)

pub returns-in-0-2 : goal.returns-in-0-2
returns-in-0-2 c =
    let op = c.args.i.op in
    let r = c.in-0.in-0-own.rest in
    let q = r.0.0.0 in
    let s = q.0.0.0.0 in
    let low = five-more op 0 (omega arith) r.1 s.0.0.0.0.1 s.0.0.0.1 s.0.0.1 s.0.1 in
    let high = five-more op 5 low s.1 q.0.0.0.1 q.0.0.1 q.0.1 q.1 in
    beyond _ _ _ _ _ _ _ (two_more op 10 high r.0.0.1 r.0.1)
