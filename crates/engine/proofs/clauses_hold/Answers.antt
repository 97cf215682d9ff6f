use mathlib.Core.Path.{sym, ◌∙◌}
use native.Mathlib.Omega.{arith}
use Rattle.rules.specs.File.{job_of}
use Rattle.rules.specs.Goal.{clause_holds}
use Rattle.engine.proofs.EveryLaws.{test_first, tests_end}
use Rattle.engine.proofs.GoalLaws.{clause_read, clause_ok, clause_there}
use Rattle.engine.proofs.clauses_hold.Goals as goal

pub clause_holds-requires-clause-clause_ok : goal.clause_holds-requires-clause-clause_ok
clause_holds-requires-clause-clause_ok c =
    let read = c.clause_at in
    clause_ok (job_of _) _ read.result read.ensures c.args.job.now.in_range _ c.in-Some.is

pub returns-then-not-clause_holds : goal.returns-then-not-clause_holds
returns-then-not-clause_holds c =
    let l = c.loop-i in
    let read = c.clause_at in
    let there = clause_read (job_of _) _ read.result read.ensures _ c.in-Some.is in
    sym (l.invariant ∙ test_first (clause_holds _) (job_of _).clauses l.i _ there (sym c.clause_holds.ensures ∙ c.if-not-clause_holds.true))

pub returns-in_default : goal.returns-in_default
returns-in_default c =
    let read = c.clause_at in
    absurd
    (clause_there (job_of _) _ read.result read.ensures c.in_default.is (omega (arith, c.loop-i-test.true, c.clause_count-i-end.ensures)))

pub loop-i-preserved : goal.loop-i-preserved
loop-i-preserved c =
    let l = c.loop-i in
    let read = c.clause_at in
    let there = clause_read (job_of _) _ read.result read.ensures _ c.in-Some.is in
    l.invariant ∙ test_first (clause_holds _) (job_of _).clauses l.i _ there (sym c.clause_holds.ensures ∙ c.if-not-clause_holds.false)

pub returns : goal.returns
returns c =
    let l = c.loop-i in
    sym (l.invariant ∙ tests_end (clause_holds _) (job_of _).clauses l.i (omega (arith, c.loop-i-test.false, c.clause_count-i-end.ensures)))
