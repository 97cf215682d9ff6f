use Rattle.std.proofs.Common.{◌≡◌, sym, ◌∙◌, ap, arith}
use Rattle.lent.specs.Parts.{Stands}
use Rattle.lent.specs.Looking.{looking_on, looking_found, looking_end}
use Rattle.rules.specs.File.{job_of}
use Rattle.rules.specs.Goal.{goal}
use Rattle.search.specs.Coded.{coding}
use Rattle.search.specs.Read.{read_at, read_is}
use Rattle.search.proofs.find_goal.Goals as goal
use Rattle.search.proofs.find_goal.Goals.{After-goal}

pub goal-requires : goal.goal-requires
goal-requires c = read_at _ c.args.job.now.in_range _ _ (c.requires.stand _ c.loop-i-test.true) _ c.read_slot.ensures

-- the test is that of the state which stands there
tested :
    (c : After-goal) → (at : Stands (coding (job_of c.args.job.now.bytes.now)) c.args.table.now c.loop-i.i) →
    goal (job_of c.args.job.now.bytes.now) at.state ≡ c.goal.result
tested c at = sym (c.goal.ensures ∙ ap (goal _) (read_is _ c.args.job.now.in_range _ _ at _ c.read_slot.ensures))

pub returns-then-goal : goal.returns-then-goal
returns-then-goal c =
    (c.loop-i-test.true, looking_found _ _ _ _ _ c.loop-i.invariant (λ at. tested (goal.at.returns-then-goal c).After-goal at ∙ c.if-goal.true))

pub loop-i-preserved : goal.loop-i-preserved
loop-i-preserved c = looking_on _ _ _ _ _ c.loop-i.invariant c.loop-i-test.true (λ at. tested (goal.at.loop-i-preserved c).After-goal at ∙ c.if-goal.false)

pub returns : goal.returns
returns c =
    let all : c.loop-i.i ≡ c.args.count = omega (arith, c.loop-i.invariant.within, c.loop-i-test.false) in
    rw all at (looking_end _ _ _ _ _ c.loop-i.invariant c.loop-i-test.false)
