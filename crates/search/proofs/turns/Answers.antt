use Rattle.std.proofs.Common.{refl, ◌∙◌, ap, List, ◌++◌, ℕ, drop, length, arith}
use Rattle.reach.specs.WalkBack.{walk_back}
use Rattle.lent.specs.Meaning.{Lent}
use Rattle.lent.specs.Levels.{put_first, goal_walkable}
use Rattle.lent.proofs.Levels.{answered_reachable, answered_unreachable, answered_unknown}
use Rattle.lent.specs.Searching.{searching_level}
use Rattle.lent.proofs.Searching.{searching_start, searching_state}
use Rattle.search.specs.Coded.{faithful}
use Rattle.search.specs.Whole.{laid_out, put_laid}
use Rattle.search.proofs.turns.Goals as goal
use Rattle.search.proofs.turns.Goals.{Start}

-- the memory as it was lent
abbrev lent : Start → Lent
lent c = record { table = c.args.table.now; links = c.args.links.now; schedule = c.args.schedule.now }

pub turns-init : goal.turns-init
turns-init c =
    let done = put_laid _ _ _ _ _ _ _ (laid_out _ _ c.start.ensures _ c.bytes_of-start.ensures) _ _ _ _ _ c.put_first-front.ensures in (
      searching_start _ (faithful _ c.args.job.now.in_range) _ (lent (goal.at.turns-init c).Start) c.requires.lends c.requires.some_slot _
          (put_first _ _ _ _ _ _ refl refl c.requires.some_slot done.put),
      refl,
      done.ready,
    )

pub write_schedule-requires : goal.write_schedule-requires
write_schedule-requires c =
    let s = c.turns.invariant.0 in (
      omega (arith, s.deep, s.counted, s.holds.few, c.requires.steps, ap length c.turns.invariant.1),
      goal_walkable _ (faithful _ c.args.job.now.in_range) _ (lent (goal.at.write_schedule-requires c).Start) c.requires.lends _ _ _ (s.whole (omega arith)) _ c.in-Some.ensures.1 c.in-Some.ensures.0,
    )

pub returns-in-Some : goal.returns-in-Some
returns-in-Some c =
    let loop = c.turns in
    let written = ap (λ (z : List ℕ). walk_back loop.links loop.d c.in-Some.goal ++ drop loop.d z) loop.invariant.1 in
    answered_reachable _ (faithful _ c.args.job.now.in_range) _ (lent (goal.at.returns-in-Some c).Start) c.requires.lends _ _ _ (loop.invariant.0.whole (omega arith)) _ c.in-Some.ensures.1 c.in-Some.ensures.0 _
    (c.write_schedule.ensures ∙ written)

pub returns-then-count-mark : goal.returns-then-count-mark
returns-then-count-mark c =
    rw c.turns.invariant.1
    (answered_unreachable _ (faithful _ c.args.job.now.in_range) _ (lent (goal.at.returns-then-count-mark c).Start) c.requires.lends _ _ _ (c.turns.invariant.0.whole (omega arith)) _ c.in_default.ensures (omega arith) c.if-count-mark.true)

pub loop-next-init : goal.loop-next-init
loop-next-init c = (
  searching_level _ (faithful _ c.args.job.now.in_range) _ (lent (goal.at.loop-next-init c).Start) c.requires.lends _ _ _ _ c.turns.invariant.0 (omega arith) _ c.in_default.ensures (omega arith) c.if-count-mark.false,
  c.turns.invariant.1,
  c.turns.invariant.2,
)

pub returns-then-front : goal.returns-then-front
returns-then-front c =
    rw c.loop-next.invariant.1
    (answered_unknown _ (faithful _ c.args.job.now.in_range) _ (lent (goal.at.returns-then-front c).Start) c.requires.lends _ _ _ _ (c.loop-next.invariant.0.growing (omega arith)) (omega arith) _ c.expand-front.ensures.expanded c.if-front.true)

pub loop-next-preserved : goal.loop-next-preserved
loop-next-preserved c = (
  searching_state _ (faithful _ c.args.job.now.in_range) _ (lent (goal.at.loop-next-preserved c).Start) c.requires.lends _ _ _ _ c.loop-next.invariant.0 (omega arith) _ c.expand-front.ensures.expanded c.if-front.false,
  c.loop-next.invariant.1,
  c.expand-front.ensures.ready,
)
