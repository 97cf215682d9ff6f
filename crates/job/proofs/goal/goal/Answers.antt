-- `job::goal::goal` meets its contract: the flag, K and as many clauses over the threads, and no byte more.
use Rattle.std.proofs.Common.{rules}
use mathlib.Core.Path.{sym, ◌∙◌, ◌≡◌}
use borrow.Author.Tests.{eq-eqb, ne_eqb}
use lib.ListN.{get_or}
use Rattle.rules.specs.File.{in_range, flag_of, times, clause}
use Rattle.readers.specs.Passed.{vars_in, came_to, passed}
use Rattle.job.specs.Stages.{width_in, threads_of, clauses_stage, goal_stage}
use Rattle.readers.proofs.Readers.{came_to_err, times_repeated}
use Rattle.readers.proofs.Fields.{same_field, flag_has, field_passed}
use Rattle.job.proofs.goal.goal.Goals as goal
use Rattle.job.proofs.goal.goal.Goals.{After-times}

pub returns-in_err-count_at : goal.returns-in_err-count_at
unfolding goal_stage
returns-in_err-count_at c =
    let e = c.from_residual.ensures.1 in
    came_to_err _ _ e ∙ rw (same_field flag_of (in_range 0 1) flag_has _ 5 _, ← c.in_err-count_at.ensures)

pub returns-in_err-first : goal.returns-in_err-first
unfolding goal_stage clauses_stage
returns-in_err-first c =
    let e = c.from_residual-in_err-first.ensures.1 in
    came_to_err _ _ e ∙ rw (same_field flag_of (in_range 0 1) flag_has _ 5 _, ← c.in_ok-count_at.ensures, ← c.in_err-first.ensures)

pub bounds-job-count_at : goal.bounds-job-count_at
bounds-job-count_at c = field_passed _ _ _ _ _ (sym c.in_ok-first.ensures)

-- how far the clauses come
clauses_came : (c : After-times) →
    let job = c.args.threads.now.bytes.now in
    came_to c.times.result
    ≡ passed (times (get_or job c.in_ok-count_at.count_at 0) (clause job (width_in job) (vars_in job) (threads_of job)) c.in_ok-first.first)
clauses_came c = c.times.ensures _ (λ at x fits called. search rules) ∙ times_repeated _ _ _

pub returns-in_err-end : goal.returns-in_err-end
unfolding goal_stage clauses_stage
returns-in_err-end c =
    let e = c.from_residual-in_err-end.ensures.1 in
    came_to_err _ _ e
    ∙ rw (same_field flag_of (in_range 0 1) flag_has _ 5 _, ← c.in_ok-count_at.ensures, ← c.in_ok-first.ensures, ← clauses_came (goal.at.returns-in_err-end c).After-times, c.in_err-end.was)

pub returns-then-end-job : goal.returns-then-end-job
unfolding goal_stage clauses_stage
returns-then-end-job c =
    rw (
      same_field flag_of (in_range 0 1) flag_has _ 5 _,
      ← c.in_ok-count_at.ensures,
      ← c.in_ok-first.ensures,
      ← clauses_came (goal.at.returns-then-end-job c).After-times,
      c.in_ok-end.was,
      eq-eqb _ _ c.if-end-job.true,
    )

pub returns-else-end-job : goal.returns-else-end-job
unfolding goal_stage clauses_stage
returns-else-end-job c =
    rw (
      c.at.ensures,
      same_field flag_of (in_range 0 1) flag_has _ 5 _,
      ← c.in_ok-count_at.ensures,
      ← c.in_ok-first.ensures,
      ← clauses_came (goal.at.returns-else-end-job c).After-times,
      c.in_ok-end.was,
      ne_eqb _ _ c.if-end-job.false,
    )
