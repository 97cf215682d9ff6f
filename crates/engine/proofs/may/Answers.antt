-- `engine::may` meets its contract: below T a thread executes, from 4 on one flushes to a variable below V, and there is no other step.
use mathlib.Core.Path.{sym, ◌∙◌}
use mathlib.Core.Logic.{inl, inr}
use Rattle.buffer.specs.Posts.{stores_held}
use Rattle.rules.specs.Step.{flush_thread, flush_variable}
use Rattle.engine.proofs.StepLaws.{may_of_execute, may_of_flush, no_execute, no_flush, few_threads, thread_there, thread_low, thread_absent, variable_there, variable_absent}
use Rattle.job.specs.JobOf.{accepted_job}
use Rattle.engine.proofs.may.Goals as goal
use Rattle.engine.proofs.may.Goals.{else-t-job-via-then-t-job+else-v-job, else-t-job-via-else-t-job}

pub returns-then-s-job : goal.returns-then-s-job
returns-then-s-job c =
    let a = accepted_job c.args.job.now in
    let below = c.if-s-job.true in
    c.may_execute.ensures
    ∙ may_of_execute _ _ _ (thread_low a below) (thread_there a below) c.place.ensures (stores_held c.buffer.ensures)

pub returns-then-v-job : goal.returns-then-v-job
unfolding flush_thread flush_variable
returns-then-v-job c =
    let a = accepted_job c.args.job.now in
    c.may_flush.ensures
    ∙ may_of_flush _ _ _ c.if-s-ge-MOST_THREADS.true (few_threads a)
    (thread_there a c.if-t-job.true) (variable_there a c.if-v-job.true)
    a.laid.model (stores_held c.buffer-then-v-job.ensures)

pub returns-else-t-job : goal.returns-else-t-job
unfolding flush_thread flush_variable
returns-else-t-job c =
    let a = accepted_job c.args.job.now in
    let low = c.if-s-ge-MOST_THREADS.true in
    sym
    (elim c.else-t-job.branch [
      | else-t-job-via-then-t-job+else-v-job w ↦ no_flush _ _ _ low (inr (variable_absent a w.if-v-job.false))
      | else-t-job-via-else-t-job w ↦ no_flush _ _ _ low (inl (thread_absent a w.if-t-job.false))
    ])

pub returns-else-s-ge-MOST_THREADS : goal.returns-else-s-ge-MOST_THREADS
returns-else-s-ge-MOST_THREADS c = sym (no_execute _ _ _ c.if-s-ge-MOST_THREADS.false (thread_absent (accepted_job c.args.job.now) c.if-s-job.false))
