-- `job::behind_head` meets its contract: the initial values are there or not; then the threads and the goal decide.
use mathlib.Core.Path.{◌≡◌, sym, ap, ◌∙◌}
use Prim.Native.Nat.{◌+◌, ◌*◌}
use native.Mathlib.Omega.{arith}
use Rattle.rules.specs.Limits.{head_size, value_size}
use Rattle.readers.specs.Passed.{At, came_to, count_in, passed}
use Rattle.readers.proofs.Readers.{came_to_err}
use Rattle.job.specs.Stages.{width_in, values_stage, values_end, threads_read, rest_stage}
use Rattle.job.proofs.StageLaws.{values_stage_there, values_stage_missing}
use Rattle.job.proofs.behind_head.Goals as goal
use Rattle.job.proofs.behind_head.Goals.{After-threads, After-value_size-size, After-from, Else-job-start, Then-job-start}

size_is : (c : After-value_size-size) → c.value_size-size.result ≡ value_size (width_in c.args.job.now)
size_is c = c.value_size-size.ensures ∙ ap value_size c.width.ensures

start_is : (c : After-from) → head_size + c.value_size-size.result * c.from.result ≡ values_end c.args.job.now
start_is c = rw ((c.value_size-size.ensures ∙ ap value_size c.width.ensures), c.from.ensures)

values_there : (c : Else-job-start) → let bytes = c.args.job.now in values_stage bytes ≡ At (values_end bytes)
values_there c =
    let start : head_size + c.value_size-size.result * c.from.result ≡ values_end c.args.job.now = rw (c.value_size-size.ensures ∙ ap value_size c.width.ensures, c.from.ensures) in
    values_stage_there _ (rw (← start) (omega arith))

threads_are : (c : After-threads) →
    let bytes = c.args.job.now in
    came_to c.threads.result ≡ passed (threads_read bytes (count_in bytes))
unfolding threads_read
threads_are c =
    let start : head_size + c.value_size-size.result * c.from.result ≡ values_end c.args.job.now = rw (c.value_size-size.ensures ∙ ap value_size c.width.ensures, c.from.ensures) in
    rw start at c.threads.ensures

-- those that are whole end within the bytes
pub returns-then-job-start : goal.returns-then-job-start
unfolding rest_stage
returns-then-job-start c =
    rw (c.at.ensures, values_stage_missing c.args.job.now c.requires.there (rw (← start_is (goal.at.returns-then-job-start c).After-from) (omega arith)), size_is (goal.at.returns-then-job-start c).After-value_size-size)

pub starts-starts-requires : goal.starts-starts-requires
starts-starts-requires c =
    record {
      head = c.requires;
      end = _;
      read = sym (threads_are (goal.at.starts-starts-requires c).After-threads) ∙ ap came_to c.in_ok-threads.was;
    }

pub returns-in_err-threads : goal.returns-in_err-threads
unfolding rest_stage
returns-in_err-threads c =
    let e = c.from_residual.ensures.1 in
    came_to_err _ _ e
    ∙ rw (values_there (goal.at.returns-in_err-threads c).Else-job-start, ← threads_are (goal.at.returns-in_err-threads c).After-threads, c.in_err-threads.was)

pub returns : goal.returns
unfolding rest_stage
returns c = rw (values_there (goal.at.returns c).Else-job-start, c.starts-starts.ensures.goal) c.goal.ensures
