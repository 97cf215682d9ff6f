use mathlib.Core.Path.{ap, ◌∙◌}
use Prim.Native.Nat.{◌+◌, ◌*◌}
use Rattle.buffer.specs.Posts.{stores_held}
use Rattle.rules.specs.Limits.{most_threads, most_variables}
use Rattle.rules.specs.File.{job_of}
use Rattle.rules.specs.Step.{enabled_below, enabled}
use Rattle.state.proofs.PartLaws.{buffer_read}
use Rattle.engine.proofs.MaskLaws.{enabled_fits_below, absent_threads_add_none}
use Rattle.engine.proofs.StepLaws.{few_threads, thread_there, thread_low, all_threads}
use Rattle.job.specs.JobOf.{accepted_job}
use Rattle.engine.proofs.enabled.Goals as goal

pub flushes-mask-requires-clause-only_steps_before : goal.flushes-mask-requires-clause-only_steps_before
flushes-mask-requires-clause-only_steps_before c = rw c.loop-t.invariant (enabled_fits_below (job_of _) _ _)

pub loop-t-preserved : goal.loop-t-preserved
loop-t-preserved c =
    let a = accepted_job c.args.job.now in
    let below = c.loop-t-test.true in
    let own = stores_held (buffer_read _ c.requires.ok _ (thread_low a below)) in
    c.flushes-mask.ensures (job_of _) _ (record { model = a.laid.model; variables = a.laid.vars; thread = thread_there a below; stores = own })
    c.loop-t.invariant

pub returns : goal.returns
unfolding enabled
returns c =
    let a = accepted_job c.args.job.now in
    let l = c.loop-t in
    l.invariant
    ∙ ap (enabled_below (job_of _) _) (ap (λ t. most_threads + most_variables * t) (all_threads a l.auto.t-end c.loop-t-test.false))
    ∙ absent_threads_add_none (job_of _) _ (few_threads a)
