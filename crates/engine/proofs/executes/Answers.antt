use Rattle.std.specs.Prelude.{is_ok}
use mathlib.Core.Path.{refl, sym, ap, ◌∙◌}
use native.Mathlib.Omega.{arith}
use Rattle.rules.specs.File.{job_of}
use Rattle.rules.specs.State.{place}
use Rattle.rules.specs.Step.{enabled_below}
use Rattle.buffer.specs.Posts.{stores_held}
use Rattle.state.specs.Held.{held}
use Rattle.state.proofs.PartLaws.{buffer_read}
use Rattle.engine.specs.Mask.{enabled_builds}
use Rattle.engine.proofs.MaskLaws.{enabled_fits_below, enabled_more, absent_execute_none}
use Rattle.engine.proofs.StepLaws.{may_of_execute, few_threads, thread_there, thread_low, all_threads}
use Rattle.job.specs.JobOf.{accepted_job}
use Rattle.engine.proofs.executes.Goals as goal

pub loop-t-init : goal.loop-t-init
loop-t-init c = sym (enabled_builds (job_of _) _).start

pub with_bit-mask-requires : goal.with_bit-mask-requires
with_bit-mask-requires c =
    let a = accepted_job c.args.job.now in
    let low = thread_low a c.loop-t-test.true in
    let l = c.loop-t in
    record { in_width = omega (arith, low); free = rw l.invariant (enabled_fits_below (job_of _) _ _) }

pub loop-t-preserved : goal.loop-t-preserved
unfolding place held
loop-t-preserved c =
    let a = accepted_job c.args.job.now in
    let below = c.loop-t-test.true in
    let low = thread_low a below in
    let l = c.loop-t in
    let may =
    c.may_execute.ensures
    ∙ may_of_execute _ _ _ low (thread_there a below) refl (stores_held (buffer_read _ c.requires.ok _ low)) in
    enabled_more (job_of _) _ _ _ _ _ l.invariant (c.is_ok-on.ensures.value ∙ ap is_ok may) c.with_bit-mask.ensures

pub returns : goal.returns
returns c =
    let a = accepted_job c.args.job.now in
    let l = c.loop-t in
    l.invariant ∙ ap (enabled_below (job_of _) _) (all_threads a l.auto.t-end c.loop-t-test.false) ∙ absent_execute_none (job_of _) _ (few_threads a)
