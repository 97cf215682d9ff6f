-- `engine::execute` meets its contract: the instruction that was read is the one at the thread's place.
use mathlib.Core.Path.{refl}
use Rattle.rules.specs.Step.{after_execute}
use Rattle.rules.specs.File.{job_of}
use Rattle.rules.specs.Keeps.{buffer_in}
use Rattle.rules.specs.SlotLaws.{group_fits}
use Rattle.state.proofs.PartLaws.{holds_as}
use Rattle.engine.proofs.StepLaws.{operands_by_read, free_by_read, after_by_read}
use Rattle.job.specs.JobOf.{accepted_job}
use Rattle.engine.proofs.execute.Goals as goal

pub execute-requires-clause-instr_ok : goal.execute-requires-clause-instr_ok
execute-requires-clause-instr_ok c = operands_by_read (accepted_job c.args.job.now) _ _ c.instruction_at.ensures c.in-Some.is

pub execute-requires-clause-may_be_taken : goal.execute-requires-clause-may_be_taken
execute-requires-clause-may_be_taken c =
    free_by_read (accepted_job c.args.job.now) _ _ c.instruction_at.ensures _ c.requires.is_thread c.place.ensures c.in-Some.is c.requires.may_be_taken

pub execute-requires-clause-group_fits : goal.execute-requires-clause-group_fits
execute-requires-clause-group_fits c =
    let a = c.requires.at in
    group_fits (job_of _) c.args.job.now.in_range _ (buffer_in (job_of _) _ a.well _)

pub returns-in-Some : goal.returns-in-Some
unfolding after_execute
returns-in-Some c =
    let read = c.instruction_at in
    let place = c.place in
    holds_as c.execute.ensures
    (after_by_read (accepted_job c.args.job.now) _ _ read.ensures _ c.requires.is_thread place.ensures c.in-Some.is)

pub returns-in-None : goal.returns-in-None
unfolding after_execute
returns-in-None c =
    let read = c.instruction_at in
    let place = c.place in
    holds_as (record { ok = c.requires.at.ok; is = refl })
    (after_by_read (accepted_job c.args.job.now) _ _ read.ensures _ c.requires.is_thread place.ensures c.in-None.is)
