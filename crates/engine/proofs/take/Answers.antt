-- `engine::take` meets its contract: below 4 a thread executes, from 4 on it flushes.
use mathlib.Core.Path.{sym}
use Prim.Native.Nat.{◌<◌}
use native.Mathlib.Omega.{arith}
use Rattle.rules.specs.Limits.{step_bound}
use Rattle.rules.specs.File.{job_of}
use Rattle.rules.specs.Step.{flush_thread, flush_variable}
use Rattle.state.specs.Held.{held}
use Rattle.state.proofs.PartLaws.{holds_as}
use Rattle.engine.specs.Mask.{may_below}
use Rattle.engine.proofs.StepLaws.{after_of_flush}
use Rattle.engine.proofs.take.Goals as goal

pub flush-requires : goal.flush-requires
flush-requires c =
    let below : c.args.s < step_bound = may_below (job_of _) (held c.args.x) _ c.requires.may_be_taken in
    record { at = record { ok = c.requires.at.ok; thread = omega arith }; is_variable = omega arith }

pub returns : goal.returns
unfolding flush_thread flush_variable
returns c = holds_as c.flush.ensures (sym (after_of_flush _ _ _ c.if-s-lt-MOST_THREADS.false))
