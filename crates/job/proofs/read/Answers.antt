-- `job::read` meets its contract: what the decoder answers.
use mathlib.Core.Path.{sym}
use Rattle.job.specs.JobOf.{is_accepted}
use Rattle.job.proofs.read.Goals as goal

pub layout_of-layout-requires : goal.layout_of-layout-requires
layout_of-layout-requires c = is_accepted _ _ (sym c.in_ok-model.ensures)
