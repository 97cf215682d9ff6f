-- Request 4 beside 01 alone: every program that was passed is passed still, and one that was OPEN by dead code alone is FENCED.
use Rattle.std.specs.Prelude.{refl}
use Rattle.std.proofs.Common.{subst}
use Rattle.reach.specs.ListLaws.{all_nth}
use Rattle.rules.specs.File.{job_of}
use Rattle.rules.specs.Fences.{fenced, ChecksTo}
use Rattle.rules.specs.Jobs.{parked_store}
use Rattle.rules.specs.Claims.{fences_say, case, CaseHolds, Meant, row_accepts}
use Rattle.rules.specs.Pins.{pins}
use Rattle.rules.proofs.Worked.{pinned}
use Rattle.rules.specs.DeadCode.{PassedBefore, parked_code, parked_thread, parked_pair}

-- it was OPEN and is FENCED
pub more_are_passed : (¬ (PassedBefore (job_of parked_store).threads)) × ChecksTo (job_of parked_store).threads fenced
unfolding pins
more_are_passed = (
  λ before. before 0 1 2 parked_code parked_thread parked_pair,
  subst (Meant 640 (fences_say fenced)) (row_accepts pins pinned 13 640 parked_store (fences_say fenced) refl refl)
      (all_nth CaseHolds pins pinned 13 (case 640 parked_store (fences_say fenced)) refl),
)
