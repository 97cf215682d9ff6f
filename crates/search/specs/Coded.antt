-- A job's machine with its states as slots: an instance of the theory of searching in lent memory.
use Rattle.std.proofs.Common.{arith}
use Rattle.reach.specs.Meaning.{Reached}
use Rattle.lent.specs.Coding.{Coding, Faithful}
use Rattle.rules.specs.Limits.{slot_size}
use Rattle.rules.specs.State.{State}
use Rattle.rules.specs.Job.{Job}
use Rattle.rules.specs.Slot.{slot_bytes}
use Rattle.rules.specs.Machine.{machine}
use Rattle.rules.specs.Same.{searchable}
use Rattle.rules.specs.Sound.{JobIn, WellFormed}
use Rattle.rules.proofs.Keeps.{run_well_formed}
use Rattle.rules.specs.SlotLaws.{slot_bytes_number, slot_bytes_equal}

abbrev pub coding : Job → Coding
coding j = record { searched = searchable j; size = slot_size; bytes = slot_bytes }

module _ (j : Job) (in_range : JobIn j) where
  pub reached_well_formed : (x : State) → Reached (machine j) x → WellFormed j x
  reached_well_formed x h = run_well_formed j in_range h.way x h.leads

  pub faithful : Faithful (coding j)
  faithful =
      record {
        sized = λ x h. slot_bytes_number j in_range x (reached_well_formed x h);
        apart = λ x y h k. slot_bytes_equal j in_range x y (reached_well_formed x h) (reached_well_formed y k);
        few_steps = omega arith;
      }
