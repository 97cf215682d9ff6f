-- The third demand of the bench: a program that the fence check passes reaches the same states with empty buffers under TSO, at any
-- capacity, as under SC. So no two searches of it contradict each other, if the goal asks for empty buffers.
use Rattle.std.specs.Prelude.{◌↔◌, ℕ, ◌≤◌}
use Rattle.std.proofs.Common.{subst}
use Rattle.reach.specs.Meaning.{Reached}
use Rattle.rules.specs.State.{State}
use Rattle.rules.specs.Job.{Job, start}
use Rattle.rules.specs.Machine.{machine}
use Rattle.rules.specs.Fences.{fenced, ChecksTo}
use Rattle.rules.specs.Sound.{JobIn}
use Rattle.rules.specs.declared.Model.TheVariants.{Sc, Tso}
pub use Rattle.signed.specs.Under.{under, AllEmpty, all_empty_test}
use Rattle.signed.specs.Live.{start_live}
use Rattle.signed.specs.Calm.{start_calm}
use Rattle.signed.specs.ScToTso.{sc_to_tso}
use Rattle.signed.specs.Delayed.{start_delayed, delayed_empty}
use Rattle.signed.proofs.TsoToSc.{followed}

-- "For each program it passes, a machine state with every buffer empty can be reached under TSO, at any permitted capacity, exactly when
-- it can be reached under SC from the same start."
pub signed : (j : Job) → JobIn j → ChecksTo j.threads fenced → (c : ℕ) → 1 ≤ c → (x : State) → AllEmpty x
    → Reached (machine (under Tso c j)) x ↔ Reached (machine (under Sc 0 j)) x
unfolding start
signed j ok passes c room x empty = (
  λ r.
      let f = followed j ok passes c r.way (start j) (start j) x (start_live j) (start_delayed j) r.leads in
      subst (Reached (machine (under Sc 0 j))) (delayed_empty j f.state x f.delayed empty) (record { way = f.way; leads = f.leads }),
  λ r.
      let f = sc_to_tso j ok c room r.way (start j) x (start_calm j) r.leads in
      record { way = f.0; leads = f.1 },
)
