-- The schedule while it is replayed: the steps before i lead to the state.
use Rattle.std.specs.Prelude.{◌≡◌, refl, Bool, true, false, List, ℕ, ◌+◌, ◌≤◌, ◌<◌, T, length, take, Ok, Err}
use Rattle.std.proofs.Common.{sym, ◌∙◌, ap, subst, arith, add-one, take_all}
use Rattle.std.proofs.Math.Option.{Option, some}
use Rattle.std.proofs.Math.ListN.{get_or, get_elem?}
use Rattle.reach.specs.ListLaws.{at_default, take_one_more}
use Rattle.reach.specs.Replay as reach
use Rattle.reach.specs.Meaning.{LeadsTo}
use Rattle.reach.specs.RunLaws.{snoc_run}
use Rattle.rules.specs.Job.{Job, start}
use Rattle.rules.specs.Step.{may, after, step, next}
use Rattle.rules.specs.declared.Reason.{Reason}
use Rattle.rules.specs.Goal.{goal}
use Rattle.rules.specs.File.{job_of}
use Rattle.rules.proofs.Keeps.{run_well_formed}
use Rattle.rules.specs.Machine.{machine}
use Rattle.rules.specs.Sound.{JobIn}
use Rattle.state.specs.Held.{held, StateOk}
use Rattle.state.specs.Parts.{Holds}
use Rattle.state.specs.declared.State.{State}
use Rattle.engine.specs.At.{At}
use Rattle.replay.specs.Meaning.{replayed_words, ReplayFor}

module _ (j : Job) (w : List ℕ) where
  pub record Stepping (s : State) (i : ℕ) : Type 0 where
    pub within : i ≤ length w
    pub ok : StateOk s
    pub leads : LeadsTo (machine j) (take i w) (held s)

  pub stepping_start : {s : State} → Holds s (start j) → Stepping s 0
  stepping_start h = record { within = omega arith; ok = h.ok; leads = ap {B = Option _} some (sym h.is) }

  module _ {s : State} {i : ℕ} (h : Stepping s i) (more : i < length w) where
    step_at : get_elem? w i ≡ some (get_or w i 0)
    step_at = at_default w i 0 more

    pub stepping_stuck : {why : Reason} → may j (get_or w i 0) (held s) ≡ Err why → ReplayFor j w (replayed_words (reach.stuck i why))
    unfolding step
    stepping_stuck {why} e =
        record {
          replayed = reach.stuck i why;
          means = record { there = held s; before = h.leads; step = get_or w i 0; step_at = step_at; not_enabled = rw e };
          answer = refl;
        }

    pub stepping_on : {y : State} → may j (get_or w i 0) (held s) ≡ Ok tt → Holds y (after j (get_or w i 0) (held s)) → Stepping y (i + 1)
    unfolding step
    stepping_on {y} e taken =
        let leads : next j (get_or w i 0) (held s) ≡ some (held y) = rw (e, taken.is) in
        record {
          within = omega arith;
          ok = taken.ok;
          leads =
              rw (add-one i, take_one_more w i (get_or w i 0) step_at)
              (snoc_run (machine j) (take i w) (get_or w i 0) (start j) (held y) (held s) h.leads leads);
        }

  module _ {s : State} {i : ℕ} (h : Stepping s i) (done : length w ≤ i) {b : Bool} (is_goal : b ≡ goal j (held s)) where
    all_run : LeadsTo (machine j) w (held s)
    all_run = subst (λ z. LeadsTo (machine j) z (held s)) (take_all i w done) h.leads

    pub stepping_reaches : b ≡ true → ReplayFor j w (replayed_words reach.reaches)
    stepping_reaches e =
        record { replayed = reach.reaches; means = (held s, all_run, subst T (sym e ∙ is_goal) tt); answer = refl }

    pub stepping_short : b ≡ false → ReplayFor j w (replayed_words reach.falls_short)
    stepping_short e =
        record { replayed = reach.falls_short; means = (held s, all_run, λ t. subst T (sym is_goal ∙ e) t); answer = refl }

-- the state is one of the job's machine
abbrev pub at_step :
    {bytes : List ℕ} → JobIn (job_of bytes) → {w : List ℕ} {s : State} {i : ℕ} → Stepping (job_of bytes) w s i → At bytes s
at_step {bytes} range {w} {s} {i} h =
    record { ok = h.ok; well = run_well_formed (job_of bytes) range (take i w) (held s) h.leads }
