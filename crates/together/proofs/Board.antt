-- Search SC, sign for TSO: the third demand about the answers that the searches give, whatever memory was lent to each, with an index or
-- without: of any numbers of slots.
use Rattle.std.specs.Prelude.{◌≡◌, ◌↔◌, true, List, ℕ}
use Rattle.std.proofs.Common.{sym, subst}
use Rattle.reach.specs.Meaning.{Reached, NoGoal}
use Rattle.rules.specs.State.{State}
use Rattle.rules.specs.Job.{Job}
use Rattle.rules.specs.Machine.{machine}
use Rattle.fences.specs.Meaning.{FencePromise}
use Rattle.rules.specs.declared.Model.TheVariants.{Tso}
use Rattle.signed.specs.Under.{under, AllEmpty}
use Rattle.signed.proofs.Signed as signed
use Rattle.signed.proofs.NeverContradict as contradiction
use Rattle.lent.specs.Meaning.{Lent}
use Rattle.search.specs.Meaning.{SearchedIn}
use Rattle.together.specs.Answered.{reachable_words, unreachable_words, FoundIn, RuledOutIn, fenced_words, found, ruled_out}
use Rattle.together.specs.Board.{OfOneJob, passes, ok, room, as_it_stands}

module _ (sc tso : List ℕ) (j : Job) (c : ℕ) (files : OfOneJob sc tso j c) (check : FencePromise sc fenced_words) where
  -- a state with every buffer empty is reached under TSO exactly when it is under SC
  pub reached_alike : (x : State) → AllEmpty x → Reached (machine (under Tso c j)) x ↔ Reached (machine j) x
  reached_alike x empty = subst (λ z. Reached (machine (under Tso c j)) x ↔ Reached (machine z) x) (as_it_stands sc tso j c files check)
      (signed.signed j (ok sc tso j c files check) (passes sc tso j c files check) c (room sc tso j c files check) x empty)

  module _ (flag : j.all_empty ≡ true) where
    -- SC searched and found unreachable: no schedule of any length reaches a goal under TSO, at the capacity that the second file says
    pub sign_for_tso : (N : ℕ) (m m' : Lent) (n : ℕ) → SearchedIn N sc m (unreachable_words n) m' → NoGoal (machine (under Tso c j))
    sign_for_tso N m m' n h =
        let r = ruled_out sc j files.sc_is N m m' n h in
        (contradiction.no_goal_alike j (ok sc tso j c files check) (passes sc tso j c files check) flag c (room sc tso j c files check)).1 (subst (λ z. NoGoal (machine z)) (sym (as_it_stands sc tso j c files check)) r.means.no_goal)

    -- the two searches never contradict each other
    pub never_contradict : (N M : ℕ) (m m' l l' : Lent) (d n k : ℕ)
        → SearchedIn N tso m (reachable_words d n) m' → SearchedIn M sc l (unreachable_words k) l' → ⊥
    never_contradict N M m m' l l' d n k h u =
        let f = found tso (under Tso c j) files.tso_is N m m' d n h in
        let r = subst (λ z. RuledOutIn z k) (sym (as_it_stands sc tso j c files check)) (ruled_out sc j files.sc_is M l l' k u) in
        contradiction.never_contradict j (ok sc tso j c files check) (passes sc tso j c files check) flag c (room sc tso j c files check) f.slots r.slots d n k f.outcome r.outcome f.means r.means

    pub never_contradict_back : (N M : ℕ) (m m' l l' : Lent) (d n k : ℕ)
        → SearchedIn N sc m (reachable_words d n) m' → SearchedIn M tso l (unreachable_words k) l' → ⊥
    never_contradict_back N M m m' l l' d n k h u =
        let f = subst (λ z. FoundIn z d n m m') (sym (as_it_stands sc tso j c files check)) (found sc j files.sc_is N m m' d n h) in
        let r = ruled_out tso (under Tso c j) files.tso_is M l l' k u in
        contradiction.never_contradict_back j (ok sc tso j c files check) (passes sc tso j c files check) flag c (room sc tso j c files check) f.slots r.slots d n k f.outcome r.outcome f.means r.means
