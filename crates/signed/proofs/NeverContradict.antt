-- No two searches of a program that the fence check passes contradict each other, if the goal asks for empty buffers. Each of the three
-- theorems rests on `signed` by itself, and none on another.
use Rattle.std.specs.Prelude.{◌≡◌, ◌↔◌, true, not, ◌||◌, ℕ, ◌≤◌, T}
use Rattle.reach.specs.System.{System}
use Rattle.reach.specs.Meaning.{LeastGoal, NoGoal, Outcome, IsReachable, IsUnreachable}
use Rattle.rules.specs.State.{State}
use Rattle.rules.specs.Job.{Job}
use Rattle.rules.specs.Goal.{every, nothing_pending, clause_holds, goal}
use Rattle.rules.specs.Tests.{both}
use Rattle.rules.specs.Machine.{machine}
use Rattle.rules.specs.Fences.{fenced, ChecksTo}
use Rattle.rules.specs.Sound.{JobIn}
use Rattle.rules.specs.declared.Model.TheVariants.{Sc, Tso}
use Rattle.signed.specs.Under.{under, AllEmpty, all_empty_test}
use Rattle.signed.proofs.Signed.{signed}

-- a goal that asks for empty buffers has them
goal_empty : (j : Job) → j.all_empty ≡ true → (x : State) → T (goal j x) → AllEmpty x
unfolding goal
goal_empty j flag x h =
    let flag_holds = (both (not j.all_empty || every nothing_pending x.buffers) (every (clause_holds x) j.clauses) h).0 in
    (all_empty_test x).0 (rw flag at flag_holds)

goal_reached : (S : System) (d : ℕ) → LeastGoal S d → ¬ (NoGoal S)
goal_reached S d g nowhere = nowhere g.goal g.holds (record { way = g.distance.way; leads = g.distance.leads })

module _ (j : Job) (ok : JobIn j) (passes : ChecksTo j.threads fenced) (flag : j.all_empty ≡ true) (c : ℕ) (room : 1 ≤ c) where
  -- if the one reaches no goal state, the other doesn't
  pub no_goal_alike : NoGoal (machine (under Tso c j)) ↔ NoGoal (machine (under Sc 0 j))
  unfolding goal
  no_goal_alike = (
    λ nowhere x h r. nowhere x h ((signed j ok passes c room x (goal_empty j flag x h)).1 r),
    λ nowhere x h r. nowhere x h ((signed j ok passes c room x (goal_empty j flag x h)).0 r),
  )

  -- searches with any numbers of slots: the one doesn't find what the other rules out
  pub never_contradict : (N M d n m : ℕ) (o p : Outcome State)
      → IsReachable (machine (under Tso c j)) N d n o → IsUnreachable (machine (under Sc 0 j)) M m p → ⊥
  unfolding goal
  never_contradict N M d n m o p r u =
      goal_reached (machine (under Tso c j)) d r.least (λ x h q. u.no_goal x h ((signed j ok passes c room x (goal_empty j flag x h)).0 q))

  pub never_contradict_back : (N M d n m : ℕ) (o p : Outcome State)
      → IsReachable (machine (under Sc 0 j)) N d n o → IsUnreachable (machine (under Tso c j)) M m p → ⊥
  unfolding goal
  never_contradict_back N M d n m o p r u =
      goal_reached (machine (under Sc 0 j)) d r.least (λ x h q. u.no_goal x h ((signed j ok passes c room x (goal_empty j flag x h)).1 q))
