-- The words of the third demand: the same job under another model, and the states with every buffer empty.
use Rattle.std.specs.Prelude.{◌≡◌, refl, ◌↔◌, List, [], ◌∷◌, ℕ, T, length}
use Rattle.std.proofs.Common.{ap, subst, arith}
use Rattle.reach.specs.Lists.{All}
use Rattle.rules.specs.State.{Pending, Buffer, State}
use Rattle.rules.specs.Job.{Job}
use Rattle.rules.specs.Step.{is_empty}
use Rattle.rules.specs.Goal.{every, nothing_pending}
use Rattle.rules.specs.Tests.{both, of_both}
use Rattle.rules.specs.Sound.{CapacityIn, JobIn}
use Rattle.rules.specs.declared.Model.{Model}
use Rattle.rules.specs.declared.Model.TheVariants.{Sc}

-- the same job with another model and capacity
abbrev pub under : Model → ℕ → Job → Job
under m c j =
    record {
      version = j.version;
      model = m;
      capacity = c;
      initial = j.initial;
      threads = j.threads;
      all_empty = j.all_empty;
      clauses = j.clauses;
    }

-- a job of the model SC, as it stands
pub under_sc : (j : Job) → JobIn j → j.model ≡ Sc → under Sc 0 j ≡ j
under_sc j ok e =
    let none_pending : j.capacity ≡ 0 = subst (λ (m : Model). CapacityIn m j.capacity) e ok.capacity in
    rw (← e, ← none_pending)

-- every buffer is empty
abbrev pub AllEmpty : State → Type 0
AllEmpty x = All (λ b. b.pending ≡ []) x.buffers

empty_test : (b : List Pending) → T (is_empty b) ↔ (b ≡ [])
unfolding is_empty
empty_test [] = (λ h. refl, λ e. tt)
empty_test (p ∷ b) = (λ h. absurd h, λ e. let n = ap length e in absurd (omega arith))

every_empty : (l : List Buffer) → T (every nothing_pending l) ↔ All (λ b. b.pending ≡ []) l
unfolding every
every_empty [] = (λ h. tt, λ h. tt)
every_empty (b ∷ l) = (
  λ h. let p = both (nothing_pending b) (every nothing_pending l) h in ((empty_test b.pending).0 p.0, (every_empty l).0 p.1),
  λ h. of_both (nothing_pending b) (every nothing_pending l) ((empty_test b.pending).1 h.0) ((every_empty l).1 h.1),
)

-- it is what the goal's flag asks
pub all_empty_test : (x : State) → T (every nothing_pending x.buffers) ↔ AllEmpty x
all_empty_test x = every_empty x.buffers
