-- Any two outcomes that the meaning allows are equal: answer, slots, links and schedule.
use Rattle.std.specs.Prelude.{◌≡◌, ℕ}
use Rattle.std.proofs.Common.{arith}
use Rattle.reach.specs.ListLaws.{no_longer}
use Rattle.reach.specs.System.{System}
use Rattle.reach.specs.Meaning.{Counts, LeastGoal}

pub counts_unique : {X : Type 0} (P : X → Type 0) (m n : ℕ) → Counts P m → Counts P n → m ≡ n
counts_unique P m n h k =
    omega (
      arith,
      no_longer h.states k.states h.distinct (λ x a. (k.exactly x).1 ((h.exactly x).0 a)),
      no_longer k.states h.states k.distinct (λ x a. (h.exactly x).1 ((k.exactly x).0 a)),
      h.number,
      k.number,
    )

module _ (S : System) where
  pub goal_unique : (d e : ℕ) → LeastGoal S d → LeastGoal S e → d ≡ e
  goal_unique d e h k =
      omega (arith, h.least k.goal e k.holds k.distance, k.least h.goal d h.holds h.distance)
  -- links
