-- What the three answers promise, in the words of the bench's second demand.
use Rattle.std.specs.Prelude.{refl, List, ℕ, zero, suc, ◌≤◌, T, length}
use Rattle.std.proofs.Common.{arith}
use Rattle.std.proofs.Math.Decide.{dec_le}
use Rattle.reach.specs.System.{System}
use Rattle.reach.specs.Meaning.{LeadsTo, LeastGoal, Outcome, IsUnreachable}

module _ (S : System) where
  -- "Unreachable" means that no schedule of any length gets there.
  pub never : (N n : ℕ) (o : Outcome S.State) → IsUnreachable S N n o → (w : List ℕ) (x : S.State) → LeadsTo S w x → ¬ (T (S.goal x))
  never N n o h w x l g = h.no_goal x g (record { way = w; leads = l })

  -- no schedule to a goal is shorter than the least goal distance
  pub none_shorter : (d : ℕ) → LeastGoal S d → (w : List ℕ) (x : S.State) → LeadsTo S w x → T (S.goal x) → d ≤ length w
  none_shorter d h w x l g = within (length w) w l (omega arith)
    where
      -- of at most k steps; if such a schedule were shorter than d, it would be a shortest
      within : (k : ℕ) (v : List ℕ) → LeadsTo S v x → length v ≤ k → d ≤ length v
      within zero v m n = h.least x (length v) g (record { way = v; leads = m; steps = refl; least = λ u r. omega arith })
      within (suc k) v m n = which (dec_le d (length v)) (λ u r. within k u r)
        where
          which : Dec (d ≤ length v) → ((u : List ℕ) → LeadsTo S u x → length u ≤ k → d ≤ length u) → d ≤ length v
          which (yes e) again = e
          which (no e) again = h.least x (length v) g (record { way = v; leads = m; steps = refl; least = λ u r. shortest u r (dec_le (length v) (length u)) })
            where
              shortest : (u : List ℕ) → LeadsTo S u x → Dec (length v ≤ length u) → length v ≤ length u
              shortest u r (yes f) = f
              shortest u r (no f) = absurd (omega (arith, again u r (omega arith)))
