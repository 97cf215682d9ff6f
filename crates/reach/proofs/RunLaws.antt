-- Laws of runs, and of the first shortest schedule as the least in the order `Sooner`.
use Rattle.std.specs.Prelude.{◌≡◌, ◌⊎◌, List, ℕ}
use Rattle.std.proofs.Common.{inl, inr}
use Rattle.reach.specs.System.{System}
use Rattle.reach.specs.Order.{Sooner}
use Rattle.reach.proofs.OrderLaws.{sooner_total}
use Rattle.reach.specs.RunLaws.{Least}

module _ (S : System) where
  pub least_unique : (x : S.State) (u v : List ℕ) → Least S x u → Least S x v → u ≡ v
  least_unique x u v h k = decide (sooner_total u v)
    where
      decide : Sooner u v ⊎ ((u ≡ v) ⊎ Sooner v u) → u ≡ v
      decide (inl d) = absurd (k.none_sooner u h.leads d)
      decide (inr (inl e)) = e
      decide (inr (inr d)) = absurd (h.none_sooner v k.leads d)
