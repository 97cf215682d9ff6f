-- Laws of the order of schedules: `Earlier` on equal lengths and `Sooner` are strict and total.
use Rattle.std.specs.Prelude.{◌≡◌, refl, ◌⊎◌, List, [], ◌∷◌, ◌++◌, ℕ, ◌<◌, length}
use Rattle.std.proofs.Common.{sym, inl, inr, arith}
use Rattle.reach.specs.Order.{Earlier, Sooner}
use Rattle.reach.specs.OrderLaws.{compared, earlier_total, length_snoc}

pub sooner_total : (u v : List ℕ) → Sooner u v ⊎ ((u ≡ v) ⊎ Sooner v u)
sooner_total u v = lengths (compared (length u) (length v))
  where
    equal : length u ≡ length v → Earlier u v ⊎ ((u ≡ v) ⊎ Earlier v u) → Sooner u v ⊎ ((u ≡ v) ⊎ Sooner v u)
    equal e (inl h) = inl (inr (e, h))
    equal e (inr (inl p)) = inr (inl p)
    equal e (inr (inr h)) = inr (inr (inr (sym e, h)))

    lengths : (length u < length v) ⊎ ((length u ≡ length v) ⊎ (length v < length u)) → Sooner u v ⊎ ((u ≡ v) ⊎ Sooner v u)
    lengths (inl h) = inl (inl h)
    lengths (inr (inl e)) = equal e (earlier_total u v e)
    lengths (inr (inr h)) = inr (inr (inl h))

-- one step more

earlier_last : (u : List ℕ) (r s : ℕ) → r < s → Earlier (u ++ (r ∷ [])) (u ++ (s ∷ []))
earlier_last [] r s h = inl h
earlier_last (a ∷ u) r s h = inr (refl, earlier_last u r s h)

pub sooner_last : (u : List ℕ) (r s : ℕ) → r < s → Sooner (u ++ (r ∷ [])) (u ++ (s ∷ []))
sooner_last u r s h = inr (omega (arith, length_snoc u r, length_snoc u s), earlier_last u r s h)
