-- Laws of the order of schedules: `Earlier` on equal lengths and `Sooner` are strict and total.
use Rattle.std.specs.Prelude.{◌≡◌, refl, ◌⊎◌, List, [], ◌∷◌, ◌++◌, ℕ, suc, ◌<◌, length}
use Rattle.std.proofs.Common.{sym, ◌∙◌, ap, ap₂, inl, inr, arith, length-append}
use Rattle.std.proofs.Math.Decide.{dec_lt}
use Rattle.reach.specs.ListLaws.{append_equal}
use Rattle.reach.specs.Order.{Earlier, Sooner}

-- of two numbers
pub compared : (a b : ℕ) → (a < b) ⊎ ((a ≡ b) ⊎ (b < a))
compared a b = first (dec_lt a b)
  where
    second : ¬ (a < b) → Dec (b < a) → (a < b) ⊎ ((a ≡ b) ⊎ (b < a))
    second n (yes h) = inr (inr h)
    second n (no m) = inr (inl (omega arith))

    first : Dec (a < b) → (a < b) ⊎ ((a ≡ b) ⊎ (b < a))
    first (yes h) = inl h
    first (no n) = second n (dec_lt b a)

pub earlier_irrefl : (u : List ℕ) → ¬ (Earlier u u)
earlier_irrefl [] h = h
earlier_irrefl (a ∷ u) (inl h) = omega arith
earlier_irrefl (a ∷ u) (inr h) = earlier_irrefl u h.1

pub earlier_trans : (u v w : List ℕ) → Earlier u v → Earlier v w → Earlier u w
earlier_trans [] v w h k = absurd h
earlier_trans (a ∷ u) [] w h k = absurd h
earlier_trans (a ∷ u) (b ∷ v) [] h k = absurd k
earlier_trans (a ∷ u) (b ∷ v) (c ∷ w) (inl h) (inl k) = inl (omega arith)
earlier_trans (a ∷ u) (b ∷ v) (c ∷ w) (inl h) (inr k) = inl (omega (arith, k.0))
earlier_trans (a ∷ u) (b ∷ v) (c ∷ w) (inr h) (inl k) = inl (omega (arith, h.0))
earlier_trans (a ∷ u) (b ∷ v) (c ∷ w) (inr h) (inr k) = inr (h.0 ∙ k.0, earlier_trans u v w h.1 k.1)

pub earlier_total : (u v : List ℕ) → length u ≡ length v → Earlier u v ⊎ ((u ≡ v) ⊎ Earlier v u)
earlier_total [] [] e = inr (inl refl)
earlier_total [] (b ∷ v) e = absurd (omega arith)
earlier_total (a ∷ u) [] e = absurd (omega arith)
earlier_total (a ∷ u) (b ∷ v) e = heads (compared a b) (earlier_total u v (omega arith))
  where
    tails : a ≡ b → Earlier u v ⊎ ((u ≡ v) ⊎ Earlier v u) → Earlier (a ∷ u) (b ∷ v) ⊎ (((a ∷ u) ≡ (b ∷ v)) ⊎ Earlier (b ∷ v) (a ∷ u))
    tails p (inl h) = inl (inr (p, h))
    tails p (inr (inl q)) = inr (inl (ap₂ {C = List ℕ} ◌∷◌ p q))
    tails p (inr (inr h)) = inr (inr (inr (sym p, h)))

    heads : (a < b) ⊎ ((a ≡ b) ⊎ (b < a)) → Earlier u v ⊎ ((u ≡ v) ⊎ Earlier v u) → Earlier (a ∷ u) (b ∷ v) ⊎ (((a ∷ u) ≡ (b ∷ v)) ⊎ Earlier (b ∷ v) (a ∷ u))
    heads (inl h) r = inl (inl h)
    heads (inr (inl p)) r = tails p r
    heads (inr (inr h)) r = inr (inr (inl h))

pub sooner_irrefl : (u : List ℕ) → ¬ (Sooner u u)
sooner_irrefl u (inl h) = omega arith
sooner_irrefl u (inr h) = earlier_irrefl u h.1

pub sooner_trans : (u v w : List ℕ) → Sooner u v → Sooner v w → Sooner u w
sooner_trans u v w (inl h) (inl k) = inl (omega arith)
sooner_trans u v w (inl h) (inr k) = inl (omega (arith, k.0))
sooner_trans u v w (inr h) (inl k) = inl (omega (arith, h.0))
sooner_trans u v w (inr h) (inr k) = inr (h.0 ∙ k.0, earlier_trans u v w h.1 k.1)

-- one step more

pub length_snoc : (u : List ℕ) (s : ℕ) → length (u ++ (s ∷ [])) ≡ suc (length u)
length_snoc u s = omega (arith, length-append u (s ∷ []))

earlier_snoc : (u v : List ℕ) (r s : ℕ) → Earlier u v → Earlier (u ++ (r ∷ [])) (v ++ (s ∷ []))
earlier_snoc [] v r s h = absurd h
earlier_snoc (a ∷ u) [] r s h = absurd h
earlier_snoc (a ∷ u) (b ∷ v) r s (inl h) = inl h
earlier_snoc (a ∷ u) (b ∷ v) r s (inr h) = inr (h.0, earlier_snoc u v r s h.1)

pub sooner_snoc : (u v : List ℕ) (r s : ℕ) → Sooner u v → Sooner (u ++ (r ∷ [])) (v ++ (s ∷ []))
sooner_snoc u v r s (inl h) = inl (omega (arith, length_snoc u r, length_snoc v s))
sooner_snoc u v r s (inr h) = inr (omega (arith, h.0, length_snoc u r, length_snoc v s), earlier_snoc u v r s h.1)

pub snoc_equal : (u v : List ℕ) (s t : ℕ) → u ++ (s ∷ []) ≡ v ++ (t ∷ []) → (u ≡ v) × (s ≡ t)
snoc_equal u v s t e =
    let p = append_equal u v (s ∷ []) (t ∷ []) (omega (arith, ap length e, length_snoc u s, length_snoc v t)) e in
    let q : s ∷ [] ≡ t ∷ [] = p.1 in
    (p.0, cc)

-- a list is empty or ends in an element
pub last_of : (w : List ℕ) → (w ≡ []) ⊎ ((u : List ℕ) × (s : ℕ) × (w ≡ u ++ (s ∷ [])))
last_of [] = inl refl
last_of (a ∷ w) = step (last_of w)
  where
    step : (w ≡ []) ⊎ ((u : List ℕ) × (s : ℕ) × (w ≡ u ++ (s ∷ []))) → ((a ∷ w) ≡ []) ⊎ ((u : List ℕ) × (s : ℕ) × ((a ∷ w) ≡ u ++ (s ∷ [])))
    step (inl e) = inr ([], a, ap {B = List ℕ} (λ l. a ∷ l) e)
    step (inr r) = inr (a ∷ r.0, r.1, ap {B = List ℕ} (λ l. a ∷ l) r.2)
