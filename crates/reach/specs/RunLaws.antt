-- Laws of runs, and of the first shortest schedule as the least in the order `Sooner`.
use Rattle.std.specs.Prelude.{◌≡◌, refl, List, [], ◌∷◌, ◌++◌, ℕ, ◌≤◌, ◌<◌, length}
use Rattle.std.proofs.Common.{sym, ◌∙◌, inl, inr, arith}
use Rattle.std.proofs.Math.Option.{Option, none, some, none-ne-some}
use Rattle.std.proofs.Math.Decide.{dec_lt, dec_le}
use Rattle.reach.specs.System.{System, and_then, run}
use Rattle.reach.specs.Order.{Sooner}
use Rattle.reach.specs.Meaning.{LeadsTo, Distance, Reached, FirstShortest}
use Rattle.reach.specs.Searchable.{Searchable}

pub none_is_not_some : {A : Type 0} {a : A} → none ≡ some a → ⊥
none_is_not_some {a = a} e = none-ne-some a e

module _ {A B : Type 0} where
  -- what was given twice in a row was given once, and then again
  pub andThen_some : (o : Option A) (f : A → Option B) (b : B) → and_then o f ≡ some b → (a : A) × (o ≡ some a) × (f a ≡ some b)
  andThen_some none f b e = absurd (none_is_not_some e)
  andThen_some (some a) f b e = (a, refl, e)

module _ (S : System) where
  pub run_append : (u v : List ℕ) (x : S.State) → run S (u ++ v) x ≡ and_then (run S u x) (run S v)
  run_append [] v x = refl
  run_append (s ∷ u) v x = step (S.next s x) (run_append u v)
    where
      step :
          (o : Option S.State) → ((y : S.State) → run S (u ++ v) y ≡ and_then (run S u y) (run S v)) →
          and_then o (run S (u ++ v)) ≡ and_then (and_then o (run S u)) (run S v)
      step none h = refl
      step (some y) h = h y

  -- a schedule that ends in the step s: the state before it, and the step
  pub run_snoc :
      (u : List ℕ) (s : ℕ) (x y : S.State) → run S (u ++ (s ∷ [])) x ≡ some y →
      (z : S.State) × (run S u x ≡ some z) × (S.next s z ≡ some y)
  run_snoc u s x y e =
      let r = andThen_some (run S u x) (run S (s ∷ [])) y (sym (run_append u (s ∷ []) x) ∙ e) in
      (r.0, r.1, last (S.next s r.0) r.2)
    where
      last : (o : Option S.State) → and_then o (run S []) ≡ some y → o ≡ some y
      last none h = h
      last (some z) h = h

  pub snoc_run :
      (u : List ℕ) (s : ℕ) (x y z : S.State) → run S u x ≡ some z → S.next s z ≡ some y → run S (u ++ (s ∷ [])) x ≡ some y
  snoc_run u s x y z e d = rw (run_append, e, d)

  -- the least schedule to a state in the order `Sooner`
  pub record Least (x : S.State) (w : List ℕ) : Type 0 where
    pub leads : LeadsTo S w x
    pub none_sooner : (v : List ℕ) → LeadsTo S v x → ¬ (Sooner v w)

  pub least_first : (x : S.State) (w : List ℕ) → Least x w → FirstShortest S x w
  least_first x w h =
      record {
        shortest = record { way = w; leads = h.leads; steps = refl; least = λ v k. no_shorter v k (dec_le (length w) (length v)) };
        first = record { has = h.leads; none_earlier = λ v k e d. h.none_sooner v k (inr (e, d)) };
      }
    where
      no_shorter : (v : List ℕ) → LeadsTo S v x → Dec (length w ≤ length v) → length w ≤ length v
      no_shorter v k (yes d) = d
      no_shorter v k (no n) = absurd (h.none_sooner v k (inl (omega arith)))

  pub first_least : (x : S.State) (w : List ℕ) → FirstShortest S x w → Least x w
  first_least x w h = record { leads = h.first.has; none_sooner = none_sooner }
    where
      none_sooner : (v : List ℕ) → LeadsTo S v x → ¬ (Sooner v w)
      none_sooner v k (inl d) = omega (arith, h.shortest.least v k)
      none_sooner v k (inr d) = h.first.none_earlier v k d.0 d.1

  -- a schedule ends in one state
  pub leads_unique : (w : List ℕ) (x y : S.State) → LeadsTo S w x → LeadsTo S w y → x ≡ y
  leads_unique w x y h k = let e : some x ≡ some y = sym h ∙ k in cc

  pub distance_reached : (x : S.State) (k : ℕ) → Distance S x k → Reached S x
  distance_reached x k h = record { way = h.way; leads = h.leads }

  pub distance_unique : (x : S.State) (j k : ℕ) → Distance S x j → Distance S x k → j ≡ k
  distance_unique x j k h g =
      omega (arith, h.least g.way g.leads, g.least h.way h.leads, h.steps, g.steps)

-- a step that may be taken has a number below the bound
pub step_below : (E : Searchable) (s : ℕ) (x y : E.system.State) → E.system.next s x ≡ some y → s < E.bound
step_below E s x y e = decide (dec_lt s E.bound)
  where
    decide : Dec (s < E.bound) → s < E.bound
    decide (yes h) = h
    decide (no n) = absurd (none_is_not_some (sym (E.beyond s x (omega arith)) ∙ e))
