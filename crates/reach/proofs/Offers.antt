-- What the steps of a run of rows lead to: nothing else, all of it, and in order.
use Rattle.std.specs.Prelude.{◌≡◌, ◌⊎◌}
use Rattle.std.proofs.Math.Path.{refl, ap, subst}
use Rattle.std.proofs.Common.{sym, ◌∙◌, inl, inr}
use mathlib.Core.List.{List, [], ◌∷◌, ◌++◌}
use Rattle.std.proofs.Math.Option.{Option, none, some}
use Prim.Native.Nat.{ℕ, zero, suc, ◌+◌, ◌<◌}
use Rattle.std.proofs.Math.Nat.{add-zero}
use native.Mathlib.Omega.{arith}
use Rattle.std.proofs.Math.Decide.{dec_lt}
use Rattle.std.proofs.Math.ListN.{get_elem?}
use Rattle.reach.specs.Lists.{◌∈◌, Pairwise}
use Rattle.reach.specs.ListLaws.{in_left, in_right, in_either, all_at, pairwise_append, at_in}
use Rattle.reach.specs.System.{System}
use Rattle.reach.specs.OrderLaws.{sooner_snoc}
use Rattle.reach.proofs.OrderLaws.{sooner_last}
use Rattle.reach.specs.RunLaws.{step_below}
use Rattle.reach.specs.Meaning.{link}
use Rattle.reach.specs.Searchable.{Searchable}
use Rattle.reach.specs.Rows.{Row, offer_of, offer, offers_below, offers}
use Rattle.reach.specs.Growth.{RowSooner}
use Rattle.reach.specs.Offers.{Offered}

module _ (S : System) where
  offer_sound : (p : ℕ) (r : Row S.State) (s : ℕ) (c : Row S.State) → c ∈ offer S p r s → Offered S p r s c
  unfolding offer offer_of
  offer_sound p r s c h = given (S.next s r.state) refl h
    where
      given : (o : Option S.State) → S.next s r.state ≡ o → c ∈ offer_of S p r s o → Offered S p r s c
      given none e k = absurd k
      given (some y) e (inl d) =
          record {
            next = e ∙ ap {B = Option S.State} (λ r. some r.state) (sym d);
            way = ap (λ r. r.way) d;
            from = ap (λ r. r.from) d;
          }
      given (some y) e (inr k) = absurd k

  offer_complete :
      (p : ℕ) (r : Row S.State) (s : ℕ) (y : S.State) → S.next s r.state ≡ some y →
      record { state = y; way = r.way ++ (s ∷ []); from = link p s } ∈ offer S p r s
  unfolding offer offer_of
  offer_complete p r s y e = rw e (inl refl)

  below_sound :
      (p : ℕ) (r : Row S.State) (k : ℕ) (c : Row S.State) → c ∈ offers_below S p r k →
      (s : ℕ) × (s < k) × Offered S p r s c
  unfolding offers_below
  below_sound p r zero c h = absurd h
  below_sound p r (suc k) c h = which (in_either c (offers_below S p r k) (offer S p r k) h) (below_sound p r k c)
    where
      which :
          (c ∈ offers_below S p r k) ⊎ (c ∈ offer S p r k) → (c ∈ offers_below S p r k → (s : ℕ) × (s < k) × Offered S p r s c) →
          (s : ℕ) × (s < suc k) × Offered S p r s c
      which (inl m) again = let f = again m in (f.0, omega (arith, f.1), f.2)
      which (inr m) again = (k, omega arith, offer_sound p r k c m)

  below_complete :
      (p : ℕ) (r : Row S.State) (k s : ℕ) (y : S.State) → s < k → S.next s r.state ≡ some y →
      record { state = y; way = r.way ++ (s ∷ []); from = link p s } ∈ offers_below S p r k
  unfolding offers_below
  below_complete p r zero s y h e = absurd (omega arith)
  below_complete p r (suc k) s y h e = which (dec_lt s k) (λ m. below_complete p r k s y m e)
    where
      c : Row S.State
      c = record { state = y; way = r.way ++ (s ∷ []); from = link p s }

      which : Dec (s < k) → (s < k → c ∈ offers_below S p r k) → c ∈ (offers_below S p r k ++ offer S p r k)
      which (yes m) again = in_left c (offers_below S p r k) (offer S p r k) (again m)
      which (no n) again =
          let d : s ≡ k = omega arith in
          in_right c (offers_below S p r k) (offer S p r k) (subst (λ i. c ∈ offer S p r i) d (offer_complete p r s y e))

  below_ordered : (p : ℕ) (r : Row S.State) (k : ℕ) → Pairwise RowSooner (offers_below S p r k)
  unfolding offers_below offer offer_of
  below_ordered p r zero = tt
  below_ordered p r (suc k) =
      pairwise_append RowSooner (offers_below S p r k) (offer S p r k) (below_ordered p r k) (alone (S.next k r.state))
      (λ a b h m. rising a b (below_sound p r k a h) (offer_sound p r k b m))
    where
      alone : (o : Option S.State) → Pairwise RowSooner (offer_of S p r k o)
      alone none = tt
      alone (some y) = (tt, tt)

      rising : (a b : Row S.State) → (s : ℕ) × (s < k) × Offered S p r s a → Offered S p r k b → RowSooner a b
      rising a b f g = rw (f.2.way, g.way) (sooner_last r.way f.0 k f.1)

module _ (E : Searchable) where
  -- nothing else
  pub offers_sound :
      (p : ℕ) (rows : List (Row E.system.State)) (c : Row E.system.State) → c ∈ offers E p rows →
      (i : ℕ) × (q : Row E.system.State) × (s : ℕ) × (get_elem? rows i ≡ some q) × Offered E.system (p + i) q s c
  unfolding offers
  offers_sound p [] c h = absurd h
  offers_sound p (r ∷ rows) c h =
      which (in_either c (offers_below E.system p r E.bound) (offers E (suc p) rows) h) (offers_sound (suc p) rows c)
    where
      which :
          (c ∈ offers_below E.system p r E.bound) ⊎ (c ∈ offers E (suc p) rows) →
          (c ∈ offers E (suc p) rows → (i : ℕ) × (q : Row E.system.State) × (s : ℕ) × (get_elem? rows i ≡ some q) × Offered E.system (suc p + i) q s c) →
          (i : ℕ) × (q : Row E.system.State) × (s : ℕ) × (get_elem? (r ∷ rows) i ≡ some q) × Offered E.system (p + i) q s c
      which (inl m) again = let f = below_sound E.system p r E.bound c m in (0, r, f.0, refl, rw add-zero f.2)
      which (inr m) again =
          let f = again m in
          let e : suc p + f.0 ≡ p + suc f.0 = omega arith in
          (suc f.0, f.1, f.2, f.3, subst (λ n. Offered E.system n f.1 f.2 c) e f.4)

  -- all of it
  pub offers_complete :
      (p : ℕ) (rows : List (Row E.system.State)) (q : Row E.system.State) (s : ℕ) (y : E.system.State) → q ∈ rows → E.system.next s q.state ≡ some y →
      (c : Row E.system.State) × (c ∈ offers E p rows) × (c.state ≡ y) × (c.way ≡ q.way ++ (s ∷ []))
  unfolding offers
  offers_complete p [] q s y h e = absurd h
  offers_complete p (r ∷ rows) q s y (inl d) e =
      let n = step_below E s q.state y e in
      let f : E.system.next s r.state ≡ some y = subst (λ r. E.system.next s r.state ≡ some y) d e in (
        record { state = y; way = r.way ++ (s ∷ []); from = link p s },
        in_left _ (offers_below E.system p r E.bound) (offers E (suc p) rows) (below_complete E.system p r E.bound s y n f),
        refl,
        ap (λ r. r.way ++ (s ∷ [])) (sym d),
      )
  offers_complete p (r ∷ rows) q s y (inr h) e =
      let f = offers_complete (suc p) rows q s y h e in
      (f.0, in_right f.0 (offers_below E.system p r E.bound) (offers E (suc p) rows) f.1, f.2, f.3)

  -- in order, where the rows are
  pub offers_ordered : (p : ℕ) (rows : List (Row E.system.State)) → Pairwise RowSooner rows → Pairwise RowSooner (offers E p rows)
  unfolding offers
  offers_ordered p [] h = tt
  offers_ordered p (r ∷ rows) h =
      pairwise_append RowSooner (offers_below E.system p r E.bound) (offers E (suc p) rows) (below_ordered E.system p r E.bound)
      (offers_ordered (suc p) rows h.1)
      (λ a b m n. rising a b (below_sound E.system p r E.bound a m) (offers_sound (suc p) rows b n))
    where
      rising :
          (a b : Row E.system.State) → (s : ℕ) × (s < E.bound) × Offered E.system p r s a →
          (i : ℕ) × (q : Row E.system.State) × (s : ℕ) × (get_elem? rows i ≡ some q) × Offered E.system (suc p + i) q s b → RowSooner a b
      rising a b f g =
          rw (f.2.way, g.4.way)
          (sooner_snoc r.way g.1.way f.0 g.2 (all_at (RowSooner r) rows h.0 g.1 (at_in rows g.0 g.1 g.3)))
