-- The levels: what the rows hold when every state at distance j or less has been met.
use Rattle.std.specs.Prelude.{◌≡◌, ◌⊎◌, ℕ, zero, suc, ◌+◌, ◌≤◌, ◌<◌}
use Rattle.std.proofs.Math.Path.{ap}
use Rattle.std.proofs.Common.{sym, ◌∙◌, subst, inr, arith, length-append}
use Rattle.std.proofs.Math.Logic.{inl}
use mathlib.Core.List.{List, [], ◌∷◌, ◌++◌}
use Rattle.std.proofs.Math.Option.{some}
use Rattle.std.proofs.Math.ListN.{length, get_elem?}
use Rattle.reach.specs.Lists.{◌∈◌}
use Rattle.reach.specs.ListLaws.{in_left, in_right, in_either, pairwise_append, pairwise_right, at_in, at_left, at_right, at_below, at_split}
use Rattle.reach.specs.System.{System}
use Rattle.reach.specs.Order.{Sooner}
use Rattle.reach.specs.OrderLaws.{sooner_irrefl, sooner_trans, sooner_snoc, length_snoc, last_of}
use Rattle.reach.proofs.OrderLaws.{sooner_total}
use Rattle.reach.specs.RunLaws.{run_snoc, snoc_run, Least}
use Rattle.reach.specs.Meaning.{LeadsTo}
use Rattle.reach.specs.Searchable.{Searchable}
use Rattle.reach.specs.Rows.{Row, start_row, offers}
use Rattle.reach.specs.Growth.{RowSooner, Has, has_left, Grown, grows, add_all}
use Rattle.reach.proofs.Offers.{offers_sound, offers_complete, offers_ordered}
use Rattle.reach.specs.Levels.{Behind, behind_among, RowsLinked, Level, level_zero, rows_within}

module _ (S : System) where
  -- one step more of the least schedule to a state is not after the same step of any other
  least_snoc :
      (x : S.State) (w u : List ℕ) (s : ℕ) → Least S x w → LeadsTo S u x → ¬ (Sooner (u ++ (s ∷ [])) (w ++ (s ∷ [])))
  least_snoc x w u s h l k = decide (sooner_total u w)
    where
      decide : Sooner u w ⊎ ((u ≡ w) ⊎ Sooner w u) → ⊥
      decide (inl d) = h.none_sooner u l d
      decide (inr (inl e)) = sooner_irrefl (w ++ (s ∷ [])) (subst (λ u. Sooner (u ++ (s ∷ [])) (w ++ (s ∷ []))) e k)
      decide (inr (inr d)) =
          sooner_irrefl (w ++ (s ∷ []))
          (sooner_trans (w ++ (s ∷ [])) (u ++ (s ∷ [])) (w ++ (s ∷ [])) (sooner_snoc w u s s d) k)

module _ (E : Searchable) where
  -- one level more
  module _ (j : ℕ) (old new : List (Row E.system.State)) (v : Level E.system j old new) where
    -- the state that a row's step leads to is met within one step more, and within j if the row is nearer than j
    nearer_next :
        (q : Row E.system.State) (s : ℕ) (y : E.system.State) → q ∈ (old ++ new) → length q.way < j → E.system.next s q.state ≡ some y → Has (old ++ new) y
    nearer_next q s y h n e =
        v.complete (q.way ++ (s ∷ [])) y (snoc_run E.system q.way s E.system.start y q.state (v.least q h).leads e)
        (omega (arith, length_snoc q.way s))

    -- what j + 1 steps lead to is among the rows, or is offered by way of a schedule that is not after
    met :
        (u : List ℕ) (s : ℕ) (y : E.system.State) → LeadsTo E.system (u ++ (s ∷ [])) y → length u ≤ j →
        Has (old ++ new) y
        ⊎ ((c : Row E.system.State) × (c ∈ offers E (length old) new) × (c.state ≡ y) × (¬ (Sooner (u ++ (s ∷ [])) c.way)))
    met u s y h n =
        let f = run_snoc E.system u s E.system.start y h in
        let r = v.complete u f.0 f.1 n in
        let e : E.system.next s r.0.state ≡ some y = subst (λ z. E.system.next s z ≡ some y) (sym r.2) f.2 in
        which r.0 (v.least r.0 r.1) e (subst (λ z. LeadsTo E.system u z) (sym r.2) f.1) (in_either r.0 old new r.1)
      where
        which :
            (q : Row E.system.State) → Least E.system q.state q.way → E.system.next s q.state ≡ some y → LeadsTo E.system u q.state → (q ∈ old) ⊎ (q ∈ new) →
            Has (old ++ new) y
            ⊎ ((c : Row E.system.State) × (c ∈ offers E (length old) new) × (c.state ≡ y) × (¬ (Sooner (u ++ (s ∷ [])) c.way)))
        which q d e l (inl m) = inl (nearer_next q s y (in_left q old new m) (v.nearer q m) e)
        which q d e l (inr m) =
            let c = offers_complete E (length old) new q s y m e in
            inr (c.0, c.1, c.2, λ k. least_snoc E.system q.state q.way u s d l (subst (λ w. Sooner (u ++ (s ∷ [])) w) c.3 k))

    -- an offered row: its way leads to its state in j + 1 steps
    offered_leads : (c : Row E.system.State) → c ∈ offers E (length old) new → LeadsTo E.system c.way c.state × (length c.way ≡ suc j)
    offered_leads c h =
        let f = offers_sound E (length old) new c h in
        let q = f.1 in
        let m = at_in new f.0 q f.3 in
        let l = (v.least q (in_right q old new m)).leads in (
          subst (λ w. LeadsTo E.system w c.state) (sym f.4.way) (snoc_run E.system q.way f.2 E.system.start c.state q.state l f.4.next),
          ap length f.4.way ∙ length_snoc q.way f.2 ∙ ap suc (v.level q m),
        )

    module _ (fresh : List (Row E.system.State)) (g : Grown E.system (old ++ new) (offers E (length old) new) fresh) where
      next_complete : (w : List ℕ) (x : E.system.State) → LeadsTo E.system w x → length w ≤ suc j → Has ((old ++ new) ++ fresh) x
      next_complete w x h n = which (last_of w)
        where
          found :
              Has (old ++ new) x
              ⊎ ((c : Row E.system.State) × (c ∈ offers E (length old) new) × (c.state ≡ x) × (¬ (Sooner w c.way))) →
              Has ((old ++ new) ++ fresh) x
          found (inl k) = has_left (old ++ new) fresh x k
          found (inr c) = let k = g.covers c.0 c.1 in (k.0, k.1, k.2 ∙ c.2)

          which : (w ≡ []) ⊎ ((u : List ℕ) × (s : ℕ) × (w ≡ u ++ (s ∷ []))) → Has ((old ++ new) ++ fresh) x
          which (inl e) = has_left (old ++ new) fresh x (v.complete w x h (omega (arith, ap length e)))
          which (inr f) =
              found
              (subst (λ w. Has (old ++ new) x ⊎ ((c : Row E.system.State) × (c ∈ offers E (length old) new) × (c.state ≡ x) × (¬ (Sooner w c.way)))) (sym f.2)
              (met f.0 f.1 x (subst (λ w. LeadsTo E.system w x) f.2 h) (omega (arith, ap length f.2, length_snoc f.0 f.1))))

      fresh_least : (r : Row E.system.State) → r ∈ fresh → Least E.system r.state r.way
      fresh_least r h = record { leads = (offered_leads r (g.from r h)).0; none_sooner = none_sooner }
        where
          longer : (w : List ℕ) → Sooner w r.way → length w ≤ suc j
          longer w (inl k) = omega (arith, (offered_leads r (g.from r h)).1)
          longer w (inr k) = omega (arith, k.0, (offered_leads r (g.from r h)).1)

          refuted :
              (w : List ℕ) → Sooner w r.way →
              Has (old ++ new) r.state
              ⊎ ((c : Row E.system.State) × (c ∈ offers E (length old) new) × (c.state ≡ r.state) × (¬ (Sooner w c.way))) → ⊥
          refuted w k (inl d) = g.new r h d
          refuted w k (inr c) = which (sooner_total c.0.way w)
            where
              which : Sooner c.0.way w ⊎ ((c.0.way ≡ w) ⊎ Sooner w c.0.way) → ⊥
              which (inl d) = g.soonest r c.0 h c.1 c.2 (sooner_trans c.0.way w r.way d k)
              which (inr (inl e)) = g.soonest r c.0 h c.1 c.2 (subst (λ w. Sooner w r.way) (sym e) k)
              which (inr (inr d)) = c.3 d

          none_sooner : (w : List ℕ) → LeadsTo E.system w r.state → ¬ (Sooner w r.way)
          none_sooner w l k = which (last_of w)
            where
              which : (w ≡ []) ⊎ ((u : List ℕ) × (s : ℕ) × (w ≡ u ++ (s ∷ []))) → ⊥
              which (inl e) = g.new r h (v.complete w r.state l (omega (arith, ap length e)))
              which (inr f) =
                  refuted (f.0 ++ (f.1 ∷ [])) (subst (λ w. Sooner w r.way) f.2 k)
                  (met f.0 f.1 r.state (subst (λ w. LeadsTo E.system w r.state) f.2 l)
                  (omega (arith, longer w k, ap length f.2, length_snoc f.0 f.1)))

      next_linked : RowsLinked ((old ++ new) ++ fresh)
      next_linked =
          record {
            zeroth = λ r e. v.linked.zeroth r (as_before r (at_split (old ++ new) fresh 0 r e));
            root = λ r e. v.linked.root r (as_before r (at_split (old ++ new) fresh 0 r e));
            other = λ i r n e. other i r n (at_split (old ++ new) fresh i r e);
          }
        where
          as_before :
              (r : Row E.system.State) →
              (get_elem? (old ++ new) 0 ≡ some r) ⊎ ((k : ℕ) × (0 ≡ length (old ++ new) + k) × (get_elem? fresh k ≡ some r)) →
              get_elem? (old ++ new) 0 ≡ some r
          as_before r (inl e) = e
          as_before r (inr f) = absurd (omega (arith, v.some_row, f.1))

          other :
              (i : ℕ) (r : Row E.system.State) → 0 < i →
              (get_elem? (old ++ new) i ≡ some r) ⊎ ((k : ℕ) × (i ≡ length (old ++ new) + k) × (get_elem? fresh k ≡ some r)) →
              Behind ((old ++ new) ++ fresh) i r
          other i r n (inl e) =
              let b = v.linked.other i r n e in
              behind_among (old ++ new) ((old ++ new) ++ fresh) i r b (at_left (old ++ new) fresh b.slot b.parent b.parent_at)
          other i r n (inr f) =
              let o = offers_sound E (length old) new r (g.from r (at_in fresh f.0 r f.2)) in
              let p : get_elem? (old ++ new) (length old + o.0) ≡ some o.1 = at_right old new o.0 ∙ o.3 in
              record {
                slot = length old + o.0;
                earlier = omega (arith, f.1, at_below (old ++ new) (length old + o.0) o.1 p);
                parent = o.1;
                parent_at = at_left (old ++ new) fresh (length old + o.0) o.1 p;
                step = o.2;
                way = o.4.way;
                from = o.4.from;
              }

      next_level : Level E.system (suc j) (old ++ new) fresh
      next_level =
          record {
            complete = next_complete;
            least = λ r h. least r (in_either r (old ++ new) fresh h);
            ordered =
                pairwise_append RowSooner (old ++ new) fresh v.ordered g.ordered
                (λ a b h k. inl (omega (arith, rows_within E.system j old new v a h, (offered_leads b (g.from b k)).1)));
            nearer = λ r h. omega (arith, rows_within E.system j old new v r h);
            level = λ r h. (offered_leads r (g.from r h)).1;
            linked = next_linked;
            some_row = omega (arith, v.some_row, length-append (old ++ new) fresh);
          }
        where
          least : (r : Row E.system.State) → (r ∈ (old ++ new)) ⊎ (r ∈ fresh) → Least E.system r.state r.way
          least r (inl h) = v.least r h
          least r (inr h) = fresh_least r h

    -- adding what the level's steps lead to gives the next level
    pub level_next :
        (fresh : List (Row E.system.State)) × (add_all E (old ++ new) (offers E (length old) new) ≡ (old ++ new) ++ fresh) × Level E.system (suc j) (old ++ new) fresh
    level_next =
        let g = grows E (old ++ new) (offers E (length old) new) (offers_ordered E (length old) new (pairwise_right RowSooner old new v.ordered)) in
        (g.0, g.1, next_level g.0 g.2)

  -- every distance has its level
  pub level_at : (j : ℕ) → (old : List (Row E.system.State)) × (new : List (Row E.system.State)) × Level E.system j old new
  level_at zero = ([], start_row E.system ∷ [], level_zero E.system)
  level_at (suc j) =
      let v = level_at j in
      let n = level_next j v.0 v.1 v.2 in
      (v.0 ++ v.1, n.0, n.2)

  -- a state that can be reached has a least schedule
  pub least_of : (w : List ℕ) (x : E.system.State) → LeadsTo E.system w x → (u : List ℕ) × Least E.system x u
  least_of w x h =
      let v = level_at (length w) in
      let r = v.2.complete w x h (omega arith) in
      (r.0.way, subst (λ z. Least E.system z r.0.way) r.2 (v.2.least r.0 r.1))
