-- The search on lists has the meaning, for every system and every N from 1.
use Rattle.std.proofs.Math.Path.{◌≡◌, refl, subst}
use Rattle.std.proofs.Common.{sym, ◌∙◌, ap, inl, inr, arith, take-append-drop, take_all, length-take-le}
use Rattle.std.specs.Prelude.{◌⊎◌, ◌↔◌, Bool, ltb, take, drop}
use Rattle.std.proofs.Math.Bool.{true, false}
use mathlib.Core.List.{List, [], ◌∷◌, ◌++◌, append-nil}
use Rattle.std.proofs.Math.Option.{Option, none, some}
use Prim.Native.Nat.{ℕ, zero, suc, ◌+◌, ◌≤◌, ◌<◌}
use Rattle.std.proofs.Math.Decide.{dec_le}
use Rattle.std.proofs.Math.Dec.{T, leb}
use borrow.Author.Tests.{leb-true, leb-false, ltb-true, ltb-false}
use Rattle.std.proofs.Math.ListN.{length, length-append, length-map, get_elem?}
use Rattle.std.proofs.Math.Seq.{drop-append_seam}
use Rattle.reach.specs.Lists.{◌∈◌, Pairwise, Distinct}
use Rattle.reach.specs.ListLaws.{in_left, in_right, in_either, all_at, all_of, pairwise_left, pairwise_right, pairwise_across, pairwise_imp, no_longer, at_in, at_left, at_below, at_split, at_map, map_at, in_map, map_in}
use Rattle.reach.specs.System.{System}
use Rattle.reach.specs.Order.{Sooner}
use Rattle.reach.specs.OrderLaws.{sooner_irrefl, sooner_trans, length_snoc, last_of}
use Rattle.reach.proofs.OrderLaws.{sooner_total}
use Rattle.reach.specs.RunLaws.{none_is_not_some, run_snoc, snoc_run, Least, least_first, first_least as least_of_first, distance_reached}
use Rattle.reach.proofs.RunLaws.{least_unique}
use Rattle.reach.specs.Meaning.{LeadsTo, Distance, AtMost, Reached, Counts, LeastGoal, GoalSchedule, SlotBefore, Holds, LinkOf, Linked, reachable, unreachable, unknown, Outcome, IsReachable, IsUnreachable, IsUnknown, Means}
use Rattle.reach.specs.Searchable.{Searchable}
use Rattle.reach.specs.Rows.{Row, start_row, offers, goal_row, outcome, by_goal, by_rest, by_room, levels, find}
use Rattle.reach.specs.Growth.{RowSooner, Has}
use Rattle.reach.specs.Levels.{Behind, behind_among, RowsLinked, Level, rows_within, level_zero}
use Rattle.reach.proofs.Levels.{level_next, level_at}
use Rattle.reach.proofs.Bounded.{put_all_kept}
use Rattle.reach.specs.Found.{states, links}

has_state : {X : Type 0} (rows : List (Row X)) (x : X) → Has rows x → x ∈ states rows
has_state rows x h = subst (λ z. z ∈ states rows) h.2 (map_in (λ r. r.state) rows h.0 h.1)

-- SlotBefore is strict
module _ (S : System) where
  pub before_ways :
      (x y : S.State) (u v : List ℕ) → SlotBefore S x y → Least S x u → Least S y v → Sooner u v
  before_ways x y u v b h k =
      subst (λ w. Sooner w v) (least_unique S x b.way u (least_of_first S x b.way b.way_first) h)
      (subst (λ w. Sooner b.way w) (least_unique S y b.later v (least_of_first S y b.later b.later_first) k) b.sooner)

  pub ways_before : (x y : S.State) (u v : List ℕ) → Least S x u → Least S y v → Sooner u v → SlotBefore S x y
  ways_before x y u v h k d = record { way = u; way_first = least_first S x u h; later = v; later_first = least_first S y v k; sooner = d }

  pub before_differ : (x y : S.State) → SlotBefore S x y → ¬ (x ≡ y)
  before_differ x y b e =
      let h = least_of_first S x b.way b.way_first in
      sooner_irrefl b.way (before_ways x y b.way b.way b h (subst (λ z. Least S z b.way) e h))

  -- Rows whose ways are least and in order.

  ordered_states :
      (rows : List (Row S.State)) → ((r : Row S.State) → r ∈ rows → Least S r.state r.way) →
      Pairwise RowSooner rows → Pairwise (SlotBefore S) (states rows)
  ordered_states [] least p = tt
  ordered_states (r ∷ rows) least p = (
    all_of (SlotBefore S r.state) (states rows) (λ x h. before x (in_map (λ r. r.state) rows x h)),
    ordered_states rows (λ q h. least q (inr h)) p.1,
  )
    where
      before : (x : S.State) → (q : Row S.State) × (q ∈ rows) × (q.state ≡ x) → SlotBefore S r.state x
      before x q =
          subst (λ z. SlotBefore S r.state z) q.2
          (ways_before r.state q.0.state r.way q.0.way (least r (inl refl)) (least q.0 (inr q.1))
          (all_at (RowSooner r) rows p.0 q.0 q.1))

  pub distinct_states : (l : List S.State) → Pairwise (SlotBefore S) l → Distinct l
  distinct_states l p = pairwise_imp (SlotBefore S) (λ x y. ¬ (x ≡ y)) before_differ l p

  linked_rows :
      (rows : List (Row S.State)) → ((r : Row S.State) → r ∈ rows → Least S r.state r.way) →
      RowsLinked rows → Linked S (states rows) (links rows)
  linked_rows rows least k =
      record {
        number = length-map rows (λ r. r.from) ∙ sym (length-map rows (λ r. r.state));
        zeroth = λ l e. let r = at_map (λ r. r.from) rows 0 l e in sym r.2 ∙ k.zeroth r.0 r.1;
        other = λ i x l n e d. other i x l n (at_map (λ r. r.state) rows i x e) (at_map (λ r. r.from) rows i l d);
      }
    where
      other :
          (i : ℕ) (x : S.State) (l : ℕ) → 0 < i →
          (r : Row S.State) × (get_elem? rows i ≡ some r) × (r.state ≡ x) →
          (q : Row S.State) × (get_elem? rows i ≡ some q) × (q.from ≡ l) → LinkOf S (states rows) x l
      other i x l n r q =
          let e : some q.0 ≡ some r.0 = sym q.1 ∙ r.1 in
          let d : q.0 ≡ r.0 = cc in
          let b = k.other i r.0 n r.1 in
          let h = least r.0 (at_in rows i r.0 r.1) in
          let m = least b.parent (at_in rows b.slot b.parent b.parent_at) in
          record {
            before = b.parent.way;
            step = b.step;
            first = least_first S x (b.parent.way ++ (b.step ∷ [])) (subst (λ w. Least S x w) b.way (subst (λ z. Least S z r.0.way) r.2 h));
            parent = b.parent.state;
            parent_leads = m.leads;
            slot = b.slot;
            parent_at = map_at (λ r. r.state) rows b.slot b.parent b.parent_at;
            is = sym q.2 ∙ ap (λ r. r.from) d ∙ b.from;
          }

  -- the first goal among rows

  goal_row_some :
      (rows : List (Row S.State)) (r : Row S.State) → Pairwise RowSooner rows → goal_row S rows ≡ some r →
      (r ∈ rows) × T (S.goal r.state) × ((q : Row S.State) → q ∈ rows → T (S.goal q.state) → ¬ (RowSooner q r))
  unfolding goal_row
  goal_row_some [] r p e = absurd (none_is_not_some e)
  goal_row_some (a ∷ rows) r p e = which (S.goal a.state) refl e (goal_row_some rows r p.1)
    where
      which :
          (b : Bool) → S.goal a.state ≡ b → elim b as (λ _. Option (Row S.State)) [ true ↦ some a | false ↦ goal_row S rows ] ≡ some r →
          (goal_row S rows ≡ some r →
          (r ∈ rows) × T (S.goal r.state) × ((q : Row S.State) → q ∈ rows → T (S.goal q.state) → ¬ (RowSooner q r))) →
          (r ∈ (a ∷ rows)) × T (S.goal r.state) × ((q : Row S.State) → q ∈ (a ∷ rows) → T (S.goal q.state) → ¬ (RowSooner q r))
      which true d h again =
          let f : a ≡ r = cc in
          (inl (sym f), subst (λ r. T (S.goal r.state)) f (subst T (sym d) tt), λ q m g. subst (λ r. ¬ (RowSooner q r)) f (none_before q m))
        where
          none_before : (q : Row S.State) → q ∈ (a ∷ rows) → ¬ (RowSooner q a)
          none_before q (inl e) k = sooner_irrefl a.way (subst (λ r. RowSooner r a) e k)
          none_before q (inr m) k =
              sooner_irrefl a.way (sooner_trans a.way q.way a.way (all_at (RowSooner a) rows p.0 q m) k)
      which false d h again =
          let f = again h in (inr f.0, f.1, λ q m g. none_before q m g f.2)
        where
          none_before :
              (q : Row S.State) → q ∈ (a ∷ rows) → T (S.goal q.state) →
              ((q : Row S.State) → q ∈ rows → T (S.goal q.state) → ¬ (RowSooner q r)) → ¬ (RowSooner q r)
          none_before q (inl e) g h = absurd (subst T d (subst (λ r. T (S.goal r.state)) e g))
          none_before q (inr m) g h = h q m g

  pub goal_row_none :
      (rows : List (Row S.State)) → goal_row S rows ≡ none → (q : Row S.State) → q ∈ rows → ¬ (T (S.goal q.state))
  unfolding goal_row
  goal_row_none [] e q h g = absurd h
  goal_row_none (a ∷ rows) e q h g = which (S.goal a.state) refl e h (goal_row_none rows)
    where
      which :
          (b : Bool) → S.goal a.state ≡ b →
          ◌≡◌ {A = Option (Row S.State)} (elim b as (λ _. Option (Row S.State)) [ true ↦ some a | false ↦ goal_row S rows ]) none →
          q ∈ (a ∷ rows) → (goal_row S rows ≡ none → (q : Row S.State) → q ∈ rows → ¬ (T (S.goal q.state))) → ⊥
      which true d k m again = none_is_not_some (sym k)
      which false d k (inl f) again = subst T d (subst (λ r. T (S.goal r.state)) f g)
      which false d k (inr m) again = again k q m g

  -- the rows of a level are the states at its distance or less

  module _ (d : ℕ) (old new : List (Row S.State)) (v : Level S d old new) where
    row_near : (r : Row S.State) (x : S.State) → r ∈ (old ++ new) → r.state ≡ x → AtMost S d x
    row_near r x h e =
        record {
          far = length r.way;
          distance = subst (λ z. Distance S z (length r.way)) e (least_first S r.state r.way (v.least r h)).shortest;
          near = rows_within S d old new v r h;
        }

    near_has : (x : S.State) → AtMost S d x → Has (old ++ new) x
    near_has x h =
        v.complete h.distance.way x h.distance.leads (omega (arith, h.distance.steps, h.near))

    holds_near : Holds S (AtMost S d) (states (old ++ new))
    holds_near =
        record {
          ordered = ordered_states (old ++ new) v.least v.ordered;
          exactly =
              λ x. (
                λ h. (let r = in_map (λ r. r.state) (old ++ new) x h in row_near r.0 x r.1 r.2),
                λ h. has_state (old ++ new) x (near_has x h),
              );
        }

    counts_near : Counts (AtMost S d) (length (old ++ new))
    counts_near =
        record {
          states = states (old ++ new);
          distinct = distinct_states (states (old ++ new)) holds_near.ordered;
          exactly = holds_near.exactly;
          number = length-map (old ++ new) (λ r. r.state);
        }

  -- The three ways to end.

  module _ (N d : ℕ) (old new : List (Row S.State)) (v : Level S d old new)
      (no_nearer : (r : Row S.State) → r ∈ old → ¬ (T (S.goal r.state))) where
    -- a goal among the rows stands in the level
    goal_in_level : (r : Row S.State) → r ∈ (old ++ new) → T (S.goal r.state) → r ∈ new
    goal_in_level r h g = which (in_either r old new h)
      where
        which : (r ∈ old) ⊎ (r ∈ new) → r ∈ new
        which (inl m) = absurd (no_nearer r m g)
        which (inr m) = m

    no_goal_nearer : (x : S.State) (k : ℕ) → T (S.goal x) → Distance S x k → d ≤ k
    no_goal_nearer x k g a = which (dec_le d k)
      where
        which : Dec (d ≤ k) → d ≤ k
        which (yes n) = n
        which (no n) =
            let q = v.complete a.way x a.leads (omega (arith, a.steps)) in
            let nearest = (least_first S q.0.state q.0.way (v.least q.0 q.1)).shortest in
            let no_farther = nearest.least a.way (subst (λ z. LeadsTo S a.way z) (sym q.2) a.leads) in
            let there = v.level q.0 (goal_in_level q.0 q.1 (subst (λ z. T (S.goal z)) (sym q.2) g)) in
            absurd (omega (arith, a.steps))

    pub ends_reachable :
        (r : Row S.State) → length (old ++ new) ≤ N → goal_row S new ≡ some r →
        IsReachable S N d (length (old ++ new)) (outcome S N (reachable d (length (old ++ new))) (old ++ new) r.way)
    unfolding outcome
    ends_reachable r fits e =
        let f = goal_row_some new r (pairwise_right RowSooner old new v.ordered) e in
        let m = in_right r old new f.0 in
        let h = v.least r m in
        record {
          least =
              record {
                goal = r.state;
                holds = f.1;
                distance = subst (λ k. Distance S r.state k) (v.level r f.0) (least_first S r.state r.way h).shortest;
                least = no_goal_nearer;
              };
          counted = counts_near d old new v;
          fits = fits;
          first =
              record {
                has = record { goal = r.state; holds = f.1; leads = h.leads; steps = v.level r f.0 };
                none_earlier = λ w a n k. none_earlier w f.0 a f.2 (inr (n, k));
              };
          held = holds_near d old new v;
          linked = linked_rows (old ++ new) v.least v.linked;
        }
      where
        none_earlier :
            (w : List ℕ) → r ∈ new → GoalSchedule S d w → ((q : Row S.State) → q ∈ new → T (S.goal q.state) → ¬ (RowSooner q r)) → ¬ (Sooner w r.way)
        none_earlier w m a none_before k =
            let q = v.complete w a.goal a.leads (omega (arith, a.steps)) in
            let g = subst (λ z. T (S.goal z)) (sym q.2) a.holds in
            which q.0 (v.least q.0 q.1) (subst (λ z. LeadsTo S w z) (sym q.2) a.leads) (goal_in_level q.0 q.1 g) g
            (sooner_total q.0.way w)
          where
            which :
                (q : Row S.State) → Least S q.state q.way → LeadsTo S w q.state → q ∈ new → T (S.goal q.state) →
                Sooner q.way w ⊎ ((q.way ≡ w) ⊎ Sooner w q.way) → ⊥
            which q h l m g (inl d) = none_before q m g (sooner_trans q.way w r.way d k)
            which q h l m g (inr (inl e)) = none_before q m g (subst (λ w. Sooner w r.way) (sym e) k)
            which q h l m g (inr (inr d)) = h.none_sooner w l d

    -- a level without goals
    module _ (no_goal : (r : Row S.State) → r ∈ new → ¬ (T (S.goal r.state))) where
      pub no_goal_row : (r : Row S.State) → r ∈ (old ++ new) → ¬ (T (S.goal r.state))
      no_goal_row r h g = no_goal r (goal_in_level r h g) g

      -- an empty one: every state that can be reached is among the rows
      module _ (empty : new ≡ []) where
        in_old : (r : Row S.State) → r ∈ (old ++ new) → r ∈ old
        in_old r h = subst (λ l. r ∈ l) (append-nil old) (subst (λ l. r ∈ (old ++ l)) empty h)

        all_met : (k : ℕ) (w : List ℕ) (x : S.State) → LeadsTo S w x → length w ≤ k → Has (old ++ new) x
        all_met zero w x h n = v.complete w x h (omega arith)
        all_met (suc k) w x h n = which (last_of w) (all_met k)
          where
            which :
                (w ≡ []) ⊎ ((u : List ℕ) × (s : ℕ) × (w ≡ u ++ (s ∷ []))) →
                ((w : List ℕ) (x : S.State) → LeadsTo S w x → length w ≤ k → Has (old ++ new) x) → Has (old ++ new) x
            which (inl e) again = v.complete w x h (omega (arith, ap length e))
            which (inr f) again =
                let r = run_snoc S f.0 f.1 S.start x (subst (λ w. LeadsTo S w x) f.2 h) in
                let q = again f.0 r.0 r.1 (omega (arith, ap length f.2, length_snoc f.0 f.1)) in
                v.complete (q.0.way ++ (f.1 ∷ [])) x
                (snoc_run S q.0.way f.1 S.start x q.0.state (v.least q.0 q.1).leads (subst (λ z. S.next f.1 z ≡ some x) (sym q.2) r.2))
                (omega (arith, length_snoc q.0.way f.1, v.nearer q.0 (in_old q.0 q.1)))

        reached_has : (x : S.State) → Reached S x → Has (old ++ new) x
        reached_has x h = all_met (length h.way) h.way x h.leads (omega arith)

        pub ends_unreachable :
            length (old ++ new) ≤ N →
            IsUnreachable S N (length (old ++ new)) (outcome S N (unreachable (length (old ++ new))) (old ++ new) [])
        unfolding outcome counts_near
        ends_unreachable fits =
            record {
              no_goal = λ x g h. (let r = reached_has x h in no_goal_row r.0 r.1 (subst (λ z. T (S.goal z)) (sym r.2) g));
              counted = record { states = states (old ++ new); distinct = (counts_near d old new v).distinct; exactly = exactly; number = (counts_near d old new v).number };
              fits = fits;
              none_written = refl;
              held = record { ordered = (holds_near d old new v).ordered; exactly = exactly };
              linked = linked_rows (old ++ new) v.least v.linked;
            }
          where
            exactly : (x : S.State) → (x ∈ states (old ++ new)) ↔ Reached S x
            exactly x = (λ h. (let a = ((holds_near d old new v).exactly x).0 h in distance_reached S x a.far a.distance), λ h. has_state (old ++ new) x (reached_has x h))

  -- the rows of a level that did not fit: `first` are those that did
  module _ (N d : ℕ) (old new first left : List (Row S.State)) (v : Level S d old new)
      (no_nearer : (r : Row S.State) → r ∈ old → ¬ (T (S.goal r.state)))
      (split : old ++ new ≡ first ++ left) (number : length first ≡ N) (more : N < length (old ++ new)) where
    first_in : (r : Row S.State) → r ∈ first → r ∈ (old ++ new)
    first_in r h = subst (λ l. r ∈ l) (sym split) (in_left r first left h)

    first_least : (r : Row S.State) → r ∈ first → Least S r.state r.way
    first_least r h = v.least r (first_in r h)

    split_ordered : Pairwise RowSooner (first ++ left)
    split_ordered = subst (Pairwise RowSooner) split v.ordered

    first_linked : RowsLinked first
    first_linked =
        record {
          zeroth = λ r e. v.linked.zeroth r (there 0 r e);
          root = λ r e. v.linked.root r (there 0 r e);
          other = λ i r n e. other i r n e;
        }
      where
        there : (i : ℕ) (r : Row S.State) → get_elem? first i ≡ some r → get_elem? (old ++ new) i ≡ some r
        there i r e = subst (λ l. get_elem? l i ≡ some r) (sym split) (at_left first left i r e)

        here :
            (p i : ℕ) (q : Row S.State) → p < i → i < length first →
            (get_elem? first p ≡ some q) ⊎ ((k : ℕ) × (p ≡ length first + k) × (get_elem? left k ≡ some q)) → get_elem? first p ≡ some q
        here p i q n m (inl e) = e
        here p i q n m (inr f) = absurd (omega (arith, f.1))

        other : (i : ℕ) (r : Row S.State) → 0 < i → get_elem? first i ≡ some r → Behind first i r
        other i r n e =
            let b = v.linked.other i r n (there i r e) in
            behind_among (old ++ new) first i r b
            (here b.slot i b.parent b.earlier (at_below first i r e)
            (at_split first left b.slot b.parent (subst (λ l. get_elem? l b.slot ≡ some b.parent) split b.parent_at)))

    -- what comes before one of the first rows in the order of slots is one of them
    first_closed : (x y : S.State) → y ∈ states first → SlotBefore S x y → x ∈ states first
    first_closed x y h b =
        let r = in_map (λ r. r.state) first y h in
        let w = first_least r.0 r.1 in
        let sooner = before_ways x y b.way r.0.way b (least_of_first S x b.way b.way_first) (subst (λ z. Least S z r.0.way) r.2 w) in
        let q = v.complete b.way x b.way_first.first.has (shorter b.way r.0 r.1 sooner) in
        let e = least_unique S x b.way q.0.way (least_of_first S x b.way b.way_first) (subst (λ z. Least S z q.0.way) q.2 (v.least q.0 q.1)) in
        has_state first x
        (q.0, which q.0 r.0 r.1 (subst (λ w. Sooner w r.0.way) e sooner) (in_either q.0 first left (subst (λ l. q.0 ∈ l) split q.1)), q.2)
      where
        shorter : (u : List ℕ) (r : Row S.State) → r ∈ first → Sooner u r.way → length u ≤ d
        shorter u r m (inl k) = omega (arith, rows_within S d old new v r (first_in r m))
        shorter u r m (inr k) = omega (arith, k.0, rows_within S d old new v r (first_in r m))

        which : (q r : Row S.State) → r ∈ first → RowSooner q r → (q ∈ first) ⊎ (q ∈ left) → q ∈ first
        which q r m h (inl k) = k
        which q r m h (inr k) =
            absurd (sooner_irrefl q.way (sooner_trans q.way r.way q.way h (pairwise_across RowSooner first left split_ordered r q m k)))

    -- more states are at d or nearer than there are slots
    too_many : (n : ℕ) (P : S.State → Type 0) → ((x : S.State) → AtMost S d x → P x) → Counts P n → ¬ (n ≤ N)
    too_many n P f c h =
        let near = counts_near d old new v in
        let all = no_longer near.states c.states near.distinct (λ x m. (c.exactly x).1 (f x ((near.exactly x).0 m))) in
        omega (arith, near.number, c.number)

    pub ends_unknown : IsUnknown S N N (outcome S N (unknown N) first [])
    unfolding outcome
    ends_unknown =
        record {
          gives = refl;
          not_reachable = λ e m g c. too_many m (AtMost S e) (λ x h. farther e x g h) c;
          not_unreachable = λ m g c. too_many m (Reached S) (λ x h. distance_reached S x h.far h.distance) c;
          none_written = refl;
          held =
              record {
                number = length-map first (λ r. r.state) ∙ number;
                ordered = ordered_states first first_least (pairwise_left RowSooner first left split_ordered);
                reached =
                    λ x h. (let r = in_map (λ r. r.state) first x h in
                    record { way = r.0.way; leads = subst (λ z. LeadsTo S r.0.way z) r.2 (first_least r.0 r.1).leads });
                closed = first_closed;
              };
          linked = linked_rows first first_least first_linked;
        }
      where
        farther : (e : ℕ) (x : S.State) → LeastGoal S e → AtMost S d x → AtMost S e x
        farther e x g h =
            record {
              far = h.far;
              distance = h.distance;
              near = omega (arith, h.near, no_goal_nearer N d old new v no_nearer g.goal e g.holds g.distance);
            }

  -- what holds in each case holds of what the cases make
  module _ (N : ℕ) (P : Outcome S.State → Type 0) (otherwise : Unit {0} → Outcome S.State) (rows : List (Row S.State)) where
    goal_cases :
        (d : ℕ) (o : Option (Row S.State)) → ((r : Row S.State) → o ≡ some r → P (outcome S N (reachable d (length rows)) rows r.way)) →
        (o ≡ none → P (otherwise tt)) → P (by_goal S N d rows o otherwise)
    unfolding by_goal
    goal_cases d none f g = g refl
    goal_cases d (some r) f g = f r refl

    rest_cases :
        (b : Bool) → (b ≡ true → P (outcome S N (unreachable (length rows)) rows [])) → (b ≡ false → P (otherwise tt)) →
        P (by_rest S N rows b otherwise)
    unfolding by_rest
    rest_cases true f g = f refl
    rest_cases false f g = g refl

    room_cases :
        (b : Bool) → (b ≡ true → P (outcome S N (unknown N) rows [])) → (b ≡ false → P (otherwise tt)) → P (by_room S N rows b otherwise)
    unfolding by_room
    room_cases true f g = f refl
    room_cases false f g = g refl

-- The search.

module _ (E : Searchable) where
  -- R(d), for every d
  pub counted_at : (d : ℕ) → (n : ℕ) × Counts (AtMost E.system d) n
  counted_at d = let v = level_at E d in (length (v.0 ++ v.1), counts_near E.system d v.0 v.1 v.2)

module _ (E : Searchable) (N : ℕ) where
  levels_mean :
      (fuel d : ℕ) (old new : List (Row E.system.State)) → Level E.system d old new →
      ((r : Row E.system.State) → r ∈ old → ¬ (T (E.system.goal r.state))) → length (old ++ new) ≤ N → N < fuel + length old →
      Means E.system N (levels E N fuel d (length old) (old ++ new))
  unfolding levels outcome
  levels_mean zero d old new v no_nearer fits enough = absurd (omega (arith, length-append old new))
  levels_mean (suc fuel) d old new v no_nearer fits enough =
      let n = level_next E d old new v in
      rw (drop-append_seam old new)
      (goal_cases E.system N (Means E.system N) _ (old ++ new) d (goal_row E.system new)
      (λ r e. ends_reachable E.system N d old new v no_nearer r fits e)
      (λ e.
      let no_goal = goal_row_none E.system new e in
      rest_cases E.system N (Means E.system N) _ (old ++ new) (leb (length (old ++ new)) (length old))
      (λ b. ends_unreachable E.system N d old new v no_nearer no_goal (ended b) fits)
      (λ b.
      rw (put_all_kept E N (old ++ new) (offers E (length old) new) fits, n.1)
      (room_cases E.system N (Means E.system N) _ (take N ((old ++ new) ++ n.0)) (ltb N (length ((old ++ new) ++ n.0)))
      (λ c.
      let more = ltb-true N (length ((old ++ new) ++ n.0)) c in
      ends_unknown E.system N (suc d) (old ++ new) n.0 (take N ((old ++ new) ++ n.0)) (drop N ((old ++ new) ++ n.0)) n.2
      (no_goal_row E.system N d old new v no_nearer no_goal)
      (sym (take-append-drop N ((old ++ new) ++ n.0)))
      (length-take-le N ((old ++ new) ++ n.0) (omega arith))
      more)
      (λ c.
      let all = ltb-false N (length ((old ++ new) ++ n.0)) c in
      rw (take_all N ((old ++ new) ++ n.0) all)
      (levels_mean fuel (suc d) (old ++ new) n.0 n.2 (no_goal_row E.system N d old new v no_nearer no_goal) all
      (omega (arith, length-append old new, leb-false (length (old ++ new)) (length old) b))))))))
    where
      ended : leb (length (old ++ new)) (length old) ≡ true → new ≡ []
      ended b = which new (omega (arith, length-append old new, leb-true (length (old ++ new)) (length old) b))
        where
          which : (l : List (Row E.system.State)) → length l ≤ 0 → l ≡ []
          which [] h = refl
          which (r ∷ l) h = absurd (omega arith)

  -- every system and every N from 1 has an outcome
  pub find_means : 1 ≤ N → Means E.system N (find E N)
  unfolding find
  find_means h = levels_mean (suc N) 0 [] (start_row E.system ∷ []) (level_zero E.system) (λ r m. absurd m) h (omega arith)
