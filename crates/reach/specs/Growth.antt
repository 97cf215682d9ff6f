-- How rows grow when offered ones are added, with no bound on their number.
use Rattle.std.specs.Prelude.{◌≡◌, ◌⊎◌, Bool, ◌||◌}
use Rattle.std.proofs.Math.Path.{refl, sym, ap, subst}
use Rattle.std.proofs.Common.{◌∙◌}
use Rattle.std.proofs.Math.Logic.{inl, inr}
use Rattle.std.proofs.Math.Bool.{true, false}
use mathlib.Core.List.{List, [], ◌∷◌, ◌++◌, append_assoc, append-nil}
use Rattle.std.proofs.Math.Dec.{T}
use Rattle.std.proofs.Math.Seq.{append_snoc}
use Rattle.reach.specs.Lists.{◌∈◌, Pairwise}
use Rattle.reach.specs.ListLaws.{in_left, in_right, in_either, in_last, pairwise_append, pairwise_across}
use Rattle.reach.specs.System.{System}
use Rattle.reach.specs.Order.{Sooner}
use Rattle.reach.specs.OrderLaws.{sooner_irrefl, sooner_trans}
use Rattle.reach.specs.Searchable.{Searchable}
use Rattle.reach.specs.Rows.{Row, known}

abbrev pub RowSooner : {X : Type 0} → Row X → Row X → Type 0
RowSooner r q = Sooner r.way q.way

-- some row has the state
abbrev pub Has : {X : Type 0} → List (Row X) → X → Type 0
Has {X = X} rows x = (r : Row X) × (r ∈ rows) × (r.state ≡ x)

pub has_left : {X : Type 0} (l m : List (Row X)) (x : X) → Has l x → Has (l ++ m) x
has_left l m x h = (h.0, in_left h.0 l m h.1, h.2)

or_right : (a b : Bool) → T b → T (a || b)
or_right true b h = tt
or_right false b h = h

or_left : (a b : Bool) → T a → T (a || b)
or_left true b h = tt
or_left false b h = absurd h

module _ (S : System) where
  -- one row more, unless its state is known
  unfoldable pub add_unless : Row S.State → List (Row S.State) → Bool → List (Row S.State)
  add_unless c rows true = rows
  add_unless c rows false = rows ++ (c ∷ [])

  -- `fresh` is what adding the rows `done` to the rows `old` has given: of each state that `old` lacks, the soonest row of `done`
  pub record Grown (old done fresh : List (Row S.State)) : Type 0 where
    pub from : (r : Row S.State) → r ∈ fresh → r ∈ done
    pub new : (r : Row S.State) → r ∈ fresh → ¬ (Has old r.state)
    pub soonest : (r c : Row S.State) → r ∈ fresh → c ∈ done → c.state ≡ r.state → ¬ (RowSooner c r)
    pub covers : (c : Row S.State) → c ∈ done → Has (old ++ fresh) c.state
    pub ordered : Pairwise RowSooner fresh

  nothing_grown : (old : List (Row S.State)) → Grown old [] []
  nothing_grown old =
      record { from = λ r h. h; new = λ r h. absurd h; soonest = λ r c h. absurd h; covers = λ c h. absurd h; ordered = tt }

  -- the next row offered, which comes after all that were offered before
  module _ (old done fresh : List (Row S.State)) (c : Row S.State)
      (after : (d : Row S.State) → d ∈ done → RowSooner d c) (g : Grown old done fresh) where
    grown_known : Has (old ++ fresh) c.state → Grown old (done ++ (c ∷ [])) fresh
    grown_known h =
        record {
          from = λ r k. in_left r done (c ∷ []) (g.from r k);
          new = g.new;
          soonest = λ r d k m e. soonest r d k e (in_either d done (c ∷ []) m);
          covers = λ d m. covers d (in_either d done (c ∷ []) m);
          ordered = g.ordered;
        }
      where
        soonest : (r d : Row S.State) → r ∈ fresh → d.state ≡ r.state → (d ∈ done) ⊎ (d ∈ (c ∷ [])) → ¬ (RowSooner d r)
        soonest r d k e (inl m) sooner = g.soonest r d k m e sooner
        soonest r d k e (inr (inl p)) sooner =
            sooner_irrefl r.way
            (sooner_trans r.way d.way r.way (subst (λ q. RowSooner r q) (sym p) (after r (g.from r k))) sooner)
        soonest r d k e (inr (inr m)) sooner = absurd m

        covers : (d : Row S.State) → (d ∈ done) ⊎ (d ∈ (c ∷ [])) → Has (old ++ fresh) d.state
        covers d (inl m) = g.covers d m
        covers d (inr (inl p)) = (h.0, h.1, h.2 ∙ ap (λ r. r.state) (sym p))
        covers d (inr (inr m)) = absurd m

    grown_new : ¬ (Has (old ++ fresh) c.state) → Grown old (done ++ (c ∷ [])) (fresh ++ (c ∷ []))
    grown_new n =
        record {
          from = λ r k. from r (in_either r fresh (c ∷ []) k);
          new = λ r k. new r (in_either r fresh (c ∷ []) k);
          soonest = λ r d k m e. soonest r d e (in_either r fresh (c ∷ []) k) (in_either d done (c ∷ []) m);
          covers = λ d m. covers d (in_either d done (c ∷ []) m);
          ordered =
              pairwise_append RowSooner fresh (c ∷ []) g.ordered (tt, tt)
              (λ r d k m. last r d k m);
        }
      where
        from : (r : Row S.State) → (r ∈ fresh) ⊎ (r ∈ (c ∷ [])) → r ∈ (done ++ (c ∷ []))
        from r (inl k) = in_left r done (c ∷ []) (g.from r k)
        from r (inr k) = in_right r done (c ∷ []) k

        new : (r : Row S.State) → (r ∈ fresh) ⊎ (r ∈ (c ∷ [])) → ¬ (Has old r.state)
        new r (inl k) h = g.new r k h
        new r (inr (inl p)) h = n (has_left old fresh c.state (h.0, h.1, h.2 ∙ ap (λ r. r.state) p))
        new r (inr (inr k)) h = absurd k

        covered : (d : Row S.State) → d ∈ done → ¬ (d.state ≡ c.state)
        covered d m e = let h = g.covers d m in n (h.0, h.1, h.2 ∙ e)

        soonest :
            (r d : Row S.State) → d.state ≡ r.state → (r ∈ fresh) ⊎ (r ∈ (c ∷ [])) → (d ∈ done) ⊎ (d ∈ (c ∷ [])) → ¬ (RowSooner d r)
        soonest r d e (inl k) (inl m) sooner = g.soonest r d k m e sooner
        soonest r d e (inl k) (inr (inl q)) sooner = covered r (g.from r k) (sym e ∙ ap (λ r. r.state) q)
        soonest r d e (inl k) (inr (inr m)) sooner = absurd m
        soonest r d e (inr (inl p)) (inl m) sooner = covered d m (e ∙ ap (λ r. r.state) p)
        soonest r d e (inr (inl p)) (inr (inl q)) sooner =
            sooner_irrefl c.way (subst (λ r. RowSooner r c) q (subst (λ r. RowSooner d r) p sooner))
        soonest r d e (inr (inl p)) (inr (inr m)) sooner = absurd m
        soonest r d e (inr (inr k)) m sooner = absurd k

        covers : (d : Row S.State) → (d ∈ done) ⊎ (d ∈ (c ∷ [])) → Has (old ++ (fresh ++ (c ∷ []))) d.state
        covers d (inl m) =
            let h = g.covers d m in
            (h.0, subst (λ l. h.0 ∈ l) (append_assoc old fresh (c ∷ [])) (in_left h.0 (old ++ fresh) (c ∷ []) h.1), h.2)
        covers d (inr (inl p)) = (c, in_right c old (fresh ++ (c ∷ [])) (in_last c fresh), ap (λ r. r.state) (sym p))
        covers d (inr (inr m)) = absurd m

        last : (r d : Row S.State) → r ∈ fresh → d ∈ (c ∷ []) → RowSooner r d
        last r d k (inl p) = subst (λ q. RowSooner r q) (sym p) (after r (g.from r k))
        last r d k (inr m) = absurd m

  -- what adding gives, as a list behind the old rows
  abbrev pub Grows : (old done rows : List (Row S.State)) → Type 0
  Grows old done rows = (fresh : List (Row S.State)) × (rows ≡ old ++ fresh) × Grown old done fresh

module _ (E : Searchable) where
  -- a state is known exactly when some row has it
  pub known_has : (x : E.system.State) (rows : List (Row E.system.State)) → T (known E x rows) → Has rows x
  unfolding known
  known_has x [] h = absurd h
  known_has x (r ∷ rows) h = first (E.same x r.state) refl h (λ k. known_has x rows k)
    where
      first : (b : Bool) → E.same x r.state ≡ b → T (b || known E x rows) → (T (known E x rows) → Has rows x) → Has (r ∷ rows) x
      first true e k again = (r, inl refl, sym (E.same_equal x r.state (subst T (sym e) tt)))
      first false e k again = let h = again k in (h.0, inr h.1, h.2)

  pub has_known : (x : E.system.State) (rows : List (Row E.system.State)) → (r : Row E.system.State) → r ∈ rows → r.state ≡ x → T (known E x rows)
  unfolding known
  has_known x [] r h e = absurd h
  has_known x (q ∷ rows) r (inl d) e =
      or_left (E.same x q.state) (known E x rows) (subst (λ y. T (E.same x y)) (sym e ∙ ap (λ r. r.state) d) (E.same_refl x))
  has_known x (q ∷ rows) r (inr h) e = or_right (E.same x q.state) (known E x rows) (has_known x rows r h e)

  unfoldable pub add : Row E.system.State → List (Row E.system.State) → List (Row E.system.State)
  add c rows = add_unless E.system c rows (known E c.state rows)

  unfoldable pub add_all : List (Row E.system.State) → List (Row E.system.State) → List (Row E.system.State)
  add_all rows [] = rows
  add_all rows (c ∷ cs) = add_all (add c rows) cs

  grows_by :
      (old done fresh : List (Row E.system.State)) (c : Row E.system.State) →
      ((d : Row E.system.State) → d ∈ done → RowSooner d c) → Grown E.system old done fresh → (b : Bool) → known E c.state (old ++ fresh) ≡ b →
      Grows E.system old (done ++ (c ∷ [])) (add_unless E.system c (old ++ fresh) b)
  unfolding add_unless
  grows_by old done fresh c after g true e =
      (fresh, refl, grown_known E.system old done fresh c after g (known_has c.state (old ++ fresh) (subst T (sym e) tt)))
  grows_by old done fresh c after g false e = (
    fresh ++ (c ∷ []),
    append_assoc old fresh (c ∷ []),
    grown_new E.system old done fresh c after g (λ h. subst T e (has_known c.state (old ++ fresh) h.0 h.1 h.2)),
  )

  grows_all :
      (old done fresh cs : List (Row E.system.State)) → Grown E.system old done fresh → Pairwise RowSooner (done ++ cs) →
      Grows E.system old (done ++ cs) (add_all (old ++ fresh) cs)
  unfolding add_all add
  grows_all old done fresh [] g p = (fresh, refl, rw append-nil g)
  grows_all old done fresh (c ∷ cs) g p =
      let first =
      grows_by old done fresh c (λ d m. pairwise_across RowSooner done (c ∷ cs) p d c m (inl refl)) g
      (known E c.state (old ++ fresh)) refl in
      let rest = grows_all old (done ++ (c ∷ [])) first.0 cs first.2 (rw append_snoc p) in
      (rest.0, ap (λ l. add_all l cs) first.1 ∙ rest.1, rw append_snoc at rest.2)

  -- rows in order, added to old ones
  pub grows : (old cs : List (Row E.system.State)) → Pairwise RowSooner cs → Grows E.system old cs (add_all old cs)
  grows old cs p = let g = grows_all old [] [] cs (nothing_grown E.system old) p in (g.0, ap (λ l. add_all l cs) (sym (append-nil old)) ∙ g.1, g.2)
