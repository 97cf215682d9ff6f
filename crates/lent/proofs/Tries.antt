-- The steps of one state, tried from the lowest upward: those that may not be taken can be passed over, and so can all once a state was left out.
use Rattle.std.specs.Prelude.{◌≡◌, List, [], ◌∷◌, ◌++◌}
use Rattle.std.proofs.Math.Path.{refl, subst}
use Rattle.std.proofs.Common.{sym}
use Rattle.std.proofs.Math.Option.{Option, none, some}
use Prim.Native.Nat.{ℕ, zero, suc}
use Rattle.std.proofs.Math.ListN.{get_elem?}
use Rattle.reach.specs.ListLaws.{at_in}
use Rattle.reach.specs.Meaning.{LeadsTo, link}
use Rattle.reach.specs.Rows.{Row, offer, offers_below, Met, put_all}
use Rattle.reach.specs.PutLaws.{step_none, step_some, steps_suc}
use Rattle.reach.specs.RunLaws.{snoc_run}
use Rattle.lent.specs.Coding.{Coding, system, Faithful}
use Rattle.lent.specs.Parts.{Memory, Offered, Tried}
use Rattle.lent.specs.Kept.{Lends, Kept, kept_put}

module _ (C : Coding) (f : Faithful C) (N : ℕ) (t l : List ℕ) (lends : Lends C.size N t l) (q : ℕ) (r : Row (system C).State) where
  -- whatever rows the memory holds, after what one step leads to was put it holds what the list search makes of them
  kept_offered :
      (m : Met (system C).State) (e : Memory) → Kept C N t l m e → LeadsTo (system C) r.way r.state → (s : ℕ) (e' : Memory) →
      Offered C N q r.state s ((system C).next s r.state) e e' → Kept C N t l (put_all C.searched N m (offer (system C) q r s)) e'
  kept_offered m e h leads s e' = one ((system C).next s r.state) refl
    where
      one :
          (o : Option (system C).State) → (system C).next s r.state ≡ o → Offered C N q r.state s o e e' →
          Kept C N t l (put_all C.searched N m (offer (system C) q r s)) e'
      one none is same = rw (same, step_none C.searched N m q r s is) h
      one (some y) is put =
          rw (step_some C.searched N m q r s y is)
          (kept_put C N t l m e h f lends (record { state = y; way = r.way ++ (s ∷ []); from = link q s })
          (snoc_run (system C) r.way s (system C).start y r.state leads is) e' put)

  -- and so for all its steps below k
  pub kept_tried :
      (m : Met (system C).State) (e : Memory) → Kept C N t l m e → get_elem? m.rows q ≡ some r → (k : ℕ) (e' : Memory) →
      Tried C N q r.state k e e' → Kept C N t l (put_all C.searched N m (offers_below (system C) q r k)) e'
  unfolding Tried put_all offers_below
  kept_tried m e h there zero e' same = subst (Kept C N t l m) (sym same) h
  kept_tried m e h there (suc s) e'' (e', tried, offered) =
      rw (steps_suc C.searched N m q r s)
      (kept_offered _ e' (kept_tried m e h there s e' tried) (h.ways r (at_in m.rows q r there)) s e'' offered)
