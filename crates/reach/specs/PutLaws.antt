-- The search on lists as loops see it: one row put, the steps of one state, the states of one level, the first goal.
use Rattle.std.specs.Prelude.{◌≡◌, leb}
use Rattle.std.proofs.Math.Path.{refl}
use Rattle.std.proofs.Math.Bool.{true, false}
use mathlib.Core.List.{List, [], ◌∷◌, ◌++◌, append_assoc, append-nil}
use Rattle.std.proofs.Math.Option.{none, some}
use Prim.Native.Nat.{ℕ, suc, ◌+◌}
use Rattle.std.proofs.Common.{add-zero}
use native.Mathlib.Omega.{arith}
use Rattle.std.proofs.Math.ListN.{length}
use Rattle.reach.specs.Lists.{All}
use Rattle.reach.specs.System.{System}
use Rattle.reach.specs.Meaning.{link}
use Rattle.reach.specs.Searchable.{Searchable}
use Rattle.reach.specs.Rows.{Row, offer_of, offer, offers_below, offers, known, goal_row, Met, keep, keep_new, put_unless, put, put_all}

module _ (E : Searchable) (N : ℕ) (m : Met E.system.State) (c : Row E.system.State) where
  -- the four cases of one row
  pub put_when_full : m.full ≡ true → put E N m c ≡ m
  unfolding put put_unless
  put_when_full e = rw e

  pub put_when_known : m.full ≡ false → known E c.state m.rows ≡ true → put E N m c ≡ m
  unfolding put put_unless keep_new
  put_when_known e k = rw (e, k)

  pub put_when_none_left :
      m.full ≡ false → known E c.state m.rows ≡ false → leb N (length m.rows) ≡ true → put E N m c ≡ record { rows = m.rows; full = true }
  unfolding put put_unless keep_new keep
  put_when_none_left e k n = rw (e, k, n)

  pub put_when_new :
      m.full ≡ false → known E c.state m.rows ≡ false → leb N (length m.rows) ≡ false →
      put E N m c ≡ record { rows = m.rows ++ (c ∷ []); full = false }
  unfolding put put_unless keep_new keep
  put_when_new e k n = rw (e, k, n)

module _ (E : Searchable) (N : ℕ) where
  pub put_all_append : (m : Met E.system.State) (cs ds : List (Row E.system.State)) → put_all E N m (cs ++ ds) ≡ put_all E N (put_all E N m cs) ds
  unfolding put_all
  put_all_append m [] ds = refl
  put_all_append m (c ∷ cs) ds = put_all_append (put E N m c) cs ds

  -- one step of the row r at slot p
  module _ (m : Met E.system.State) (p : ℕ) (r : Row E.system.State) (s : ℕ) where
    pub step_none : E.system.next s r.state ≡ none → put_all E N m (offer E.system p r s) ≡ m
    unfolding put_all offer offer_of
    step_none e = rw e

    pub step_some :
        (y : E.system.State) → E.system.next s r.state ≡ some y →
        put_all E N m (offer E.system p r s) ≡ put E N m (record { state = y; way = r.way ++ (s ∷ []); from = link p s })
    unfolding put_all offer offer_of
    step_some y e = rw e

  -- all steps below a number, in past form
  pub steps_suc :
      (m : Met E.system.State) (p : ℕ) (r : Row E.system.State) (s : ℕ) →
      put_all E N m (offers_below E.system p r (suc s)) ≡ put_all E N (put_all E N m (offers_below E.system p r s)) (offer E.system p r s)
  unfolding offers_below
  steps_suc m p r s = put_all_append m (offers_below E.system p r s) (offer E.system p r s)

-- what the steps of two runs of rows lead to, and of one row
module _ (E : Searchable) where
  pub offers_append :
      (p : ℕ) (rows more : List (Row E.system.State)) → offers E p (rows ++ more) ≡ offers E p rows ++ offers E (p + length rows) more
  unfolding offers
  offers_append p [] more = rw (add-zero p)
  offers_append p (r ∷ rows) more =
      let e : suc p + length rows ≡ p + suc (length rows) = omega arith in
      rw (offers_append (suc p) rows more, e, append_assoc (offers_below E.system p r E.bound) (offers E (suc p) rows) (offers E (p + suc (length rows)) more))

  pub offers_one : (p : ℕ) (r : Row E.system.State) → offers E p (r ∷ []) ≡ offers_below E.system p r E.bound
  unfolding offers
  offers_one p r = append-nil (offers_below E.system p r E.bound)

-- the first goal among rows
module _ (S : System) where
  pub goal_row_at :
      (front : List (Row S.State)) (r : Row S.State) (back : List (Row S.State)) →
      All (λ q. S.goal q.state ≡ false) front → S.goal r.state ≡ true → goal_row S (front ++ r ∷ back) ≡ some r
  unfolding goal_row
  goal_row_at [] r back h e = rw (e, goal_row)
  goal_row_at (q ∷ front) r back h e = rw (h.0, goal_row) (goal_row_at front r back h.1 e)

  pub goal_row_nowhere : (rows : List (Row S.State)) → All (λ q. S.goal q.state ≡ false) rows → goal_row S rows ≡ none
  unfolding goal_row
  goal_row_nowhere [] h = refl
  goal_row_nowhere (q ∷ rows) h = rw (h.0, goal_row) (goal_row_nowhere rows h.1)
