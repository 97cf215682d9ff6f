-- The levels: what the rows hold when every state at distance j or less has been met.
use Rattle.std.specs.Prelude.{◌≡◌, ◌⊎◌, ℕ, ◌≤◌, ◌<◌}
use Rattle.std.proofs.Math.Path.{refl, ap}
use Rattle.std.proofs.Common.{sym, subst, inr, arith}
use Rattle.std.proofs.Math.Logic.{inl}
use mathlib.Core.List.{List, [], ◌∷◌, ◌++◌}
use Rattle.std.proofs.Math.Option.{some}
use Rattle.std.proofs.Math.ListN.{length, get_elem?}
use Rattle.reach.specs.Lists.{◌∈◌, Pairwise}
use Rattle.reach.specs.ListLaws.{in_either, at_below}
use Rattle.reach.specs.System.{System}
use Rattle.reach.specs.Order.{Sooner}
use Rattle.reach.specs.RunLaws.{Least}
use Rattle.reach.specs.Meaning.{LeadsTo, link, no_link}
use Rattle.reach.specs.Rows.{Row, start_row}
use Rattle.reach.specs.Growth.{RowSooner, Has}

-- the row before the last step: it stands at an earlier slot
pub record Behind {X : Type 0} (rows : List (Row X)) (i : ℕ) (r : Row X) : Type 0 where
  pub slot : ℕ
  pub earlier : slot < i
  pub parent : Row X
  pub parent_at : get_elem? rows slot ≡ some parent
  pub step : ℕ
  pub way : r.way ≡ parent.way ++ (step ∷ [])
  pub from : r.from ≡ link slot step

-- the same among other rows, where the parent stands at its slot
pub behind_among :
    {X : Type 0} (rows others : List (Row X)) (i : ℕ) (r : Row X) (b : Behind rows i r) → get_elem? others b.slot ≡ some b.parent →
    Behind others i r
behind_among rows others i r b e =
    record { slot = b.slot; earlier = b.earlier; parent = b.parent; parent_at = e; step = b.step; way = b.way; from = b.from }

pub record RowsLinked {X : Type 0} (rows : List (Row X)) : Type 0 where
  pub zeroth : (r : Row X) → get_elem? rows 0 ≡ some r → r.from ≡ no_link
  pub root : (r : Row X) → get_elem? rows 0 ≡ some r → r.way ≡ []
  pub other : (i : ℕ) (r : Row X) → 0 < i → get_elem? rows i ≡ some r → Behind rows i r

module _ (S : System) where
  -- `old` are the rows nearer than j, `new` those at j
  pub record Level (j : ℕ) (old new : List (Row S.State)) : Type 0 where
    pub complete : (w : List ℕ) (x : S.State) → LeadsTo S w x → length w ≤ j → Has (old ++ new) x
    pub least : (r : Row S.State) → r ∈ (old ++ new) → Least S r.state r.way
    pub ordered : Pairwise RowSooner (old ++ new)
    pub nearer : (r : Row S.State) → r ∈ old → length r.way < j
    pub level : (r : Row S.State) → r ∈ new → length r.way ≡ j
    pub linked : RowsLinked (old ++ new)
    pub some_row : 0 < length (old ++ new)

  pub level_zero : Level 0 [] (start_row S ∷ [])
  unfolding start_row
  level_zero =
      record {
        complete = λ w x h n. (start_row S, inl refl, first w x h n);
        least = λ r h. least r h;
        ordered = (tt, tt);
        nearer = λ r h. absurd h;
        level = λ r h. level r h;
        linked = record { zeroth = λ r e. ap (λ r. r.from) (only r e); root = λ r e. ap (λ r. r.way) (only r e); other = λ i r n e. other i r n e };
        some_row = omega arith;
      }
    where
      first : (w : List ℕ) (x : S.State) → LeadsTo S w x → length w ≤ 0 → S.start ≡ x
      first [] x h n = cc
      first (s ∷ w) x h n = absurd (omega arith)

      nothing_sooner : (v : List ℕ) → ¬ (Sooner v [])
      nothing_sooner v (inl h) = omega arith
      nothing_sooner [] (inr h) = h.1
      nothing_sooner (s ∷ v) (inr h) = h.1

      least : (r : Row S.State) → r ∈ (start_row S ∷ []) → Least S r.state r.way
      least r (inl e) = subst (λ r. Least S r.state r.way) (sym e) (record { leads = refl; none_sooner = λ v h. nothing_sooner v })
      least r (inr h) = absurd h

      level : (r : Row S.State) → r ∈ (start_row S ∷ []) → length r.way ≡ 0
      level r (inl e) = ap (λ r. length r.way) e
      level r (inr h) = absurd h

      only : (r : Row S.State) → get_elem? (start_row S ∷ []) 0 ≡ some r → r ≡ start_row S
      only r e = let d : start_row S ≡ r = cc in sym d

      other : (i : ℕ) (r : Row S.State) → 0 < i → get_elem? (start_row S ∷ []) i ≡ some r → Behind (start_row S ∷ []) i r
      other i r n e = absurd (let h = at_below (start_row S ∷ []) i r e in omega arith)

  -- no row of a level is farther than the level
  pub rows_within : (j : ℕ) (old new : List (Row S.State)) → Level j old new → (r : Row S.State) → r ∈ (old ++ new) → length r.way ≤ j
  rows_within j old new v r h = which (in_either r old new h)
    where
      which : (r ∈ old) ⊎ (r ∈ new) → length r.way ≤ j
      which (inl m) = omega (arith, v.nearer r m)
      which (inr m) = omega (arith, v.level r m)
