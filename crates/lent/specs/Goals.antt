-- The first goal among the rows of a level, from the slots.
use Rattle.std.specs.Prelude.{◌≡◌, refl, Bool, true, false, List, [], ◌∷◌, ◌++◌, ℕ, zero, suc, ◌+◌, ◌-◌, ◌≤◌, ◌<◌, length, take, drop}
use Rattle.std.proofs.Common.{sym, ◌∙◌, ap, subst, inl, inr, arith, length-append, take-append-drop, take_all}
use Rattle.std.proofs.Math.Option.{Option, none, some}
use Rattle.std.proofs.Math.ListN.{get_elem?}
use Rattle.reach.specs.Lists.{◌∈◌, All}
use Rattle.reach.specs.ListLaws.{below_at, at_right}
use Rattle.reach.specs.System.{System}
use Rattle.reach.specs.RunLaws.{none_is_not_some}
use Rattle.reach.specs.Rows.{Row, goal_row}
use Rattle.reach.specs.PutLaws.{goal_row_at, goal_row_nowhere}
use Rattle.lent.specs.Coding.{Coding, system}
use Rattle.lent.specs.Parts.{Memory, FirstGoal}
use Rattle.lent.specs.Kept.{Kept, row_stands}

-- what holds of the elements before place k holds of the list's first k
all_before : {A : Type 0} (P : A → Type 0) (l : List A) (k : ℕ) → ((i : ℕ) (a : A) → i < k → get_elem? l i ≡ some a → P a) → All P (take k l)
all_before P l zero h = tt
all_before P [] (suc k) h = tt
all_before P (a ∷ l) (suc k) h = (h 0 a (omega arith) refl, all_before P l k (λ i b n e. h (suc i) b (omega arith) e))

drop_one : {A : Type 0} (l : List A) (k : ℕ) (a : A) → get_elem? l k ≡ some a → drop k l ≡ a ∷ drop (suc k) l
drop_one [] k a p = absurd (none_is_not_some p)
drop_one {A} (b ∷ l) zero a p = let d : b ≡ a = cc in ap {B = List A} (λ v. v ∷ l) d
drop_one (b ∷ l) (suc k) a p = drop_one l k a p

-- the row at slot i of a level that begins at slot lo
pub level_row :
    {X : Type 0} (old new : List (Row X)) (lo i n : ℕ) → length old ≡ lo → n ≡ length (old ++ new) → lo ≤ i → i < n →
    (r : Row X) × (get_elem? (old ++ new) i ≡ some r) × (get_elem? new (i - lo) ≡ some r)
level_row old new lo i n from count low high =
    let r = below_at new (i - lo) (omega (arith, length-append old new)) in
    let there : length old + (i - lo) ≡ i = omega (arith, from) in
    (r.0, subst (λ k. get_elem? (old ++ new) k ≡ some r.0) there (at_right old new (i - lo) ∙ r.1), r.1)

module _ (C : Coding) (N : ℕ) (t l : List ℕ) (old new : List (Row (system C).State)) (e : Memory)
    (h : Kept C N t l (record { rows = old ++ new; full = false }) e) (lo g : ℕ) (from : length old ≡ lo) (found : FirstGoal C e.table lo e.count g) where
  -- none of the level's rows before slot g is a goal
  none_before : All (λ r. (system C).goal r.state ≡ false) (take (g - lo) new)
  none_before =
      all_before (λ r. (system C).goal r.state ≡ false) new (g - lo)
      (λ i r n p.
      let there : get_elem? (old ++ new) (lo + i) ≡ some r = subst (λ k. get_elem? (old ++ new) (k + i) ≡ some r) from (at_right old new i ∙ p) in
      found.none_before (lo + i) (omega arith) (omega (arith, found.low)) (row_stands C N t l _ e h (lo + i) r there))

  pub goal_found : g < e.count → (r : Row (system C).State) × (get_elem? (old ++ new) g ≡ some r) × (goal_row (system C) new ≡ some r)
  goal_found n =
      let r = level_row old new lo g e.count from h.count found.low n in
      let yes_goal = found.here n (row_stands C N t l _ e h g r.0 r.1) in
      let split : take (g - lo) new ++ (r.0 ∷ drop (suc (g - lo)) new) ≡ new =
      ap (λ z. take (g - lo) new ++ z) (sym (drop_one new (g - lo) r.0 r.2)) ∙ take-append-drop (g - lo) new in (
        r.0,
        r.1,
        subst (λ z. goal_row (system C) z ≡ some r.0) split (goal_row_at (system C) (take (g - lo) new) r.0 (drop (suc (g - lo)) new) none_before yes_goal),
      )

  pub goal_nowhere : e.count ≤ g → goal_row (system C) new ≡ none
  goal_nowhere n =
      let all = take_all (g - lo) new (omega (arith, h.count, from, length-append old new)) in
      goal_row_nowhere (system C) new (subst (All (λ r. (system C).goal r.state ≡ false)) all none_before)

-- the first goal row is one of the rows
pub goal_row_in : (S : System) (rows : List (Row S.State)) (r : Row S.State) → goal_row S rows ≡ some r → r ∈ rows
unfolding goal_row
goal_row_in S [] r e = absurd (none_is_not_some e)
goal_row_in S (a ∷ rows) r e = which (S.goal a.state) e (goal_row_in S rows r)
  where
    which :
        (b : Bool) → elim b as (λ _. Option (Row S.State)) [ true ↦ some a | false ↦ goal_row S rows ] ≡ some r →
        (goal_row S rows ≡ some r → r ∈ rows) → r ∈ (a ∷ rows)
    which true d again = inl (let f : a ≡ r = cc in sym f)
    which false d again = inr (again d)
