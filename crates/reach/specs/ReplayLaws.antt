-- Every schedule replays to one answer, the one that `replay` gives.
use Rattle.std.specs.Prelude.{◌≡◌, Bool, length, take}
use Rattle.std.proofs.Math.Path.{refl, sym, ap, ap₂, subst}
use Rattle.std.proofs.Common.{◌∙◌, add-zero, take_at}
use Rattle.std.proofs.Math.Bool.{true, false}
use mathlib.Core.List.{List, [], ◌∷◌, ◌++◌}
use Rattle.std.proofs.Math.Option.{some}
use Prim.Native.Nat.{ℕ, zero, suc, ◌+◌}
use native.Mathlib.Omega.{arith}
use Rattle.std.proofs.Math.Dec.{T}
use Rattle.std.proofs.Math.ListN.{get_elem?}
use Rattle.reach.specs.System.{System, run}
use Rattle.reach.specs.Meaning.{LeadsTo, Outcome, IsReachable}
use Rattle.reach.specs.Explained.{Stepped, gives, withheld, forget, Explained, system_of}
use Rattle.reach.specs.Replay.{Replayed, reaches, falls_short, stuck, ReplaysTo, at_end, replay_from, replay}
use Rattle.reach.specs.ListLaws.{at_right}
use Rattle.reach.specs.RunLaws.{none_is_not_some, andThen_some}

-- a step that leads on gives the state to which it leads
pub forget_some : {A R : Type 0} (o : Stepped A R) (y : A) → forget o ≡ some y → o ≡ gives y
forget_some (gives x) y e = let p : x ≡ y = cc in ap gives p
forget_some (withheld why) y e = absurd (none_is_not_some e)

module _ (M : Explained) where
  abbrev S : System
  S = system_of M

  -- the meaning from a state on, with i steps taken before
  abbrev FromMeans : ℕ → List ℕ → M.State → Replayed M.Reason → Type 0
  FromMeans i w x reaches = (y : M.State) × (run S w x ≡ some y) × T (M.goal y)
  FromMeans i w x falls_short = (y : M.State) × (run S w x ≡ some y) × (¬ (T (M.goal y)))
  FromMeans i w x (stuck n why) =
      (k : ℕ) × (n ≡ i + k) × (y : M.State) × (run S (take k w) x ≡ some y) × (s : ℕ) × (get_elem? w k ≡ some s) × (M.step s y ≡ withheld why)

  step_means :
      (i : ℕ) (s : ℕ) (w : List ℕ) (x y : M.State) → M.step s x ≡ gives y → (a : Replayed M.Reason) → FromMeans (suc i) w y a →
      FromMeans i (s ∷ w) x a
  step_means i s w x y e reaches h = (h.0, rw e h.1, h.2)
  step_means i s w x y e falls_short h = (h.0, rw e h.1, h.2)
  step_means i s w x y e (stuck n why) h = (suc h.0, omega (arith, h.1), h.2, rw e h.3, h.4, h.5, h.6)

  from_means : (i : ℕ) (w : List ℕ) (x : M.State) → FromMeans i w x (replay_from M i w x)
  unfolding replay_from at_end
  from_means i [] x = which (M.goal x) refl
    where
      which : (b : Bool) → M.goal x ≡ b → FromMeans i [] x (at_end b)
      which true e = (x, refl, subst T (sym e) tt)
      which false e = (x, refl, λ h. subst T e h)
  from_means i (s ∷ w) x = which (M.step s x) refl (λ y. from_means (suc i) w y)
    where
      which :
          (o : Stepped M.State M.Reason) → M.step s x ≡ o → ((y : M.State) → FromMeans (suc i) w y (replay_from M (suc i) w y)) →
          FromMeans i (s ∷ w) x (elim o as (λ _. Replayed M.Reason) [ withheld why ↦ stuck i why | gives y ↦ replay_from M (suc i) w y ])
      which (withheld why) e again = (0, omega arith, x, refl, s, refl, e)
      which (gives y) e again = step_means i s w x y e (replay_from M (suc i) w y) (again y)

  pub replay_means : (w : List ℕ) → ReplaysTo M w (replay M w)
  unfolding replay
  replay_means w = which (replay_from M 0 w M.start) (from_means 0 w M.start)
    where
      which : (a : Replayed M.Reason) → FromMeans 0 w M.start a → ReplaysTo M w a
      which reaches h = h
      which falls_short h = h
      which (stuck n why) h =
          let e : n ≡ h.0 = omega (arith, h.1) in
          record {
            there = h.2;
            before = subst (λ k. LeadsTo S (take k w) h.2) (sym e) h.3;
            step = h.4;
            step_at = subst (λ k. get_elem? w k ≡ some h.4) (sym e) h.5;
            not_enabled = h.6;
          }

  -- Any two answers that the meaning allows are equal: each is the one that `replay` gives.

  stuck_is :
      (i k : ℕ) (w : List ℕ) (x y : M.State) (s : ℕ) (why : M.Reason) → run S (take k w) x ≡ some y → get_elem? w k ≡ some s →
      M.step s y ≡ withheld why → replay_from M i w x ≡ stuck (i + k) why
  unfolding replay_from
  stuck_is i zero [] x y s why e f g = absurd (none_is_not_some f)
  stuck_is i (suc k) [] x y s why e f g = absurd (none_is_not_some f)
  stuck_is i zero (t ∷ w) x y s why e f g =
      let p : x ≡ y = cc in
      let q : t ≡ s = cc in
      let n : i ≡ i + 0 = omega arith in
      let h : M.step t x ≡ withheld why = ap₂ M.step q p ∙ g in
      rw (h, replay_from) (ap (λ m. stuck m why) n)
  stuck_is i (suc k) (t ∷ w) x y s why e f g =
      let r = andThen_some (S.next t x) (run S (take k w)) y e in
      let h : M.step t x ≡ gives r.0 = forget_some (M.step t x) r.0 r.1 in
      let n : suc i + k ≡ i + suc k = omega arith in
      rw (h, replay_from) (stuck_is (suc i) k w r.0 y s why r.2 f g ∙ ap (λ m. stuck m why) n)

  ended_is : (i : ℕ) (w : List ℕ) (x y : M.State) → run S w x ≡ some y → replay_from M i w x ≡ at_end (M.goal y)
  unfolding replay_from
  ended_is i [] x y e = let p : x ≡ y = cc in ap (λ z. at_end (M.goal z)) p
  ended_is i (s ∷ w) x y e =
      let r = andThen_some (S.next s x) (run S w) y e in
      let h : M.step s x ≡ gives r.0 = forget_some (M.step s x) r.0 r.1 in
      rw (h, replay_from) (ended_is (suc i) w r.0 y r.2)

  pub replay_is : (w : List ℕ) (a : Replayed M.Reason) → ReplaysTo M w a → a ≡ replay M w
  unfolding replay at_end
  replay_is w reaches h = sym (ended_is 0 w M.start h.0 h.1 ∙ which (M.goal h.0) h.2)
    where
      which : (b : Bool) → T b → at_end {Reason = M.Reason} b ≡ reaches
      which true t = refl
      which false t = absurd t
  replay_is w falls_short h = sym (ended_is 0 w M.start h.0 h.1 ∙ which (M.goal h.0) h.2)
    where
      which : (b : Bool) → ¬ (T b) → at_end {Reason = M.Reason} b ≡ falls_short
      which true n = absurd (n tt)
      which false n = refl
  replay_is w (stuck i why) h =
      let n : 0 + i ≡ i = omega arith in
      sym (stuck_is 0 i w M.start h.there h.step why h.before h.step_at h.not_enabled ∙ ap (λ m. stuck m why) n)

  -- the schedule that search gives replays to "reaches"
  pub schedule_reaches : (N d n : ℕ) (o : Outcome M.State) → IsReachable S N d n o → ReplaysTo M o.schedule reaches
  schedule_reaches N d n o h = let first = h.first.has in (first.goal, first.leads, first.holds)

  -- a schedule that ends in a step that is withheld is stuck there
  pub withheld_stuck :
      (w : List ℕ) (x : M.State) (s : ℕ) (why : M.Reason) → LeadsTo S w x → M.step s x ≡ withheld why →
      ReplaysTo M (w ++ (s ∷ [])) (stuck (length w) why)
  withheld_stuck w x s why leads e =
      record {
        there = x;
        before = subst (λ u. LeadsTo S u x) (sym (take_at w (s ∷ []) (length w) refl)) leads;
        step = s;
        step_at = subst (λ n. get_elem? (w ++ (s ∷ [])) n ≡ some s) (add-zero (length w)) (at_right w (s ∷ []) 0);
        not_enabled = e;
      }
