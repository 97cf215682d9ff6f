-- The schedule while links are walked back: what is left of the walk, and then what was written.
use Rattle.std.specs.Prelude.{◌≡◌, List, ◌∷◌, ◌++◌, set}
use Rattle.std.proofs.Math.Path.{sym}
use Rattle.std.proofs.Common.{◌∙◌, get_or-set_same}
use Prim.Native.Nat.{ℕ, zero, suc, ◌-◌, ◌/◌, ◌%◌, ◌≤◌, ◌<◌}
use native.Mathlib.Omega.{arith}
use Rattle.std.proofs.Math.ListN.{length, length-set, drop, get_or}
use Rattle.std.proofs.Math.Seq.{drop-cons, drop-set-lt, append_snoc}
use Rattle.reach.specs.WalkBack.{walk_back, Walkable}

pub record WalkingBack (links : List ℕ) (steps from : ℕ) (before : List ℕ) (schedule : List ℕ) (left slot : ℕ) : Type 0 where
  pub same_length : length schedule ≡ length before
  pub room : left ≤ length schedule
  pub walkable : Walkable links left slot
  pub is : walk_back links steps from ++ drop steps before ≡ walk_back links left slot ++ drop left schedule

module _ (links : List ℕ) (steps from : ℕ) (before : List ℕ) where
  -- the link that is read is there
  pub link_there : (schedule : List ℕ) (left slot : ℕ) → 0 < left → WalkingBack links steps from before schedule left slot → slot < length links
  unfolding Walkable
  link_there schedule zero slot n h = absurd (omega arith)
  link_there schedule (suc k) slot n h = h.walkable.0

  -- one step written
  pub walked_back :
      (schedule : List ℕ) (left slot : ℕ) → 0 < left → WalkingBack links steps from before schedule left slot →
      WalkingBack links steps from before (set schedule (left - 1) (get_or links slot 0 % 64)) (left - 1) (get_or links slot 0 / 64)
  unfolding Walkable walk_back
  walked_back schedule zero slot n h = absurd (omega arith)
  walked_back schedule (suc k) slot n h =
      let one : suc k - 1 ≡ k = omega arith in
      let step = get_or links slot 0 % 64 in
      let there : k < length schedule = omega (arith, h.room) in
      let written : k < length (set schedule k step) = omega (arith, length-set schedule k step) in
      let opened : drop k (set schedule k step) ≡ step ∷ drop (suc k) schedule =
      drop-cons (set schedule k step) k 0 written
      ∙ rw (get_or-set_same schedule k step 0 there, drop-set-lt (suc k) schedule k step (omega arith)) in
      rw one
      (record {
        same_length = length-set schedule k step ∙ h.same_length;
        room = omega (arith, length-set schedule k step);
        walkable = h.walkable.1;
        is = h.is ∙ append_snoc (walk_back links k (get_or links slot 0 / 64)) step (drop (suc k) schedule) ∙ rw opened;
      })

  -- nothing left: the schedule is the walk, and then what stood there
  pub finished :
      (schedule : List ℕ) (left slot : ℕ) → left ≤ 0 → WalkingBack links steps from before schedule left slot →
      schedule ≡ walk_back links steps from ++ drop steps before
  unfolding walk_back
  finished schedule zero slot n h = sym h.is
  finished schedule (suc k) slot n h = absurd (omega arith)
