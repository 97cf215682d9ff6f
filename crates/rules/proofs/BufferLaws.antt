-- A thread's buffer stays in order: a store joins in its place, a flush takes one out and groups are counted anew.
use Rattle.std.specs.Prelude.{◌≡◌, refl, false, ℕ, suc, ◌≤◌}
use Rattle.std.proofs.Common.{arith}
use mathlib.Core.List.{List, [], ◌∷◌}
use Rattle.reach.specs.Lists.{All, Pairwise}
use Rattle.reach.specs.ListLaws.{all_imp}
use Rattle.rules.specs.State.{Pending, Buffer}
use Rattle.rules.specs.Step.{stands_before, in_its_place, newest_group}
use Rattle.rules.specs.Sound.{StandsBefore, NoGap}
use Rattle.rules.specs.BufferLaws.{of_cond, inserted_all, in_its_place_inserted, before_is, not_before_is, before_trans, newest_most, joined_most, joined_empty, joining}

-- The order of PSO, as its test has it.

pub in_its_place_ordered : (q : Pending) (b : List Pending) → Pairwise StandsBefore b → Pairwise StandsBefore (in_its_place q b)
unfolding in_its_place
in_its_place_ordered q [] h = (tt, tt)
in_its_place_ordered q (p ∷ b) h =
    of_cond
    (Pairwise StandsBefore)
    (stands_before p q)
    (λ e. (inserted_all (StandsBefore p) (in_its_place_inserted q b) (before_is p q e) h.0, in_its_place_ordered q b h.1))
    (λ e.
    let first = not_before_is p q e in
    ((first, all_imp (StandsBefore p) (StandsBefore q) (λ r k. before_trans q p r first k) b h.0), h))

-- A store joins the newest group or the next, so no gap comes of it.

module _ (q : Pending) where
  -- behind a store of group g
  joins_behind : (g : ℕ) (b : List Pending) → All (λ p. p.group ≤ q.group) b → q.group ≤ suc (newest_group g b) → NoGap (suc g) b
      → NoGap (suc g) (in_its_place q b)
  unfolding in_its_place newest_group
  joins_behind g [] low high h = (high, tt)
  joins_behind g (p ∷ b) low high h =
      of_cond
      (NoGap (suc g))
      (stands_before p q)
      (λ e. (h.0, joins_behind p.group b low.1 high h.1))
      (λ e. let first = not_before_is p q e in (omega (arith, first.0, h.0), (omega (arith, low.0), h.1)))

  joins_first : (b : List Pending) → All (λ p. p.group ≤ q.group) b → (b ≡ [] → q.group ≡ 0) → q.group ≤ suc (newest_group 0 b) → NoGap 0 b
      → NoGap 0 (in_its_place q b)
  unfolding in_its_place newest_group
  joins_first [] low none high h = (omega (arith, none refl), tt)
  joins_first (p ∷ b) low none high h =
      of_cond
      (NoGap 0)
      (stands_before p q)
      (λ e. (h.0, joins_behind p.group b low.1 high h.1))
      (λ e. let first = not_before_is p q e in (omega (arith, first.0, h.0), (omega (arith, low.0), h.1)))

pub joins_in_order : (b : Buffer) (v k : ℕ) → (b.pending ≡ [] → b.marked ≡ false)
    → Pairwise StandsBefore b.pending × NoGap 0 b.pending
    → Pairwise StandsBefore (in_its_place (joining b v k) b.pending) × NoGap 0 (in_its_place (joining b v k) b.pending)
joins_in_order b v k unmarked h =
    let q = joining b v k in
    let most = joined_most b in (
      in_its_place_ordered q b.pending h.0,
      joins_first q b.pending
          (all_imp _ _ (λ p l. omega (arith, most.0, l)) b.pending (newest_most 0 b.pending h.0))
          (joined_empty b unmarked) most.1 h.1,
    )
