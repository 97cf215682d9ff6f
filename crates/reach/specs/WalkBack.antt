-- Links walked back give the schedule that first led to a row.
use Rattle.std.specs.Prelude.{◌≡◌}
use Rattle.std.proofs.Math.Path.{refl, ap}
use Rattle.std.proofs.Common.{sym, subst, arith}
use mathlib.Core.List.{List, [], ◌∷◌, ◌++◌}
use Rattle.std.proofs.Math.Option.{some}
use Prim.Native.Nat.{ℕ, zero, suc, ◌/◌, ◌%◌, ◌≤◌, ◌<◌}
use Rattle.std.proofs.Math.ListN.{length, get_or, get_elem?}
use Rattle.reach.specs.Lists.{◌∈◌}
use Rattle.reach.specs.ListLaws.{at_in, at_below, map_at, at_get_or}
use Rattle.reach.specs.Searchable.{Searchable}
use Rattle.reach.specs.OrderLaws.{length_snoc}
use Rattle.reach.specs.RunLaws.{run_snoc, step_below, Least}
use Rattle.reach.specs.Meaning.{LeadsTo}
use Rattle.reach.specs.Rows.{Row}
use Rattle.reach.specs.Levels.{Behind, RowsLinked}
use Rattle.reach.specs.Found.{links}

-- the last k steps of the way to slot i, as the links tell them
unfoldable pub walk_back : List ℕ → (k i : ℕ) → List ℕ
walk_back ls zero i = []
walk_back ls (suc k) i = walk_back ls k (get_or ls i 0 / 64) ++ (get_or ls i 0 % 64 ∷ [])

-- the walk stays among the links
unfoldable pub Walkable : List ℕ → (k i : ℕ) → Type 0
Walkable ls zero i = Unit {0}
Walkable ls (suc k) i = (i < length ls) × Walkable ls k (get_or ls i 0 / 64)

module _ (E : Searchable) (few : E.bound ≤ 64) (rows : List (Row E.system.State)) (least : (r : Row E.system.State) → r ∈ rows → Least E.system r.state r.way)
    (linked : RowsLinked rows) (ls : List ℕ) (same : (q k : ℕ) → get_elem? (links rows) q ≡ some k → get_elem? ls q ≡ some k) where
  -- the row before the last step of a way that has one
  before : (i k : ℕ) (r : Row E.system.State) → get_elem? rows i ≡ some r → length r.way ≡ suc k → Behind rows i r
  before zero k r e n = absurd (omega (arith, ap length (linked.root r e)))
  before (suc i) k r e n = linked.other (suc i) r (omega arith) e

  step_few : (i : ℕ) (r : Row E.system.State) → get_elem? rows i ≡ some r → (b : Behind rows i r) → b.step < 64
  step_few i r e b =
      let h = (least r (at_in rows i r e)).leads in
      let f = run_snoc E.system b.parent.way b.step E.system.start r.state (subst (λ w. LeadsTo E.system w r.state) b.way h) in
      omega (arith, step_below E b.step f.0 r.state f.2)

  link_at : (i : ℕ) (r : Row E.system.State) → get_elem? rows i ≡ some r → get_or ls i 0 ≡ r.from
  link_at i r e = at_get_or ls i r.from 0 (same i r.from (map_at (λ r. r.from) rows i r e))

  pub walk_back_way : (k i : ℕ) (r : Row E.system.State) → get_elem? rows i ≡ some r → length r.way ≡ k → (walk_back ls k i ≡ r.way) × Walkable ls k i
  unfolding walk_back Walkable
  walk_back_way zero i r e n = (nothing r.way n, tt)
    where
      nothing : (w : List ℕ) → length w ≡ 0 → [] ≡ w
      nothing [] n = refl
      nothing (s ∷ w) n = absurd (omega arith)
  walk_back_way (suc k) i r e n =
      let b = before i k r e n in
      let small = step_few i r e b in
      let here = link_at i r e in
      let slot : get_or ls i 0 / 64 ≡ b.slot = omega (arith, here, b.from) in
      let step : get_or ls i 0 % 64 ≡ b.step = omega (arith, here, b.from) in
      let shorter : length b.parent.way ≡ k = omega (arith, ap length b.way, length_snoc b.parent.way b.step) in
      let rest = walk_back_way k b.slot b.parent b.parent_at shorter in (
        rw (slot, step, rest.0) (sym b.way),
        (at_below ls i r.from (same i r.from (map_at (λ r. r.from) rows i r e)), rw slot rest.1),
      )
