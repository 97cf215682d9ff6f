-- The search on lists has the meaning, for every system and every N from 1.
use mathlib.Core.List.{List, map}
use Prim.Native.Nat.{ℕ}
use Rattle.reach.specs.Rows.{Row}

abbrev pub states : {X : Type 0} → List (Row X) → List X
states rows = map (λ r. r.state) rows

abbrev pub links : {X : Type 0} → List (Row X) → List ℕ
links rows = map (λ r. r.from) rows

-- The search.
