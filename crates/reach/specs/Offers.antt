-- What the steps of a run of rows lead to: nothing else, all of it, and in order.
use Rattle.std.specs.Prelude.{◌≡◌}
use mathlib.Core.List.{[], ◌∷◌, ◌++◌}
use Rattle.std.proofs.Math.Option.{some}
use Prim.Native.Nat.{ℕ}
use Rattle.reach.specs.System.{System}
use Rattle.reach.specs.Meaning.{link}
use Rattle.reach.specs.Rows.{Row}

-- c is what the step s of the row r, which stands at slot p, leads to
pub record Offered (S : System) (p : ℕ) (r : Row S.State) (s : ℕ) (c : Row S.State) : Type 0 where
  pub next : S.next s r.state ≡ some c.state
  pub way : c.way ≡ r.way ++ (s ∷ [])
  pub from : c.from ≡ link p s
