-- What a search needs beside the system; the meaning of its answers does not speak of it.
use Rattle.std.specs.Prelude.{◌≡◌, Bool, ℕ, ◌≤◌, T}
use Rattle.std.proofs.Math.Option.{none}
use Rattle.reach.specs.System.{System}

-- a system that can be searched: an equality test of its states with its laws, and a number from which up no step may be taken
pub record Searchable : Type 1 where
  pub system : System
  pub same : system.State → system.State → Bool
  pub same_equal : (x y : system.State) → T (same x y) → x ≡ y
  pub same_refl : (x : system.State) → T (same x x)
  pub bound : ℕ
  pub beyond : (s : ℕ) (x : system.State) → bound ≤ s → system.next s x ≡ none
