-- A transition system, and the run of a schedule in it.
use Rattle.std.specs.Prelude.{Bool, List, [], ◌∷◌, ℕ}
use Rattle.std.proofs.Math.Option.{Option, none, some}

-- A start; `next`, what a step leads to, with none for a step that may not be taken; a goal test.
pub record System : Type 1 where
  pub State : Type 0
  pub start : State
  pub next : ℕ → State → Option State
  pub goal : State → Bool

-- the second question asked of what the first gave, if it gave anything
abbrev pub and_then : {A B : Type 0} → Option A → (A → Option B) → Option B
and_then none f = none
and_then (some a) f = f a

-- the state at the end of a schedule, if each of its steps may be taken in turn
abbrev pub run : (S : System) → List ℕ → S.State → Option S.State
run S [] x = some x
run S (s ∷ w) x = and_then (S.next s x) (run S w)
