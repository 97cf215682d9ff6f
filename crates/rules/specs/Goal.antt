-- The goal: 01, "Job file". "A goal holds when the flag and all clauses hold."
use Rattle.std.specs.Prelude.{Bool, true, not, ◌&&◌, ◌||◌, List, [], ◌∷◌, eqb}
use Rattle.rules.specs.State.{Buffer, State, place, register, variable}
use Rattle.rules.specs.Job.{Job}
use Rattle.rules.specs.Step.{is_empty}
use Rattle.rules.specs.declared.Clause.{Clause}
use Rattle.rules.specs.declared.Clause.TheVariants.{PlaceIs, RegisterIs, MemoryIs}

unfoldable pub every : {A : Type 0} → (A → Bool) → List A → Bool
every f [] = true
every f (x ∷ l) = f x && every f l

-- "(1, t, 0, p) thread t is at place p"; "(2, t, r, k) register r of t is k"; "(3, v, 0, k) memory, not a buffer, holds k at v"
unfoldable pub clause_holds : State → Clause → Bool
clause_holds x (PlaceIs t p) = eqb (place t x) p
clause_holds x (RegisterIs t r k) = eqb (register t r x) k
clause_holds x (MemoryIs v k) = eqb (variable v x) k

-- "0 any buffers, 1 all buffers empty"
abbrev pub nothing_pending : Buffer → Bool
nothing_pending b = is_empty b.pending

unfoldable pub goal : Job → State → Bool
goal j x = (not j.all_empty || every nothing_pending x.buffers) && every (clause_holds x) j.clauses
