-- The fence check: 01, "Replay and fence check", and 02, requests 4 and 7.
use Rattle.std.specs.Prelude.{◌≡◌, ◌⊎◌, List, [], ◌∷◌, ℕ, suc}
use Rattle.std.proofs.Math.Option.{Option, none, some}
use Rattle.std.proofs.Math.ListN.{get_elem?}
use Rattle.reach.specs.Lists.{◌∈◌}
use Rattle.reach.specs.Order.{Earlier}
use Rattle.rules.specs.Kinds.{control_of, role_of}
use Rattle.rules.specs.declared.Instr.{Instr}
use Rattle.rules.specs.declared.Control.{Control}
use Rattle.rules.specs.declared.Control.TheVariants.{On, To, ToIf}
use Rattle.rules.specs.declared.Role.{Role}
use Rattle.rules.specs.declared.Role.TheVariants.{Stores, Loads, Fences, Other}
use Rattle.rules.specs.declared.Passing.{Passing}
use Rattle.rules.specs.declared.Passing.TheVariants.{Anything, NoFence}

-- "successors of a place are the next one, p for JMP, both for JEQ"
unfoldable pub onward : ℕ → Control → List ℕ
onward p On = suc p ∷ []
onward p (To q) = q ∷ []
onward p (ToIf r k q) = suc p ∷ q ∷ []

-- "at place n it has ended": a place without an instruction has no successors
unfoldable pub onward_at : ℕ → Option Instr → List ℕ
onward_at p none = []
onward_at p (some i) = onward p (control_of i)

unfoldable pub successors : List Instr → ℕ → List ℕ
successors code p = onward_at p (get_elem? code p)

-- what stands at a place: a store, a load, a fence or none of them
unfoldable pub role_at : List Instr → ℕ → Role
role_at code p = elim (get_elem? code p) [ none ↦ Other | some i ↦ role_of i ]

-- one move
abbrev pub Move : List Instr → ℕ → ℕ → Type 0
Move code p q = q ∈ successors code p

-- what a walk may pass between its ends: a FENCE, an XCHG or, by request 7, a CMPX only if it may pass anything
abbrev pub Passes : Passing → Role → Type 0
Passes by r = r ≡ Fences → by ≡ Anything

-- "a walk of one or more moves": from p to q through the places between, each of which it may pass
abbrev pub Walk : Passing → List Instr → ℕ → List ℕ → ℕ → Type 0
Walk by code p [] q = Move code p q
Walk by code p (m ∷ between) q = Move code p m × Passes by (role_at code m) × Walk by code m between q

-- there is such a walk
abbrev pub Leads : Passing → List Instr → ℕ → ℕ → Type 0
Leads by code p q = (between : List ℕ) × Walk by code p between q

-- 01's own open pair: "a walk of one or more moves leads from store to load with no FENCE or XCHG strictly between"; request 7: "CMPX counts as XCHG"
pub record Unfenced (code : List Instr) (s l : ℕ) : Type 0 where
  pub store : role_at code s ≡ Stores
  pub load : role_at code l ≡ Loads
  pub between : List ℕ
  pub walk : Walk NoFence code s between l

-- "can be reached by successor moves from place 0 of its thread (place 0 itself counts)": no move, or a walk through any instructions;
-- moves decide, not runs
abbrev pub Live : List Instr → ℕ → Type 0
Live code p = (p ≡ 0) ⊎ Leads Anything code 0 p

-- "a pair counts only if its store place can be reached" (request 4, in place of 01's "Every place counts, run or not.")
pub record OpenIn (code : List Instr) (s l : ℕ) : Type 0 where
  pub pair : Unfenced code s l
  pub live : Live code s

-- a pair of thread t; it is of the threads alone: "its model makes no difference here"
pub record Open (threads : List (List Instr)) (t s l : ℕ) : Type 0 where
  pub code : List Instr
  pub thread_is : get_elem? threads t ≡ some code
  pub is_open : OpenIn code s l

-- "The answer is FENCED, or OPEN with the least (thread, store, load)."
pub data Checked : Type 0 where
  fenced : Checked
  open_at : (t s l : ℕ) → Checked

abbrev pub ChecksTo : List (List Instr) → Checked → Type 0
ChecksTo threads fenced = (t s l : ℕ) → ¬ (Open threads t s l)
ChecksTo threads (open_at t s l) =
    Open threads t s l × ((t' s' l' : ℕ) → Open threads t' s' l' → ¬ (Earlier (t' ∷ s' ∷ l' ∷ []) (t ∷ s ∷ l ∷ [])))
