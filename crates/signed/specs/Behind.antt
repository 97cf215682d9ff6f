-- How far the TSO thread may have run ahead of the SC thread, which stands where the oldest pending store was made.
use Rattle.std.specs.Prelude.{◌≡◌, refl, ℕ}
use Rattle.std.proofs.Common.{sym, ap, subst, arith}
use mathlib.Core.List.{List, [], ◌∷◌, ◌++◌, append-nil}
use Rattle.std.proofs.Math.Option.{some}
use Rattle.std.proofs.Math.ListN.{get_elem?}
use Rattle.reach.specs.Lists.{All}
use Rattle.rules.specs.State.{Pending}
use Rattle.rules.specs.Kinds.{control_of, role_of}
use Rattle.rules.specs.Fences.{role_at, Move, Passes, Leads}
use Rattle.rules.specs.FenceCheck.{move_by, store_is_no_fence, role_there}
use Rattle.rules.specs.declared.Role.TheVariants.{Stores}
use Rattle.rules.specs.declared.Passing.TheVariants.{NoFence}
use Rattle.rules.specs.declared.Source.{Source}
use Rattle.rules.specs.declared.Instr.{Instr}
use Rattle.rules.specs.declared.Instr.TheVariants.{Store}
use Rattle.signed.specs.Own.{OwnPart, at_place, onwards, carries, goes_on, goes_onward, after}
use Rattle.signed.specs.Roles.{Quiet}

-- the store that the thread makes at a STORE
abbrev pub made : OwnPart → Source → ℕ → Pending
made o a v = record { group = 0; variable = v; value = carries o a }

-- from o to q by quiet instructions and stores, of which the stores b were made
pub data Ahead (code : List Instr) : OwnPart → OwnPart → List Pending → Type 0 where
  level : {o : OwnPart} → Ahead code o o []
  quietly : {o q : OwnPart} {b : List Pending} (i : Instr) (m : List ℕ)
      → get_elem? code o.place ≡ some i → Quiet i → Ahead code (after i m o) q b → Ahead code o q b
  storing : {o q : OwnPart} {b : List Pending} (a : Source) (v : ℕ)
      → get_elem? code o.place ≡ some (Store a v) → Ahead code (onwards o) q b → Ahead code o q (made o a v ∷ b)

-- the SC thread stands at o, the TSO thread at q, and p is the oldest of the stores that are pending
pub record Waits (code : List Instr) (o q : OwnPart) (p : Pending) (b : List Pending) : Type 0 where
  pub source : Source
  pub to : ℕ
  pub at_store : get_elem? code o.place ≡ some (Store source to)
  pub oldest : p ≡ made o source to
  pub ahead : Ahead code (onwards o) q b

-- with nothing pending the two threads are at one
abbrev pub Behind : List Instr → OwnPart → OwnPart → List Pending → Type 0
Behind code o q [] = o ≡ q
Behind code o q (p ∷ b) = Waits code o q p b

module _ (code : List Instr) where
  -- some instructions more at the far end
  ahead_then : {o q r : OwnPart} {b c : List Pending} → Ahead code o q b → Ahead code q r c → Ahead code o r (b ++ c)
  ahead_then level w = w
  ahead_then (quietly i m e h a) w = quietly i m e h (ahead_then a w)
  ahead_then (storing s v e a) w = storing s v e (ahead_then a w)

  waits_then : {o q r : OwnPart} {p : Pending} {b c : List Pending} → Waits code o q p b → Ahead code q r c → Waits code o r p (b ++ c)
  waits_then w a = record { source = w.source; to = w.to; at_store = w.at_store; oldest = w.oldest; ahead = ahead_then w.ahead a }

  pub waits_quiet : {o q : OwnPart} {p : Pending} {b : List Pending} (i : Instr) (m : List ℕ)
      → get_elem? code q.place ≡ some i → Quiet i → Waits code o q p b → Waits code o (after i m q) p b
  waits_quiet i m e h w = rw append-nil at (waits_then w (quietly i m e h level))

  pub behind_store : (o q : OwnPart) (b : List Pending) (a : Source) (v : ℕ)
      → get_elem? code q.place ≡ some (Store a v) → Behind code o q b → Behind code o (onwards q) (b ++ (made q a v ∷ []))
  behind_store o q [] a v e same =
      record {
        source = a;
        to = v;
        at_store = rw same e;
        oldest = ap (λ (z : OwnPart). made z a v) (sym same);
        ahead = subst (λ (z : OwnPart). Ahead code (onwards z) (onwards q) []) (sym same) level;
      }
  behind_store o q (p ∷ b) a v e w = waits_then w (storing a v e level)

  -- the stores that TSO makes are of one group
  pub ahead_level : {o q : OwnPart} {b : List Pending} → Ahead code o q b → All (λ p. p.group ≡ 0) b
  ahead_level level = tt
  ahead_level (quietly i m e h a) = ahead_level a
  ahead_level (storing s v e a) = (refl, ahead_level a)

  -- Walks: the places between are those of quiet instructions and stores, and none is a FENCE, an XCHG or a CMPX.

  move_on : (i : Instr) (m : List ℕ) (o : OwnPart) → get_elem? code o.place ≡ some i → Move code o.place (after i m o).place
  unfolding after at_place
  move_on i m o e = move_by code o.place (after i m o).place i e (goes_onward (control_of i) o)

  -- a store goes on to the next place
  store_on : (a : Source) (v : ℕ) (o : OwnPart) → get_elem? code o.place ≡ some (Store a v) → Move code o.place (onwards o).place
  unfolding control_of goes_on onwards at_place after
  store_on a v o e = move_on (Store a v) [] o e

  pub store_role : (a : Source) (v p : ℕ) → get_elem? code p ≡ some (Store a v) → role_at code p ≡ Stores
  unfolding role_of
  store_role a v p e = role_there code p (Store a v) e

  quiet_passed : (i : Instr) (p : ℕ) → get_elem? code p ≡ some i → Quiet i → Passes NoFence (role_at code p)
  quiet_passed i p e h f = absurd (let d = h.role in let g = role_there code p i e in let z : ◌≡◌ {A = ℕ} 0 1 = cc in omega arith)

  ahead_walk : {o q : OwnPart} {b : List Pending} (s : ℕ) → Move code s o.place → Ahead code o q b → Leads NoFence code s q.place
  ahead_walk s h level = ([], h)
  ahead_walk s h (quietly {o = o} i m e k w) =
      let r = ahead_walk o.place (move_on i m o e) w in
      (o.place ∷ r.0, (h, quiet_passed i o.place e k, r.1))
  ahead_walk s h (storing {o = o} a v e w) =
      let r = ahead_walk o.place (store_on a v o e) w in
      (o.place ∷ r.0, (h, λ f. absurd (store_is_no_fence (store_role a v o.place e) f), r.1))

  -- the walk from the oldest pending store to where the thread is now
  pub waits_walk : {o q : OwnPart} {p : Pending} {b : List Pending} → Waits code o q p b → Leads NoFence code o.place q.place
  waits_walk {o} w = ahead_walk o.place (store_on w.source w.to o w.at_store) w.ahead
