-- What was read of a thread is what stands there; what a test of a role tells.
use mathlib.Core.Path.{◌≡◌, sym, ◌∙◌, ap, subst}
use mathlib.Core.List.{List}
use mathlib.Core.Option.{none, some}
use Prim.Native.Nat.{ℕ, suc, ◌+◌}
use native.Mathlib.Numerals.{add-one}
use lib.ListN.{get_elem?}
use Rattle.bits.specs.Bits.{Put}
use Rattle.rules.specs.Kinds.{control_of}
use Rattle.rules.specs.Step.{instruction_at}
use Rattle.rules.specs.File.{job_of}
use Rattle.rules.specs.Fences.{onward, onward_at, successors, role_at}
use Rattle.rules.specs.Keeps.{instruction_of_thread}
use Rattle.rules.specs.declared.Instr.{Instr}
use Rattle.rules.specs.declared.Role.TheVariants.{Other}
use Rattle.std.specs.Prelude.{Option, Some, None}
use Rattle.tables.specs.Told.{told}
use Rattle.fences.specs.Places.{thread_of, Joined}

module _ (bytes : List ℕ) (t p : ℕ) (r : Option Instr) (read : told r ≡ instruction_at (job_of bytes) t p) where
  read_at : told r ≡ get_elem? (thread_of bytes t) p
  read_at = read ∙ instruction_of_thread (job_of bytes) t p

  pub read_holds : {i : Instr} → r ≡ Some i → get_elem? (thread_of bytes t) p ≡ some i
  read_holds e = sym read_at ∙ ap told e

  pub read_ended : r ≡ None → get_elem? (thread_of bytes t) p ≡ none
  read_ended e = sym read_at ∙ ap told e

-- past a thread's end nothing plays a role
pub role_past : (code : List Instr) (p : ℕ) → get_elem? code p ≡ none → role_at code p ≡ Other
unfolding role_at
role_past code p e = rw (e, role_at)

pub put_next : {m p r : ℕ} → Put m (p + 1) r → Put m (suc p) r
put_next {m} {p} {r} = subst (λ x. Put m x r) (add-one p)

-- the successors by the control of the instruction that stands there
pub successors_at : (code : List Instr) (p : ℕ) (i : Instr) (m r : ℕ)
    → get_elem? code p ≡ some i → Joined (onward p (control_of i)) m r → Joined (successors code p) m r
unfolding successors onward_at
successors_at code p i m r e = subst (λ o. Joined (onward_at p o) m r) (sym e)
