-- What an instruction's role tells of its effect: said once for each instruction, then by role alone.
use Rattle.std.specs.Prelude.{◌≡◌, refl, List, ℕ}
use Rattle.std.proofs.Common.{arith}
use Rattle.rules.specs.State.{State}
use Rattle.rules.specs.Kinds.{wait_of, role_of}
use Rattle.rules.specs.Step.{grouped, changed}
use Rattle.rules.specs.declared.Model.TheVariants.{Sc, Tso}
use Rattle.rules.specs.declared.Wait.TheVariants.{UntilEmpty}
use Rattle.rules.specs.declared.Role.TheVariants.{Loads, Other}
use Rattle.rules.specs.declared.Source.{Source}
use Rattle.rules.specs.declared.Instr.{Instr}
use Rattle.rules.specs.declared.Instr.TheVariants.{Set, Add, Load, Store, Fence, Xchg, Jeq, Jmp, Cmpx, Wfence}
use Rattle.signed.specs.Own.{OwnPart, altered, after, wrote}

-- TSO or SC makes no difference to it
abbrev pub Alike : Instr → Type 0
Alike i = (t : ℕ) (x : State) → changed Tso t i x ≡ changed Sc t i x

-- it looks at nothing but the thread's own part, and changes nothing else
pub record Quiet (i : Instr) : Type 0 where
  pub role : role_of i ≡ Other
  pub blind : (m n : List ℕ) (o : OwnPart) → altered i m o ≡ altered i n o
  pub silent : (o : OwnPart) (m : List ℕ) → wrote i o m ≡ m

-- only a store is not alike under both, and an instruction that is none of the three others is quiet
pub data ByRole : Instr → Type 0 where
  is_store : (a : Source) (v : ℕ) → ByRole (Store a v)
  is_load : {i : Instr} → role_of i ≡ Loads → Alike i → ByRole i
  is_wait : {i : Instr} → wait_of i ≡ UntilEmpty → Alike i → ByRole i
  is_quiet : {i : Instr} → Quiet i → Alike i → ByRole i

pub by_role : (i : Instr) → ByRole i
unfolding role_of wait_of changed grouped altered wrote
by_role (Set r k) = is_quiet (record { role = refl; blind = λ m n o. refl; silent = λ o m. refl }) (λ t x. refl)
by_role (Add w r k) = is_quiet (record { role = refl; blind = λ m n o. refl; silent = λ o m. refl }) (λ t x. refl)
by_role (Load r v) = is_load refl (λ t x. refl)
by_role (Store a v) = is_store a v
by_role Fence = is_wait refl (λ t x. refl)
by_role (Xchg r v) = is_wait refl (λ t x. refl)
by_role (Jeq r p k) = is_quiet (record { role = refl; blind = λ m n o. refl; silent = λ o m. refl }) (λ t x. refl)
by_role (Jmp p) = is_quiet (record { role = refl; blind = λ m n o. refl; silent = λ o m. refl }) (λ t x. refl)
by_role (Cmpx r v k) = is_wait refl (λ t x. refl)
by_role Wfence = is_quiet (record { role = refl; blind = λ m n o. refl; silent = λ o m. refl }) (λ t x. refl)

-- what memory holds makes no difference to a quiet instruction
pub quiet_after : {i : Instr} → Quiet i → (m n : List ℕ) (o : OwnPart) → after i m o ≡ after i n o
unfolding after
quiet_after h m n o = rw (h.blind m n o)

pub quiet_no_load : {i : Instr} → Quiet i → {A : Type 0} → role_of i ≡ Loads → A
quiet_no_load h e = absurd (let d = h.role in let z : ◌≡◌ {A = ℕ} 0 1 = cc in omega arith)
