-- Where an instruction leads, by the three cases of its control: the machine and the fence check's walks follow the same places.
use Rattle.std.specs.Prelude.{refl, Bool, true, false, cond, [], ◌∷◌, ℕ, suc, ◌≤◌, ◌<◌, eqb, length}
use Rattle.std.proofs.Common.{inl, inr, arith}
use Rattle.reach.specs.Lists.{◌∈◌, All}
use Rattle.rules.specs.Limits.{registers_each}
use Rattle.rules.specs.State.{State, place, register}
use Rattle.rules.specs.Kinds.{control_of}
use Rattle.rules.specs.Step.{place_after}
use Rattle.rules.specs.Fences.{onward}
use Rattle.rules.specs.Sound.{InstrIn}
use Rattle.rules.specs.declared.Width.{Width}
use Rattle.rules.specs.declared.Instr.{Instr}
use Rattle.rules.specs.declared.Instr.TheVariants.{Set, Add, Load, Store, Fence, Xchg, Jeq, Jmp, Cmpx, Wfence}
use Rattle.rules.specs.declared.Control.{Control}
use Rattle.rules.specs.declared.Control.TheVariants.{On, To, ToIf}

-- a branch goes to one of its two places
pub branch_onward : (p q : ℕ) (b : Bool) → cond b q (suc p) ∈ (suc p ∷ q ∷ [])
branch_onward p q true = inr (inl refl)
branch_onward p q false = inl refl

-- the place to which a thread goes on is a successor of its place
pub place_after_onward : (t : ℕ) (c : Control) (x : State) → place_after t c x ∈ onward (place t x) c
unfolding place_after onward
place_after_onward t On x = inl refl
place_after_onward t (To p) x = inl refl
place_after_onward t (ToIf r k p) x = branch_onward (place t x) p (eqb (register t r x) k)

pub few_onward : (p : ℕ) (c : Control) → length (onward p c) ≤ 2
unfolding onward
few_onward p On = omega arith
few_onward p (To q) = omega arith
few_onward p (ToIf r k q) = omega arith

-- "r is 0 to 3 .. p from 0 to n"
abbrev pub ControlIn : (n : ℕ) → Control → Type 0
ControlIn n On = Unit {0}
ControlIn n (To p) = p ≤ n
ControlIn n (ToIf r k p) = (r < registers_each) × (p ≤ n)

pub control_in : (u : Width) (vars n : ℕ) (i : Instr) → InstrIn u vars n i → ControlIn n (control_of i)
unfolding control_of
control_in u vars n (Set r k) h = tt
control_in u vars n (Add w r k) h = tt
control_in u vars n (Load r v) h = tt
control_in u vars n (Store a v) h = tt
control_in u vars n Fence h = tt
control_in u vars n (Xchg r v) h = tt
control_in u vars n (Jeq r p k) h = (h.0, h.1)
control_in u vars n (Jmp p) h = h
control_in u vars n (Cmpx r v k) h = tt
control_in u vars n Wfence h = tt

-- every successor of a place is one of the thread's places, or its end
pub onward_in : (n p : ℕ) (c : Control) → ControlIn n c → p < n → All (λ q. q ≤ n) (onward p c)
unfolding onward
onward_in n p On h inside = (inside, tt)
onward_in n p (To q) h inside = (h, tt)
onward_in n p (ToIf r k q) h inside = (inside, (h.1, tt))
