-- The operands of the instruction that a match finds.
use Rattle.std.proofs.Common.{◌≡◌, ℕ, ◌<◌, subst, arith}
use Rattle.rules.specs.Limits.{most_variables}
use Rattle.rules.specs.Sound.{InstrIn}
use Rattle.rules.specs.declared.Instr.{Instr}
use Rattle.machine.specs.Operands.{InstrOk}

module _ {i : Instr} (h : InstrOk i) where
  pub fits_as : {j : Instr} → i ≡ j → InstrIn h.width h.vars h.n j
  fits_as e = subst (InstrIn h.width h.vars h.n) e h.fits

  -- a variable of the job is one that a state has
  pub in_state : {A : Type 0} {v : ℕ} → A × (v < h.vars) → A × (v < most_variables)
  in_state p = (p.0, omega (arith, h.few, p.1))
