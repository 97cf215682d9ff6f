-- `machine::execute` meets its contract: the place is found in the state before, and written last.
use Rattle.std.proofs.Common.{sym, subst}
use Rattle.rules.specs.Onward.{control_in}
use Rattle.machine.specs.Operands.{ControlOk}
use Rattle.machine.proofs.execute.Goals as goal

pub place_after-place-requires-clause-control_ok : goal.place_after-place-requires-clause-control_ok
place_after-place-requires-clause-control_ok c =
    let operands = c.requires.instr_ok in
    subst ControlOk (sym c.control_of.ensures) (operands.n, control_in _ _ _ _ operands.fits)
