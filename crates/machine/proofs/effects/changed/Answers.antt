-- `machine::effects::changed` meets its contract: by the instruction.
use Rattle.std.proofs.Common.{arith}
use Rattle.rules.specs.Step.{free}
use Rattle.rules.specs.MayLaws.{needs_yes}
use Rattle.rules.specs.declared.Reason.TheVariants.{BufferFull}
use Rattle.rules.specs.Kinds.{wait_of}
use Rattle.machine.proofs.OperandLaws.{fits_as, in_state}
use Rattle.machine.proofs.effects.changed.Goals as goal

pub with_register-requires : goal.with_register-requires
with_register-requires c =
    record { at = c.requires.at; is_register = (fits_as c.requires.instr_ok c.in-Set.is).0 }

pub add-requires : goal.add-requires
add-requires c =
    record { at = c.requires.at; is_register = (fits_as c.requires.instr_ok c.in-Add.is).0 }

pub load-requires : goal.load-requires
load-requires c =
    let operands = in_state c.requires.instr_ok (fits_as c.requires.instr_ok c.in-Load.is) in
    record { at = c.requires.at; is_register = operands.0; is_variable = operands.1 }

pub carried-requires : goal.carried-requires
carried-requires c =
    record { at = c.requires.at; source_ok = (c.requires.instr_ok.width, (fits_as c.requires.instr_ok c.in-Store.is).0) }

pub stored-requires : goal.stored-requires
unfolding free wait_of
stored-requires c =
    let i = c.in-Store.is in
    record { at = c.requires.at; is_variable = (in_state c.requires.instr_ok (fits_as c.requires.instr_ok i)).1; has_room = needs_yes _ BufferFull (rw i at c.requires.may_be_taken); group_fits = c.requires.group_fits }

pub xchg-requires : goal.xchg-requires
xchg-requires c =
    let operands = in_state c.requires.instr_ok (fits_as c.requires.instr_ok c.in-Xchg.is) in
    record { at = c.requires.at; is_register = operands.0; is_variable = operands.1 }

pub cmpx-requires : goal.cmpx-requires
cmpx-requires c =
    let operands = fits_as c.requires.instr_ok c.in-Cmpx.is in
    record { at = c.requires.at; is_register = operands.0; is_variable = omega (arith, operands.1, c.requires.instr_ok.few) }

pub returns-in-Add : goal.returns-in-Add
returns-in-Add c = rw c.in-Add.is (c.add.ensures _)

pub returns-in-Load : goal.returns-in-Load
returns-in-Load c = rw c.in-Load.is (c.load.ensures _)

pub returns-in-Xchg : goal.returns-in-Xchg
returns-in-Xchg c = rw c.in-Xchg.is (c.xchg.ensures _)

pub returns-in-Cmpx : goal.returns-in-Cmpx
returns-in-Cmpx c = rw c.in-Cmpx.is (c.cmpx.ensures _)
