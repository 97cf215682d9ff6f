-- `fences::Thread::role_at` meets its contract: the role of the instruction that was read; where none stands, none.
use mathlib.Core.Path.{sym, ◌∙◌}
use Rattle.rules.specs.FenceCheck.{role_there}
use Rattle.fences.proofs.ReadLaws.{read_holds, read_ended, role_past}
use Rattle.fences.proofs.Thread.role_at.Goals as goal

pub returns-in-Some : goal.returns-in-Some
returns-in-Some c = c.role_of.ensures ∙ sym (role_there _ _ _ (read_holds _ _ _ _ c.instruction_at.ensures c.in-Some.is))

pub returns-in-None : goal.returns-in-None
returns-in-None c = sym (role_past _ _ (read_ended _ _ _ _ c.instruction_at.ensures c.in-None.is))
