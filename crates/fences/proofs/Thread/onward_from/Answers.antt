-- `fences::Thread::onward_from` meets its contract: the successors are put in where a walk goes on, and nothing where it doesn't.
use Rattle.std.proofs.Common.{sym, ◌∙◌}
use Rattle.std.proofs.lemmas.Bool.{false≢true}
use Rattle.rules.specs.FenceCheck.{role_there}
use Rattle.fences.specs.Places.{grown_on, grown_not, grown_end}
use Rattle.fences.proofs.ReadLaws.{read_holds, read_ended, successors_at}
use Rattle.fences.proofs.Thread.onward_from.Goals as goal

pub returns-in-Some : goal.returns-in-Some
returns-in-Some c =
    let at = read_holds _ _ _ _ c.instruction_at.ensures c.in-Some.is in
    let own = c.role_of.ensures ∙ sym (role_there _ _ _ at) in
    grown_on _ _ _ _ _ _ ((rw own at c.goes_on.ensures).0 c.if-goes_on.true)
    (successors_at _ _ _ _ _ at (rw c.control_of.ensures at c.with_successors.ensures))

pub returns-in_default : goal.returns-in_default
returns-in_default c =
    let at = read_holds _ _ _ _ c.instruction_at.ensures c.in-Some.is in
    let own = c.role_of.ensures ∙ sym (role_there _ _ _ at) in
    grown_not _ _ _ _ _ (λ on. false≢true (sym c.if-goes_on.false ∙ (rw own at c.goes_on.ensures).1 on))

pub returns-in_default-2 : goal.returns-in_default-2
returns-in_default-2 c = grown_end _ _ _ _ _ (read_ended _ _ _ _ c.instruction_at.ensures c.in_default.is)
