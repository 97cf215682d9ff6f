use mathlib.Core.Path.{sym, ◌∙◌}
use Rattle.std.proofs.Common.{rules}
use Rattle.readers.proofs.Readers.{came_to_err, repeated_step, repeated_fault}
use Rattle.readers.proofs.times.Goals as goal

pub items-preserved : goal.items-preserved
items-preserved g c =
    let turn = c.items in
    (search rules, λ r h. turn.invariant.1 r h ∙ repeated_step r turn.counter _ turn.at _ c.items-test.true (sym (h turn.at _ turn.invariant.0 c.in_ok-at.ensures)))

pub returns-in_err-at : goal.returns-in_err-at
returns-in_err-at g c =
    let turn = c.items in
    λ r h.
    came_to_err c.from_residual.result c.in_err-at.field-0.0 c.from_residual.ensures.1
    ∙ sym (turn.invariant.1 r h ∙ repeated_fault r _ _ turn.at _ _ c.items-test.true (sym (h turn.at _ turn.invariant.0 c.in_err-at.ensures)))
