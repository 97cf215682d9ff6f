-- `readers::head_fields` meets its contract: the fields one after another, each where it stands.
use mathlib.Core.Path.{◌∙◌}
use Rattle.rules.specs.File.{in_range, model_of}
use Rattle.readers.specs.Passed.{model_at}
use Rattle.readers.specs.Stages.{head_stage}
use Rattle.readers.proofs.Readers.{came_to_err}
use Rattle.readers.proofs.Fields.{same_field, model_has}
use Rattle.readers.proofs.head_fields.Goals as goal

pub returns-in_err-field : goal.returns-in_err-field
unfolding head_stage
returns-in_err-field c =
    let e = c.from_residual.ensures.1 in came_to_err _ _ e ∙ rw (← c.in_err-field.ensures)

pub returns-in_err-field-2 : goal.returns-in_err-field-2
unfolding head_stage
returns-in_err-field-2 c =
    let e = c.from_residual-in_err-field-2.ensures.1 in
    came_to_err _ _ e
    ∙ rw (same_field model_of (in_range 0 2) model_has _ 3 model_at, ← c.in_ok-field.ensures, ← c.in_err-field-2.ensures)

pub returns-in_err-capacity : goal.returns-in_err-capacity
unfolding head_stage
returns-in_err-capacity c =
    let e = c.from_residual-in_err-capacity.ensures.1 in
    came_to_err _ _ e
    ∙ rw (same_field model_of (in_range 0 2) model_has _ 3 model_at, ← c.in_ok-field.ensures, ← c.in_ok-field-2.ensures, ← c.in_err-capacity.ensures)

pub returns-in_err-field-3 : goal.returns-in_err-field-3
unfolding head_stage
returns-in_err-field-3 c =
    let e = c.from_residual-in_err-field-3.ensures.1 in
    came_to_err _ _ e
    ∙ rw (same_field model_of (in_range 0 2) model_has _ 3 model_at, ← c.in_ok-field.ensures, ← c.in_ok-field-2.ensures, ← c.in_ok-capacity.ensures, ← c.in_err-field-3.ensures)

pub returns : goal.returns
unfolding head_stage
returns c =
    c.field-4.ensures
    ∙ rw (same_field model_of (in_range 0 2) model_has _ 3 model_at, ← c.in_ok-field.ensures, ← c.in_ok-field-2.ensures, ← c.in_ok-capacity.ensures, ← c.in_ok-field-3.ensures)
