-- `readers::field` meets its contract: a fault stands for its refusal's number and its offset.
use mathlib.Core.Path.{◌≡◌, refl, ap, ◌∙◌}
use native.Mathlib.Omega.{arith}
use Prim.Native.Nat.{ℕ}
use Rattle.std.specs.Prelude.{Result, Ok, Err}
use Rattle.readers.specs.declared.faults.Fault as faults
use Rattle.readers.specs.Refusals.{number_of}
use Rattle.readers.specs.Passed.{Next, Fault, outcome, came_to}
use Rattle.readers.proofs.field.Goals as goal

abbrev stands_for : faults.Fault → Next
stands_for f = Fault (number_of f.refusal) f.offset

came_outcome : (x : Result ℕ faults.Fault) → came_to x ≡ outcome stands_for x
came_outcome (Ok at) = refl
came_outcome (Err f) = refl

at_offset : (number o at : ℕ) (x : Next) → x ≡ Fault number o → o ≡ at → x ≡ Fault number at
at_offset number o at x e same = e ∙ ap (Fault number) same

pub returns : goal.returns
returns c = came_outcome _ ∙ c.field_or.ensures _ stands_for (ap stands_for c.at.ensures) (at_offset _ _ _ _ (ap stands_for c.at-2.ensures) (omega arith))
