-- `job::model_named` meets its contract: the model that was read, if there is one, and else the fault.
use mathlib.Core.Path.{◌≡◌, refl}
use Prim.Native.Nat.{ℕ}
use Rattle.std.specs.Prelude.{Option, Some, None, ok_or}
use Rattle.rules.specs.declared.Model.{Model}
use Rattle.tables.specs.Told.{told}
use Rattle.readers.specs.declared.faults.Fault as faults
use Rattle.readers.specs.declared.faults.Refusal.TheVariants.{HeadOutOfRange}
use Rattle.readers.specs.Passed.{At, model_at}
use Rattle.job.specs.Passed.{came_out, answer}
use Rattle.job.proofs.model_named.Goals as goal

named : (o : Option Model) (f : faults.Fault) (next : ℕ) → f ≡ record { refusal = HeadOutOfRange; offset = model_at } → came_out (ok_or o f) ≡ answer (At next) (told o)
named (Some m) f next e = refl
named None f next e = rw e

pub returns : goal.returns
returns c = λ next. rw (c.ok_or.ensures.value, ← c.model.ensures) (named c.model.result c.at.result next c.at.ensures)
