-- `readers::capacity` meets its contract: the model that the byte before it names decides.
use mathlib.Core.Path.{sym}
use Prim.Native.Nat.{ℕ}
use native.Mathlib.Omega.{arith}
use lib.ListN.{get_or-eq_default}
use Rattle.rules.specs.File.{model_of}
use Rattle.readers.specs.Passed.{model_at}
use Rattle.readers.proofs.Fields.{field_missing}
use Rattle.readers.proofs.capacity.Goals as goal

pub returns-then-job-le-MODEL_AT : goal.returns-then-job-le-MODEL_AT
unfolding model_of
returns-then-job-le-MODEL_AT c =
    rw (c.at.ensures, get_or-eq_default {A = ℕ} c.args.job.now 0 {n = model_at} (omega arith)) (sym (field_missing _ _ _ _ (omega arith)))
