-- How far reading comes, in the first two stages: the length and the head.
use Rattle.std.specs.Prelude.{cond, List, ℕ}
use Rattle.std.proofs.Math.Option.{Option, none, some}
use Rattle.rules.specs.Limits.{first_version, last_version, most_threads, most_variables}
use Rattle.rules.specs.File.{field, in_range, model_of, capacity_of, length_ok}
use Rattle.rules.specs.declared.Model.{Model}
use Rattle.readers.specs.Passed.{Next, At, Fault, version_at, model_at, capacity_at, threads_at, variables_at, model_in, passed, then}

module _ (bytes : List ℕ) where
  -- "1 is judged first"
  unfoldable pub length_stage : Next
  length_stage = cond (length_ok bytes) (At version_at) (Fault 1 0)

  -- C, in the range of its model; a byte that names none is refused where it stands
  abbrev pub capacity_under : Option Model → Next
  capacity_under none = Fault 3 model_at
  capacity_under (some m) = passed (field bytes 3 (capacity_of m) capacity_at)

  abbrev pub capacity_stage : Next
  capacity_stage = capacity_under (model_in bytes)

  -- version, model, C, T and V, each where it stands
  unfoldable pub head_stage : Next
  head_stage =
      then (passed (field bytes 2 (in_range first_version last_version) version_at))
      (then (passed (field bytes 3 model_of model_at))
      (then capacity_stage
      (then (passed (field bytes 3 (in_range 1 most_threads) threads_at))
      (passed (field bytes 3 (in_range 1 most_variables) variables_at)))))
