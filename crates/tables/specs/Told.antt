-- What an answer of the code stands for.
use Rattle.std.specs.Prelude.{Option, Some, None}
use Rattle.std.proofs.Math.Option as maybe

abbrev pub told : {A : Type 0} → Option A → maybe.Option A
told (Some a) = maybe.some a
told None = maybe.none
