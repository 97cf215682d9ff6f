-- What `then_some` gives, in the words of the definitions.
use Rattle.std.specs.Prelude.{◌≡◌, refl, Bool, true, false}
use Rattle.std.specs.Bool.{then_some}
use Rattle.rules.specs.Step.{given}
use Rattle.tables.specs.Told.{told}

pub told_given : {A : Type 0} (ok : Bool) (a : A) → told (then_some ok a) ≡ given ok a
told_given true a = refl
told_given false a = refl
