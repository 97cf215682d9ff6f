-- The refusals by their numbers: 01, "Refusal numbers and their order".
use Rattle.std.specs.Prelude.{◌≡◌, refl, [], ◌∷◌, ℕ, get_or}
use Rattle.std.proofs.Common.{sym, ap, ◌∙◌}
use Rattle.readers.specs.declared.faults.Refusal.{Refusal}
use Rattle.readers.specs.declared.faults.Refusal.TheVariants.{LengthWrong, VersionWrong, HeadOutOfRange, ThreadBad, GoalBad, NotWhole, NoSlots}

abbrev pub number_of : Refusal → ℕ
number_of LengthWrong = 1
number_of VersionWrong = 2
number_of HeadOutOfRange = 3
number_of ThreadBad = 4
number_of GoalBad = 5
number_of NotWhole = 6
number_of NoSlots = 7

-- from the number back to the refusal
abbrev pub refusal_by : ℕ → Refusal
refusal_by n = get_or (NoSlots ∷ LengthWrong ∷ VersionWrong ∷ HeadOutOfRange ∷ ThreadBad ∷ GoalBad ∷ NotWhole ∷ []) n NoSlots

pub refusal_numbered : (r : Refusal) → refusal_by (number_of r) ≡ r
refusal_numbered LengthWrong = refl
refusal_numbered VersionWrong = refl
refusal_numbered HeadOutOfRange = refl
refusal_numbered ThreadBad = refl
refusal_numbered GoalBad = refl
refusal_numbered NotWhole = refl
refusal_numbered NoSlots = refl

-- a refusal is known by its number
pub number_once : (r s : Refusal) → number_of r ≡ number_of s → r ≡ s
number_once r s e = sym (refusal_numbered r) ∙ ap refusal_by e ∙ refusal_numbered s
