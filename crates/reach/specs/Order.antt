-- The order of schedules.
use Rattle.std.specs.Prelude.{◌≡◌, ◌⊎◌, List, [], ◌∷◌, ℕ, ◌<◌, length}

-- of two schedules of equal length: the first is smaller where, compared from the left, they first differ
-- (01, Search: "the first when step numbers are compared from the left")
abbrev pub Earlier : List ℕ → List ℕ → Type 0
Earlier [] v = ⊥
Earlier (a ∷ u) [] = ⊥
Earlier (a ∷ u) (b ∷ v) = (a < b) ⊎ ((a ≡ b) × Earlier u v)

-- by length, and then as above (01, Search: "ordered by distance and then by their first shortest schedule in the same comparison")
abbrev pub Sooner : List ℕ → List ℕ → Type 0
Sooner u v = (length u < length v) ⊎ ((length u ≡ length v) × Earlier u v)

-- w has the property, and none of its length that has it is earlier
pub record First (P : List ℕ → Type 0) (w : List ℕ) : Type 0 where
  pub has : P w
  pub none_earlier : (v : List ℕ) → P v → length v ≡ length w → ¬ (Earlier v w)
