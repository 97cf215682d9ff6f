-- The words of lists that the meaning of a search uses.
use Rattle.std.specs.Prelude.{◌≡◌, ◌⊎◌, List, [], ◌∷◌}

module _ {A : Type 0} where
  infix 40 ◌∈◌
  -- `x ∈ l`: x stands in the list l
  abbrev pub ◌∈◌ : A → List A → Type 0
  x ∈ [] = ⊥
  x ∈ (y ∷ l) = (x ≡ y) ⊎ (x ∈ l)

  -- what holds of every element
  abbrev pub All : (A → Type 0) → List A → Type 0
  All P [] = Unit {0}
  All P (x ∷ l) = P x × All P l

  -- each element stands in the relation to all that follow it
  abbrev pub Pairwise : (A → A → Type 0) → List A → Type 0
  Pairwise R [] = Unit {0}
  Pairwise R (x ∷ l) = All (R x) l × Pairwise R l

  -- no two elements are equal
  abbrev pub Distinct : List A → Type 0
  Distinct = Pairwise (λ x y. ¬ (x ≡ y))
