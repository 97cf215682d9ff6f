-- "two-digit capital hex": the characters of a step, as bytes.
use Rattle.std.specs.Prelude.{List, [], ◌∷◌, ℕ, ◌/◌, ◌%◌, get_or}

-- 0 to 9, A to F
abbrev pub capital : ℕ → ℕ
capital d = get_or (48 ∷ 49 ∷ 50 ∷ 51 ∷ 52 ∷ 53 ∷ 54 ∷ 55 ∷ 56 ∷ 57 ∷ 65 ∷ 66 ∷ 67 ∷ 68 ∷ 69 ∷ 70 ∷ []) d 0

abbrev pub two_digits : ℕ → List ℕ
two_digits step = capital (step / 16) ∷ capital (step % 16) ∷ []
