-- Bytes as values of two bytes each, the higher first.
use Rattle.std.specs.Prelude.{List, [], ◌∷◌, ℕ, ◌+◌, ◌*◌, get_or, set}
use Rattle.rules.specs.Limits.{byte_values}
use Rattle.rules.specs.SlotLaws.{Byte}

-- the value that two bytes are
abbrev pub word : (high low : ℕ) → ℕ
word high low = high * byte_values + low

-- one value behind another
unfoldable pub words : List ℕ → List ℕ
words [] = []
words (h ∷ []) = []
words (h ∷ l ∷ rest) = word h l ∷ words rest

-- each lower one is a byte: then the two are found again from their value
abbrev pub Lows : List ℕ → Type 0
Lows [] = Unit {0}
Lows (h ∷ []) = Unit {0}
Lows (h ∷ l ∷ rest) = Byte l × Lows rest

-- the value at an index of the bytes, and the bytes with a value's two written there
abbrev pub word_at : List ℕ → ℕ → ℕ
word_at s i = word (get_or s (2 * i) 0) (get_or s (2 * i + 1) 0)

abbrev pub set_word : List ℕ → (i high low : ℕ) → List ℕ
set_word s i high low = set (set s (2 * i) high) (2 * i + 1) low
