-- Values and their bytes: each undoes the other, and a value is read and written by its index.
use Rattle.std.specs.Prelude.{◌≡◌, refl, List, [], ◌∷◌, ℕ, zero, suc, ◌*◌, length, get_or, set}
use Rattle.std.proofs.Common.{ap, ap₂, add-one, arith}
use Rattle.rules.specs.Slot.{high, low, word_bytes}
use Rattle.rules.specs.SlotLaws.{Byte}
use Rattle.words.specs.Words.{word, words, Lows, word_at, set_word}

-- any value is that of its two bytes
pub value_back : (k : ℕ) → word (high k) (low k) ≡ k
value_back k = omega arith

-- two bytes are those of their value, as long as the lower is a byte
pub high_back : (h l : ℕ) → Byte l → high (word h l) ≡ h
high_back h l b = omega arith

pub low_back : (h l : ℕ) → Byte l → low (word h l) ≡ l
low_back h l b = omega arith

pub words_bytes : (l : List ℕ) → words (word_bytes l) ≡ l
unfolding words word_bytes
words_bytes [] = refl
words_bytes (k ∷ l) = ap₂ {C = List ℕ} ◌∷◌ (value_back k) (words_bytes l)

pub bytes_words : (n : ℕ) (l : List ℕ) → length l ≡ 2 * n → Lows l → word_bytes (words l) ≡ l
unfolding words word_bytes
bytes_words n [] e b = refl
bytes_words zero (h ∷ []) e b = absurd (omega arith)
bytes_words (suc n) (h ∷ []) e b = absurd (omega arith)
bytes_words zero (h ∷ k ∷ l) e b = absurd (omega arith)
bytes_words (suc n) (h ∷ k ∷ l) e b =
    let first = high_back h k b.0 in
    let second = low_back h k b.0 in
    let rest = bytes_words n l (omega arith) b.1 in
    λ i. first i ∷ second i ∷ rest i

pub bytes_lows : (l : List ℕ) → Lows (word_bytes l)
unfolding word_bytes
bytes_lows [] = tt
bytes_lows (k ∷ l) = (omega arith, bytes_lows l)

two_more : (n : ℕ) → 2 * suc n ≡ suc (suc (2 * n))
two_more n = omega arith

pub words_number : (n : ℕ) (l : List ℕ) → length l ≡ 2 * n → length (words l) ≡ n
unfolding words
words_number zero [] e = refl
words_number (suc n) [] e = absurd (omega arith)
words_number zero (h ∷ []) e = absurd (omega arith)
words_number (suc n) (h ∷ []) e = absurd (omega arith)
words_number zero (h ∷ k ∷ l) e = absurd (omega arith)
words_number (suc n) (h ∷ k ∷ l) e = ap suc (words_number n l (omega arith))

pub words_at : (n : ℕ) (l : List ℕ) → length l ≡ 2 * n → (i : ℕ) → get_or (words l) i 0 ≡ word_at l i
unfolding words
words_at n [] e i = refl
words_at zero (h ∷ []) e i = absurd (omega arith)
words_at (suc n) (h ∷ []) e i = absurd (omega arith)
words_at zero (h ∷ k ∷ l) e i = absurd (omega arith)
words_at (suc n) (h ∷ k ∷ l) e zero = refl
words_at (suc n) (h ∷ k ∷ l) e (suc i) = rw (add-one, two_more, ← add-one (2 * i)) (words_at n l (omega arith) i)

pub words_set : (n : ℕ) (l : List ℕ) → length l ≡ 2 * n → (i h k : ℕ) → words (set_word l i h k) ≡ set (words l) i (word h k)
unfolding words
words_set n [] e i h k = refl
words_set zero (a ∷ []) e i h k = absurd (omega arith)
words_set (suc n) (a ∷ []) e i h k = absurd (omega arith)
words_set zero (a ∷ b ∷ l) e i h k = absurd (omega arith)
words_set (suc n) (a ∷ b ∷ l) e zero h k = refl
words_set (suc n) (a ∷ b ∷ l) e (suc i) h k =
    rw (add-one, two_more, ← add-one (2 * i)) (ap {B = List ℕ} (λ r. word a b ∷ r) (words_set n l (omega arith) i h k))

pub set_lows : (n : ℕ) (l : List ℕ) → length l ≡ 2 * n → (i h k : ℕ) → Byte k → Lows l → Lows (set_word l i h k)
set_lows n [] e i h k b w = tt
set_lows zero (a ∷ []) e i h k b w = absurd (omega arith)
set_lows (suc n) (a ∷ []) e i h k b w = absurd (omega arith)
set_lows zero (a ∷ c ∷ l) e i h k b w = absurd (omega arith)
set_lows (suc n) (a ∷ c ∷ l) e zero h k b w = (b, w.1)
set_lows (suc n) (a ∷ c ∷ l) e (suc i) h k b w = rw (add-one, two_more, ← add-one (2 * i)) (w.0, set_lows n l (omega arith) i h k b w.1)
