-- Entries of three bytes: bytes by threes are those of their entries, and an entry is read and written by its index.
use Rattle.std.specs.Prelude.{◌≡◌, refl, List, [], ◌∷◌, ◌++◌, ℕ, zero, suc, ◌+◌, ◌-◌, ◌*◌, ◌/◌, ◌%◌, ◌≤◌, length, get_or, set, take, drop, replicate}
use Rattle.std.specs.List.{copy_within}
use Rattle.std.proofs.Common.{sym, ap, ap₂, subst, ◌∙◌, arith, length-take, length-drop, length-append}
use Rattle.reach.specs.Lists.{All}
use Rattle.rules.specs.Limits.{group_unit, entry_size}
use Rattle.rules.specs.State.{Pending}
use Rattle.rules.specs.Slot.{variable_byte, high, low, entry_bytes}
use Rattle.rules.specs.SlotLaws.{Byte, Named}
use Rattle.words.specs.Words.{word}
use Rattle.words.specs.WordLaws.{value_back, high_back, low_back}
use Rattle.buffer.specs.Held.{entry, entries, EntryLows}
use Rattle.buffer.specs.Places.{no_entry, entry_at, set_entry}

-- Entries, written.

pub bytes_number : (l : List Pending) → length (entry_bytes l) ≡ entry_size * length l
unfolding entry_bytes
bytes_number [] = refl
bytes_number (p ∷ l) = omega (arith, bytes_number l)

pub bytes_append : (l m : List Pending) → entry_bytes (l ++ m) ≡ entry_bytes l ++ entry_bytes m
unfolding entry_bytes
bytes_append [] m = refl
bytes_append (p ∷ l) m = ap {B = List ℕ} (λ r. variable_byte p ∷ high p.value ∷ low p.value ∷ r) (bytes_append l m)

three_more : (n : ℕ) → entry_size * suc n ≡ suc (suc (suc (entry_size * n)))
three_more n = omega arith

second_more : (n : ℕ) → entry_size * suc n + 1 ≡ suc (suc (suc (entry_size * n + 1)))
second_more n = omega arith

third_more : (n : ℕ) → entry_size * suc n + 2 ≡ suc (suc (suc (entry_size * n + 2)))
third_more n = omega arith

pub bytes_unused : (n : ℕ) → entry_bytes (replicate n no_entry) ≡ replicate (entry_size * n) 0
unfolding entry_bytes
bytes_unused zero = refl
bytes_unused (suc n) = rw (three_more, bytes_unused n)

pub bytes_lows : (l : List Pending) → EntryLows (entry_bytes l)
unfolding entry_bytes
bytes_lows [] = tt
bytes_lows (p ∷ l) = (omega arith, bytes_lows l)

-- a byte is 16 times its group, and its variable
byte_back : (byte value : ℕ) → variable_byte (entry byte value) ≡ byte
byte_back byte value = omega arith

entry_back : (p : Pending) → Named p → entry (variable_byte p) (word (high p.value) (low p.value)) ≡ p
entry_back p h =
    let g : variable_byte p / group_unit ≡ p.group = omega (arith, h) in
    let v : variable_byte p % group_unit ≡ p.variable = omega (arith, h) in
    let k = value_back p.value in
    λ i. record { group = g i; variable = v i; value = k i }

pub entries_bytes : (l : List Pending) → All Named l → entries (entry_bytes l) ≡ l
unfolding entry_bytes entries
entries_bytes [] h = refl
entries_bytes (p ∷ l) h = ap₂ {C = List Pending} ◌∷◌ (entry_back p h.0) (entries_bytes l h.1)

pub all_take : {A : Type 0} (P : A → Type 0) (n : ℕ) (l : List A) → All P l → All P (take n l)
all_take P zero l h = tt
all_take P (suc n) [] h = tt
all_take P (suc n) (x ∷ l) h = (h.0, all_take P n l h.1)

-- Bytes by threes.
data Threes : ℕ → List ℕ → Type 0 where
  no_more : Threes 0 []
  three : (n v h k : ℕ) (l : List ℕ) → Threes n l → Threes (suc n) (v ∷ h ∷ k ∷ l)

threes : (n : ℕ) (l : List ℕ) → length l ≡ entry_size * n → Threes n l
threes zero [] e = no_more
threes zero (v ∷ l) e = absurd (omega arith)
threes (suc n) [] e = absurd (omega arith)
threes (suc n) (v ∷ []) e = absurd (omega arith)
threes (suc n) (v ∷ h ∷ []) e = absurd (omega arith)
threes (suc n) (v ∷ h ∷ k ∷ l) e = three n v h k l (threes n l (omega arith))

number_by : (n : ℕ) (l : List ℕ) → Threes n l → length (entries l) ≡ n
unfolding entries
number_by n l no_more = refl
number_by n l (three m v h k r t) = ap suc (number_by m r t)

back_by : (n : ℕ) (l : List ℕ) → Threes n l → EntryLows l → entry_bytes (entries l) ≡ l
unfolding entry_bytes entries
back_by n l no_more w = refl
back_by n l (three m v h k r t) w =
    let first = byte_back v (word h k) in
    let second = high_back h k w.0 in
    let third = low_back h k w.0 in
    let rest = back_by m r t w.1 in
    λ i. first i ∷ second i ∷ third i ∷ rest i

take_by : (n : ℕ) (l : List ℕ) → Threes n l → (m : ℕ) → entries (take (entry_size * m) l) ≡ take m (entries l)
unfolding entries
take_by n l no_more zero = refl
take_by n l no_more (suc m) = rw three_more
take_by n l (three i v h k r t) zero = refl
take_by n l (three i v h k r t) (suc m) = rw three_more (ap {B = List Pending} (λ l. entry v (word h k) ∷ l) (take_by i r t m))

at_by : (n : ℕ) (l : List ℕ) → Threes n l → (i : ℕ) → get_or (entries l) i no_entry ≡ entry_at l i
unfolding entries
at_by n l no_more i = refl
at_by n l (three m v h k r t) zero = refl
at_by n l (three m v h k r t) (suc i) = rw (second_more, third_more, three_more) (at_by m r t i)

set_by : (n : ℕ) (l : List ℕ) → Threes n l → (i b g k : ℕ) → entries (set_entry l i b g k) ≡ set (entries l) i (entry b (word g k))
unfolding entries
set_by n l no_more i b g k = refl
set_by n l (three m v h o r t) zero b g k = refl
set_by n l (three m v h o r t) (suc i) b g k =
    rw (second_more, third_more, three_more) (ap {B = List Pending} (λ l. entry v (word h o) ∷ l) (set_by m r t i b g k))

lows_by : (n : ℕ) (l : List ℕ) → Threes n l → (i b g k : ℕ) → Byte k → EntryLows l → EntryLows (set_entry l i b g k)
lows_by n l no_more i b g k small w = tt
lows_by n l (three m v h o r t) zero b g k small w = (small, w.1)
lows_by n l (three m v h o r t) (suc i) b g k small w = rw (second_more, third_more, three_more) (w.0, lows_by m r t i b g k small w.1)

drop_by : (n : ℕ) (l : List ℕ) → Threes n l → (m : ℕ) → entries (drop (entry_size * m) l) ≡ drop m (entries l)
unfolding entries
drop_by n l no_more zero = refl
drop_by n l no_more (suc m) = rw three_more
drop_by n l (three i v h k r t) zero = refl
drop_by n l (three i v h k r t) (suc m) = rw three_more (drop_by i r t m)

append_by : (n : ℕ) (l : List ℕ) → Threes n l → (m : List ℕ) → entries (l ++ m) ≡ entries l ++ entries m
unfolding entries
append_by n l no_more m = refl
append_by n l (three i v h k r t) m = ap {B = List Pending} (λ l. entry v (word h k) ∷ l) (append_by i r t m)

take_lows : (n : ℕ) (l : List ℕ) → Threes n l → (m : ℕ) → EntryLows l → EntryLows (take (entry_size * m) l)
take_lows n l no_more zero w = tt
take_lows n l no_more (suc m) w = rw three_more tt
take_lows n l (three i v h k r t) zero w = tt
take_lows n l (three i v h k r t) (suc m) w = rw three_more (w.0, take_lows i r t m w.1)

drop_lows : (n : ℕ) (l : List ℕ) → Threes n l → (m : ℕ) → EntryLows l → EntryLows (drop (entry_size * m) l)
drop_lows n l no_more zero w = tt
drop_lows n l no_more (suc m) w = rw three_more tt
drop_lows n l (three i v h k r t) zero w = w
drop_lows n l (three i v h k r t) (suc m) w = rw three_more (drop_lows i r t m w.1)

append_lows : (n : ℕ) (l : List ℕ) → Threes n l → (m : List ℕ) → EntryLows l → EntryLows m → EntryLows (l ++ m)
append_lows n l no_more m w u = u
append_lows n l (three i v h k r t) m w u = (w.0, append_lows i r t m w.1 u)

low_by : (n : ℕ) (l : List ℕ) → Threes n l → (i : ℕ) → EntryLows l → Byte (get_or l (entry_size * i + 2) 0)
low_by n l no_more i w = omega arith
low_by n l (three m v h o r t) zero w = w.0
low_by n l (three m v h o r t) (suc i) w = rw third_more (low_by m r t i w.1)

module _ (n : ℕ) (l : List ℕ) (size : length l ≡ entry_size * n) where
  pub bytes_entries : EntryLows l → entry_bytes (entries l) ≡ l
  bytes_entries w = back_by n l (threes n l size) w

  pub entries_number : length (entries l) ≡ n
  entries_number = number_by n l (threes n l size)

  pub entries_take : (m : ℕ) → entries (take (entry_size * m) l) ≡ take m (entries l)
  entries_take m = take_by n l (threes n l size) m

  pub entries_at : (i : ℕ) → get_or (entries l) i no_entry ≡ entry_at l i
  entries_at i = at_by n l (threes n l size) i

  pub entries_set : (i b g k : ℕ) → entries (set_entry l i b g k) ≡ set (entries l) i (entry b (word g k))
  entries_set i b g k = set_by n l (threes n l size) i b g k

  pub set_lows : (i b g k : ℕ) → Byte k → EntryLows l → EntryLows (set_entry l i b g k)
  set_lows i b g k small w = lows_by n l (threes n l size) i b g k small w

  pub low_at : (i : ℕ) → EntryLows l → Byte (get_or l (entry_size * i + 2) 0)
  low_at i w = low_by n l (threes n l size) i w

  -- a value written as its two bytes
  pub entries_written : (i b k : ℕ) → entries (set_entry l i b (high k) (low k)) ≡ set (entries l) i (entry b k)
  entries_written i b k = entries_set i b (high k) (low k) ∙ ap (λ k. set (entries l) i (entry b k)) (value_back k)

  pub written_lows : (i b k : ℕ) → EntryLows l → EntryLows (set_entry l i b (high k) (low k))
  written_lows i b k w = set_lows i b (high k) (low k) (omega arith) w

  -- those from index i up to j copied over those from index d on
  module _ (i j d : ℕ) (up : i ≤ j) (within : j ≤ n) (fits : d + (j - i) ≤ n) where
    abbrev front : List ℕ
    front = take (entry_size * d) l

    abbrev moved : List ℕ
    moved = take (entry_size * (j - i)) (drop (entry_size * i) l)

    front_size : length front ≡ entry_size * d
    front_size = omega (arith, length-take (entry_size * d) l, size)

    left_size : length (drop (entry_size * i) l) ≡ entry_size * (n - i)
    left_size = omega (arith, length-drop (entry_size * i) l, size)

    moved_size : length moved ≡ entry_size * (j - i)
    moved_size = omega (arith, length-take (entry_size * (j - i)) (drop (entry_size * i) l), left_size)

    both_size : length (front ++ moved) ≡ entry_size * (d + (j - i))
    both_size = omega (arith, length-append front moved, front_size, moved_size)

    as_parts : copy_within l (entry_size * i) (entry_size * j) (entry_size * d) ≡ (front ++ moved) ++ drop (entry_size * (d + (j - i))) l
    as_parts =
        let number : entry_size * j - entry_size * i ≡ entry_size * (j - i) = omega arith in
        let behind : entry_size * d + (entry_size * j - entry_size * i) ≡ entry_size * (d + (j - i)) = omega arith in
        ap₂ (λ k m. (front ++ take k (drop (entry_size * i) l)) ++ drop m l) number behind

    pub entries_copied : entries (copy_within l (entry_size * i) (entry_size * j) (entry_size * d)) ≡ copy_within (entries l) i j d
    entries_copied =
        let some = entries_take d in
        let more =
        take_by (n - i) (drop (entry_size * i) l) (threes (n - i) _ left_size) (j - i)
        ∙ ap (take (j - i)) (drop_by n l (threes n l size) i) in
        let rest = drop_by n l (threes n l size) (d + (j - i)) in
        ap entries as_parts
        ∙ append_by (d + (j - i)) (front ++ moved) (threes _ _ both_size) (drop (entry_size * (d + (j - i))) l)
        ∙ ap₂ {C = List Pending} ◌++◌ (append_by d front (threes d front front_size) moved ∙ ap₂ {C = List Pending} ◌++◌ some more) rest

    pub copied_lows : EntryLows l → EntryLows (copy_within l (entry_size * i) (entry_size * j) (entry_size * d))
    copied_lows w =
        let some = take_lows n l (threes n l size) d w in
        let left = drop_lows n l (threes n l size) i w in
        let more = take_lows (n - i) (drop (entry_size * i) l) (threes (n - i) _ left_size) (j - i) left in
        let rest = drop_lows n l (threes n l size) (d + (j - i)) w in
        subst EntryLows (sym as_parts)
        (append_lows (d + (j - i)) (front ++ moved) (threes _ _ both_size) _ (append_lows d front (threes d front front_size) moved some more) rest)
