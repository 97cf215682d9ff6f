-- Worked values of N, of refusal 7 and of the words: 01, "Search" and "Refusal numbers and their order"; the slot in pieces: request 3.
use Rattle.std.specs.Prelude.{◌≡◌, refl, List, [], ◌∷◌, ℕ, ◌%◌, ◌≤◌, length, Ok, Err}
use Rattle.std.proofs.Common.{subst, arith}
use Rattle.reach.specs.Lists.{All}
use Rattle.span.specs.Pieces.{piece_size}
use Rattle.rules.specs.Limits.{slot_size}
use Rattle.rules.specs.Slot.{slot_bytes}
use Rattle.rules.specs.Machine.{machine}
use Rattle.rules.specs.File.{accepted, refused, decode, job_of}
use Rattle.rules.specs.Jobs.{p1}
use Rattle.rules.specs.Claims.{search_reaches, row_accepts}
use Rattle.rules.specs.Worked.{table}
use Rattle.rules.proofs.Worked.{worked}
use Rattle.lent.specs.Meaning.{Lent, slots_lent, AnsweredWith}
use Rattle.search.specs.Meaning.{words, slots_of, slots_indexed, SearchIn, SearchedIn, IndexedPromise}
use Rattle.search.specs.declared.Answer.TheVariants.{Reachable, Unreachable, Unknown}
use Rattle.readers.specs.declared.faults.Refusal.TheVariants.{ThreadBad}

-- lent memory by its lengths: table bytes, links, schedule bytes; and the N that it makes up
pub record Room : Type 0 where
  pub table : ℕ
  pub links : ℕ
  pub schedule : ℕ
  pub slots : ℕ

abbrev room : ℕ → ℕ → ℕ → ℕ → Room
room t l s n = record { table = t; links = l; schedule = s; slots = n }

abbrev pub HasSlots : Room → Type 0
HasSlots r =
    (m : Lent) → length m.table ≡ r.table → length m.links ≡ r.links → length m.schedule ≡ r.schedule → slots_of m ≡ r.slots

unfoldable pub rooms : List Room
rooms =
    -- the table is the smallest: 4 slots and 151 bytes more
    room 759 9 9 4
    -- exactly 4 slots
    ∷ room 608 9 9 4
    -- the links are
    ∷ room 1520 5 9 5
    -- the schedule is
    ∷ room 1520 9 6 6
    -- 65,536 is
    ∷ room 10000000 66000 66001 65536
    -- the bench program's
    ∷ room 60800 400 400 400
    -- no slot, by each of the three
    ∷ room 151 9 9 0
    ∷ room 1520 0 9 0
    ∷ room 1520 9 0 0
    ∷ []

pub rooms_are : All HasSlots rooms
unfolding rooms slots_lent
rooms_are =
    (λ m t l s. rw (t, l, s) refl, (λ m t l s. rw (t, l, s) refl, (λ m t l s. rw (t, l, s) refl, (λ m t l s. rw (t, l, s) refl, (λ m t l s. rw (t, l, s) refl, (λ m t l s. rw (t, l, s) refl, (λ m t l s. rw (t, l, s) refl, (λ m t l s. rw (t, l, s) refl, (λ m t l s. rw (t, l, s) refl, tt)))))))))

-- the same with an index of so many numbers
pub record IndexedRoom : Type 0 where
  pub lent : Room
  pub index : ℕ

abbrev indexed_room : ℕ → ℕ → ℕ → ℕ → ℕ → IndexedRoom
indexed_room t l s i n = record { lent = room t l s n; index = i }

abbrev pub HasSlotsIndexed : IndexedRoom → Type 0
HasSlotsIndexed r =
    (m : Lent) (index : List ℕ) →
    length m.table ≡ r.lent.table → length m.links ≡ r.lent.links → length m.schedule ≡ r.lent.schedule → length index ≡ r.index →
    slots_indexed m index ≡ r.lent.slots

unfoldable pub indexed_rooms : List IndexedRoom
indexed_rooms =
    -- no number, and one: no slot
    indexed_room 1520 9 9 0 0
    ∷ indexed_room 1520 9 9 1 0
    -- half the index is the smallest: two numbers to a slot, an odd one is of no use
    ∷ indexed_room 1520 9 9 2 1
    ∷ indexed_room 1520 9 9 3 1
    ∷ indexed_room 1520 9 9 16 8
    ∷ indexed_room 1520 9 9 17 8
    -- as many as the table has, one fewer, and more than it has
    ∷ indexed_room 608 9 9 8 4
    ∷ indexed_room 608 9 9 7 3
    ∷ indexed_room 608 9 9 99 4
    -- the links are the smallest, the schedule is, and the index is as small
    ∷ indexed_room 1520 5 9 99 5
    ∷ indexed_room 1520 9 6 99 6
    ∷ indexed_room 1520 9 9 18 9
    ∷ indexed_room 1520 9 9 19 9
    ∷ indexed_room 1520 9 9 20 9
    -- no slot by another buffer, however long the index
    ∷ indexed_room 151 9 9 99 0
    ∷ indexed_room 1520 0 9 99 0
    ∷ indexed_room 1520 9 0 99 0
    -- about 65,536
    ∷ indexed_room 10000000 66000 66001 131071 65535
    ∷ indexed_room 10000000 66000 66001 131072 65536
    ∷ indexed_room 10000000 66000 66001 200000 65536
    ∷ []

pub indexed_rooms_are : All HasSlotsIndexed indexed_rooms
unfolding indexed_rooms slots_lent
indexed_rooms_are =
    (λ m index t l s i. rw (t, l, s, i) refl, (λ m index t l s i. rw (t, l, s, i) refl, (λ m index t l s i. rw (t, l, s, i) refl, (λ m index t l s i. rw (t, l, s, i) refl, (λ m index t l s i. rw (t, l, s, i) refl, (λ m index t l s i. rw (t, l, s, i) refl, (λ m index t l s i. rw (t, l, s, i) refl, (λ m index t l s i. rw (t, l, s, i) refl, (λ m index t l s i. rw (t, l, s, i) refl, (λ m index t l s i. rw (t, l, s, i) refl, (λ m index t l s i. rw (t, l, s, i) refl, (λ m index t l s i. rw (t, l, s, i) refl, (λ m index t l s i. rw (t, l, s, i) refl, (λ m index t l s i. rw (t, l, s, i) refl, (λ m index t l s i. rw (t, l, s, i) refl, (λ m index t l s i. rw (t, l, s, i) refl, (λ m index t l s i. rw (t, l, s, i) refl, (λ m index t l s i. rw (t, l, s, i) refl, (λ m index t l s i. rw (t, l, s, i) refl, (λ m index t l s i. rw (t, l, s, i) refl, tt))))))))))))))))))))

-- a slot is whole pieces, so that no byte of it is compared by itself
pub slot_in_pieces : slot_size % piece_size ≡ 0
slot_in_pieces = refl

-- what a search must answer where no slot is lent, with an index or without: its number and offset, and nothing is written
abbrev pub RefusedWithNoSlot : List ℕ → (number offset : ℕ) → Type 0
RefusedWithNoSlot bytes number offset =
    (N : ℕ) (m m' : Lent) (ws : List ℕ) → N ≡ 0 → SearchedIn N bytes m ws m' → (ws ≡ 0 ∷ number ∷ offset ∷ 0 ∷ []) × (m' ≡ m)

-- "7: search only: no slot, offset 0"
pub none_lent : (bytes : List ℕ) → decode bytes ≡ accepted (job_of bytes) → RefusedWithNoSlot bytes 7 0
none_lent bytes is N m m' ws none h =
    let answered = subst (λ d. SearchIn N d m ws m') is h in
    let refusal = subst (λ n. AnsweredWith (machine (job_of bytes)) slot_size slot_bytes n m ws m') none answered in
    (refusal.answer, refusal.untouched)

-- of P1
pub no_slot_refused : RefusedWithNoSlot p1 7 0
unfolding table
no_slot_refused = none_lent p1 (row_accepts table worked 0 640 p1 (search_reaches 22 (0x00 ∷ 0x00 ∷ 0x01 ∷ 0x01 ∷ [])) refl refl)

-- "An index of length 0 or 1 makes N 0: refusal 7", and leaves the index unchanged
pub short_index :
    (bytes : List ℕ) → decode bytes ≡ accepted (job_of bytes) → (m m' : Lent) (index index' ws : List ℕ) → length index ≤ 1 →
    IndexedPromise bytes m index ws m' index' → (ws ≡ 0 ∷ 7 ∷ 0 ∷ 0 ∷ []) × (m' ≡ m) × (index' ≡ index)
short_index bytes is m m' index index' ws short h =
    let none : slots_indexed m index ≡ 0 = omega (arith, short) in
    let refusal = none_lent bytes is (slots_indexed m index) m m' ws none h.searched in
    (refusal.0, refusal.1, h.unchanged 7 0 refusal.0)

-- "7 last": a job that has a fault of 1 to 6 is refused by that, with no slot lent too
pub refused_first : (bytes : List ℕ) (number offset : ℕ) → decode bytes ≡ refused number offset → RefusedWithNoSlot bytes number offset
refused_first bytes number offset is N m m' ws none h =
    let refusal = subst (λ d. SearchIn N d m ws m') is h in
    (refusal.answer, refusal.untouched)

-- and leaves the index unchanged, however long that is
pub refused_index :
    (bytes : List ℕ) (number offset : ℕ) → decode bytes ≡ refused number offset → (m m' : Lent) (index index' ws : List ℕ) →
    IndexedPromise bytes m index ws m' index' → (ws ≡ 0 ∷ number ∷ offset ∷ 0 ∷ []) × (m' ≡ m) × (index' ≡ index)
refused_index bytes number offset is m m' index index' ws h =
    let refusal = subst (λ d. SearchIn (slots_indexed m index) d m ws m') is h.searched in
    (refusal.answer, refusal.untouched, h.unchanged number offset refusal.answer)

-- the words of each case: its number, and its values in their order
pub words_are :
    (words (Err (record { refusal = ThreadBad; offset = 10 })) ≡ 0 ∷ 4 ∷ 10 ∷ 0 ∷ [])
    × (words (Ok (Reachable 4 22)) ≡ 1 ∷ 4 ∷ 22 ∷ 0 ∷ [])
    × (words (Ok (Unreachable 13)) ≡ 2 ∷ 13 ∷ 0 ∷ 0 ∷ [])
    × (words (Ok (Unknown 400)) ≡ 3 ∷ 400 ∷ 0 ∷ 0 ∷ [])
words_are = (refl, refl, refl, refl)
