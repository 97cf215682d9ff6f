-- The buffer that a buffer's value holds, and the value that a buffer is written as.
use Rattle.std.specs.Prelude.{◌≡◌, List, [], ◌∷◌, ◌++◌, ℕ, ◌+◌, ◌*◌, ◌-◌, ◌/◌, ◌%◌, ◌≤◌, ◌<◌, leb, length, get_or, take, replicate}
use Rattle.rules.specs.Limits.{most_pending, group_unit, mark_unit, entry_size, entries_size}
use Rattle.rules.specs.State.{Pending, Buffer}
use Rattle.rules.specs.Slot.{entry_bytes, mark_byte}
use Rattle.rules.specs.SlotLaws.{Byte}
use Rattle.words.specs.Words.{word}
use Rattle.buffer.specs.declared.Buf.{Buf}

-- a variable byte and a value: the byte is 16 times the group, and the variable
abbrev pub entry : (byte value : ℕ) → Pending
entry byte value = record { group = byte / group_unit; variable = byte % group_unit; value = value }

-- entries of three bytes, one after the other
unfoldable pub entries : List ℕ → List Pending
entries [] = []
entries (v ∷ []) = []
entries (v ∷ h ∷ []) = []
entries (v ∷ h ∷ k ∷ l) = entry v (word h k) ∷ entries l

-- the lower byte of each value is a byte: then the two are found again from the value
abbrev pub EntryLows : List ℕ → Type 0
EntryLows [] = Unit {0}
EntryLows (v ∷ []) = Unit {0}
EntryLows (v ∷ h ∷ []) = Unit {0}
EntryLows (v ∷ h ∷ k ∷ l) = Byte k × EntryLows l

-- how many stores are pending: the count byte without the mark
abbrev pub number : Buf → ℕ
number b = b.count % mark_unit

unfoldable pub held_pending : Buf → List Pending
held_pending b = entries (take (entry_size * number b) b.slots)

abbrev pub held_buffer : Buf → Buffer
held_buffer b = record { pending = held_pending b; marked = leb mark_unit b.count }

unfoldable pub written_buffer : Buffer → Buf
written_buffer b =
    record {
      count = mark_byte b.marked + length b.pending;
      slots = entry_bytes b.pending ++ replicate (entries_size - length (entry_bytes b.pending)) 0;
    }

-- no more entries than there is room for, unused ones 0
pub record BufferOk (b : Buf) : Type 0 where
  pub few : number b ≤ most_pending
  pub byte : b.count < 2 * mark_unit
  pub size : length b.slots ≡ entries_size
  pub unused : (i : ℕ) → entry_size * number b ≤ i → get_or b.slots i 0 ≡ 0
  pub lows : EntryLows b.slots
