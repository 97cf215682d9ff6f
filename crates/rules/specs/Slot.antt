-- A state as the bytes of a slot: 01, "Search", and requests 7 and 10.
use Rattle.std.specs.Prelude.{Bool, true, false, List, [], ◌∷◌, ◌++◌, ℕ, ◌+◌, ◌-◌, ◌*◌, ◌/◌, ◌%◌, length, replicate}
use Rattle.rules.specs.Limits.{byte_values, entries_size, group_unit, mark_unit}
use Rattle.rules.specs.State.{Pending, Buffer, State}

-- "a pending store's variable byte gains 16 times its group number"
abbrev pub variable_byte : Pending → ℕ
variable_byte p = group_unit * p.group + p.variable

-- "values big-endian": two bytes each
abbrev pub high : ℕ → ℕ
high k = k / byte_values

abbrev pub low : ℕ → ℕ
low k = k % byte_values

unfoldable pub word_bytes : List ℕ → List ℕ
word_bytes [] = []
word_bytes (k ∷ l) = high k ∷ low k ∷ word_bytes l

-- "three-byte pending entries": variable and value, under TSO oldest first, under PSO by group, then by variable
unfoldable pub entry_bytes : List Pending → List ℕ
entry_bytes [] = []
entry_bytes (p ∷ b) = variable_byte p ∷ high p.value ∷ low p.value ∷ entry_bytes b

-- "The count byte gains 128 while a WFENCE stands after the newest store"
abbrev pub mark_byte : Bool → ℕ
mark_byte true = mark_unit
mark_byte false = 0

-- "25 bytes a thread": count, and eight entries, unused ones 0
unfoldable pub buffer_bytes : Buffer → List ℕ
buffer_bytes b =
    (mark_byte b.marked + length b.pending) ∷ entry_bytes b.pending ++ replicate (entries_size - length (entry_bytes b.pending)) 0

unfoldable pub buffers_bytes : List Buffer → List ℕ
buffers_bytes [] = []
buffers_bytes (b ∷ rest) = buffer_bytes b ++ buffers_bytes rest

-- "4 places, 32 register bytes, 16 memory bytes, and 25 bytes a thread"; registers thread by thread
unfoldable pub slot_bytes : State → List ℕ
slot_bytes x = x.places ++ word_bytes x.registers ++ word_bytes x.memory ++ buffers_bytes x.buffers
