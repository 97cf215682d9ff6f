-- A state's bytes, in the order of a slot.
use Rattle.std.specs.Prelude.{◌≡◌, List, [], ◌∷◌, ◌++◌, ℕ, ◌+◌, length}
use Rattle.reach.specs.Lists.{All}
use Rattle.rules.specs.Limits.{most_threads, registers_size, memory_size, entries_size}
use Rattle.buffer.specs.declared.Buf.{Buf}
use Rattle.state.specs.declared.State.{State}

-- "25 bytes a thread": count, and eight entries
unfoldable pub buffer_bytes : Buf → List ℕ
buffer_bytes b = b.count ∷ b.slots

unfoldable pub buffers_bytes : List Buf → List ℕ
buffers_bytes [] = []
buffers_bytes (b ∷ l) = buffer_bytes b ++ buffers_bytes l

-- "4 places, 32 register bytes, 16 memory bytes, and 25 bytes a thread"
unfoldable pub state_bytes : State → List ℕ
state_bytes s = s.places ++ s.regs ++ s.mem ++ buffers_bytes s.bufs

-- where the parts after the first begin
abbrev pub registers_at : ℕ
registers_at = most_threads

abbrev pub memory_at : ℕ
memory_at = registers_at + registers_size

abbrev pub buffers_at : ℕ
buffers_at = memory_at + memory_size

abbrev pub FullBuffer : Buf → Type 0
FullBuffer b = length b.slots ≡ entries_size

-- what the types of a state's fields say: how many there are of each
pub record Sized (s : State) : Type 0 where
  pub places_number : length s.places ≡ most_threads
  pub registers_number : length s.regs ≡ registers_size
  pub memory_number : length s.mem ≡ memory_size
  pub buffers_number : length s.bufs ≡ most_threads
  pub full : All FullBuffer s.bufs
