-- What reading a state and its buffers from a table promises.
use Rattle.std.specs.Prelude.{◌≡◌, List, ℕ, ◌+◌, ◌*◌, ◌≤◌, length}
use Rattle.reach.specs.Lists.{All}
use Rattle.rules.specs.Limits.{slot_size, buffer_size}
use Rattle.span.specs.Span.{bytes_at}
use Rattle.buffer.specs.declared.Buf.{Buf}
use Rattle.state.specs.declared.State.{State}
use Rattle.slot.specs.Bytes.{buffer_bytes, buffers_bytes, state_bytes, FullBuffer, Sized}

-- the whole of slot i lies in the table
abbrev pub Room : List ℕ → ℕ → Type 0
Room table i = slot_size * i + slot_size ≤ length table

pub record ReadBuffer (table : List ℕ) (at : ℕ) (b : Buf) : Type 0 where
  pub bytes : buffer_bytes b ≡ bytes_at table at buffer_size
  pub full : FullBuffer b

pub record ReadBuffers (table : List ℕ) (at n : ℕ) (l : List Buf) : Type 0 where
  pub bytes : buffers_bytes l ≡ bytes_at table at (buffer_size * n)
  pub number : length l ≡ n
  pub full : All FullBuffer l

-- the state read has the bytes of slot i
pub record ReadFrom (table : List ℕ) (i : ℕ) (s : State) : Type 0 where
  pub bytes : state_bytes s ≡ bytes_at table (slot_size * i) slot_size
  pub sized : Sized s
