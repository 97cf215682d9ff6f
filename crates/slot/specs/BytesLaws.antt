-- A state's bytes: as many as a slot has, and equal only for equal states.
use Rattle.std.specs.Prelude.{◌≡◌, refl, List, [], ◌∷◌, ◌++◌, ℕ, suc, ◌*◌, ◌<◌, ◌≤◌, length, get_or, take}
use Rattle.std.proofs.Common.{append_assoc, append-nil, arith, length-append, length-take, take-suc}
use Rattle.reach.specs.Lists.{All}
use Rattle.reach.specs.ListLaws.{append_equal, all_imp}
use Rattle.rules.specs.Limits.{buffer_size, slot_size}
use Rattle.buffer.specs.declared.Buf.{Buf}
use Rattle.state.specs.declared.State.{State}
use Rattle.buffer.specs.Held.{BufferOk}
use Rattle.buffer.specs.EntryLaws.{all_take}
use Rattle.state.specs.Held.{StateOk}
use Rattle.slot.specs.Bytes.{buffer_bytes, buffers_bytes, state_bytes, FullBuffer, Sized}

-- a buffer without bytes, as the list of buffers reads past its end
abbrev pub no_buffer : Buf
no_buffer = record { count = 0; slots = [] }

pub buffers_bytes_append : (l m : List Buf) → buffers_bytes (l ++ m) ≡ buffers_bytes l ++ buffers_bytes m
unfolding buffers_bytes
buffers_bytes_append [] m = refl
buffers_bytes_append (b ∷ l) m = rw (buffers_bytes_append l m, append_assoc)

-- one buffer more
pub buffers_bytes_suc : (l : List Buf) (t : ℕ) → t < length l
    → buffers_bytes (take (suc t) l) ≡ buffers_bytes (take t l) ++ buffer_bytes (get_or l t no_buffer)
unfolding buffers_bytes
buffers_bytes_suc l t h = rw (take-suc l t no_buffer h, buffers_bytes_append, append-nil)

pub buffers_bytes_number : (l : List Buf) → All FullBuffer l → length (buffers_bytes l) ≡ buffer_size * length l
unfolding buffers_bytes buffer_bytes
buffers_bytes_number [] h = refl
buffers_bytes_number (b ∷ l) h = simp length-append (omega (arith, h.0, buffers_bytes_number l h.1))

pub front_number : (l : List Buf) (t : ℕ) → All FullBuffer l → t ≤ length l → length (buffers_bytes (take t l)) ≡ buffer_size * t
front_number l t h k = omega (arith, buffers_bytes_number (take t l) (all_take FullBuffer t l h), length-take t l)

pub state_bytes_number : (s : State) → Sized s → length (state_bytes s) ≡ slot_size
unfolding state_bytes
state_bytes_number s h = simp length-append (omega (arith, buffers_bytes_number s.bufs h.full))

pub sized : (s : State) → StateOk s → Sized s
sized s h = record {
  places_number = h.places_number;
  registers_number = h.registers_number;
  memory_number = h.memory_number;
  buffers_number = h.buffers_number;
  full = all_imp BufferOk FullBuffer (λ b k. k.size) s.bufs h.buffers;
}

pub buffers_bytes_equal : (l m : List Buf) → length l ≡ length m
    → All FullBuffer l → All FullBuffer m → buffers_bytes l ≡ buffers_bytes m → l ≡ m
unfolding buffers_bytes buffer_bytes
buffers_bytes_equal [] [] n h k e = refl
buffers_bytes_equal [] (c ∷ m) n h k e = absurd (omega arith)
buffers_bytes_equal (b ∷ l) [] n h k e = absurd (omega arith)
buffers_bytes_equal (b ∷ l) (c ∷ m) n h k e =
    let parts = append_equal (buffer_bytes b) (buffer_bytes c) (buffers_bytes l) (buffers_bytes m) (omega (arith, h.0, k.0)) e in
    let count : b.count ≡ c.count = cc in
    let entries : b.slots ≡ c.slots = cc in
    let rest = buffers_bytes_equal l m (omega arith) h.1 k.1 parts.1 in
    λ i. record { count = count i; slots = entries i } ∷ rest i
