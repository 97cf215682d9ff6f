-- The parts of a state one after another, at the places that 01's "Slot layout" gives them.
use mathlib.Core.Path.{◌≡◌, sym, ap, ◌∙◌}
use mathlib.Core.List.{List, ◌++◌}
use Prim.Native.Nat.{ℕ, ◌+◌, ◌*◌}
use native.Mathlib.Omega.{arith}
use lib.ListN.{length, length-append}
use Rattle.rules.specs.Limits.{most_threads, registers_size, memory_size, buffer_size, slot_size}
use Rattle.span.specs.Span.{bytes_at, laid}
use Rattle.span.specs.SpanLaws.{laid_then, laid_all, bytes_at_add, bytes_at_number}
use Rattle.buffer.specs.declared.Buf.{Buf}
use Rattle.state.specs.declared.State.{State}
use Rattle.slot.specs.Bytes.{buffers_bytes, state_bytes, registers_at, memory_at, buffers_at, Sized}
use Rattle.slot.specs.BytesLaws.{state_bytes_number}
use Rattle.slot.specs.Table.{Room, ReadBuffers, ReadFrom}

module _ (s : State) (sizes : Sized s) where
  to_memory : length (s.places ++ s.regs) ≡ memory_at
  to_memory = simp length-append (omega (arith, sizes.places_number, sizes.registers_number))

  to_buffers : length (s.places ++ s.regs ++ s.mem) ≡ buffers_at
  to_buffers = simp length-append (omega (arith, to_memory, sizes.memory_number))

  -- the parts laid one after another over a room of the slot's size are the state's bytes
  pub laid_out : (room placed registered remembered done : List ℕ) → length room ≡ slot_size
      → placed ≡ laid room 0 s.places
      → registered ≡ laid placed registers_at s.regs
      → remembered ≡ laid registered memory_at s.mem
      → done ≡ laid remembered buffers_at (buffers_bytes s.bufs)
      → done ≡ state_bytes s
  unfolding state_bytes
  laid_out room placed registered remembered done size p r m b =
      let registers = laid_then room 0 s.places s.regs registers_at sizes.places_number (omega arith) in
      let memory = laid_then room 0 (s.places ++ s.regs) s.mem memory_at to_memory (omega arith) in
      let buffers = laid_then room 0 (s.places ++ s.regs ++ s.mem) (buffers_bytes s.bufs) buffers_at to_buffers (omega arith) in
      rw (b, m, r, p, registers, memory, buffers) (laid_all room (state_bytes s) (size ∙ sym (state_bytes_number s sizes)))

pub read_parts : (table : List ℕ) (i : ℕ) → Room table i → (places registers memory : List ℕ) (buffers : List Buf)
    → places ≡ bytes_at table (slot_size * i) most_threads
    → registers ≡ bytes_at table (slot_size * i + registers_at) registers_size
    → memory ≡ bytes_at table (slot_size * i + memory_at) memory_size
    → ReadBuffers table (slot_size * i + buffers_at) most_threads buffers
    → ReadFrom table i (record { places = places; regs = registers; mem = memory; bufs = buffers })
unfolding state_bytes
read_parts table i room places registers memory buffers p r m b =
    let at = slot_size * i in
    record {
      bytes =
          rw (
            p,
            r,
            m,
            b.bytes,
            bytes_at_add table at buffers_at (most_threads * buffer_size),
            bytes_at_add table at memory_at memory_size,
            bytes_at_add table at registers_at registers_size,
          );
      sized = record {
        places_number = ap length p ∙ bytes_at_number table at most_threads (omega arith);
        registers_number = ap length r ∙ bytes_at_number table (at + registers_at) registers_size (omega arith);
        memory_number = ap length m ∙ bytes_at_number table (at + memory_at) memory_size (omega arith);
        buffers_number = b.number;
        full = b.full;
      };
    }
