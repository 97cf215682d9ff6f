-- A buffer's bytes are those that 01 gives for the buffer it holds.
use Rattle.std.specs.Prelude.{◌≡◌, ◌∷◌}
use Rattle.std.proofs.Common.{sym, ap}
use Rattle.rules.specs.Slot as rules
use Rattle.buffer.specs.declared.Buf.{Buf}
use Rattle.buffer.specs.Held.{held_buffer, written_buffer, BufferOk}
use Rattle.buffer.specs.HeldLaws.{written_held}
use Rattle.slot.specs.Bytes.{buffer_bytes}

pub buffer_bytes_held : (b : Buf) → BufferOk b → buffer_bytes b ≡ rules.buffer_bytes (held_buffer b)
unfolding buffer_bytes rules.buffer_bytes written_buffer
buffer_bytes_held b ok = sym (ap (λ (c : Buf). c.count ∷ c.slots) (written_held b ok))
