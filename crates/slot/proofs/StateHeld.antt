-- A state's bytes are the bytes that 01 gives for the state it holds.
use Rattle.std.specs.Prelude.{◌≡◌, refl, List, [], ◌∷◌, ◌++◌, map}
use Rattle.std.proofs.Common.{sym, ap₂}
use Rattle.reach.specs.Lists.{All}
use Rattle.rules.specs.Limits.{most_variables, all_registers}
use Rattle.rules.specs.Slot as rules
use Rattle.words.specs.WordLaws.{bytes_words}
use Rattle.buffer.specs.declared.Buf.{Buf}
use Rattle.buffer.specs.Held.{held_buffer, BufferOk}
use Rattle.state.specs.declared.State.{State}
use Rattle.state.specs.Held.{held, StateOk}
use Rattle.slot.specs.Bytes.{buffers_bytes, state_bytes}
use Rattle.slot.specs.BufferHeld.{buffer_bytes_held}

buffers_bytes_held : (l : List Buf) → All BufferOk l → buffers_bytes l ≡ rules.buffers_bytes (map held_buffer l)
unfolding buffers_bytes rules.buffers_bytes
buffers_bytes_held [] h = refl
buffers_bytes_held (b ∷ l) h = ap₂ ◌++◌ (buffer_bytes_held b h.0) (buffers_bytes_held l h.1)

pub state_bytes_held : (s : State) → StateOk s → state_bytes s ≡ rules.slot_bytes (held s)
unfolding state_bytes rules.slot_bytes held
state_bytes_held s ok =
    let registers = bytes_words all_registers s.regs ok.registers_number ok.registers_lows in
    let memory = bytes_words most_variables s.mem ok.memory_number ok.memory_lows in
    let buffers = buffers_bytes_held s.bufs ok.buffers in
    λ i. s.places ++ sym registers i ++ sym memory i ++ buffers i
