-- The state that a value of the program holds, and the value that a state is written as.
use Rattle.std.specs.Prelude.{◌≡◌, map, length}
use Rattle.reach.specs.Lists.{All}
use Rattle.rules.specs.Limits.{most_threads, registers_size, memory_size}
use Rattle.rules.specs.State as rules
use Rattle.rules.specs.Slot.{word_bytes}
use Rattle.words.specs.Words.{words, Lows}
use Rattle.buffer.specs.Held.{held_buffer, written_buffer, BufferOk}
use Rattle.state.specs.declared.State.{State}

unfoldable pub held : State → rules.State
held s = record { places = s.places; registers = words s.regs; memory = words s.mem; buffers = map held_buffer s.bufs }

unfoldable pub written : rules.State → State
written x = record { places = x.places; regs = word_bytes x.registers; mem = word_bytes x.memory; bufs = map written_buffer x.buffers }

-- four places, sixteen registers, eight variables, four buffers, and each buffer as it should be
pub record StateOk (s : State) : Type 0 where
  pub places_number : length s.places ≡ most_threads
  pub registers_number : length s.regs ≡ registers_size
  pub registers_lows : Lows s.regs
  pub memory_number : length s.mem ≡ memory_size
  pub memory_lows : Lows s.mem
  pub buffers_number : length s.bufs ≡ most_threads
  pub buffers : All BufferOk s.bufs
