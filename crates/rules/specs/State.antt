-- A machine state: 01, "The machine", and request 7.
use Rattle.std.specs.Prelude.{Bool, false, List, [], ℕ, ◌+◌, ◌*◌, get_or, set}
use Rattle.rules.specs.Limits.{registers_each}

-- a store that waits in a buffer; its group is "counted from 0 at the oldest group present"
pub record Pending : Type 0 where
  pub group : ℕ
  pub variable : ℕ
  pub value : ℕ

-- a thread's store buffer: pending stores in groups, and whether a WFENCE stands after the newest
pub record Buffer : Type 0 where
  pub pending : List Pending
  pub marked : Bool

abbrev pub empty_buffer : Buffer
empty_buffer = record { pending = []; marked = false }

-- "four places, sixteen registers, eight variables and four buffers travel together as one value"; the registers thread by thread
pub record State : Type 0 where
  pub places : List ℕ
  pub registers : List ℕ
  pub memory : List ℕ
  pub buffers : List Buffer

unfoldable pub place : ℕ → State → ℕ
place t x = get_or x.places t 0

unfoldable pub register : ℕ → ℕ → State → ℕ
register t r x = get_or x.registers (registers_each * t + r) 0

unfoldable pub variable : ℕ → State → ℕ
variable v x = get_or x.memory v 0

unfoldable pub buffer : ℕ → State → Buffer
buffer t x = get_or x.buffers t empty_buffer

-- the stores of thread t that are pending
abbrev pub pending : ℕ → State → List Pending
pending t x = (buffer t x).pending

-- the state with one part changed
unfoldable pub with_place : ℕ → ℕ → State → State
with_place t p x = record { places = set x.places t p; registers = x.registers; memory = x.memory; buffers = x.buffers }

unfoldable pub with_register : ℕ → ℕ → ℕ → State → State
with_register t r k x =
    record {
      places = x.places;
      registers = set x.registers (registers_each * t + r) k;
      memory = x.memory;
      buffers = x.buffers;
    }

unfoldable pub with_variable : ℕ → ℕ → State → State
with_variable v k x = record { places = x.places; registers = x.registers; memory = set x.memory v k; buffers = x.buffers }

unfoldable pub with_buffer : ℕ → Buffer → State → State
with_buffer t b x = record { places = x.places; registers = x.registers; memory = x.memory; buffers = set x.buffers t b }
