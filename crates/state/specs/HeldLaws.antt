-- A state's value is as good as the state: written and held undo each other, and values that hold the same state are equal.
use Rattle.std.specs.Prelude.{◌≡◌, refl, List, [], ◌∷◌, map}
use Rattle.std.proofs.Common.{ap₂, ◌∙◌, arith}
use Rattle.std.proofs.Math.ListN.{length-map}
use Rattle.reach.specs.Lists.{All}
use Rattle.reach.specs.ListLaws.{all_imp}
use Rattle.rules.specs.State as rules
use Rattle.rules.specs.Job.{Job}
use Rattle.rules.specs.Sound.{JobIn, WellFormed}
use Rattle.rules.specs.Limits.{most_variables, all_registers}
use Rattle.rules.specs.SlotLaws.{Writable, buffers_writable, word_bytes_number}
use Rattle.words.specs.WordLaws.{words_bytes, bytes_words, bytes_lows}
use Rattle.buffer.specs.Held.{held_buffer, written_buffer, BufferOk}
use Rattle.buffer.specs.HeldLaws as buffers
use Rattle.state.specs.Held.{held, written, StateOk}
use Rattle.state.specs.declared.State.{State}

-- a list whose elements g gives back from what f makes of them
map_back : {A B : Type 0} (f : A → B) (g : B → A) (l : List A) → All (λ a. g (f a) ≡ a) l → map g (map f l) ≡ l
map_back f g [] h = refl
map_back {A} f g (a ∷ l) h = ap₂ {C = List A} ◌∷◌ h.0 (map_back f g l h.1)

all_map :
    {A B : Type 0} (P : A → Type 0) (Q : B → Type 0) (f : A → B) → ((a : A) → P a → Q (f a)) →
    (l : List A) → All P l → All Q (map f l)
all_map P Q f k [] h = tt
all_map P Q f k (a ∷ l) h = (k a h.0, all_map P Q f k l h.1)

pub written_held : (s : State) → StateOk s → written (held s) ≡ s
unfolding written held
written_held s ok =
    let buffers = map_back held_buffer written_buffer s.bufs (all_imp _ _ buffers.written_held s.bufs ok.buffers) in
    let registers = bytes_words all_registers s.regs ok.registers_number ok.registers_lows in
    let memory = bytes_words most_variables s.mem ok.memory_number ok.memory_lows in
    λ i. record { places = s.places; regs = registers i; mem = memory i; bufs = buffers i }

module _ (j : Job) (in_range : JobIn j) (x : rules.State) (well : WellFormed j x) where
  pub held_written : held (written x) ≡ x
  unfolding written held
  held_written =
      let writable = buffers_writable j in_range x well in
      let buffers = map_back written_buffer held_buffer x.buffers (all_imp Writable _ buffers.held_written x.buffers writable) in
      let registers = words_bytes x.registers in
      let memory = words_bytes x.memory in
      λ i. record { places = x.places; registers = registers i; memory = memory i; buffers = buffers i }

  pub written_ok : StateOk (written x)
  unfolding written
  written_ok =
      record {
        places_number = well.places_number;
        registers_number = omega (arith, word_bytes_number x.registers, well.registers_number);
        registers_lows = bytes_lows x.registers;
        memory_number = omega (arith, word_bytes_number x.memory, well.memory_number);
        memory_lows = bytes_lows x.memory;
        buffers_number = length-map x.buffers written_buffer ∙ well.buffers_number;
        buffers = all_map Writable BufferOk written_buffer buffers.written_ok x.buffers (buffers_writable j in_range x well);
      }
