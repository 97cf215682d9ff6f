-- A part of a state's value, read and written, is that part of the state that it holds.
use mathlib.Core.Path.{◌≡◌, refl, sym, ap, ap₂, ◌∙◌}
use mathlib.Core.List.{List, [], ◌∷◌, map}
use Prim.Native.Nat.{ℕ, zero, suc, ◌+◌, ◌*◌, ◌<◌}
use native.Mathlib.Omega.{arith}
use lib.ListN.{length, set, get_or, length-set, get_or-map}
use Rattle.reach.specs.Lists.{All}
use Rattle.reach.specs.ListLaws.{all_at, all_set, at_in, at_default}
use Rattle.rules.specs.Limits.{registers_each, all_registers, most_variables, most_threads}
use Rattle.rules.specs.State as rules
use Rattle.rules.specs.Slot.{high, low}
use Rattle.rules.specs.SlotLaws.{Byte}
use Rattle.words.specs.Words.{word, words, Lows, word_at, set_word}
use Rattle.words.specs.WordLaws.{words_at, words_set, set_lows, value_back}
use Rattle.buffer.specs.Held.{entries, held_pending, held_buffer, BufferOk}
use Rattle.buffer.specs.declared.Buf.{Buf}
use Rattle.buffer.specs.Posts.{Holds as HoldsBuffer}
use Rattle.state.specs.Held.{held, StateOk}
use Rattle.state.specs.Parts.{Holds}
use Rattle.state.specs.declared.State.{State}

-- Lists.

map_set : {A B : Type 0} (f : A → B) (l : List A) (i : ℕ) (y : A) → map f (set l i y) ≡ set (map f l) i (f y)
map_set f [] i y = refl
map_set f (x ∷ l) zero y = refl
map_set {B = B} f (x ∷ l) (suc i) y = ap {B = List B} (◌∷◌ (f x)) (map_set f l i y)

-- a value's own two bytes are its
word_of : (k h l : ℕ) → h ≡ high k → l ≡ low k → word h l ≡ k
word_of k h l e f = ap₂ word e f ∙ value_back k

-- One part read or written.

-- what a read past the end would give
abbrev no_buffer : Buf
no_buffer = record { count = 0; slots = [] }

module _ (s : State) (ok : StateOk s) where
  pub buffer_read : (t : ℕ) → t < most_threads → HoldsBuffer (get_or s.bufs t no_buffer) (rules.buffer t (held s))
  unfolding held rules.buffer held_pending entries
  buffer_read t h =
      record {
        ok = all_at BufferOk s.bufs ok.buffers _ (at_in s.bufs t _ (at_default s.bufs t no_buffer (omega arith)));
        held = sym (get_or-map held_buffer s.bufs t no_buffer);
      }

  -- parts of the same number are as they should be
  changed_ok :
      (places regs mem : List ℕ) (bufs : List Buf) →
      length places ≡ length s.places → length regs ≡ length s.regs → Lows regs → length mem ≡ length s.mem → Lows mem →
      length bufs ≡ length s.bufs → All BufferOk bufs →
      StateOk (record { places = places; regs = regs; mem = mem; bufs = bufs })
  changed_ok places regs mem bufs p r w m u b all =
      record {
        places_number = p ∙ ok.places_number;
        registers_number = r ∙ ok.registers_number;
        registers_lows = w;
        memory_number = m ∙ ok.memory_number;
        memory_lows = u;
        buffers_number = b ∙ ok.buffers_number;
        buffers = all;
      }

  pub place_written :
      (t p : ℕ) →
      Holds (record { places = set s.places t p; regs = s.regs; mem = s.mem; bufs = s.bufs }) (rules.with_place t p (held s))
  unfolding held rules.with_place
  place_written t p =
      record { ok = changed_ok _ _ _ _ (length-set s.places t p) refl ok.registers_lows refl ok.memory_lows refl ok.buffers; is = refl }

  -- a value is read from its two bytes
  pub register_read : (t r : ℕ) → rules.register t r (held s) ≡ word_at s.regs (registers_each * t + r)
  unfolding held rules.register
  register_read t r = words_at all_registers s.regs ok.registers_number (registers_each * t + r)

  pub variable_read : (v : ℕ) → rules.variable v (held s) ≡ word_at s.mem v
  unfolding held rules.variable
  variable_read v = words_at most_variables s.mem ok.memory_number v

  -- and written as its two bytes
  pub register_written :
      (t r k h l : ℕ) → h ≡ high k → l ≡ low k →
      Holds (record { places = s.places; regs = set_word s.regs (registers_each * t + r) h l; mem = s.mem; bufs = s.bufs })
      (rules.with_register t r k (held s))
  unfolding held rules.with_register
  register_written t r k h l e f =
      let i = registers_each * t + r in
      let size = ok.registers_number in
      let small : Byte l = omega arith in
      let registers = words_set all_registers s.regs size i h l ∙ ap (set (words s.regs) i) (word_of k h l e f) in
      record {
        ok = changed_ok _ _ _ _ refl (simp length-set refl) (set_lows all_registers s.regs size i h l small ok.registers_lows) refl ok.memory_lows refl ok.buffers;
        is = λ j. record { places = s.places; registers = registers j; memory = words s.mem; buffers = map held_buffer s.bufs };
      }

  pub variable_written :
      (v k h l : ℕ) → h ≡ high k → l ≡ low k →
      Holds (record { places = s.places; regs = s.regs; mem = set_word s.mem v h l; bufs = s.bufs }) (rules.with_variable v k (held s))
  unfolding held rules.with_variable
  variable_written v k h l e f =
      let size = ok.memory_number in
      let small : Byte l = omega arith in
      let memory = words_set most_variables s.mem size v h l ∙ ap (set (words s.mem) v) (word_of k h l e f) in
      record {
        ok = changed_ok _ _ _ _ refl refl ok.registers_lows (simp length-set refl) (set_lows most_variables s.mem size v h l small ok.memory_lows) refl ok.buffers;
        is = λ j. record { places = s.places; registers = words s.regs; memory = memory j; buffers = map held_buffer s.bufs };
      }

  pub buffer_written :
      (t : ℕ) (b : Buf) → BufferOk b →
      Holds
      (record { places = s.places; regs = s.regs; mem = s.mem; bufs = set s.bufs t b })
      (rules.with_buffer t (held_buffer b) (held s))
  unfolding held rules.with_buffer
  buffer_written t b b_ok =
      record {
        ok = changed_ok _ _ _ _ refl refl ok.registers_lows refl ok.memory_lows (length-set s.bufs t b) (all_set BufferOk s.bufs t b ok.buffers b_ok);
        is = λ i. record { places = s.places; registers = words s.regs; memory = words s.mem; buffers = map_set held_buffer s.bufs t b i };
      }

-- One part after the other.

pub holds_as : {x y : rules.State} {s : State} → Holds s x → x ≡ y → Holds s y
holds_as h e = record { ok = h.ok; is = h.is ∙ e }
