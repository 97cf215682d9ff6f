-- The state in which a job starts, from its memory.
use mathlib.Core.Path.{◌≡◌, refl, sym, ap, ◌∙◌}
use mathlib.Core.List.{List, [], ◌∷◌, ◌++◌}
use Prim.Native.Nat.{ℕ, ◌+◌, ◌-◌, ◌≤◌, ◌<◌}
use native.Mathlib.Omega.{arith}
use native.Mathlib.Decide.{dec_lt}
use lib.ListN.{length, get_or, set, replicate, length-append, length-set, length-replicate, get_or-append, get_or-eq_default}
use lib.Seq.{ext_get_or, get_or-set_same, get_or-set_other}
use borrow.Author.Count.{below_more}
use Rattle.reach.specs.ListLaws.{get_or_padded}
use Rattle.rules.specs.Limits.{most_threads, most_variables, all_registers, registers_size, memory_size}
use Rattle.rules.specs.State as states
use Rattle.rules.specs.State.{empty_buffer, with_variable}
use Rattle.rules.specs.Job.{Job, start}
use Rattle.buffer.specs.Posts.{Holds as HoldsBuffer}
use Rattle.buffer.specs.declared.Buf.{Buf}
use Rattle.rules.specs.Slot.{word_bytes}
use Rattle.words.specs.Words.{words}
use Rattle.words.specs.WordLaws.{bytes_lows}
use Rattle.state.specs.Held.{held, StateOk}
use Rattle.state.specs.declared.State.{State}
use Rattle.state.specs.Parts.{Holds}
use Rattle.engine.specs.At.{blank}

-- one more cell takes its value
pub cell_written :
    (mem initial : List ℕ) (v : ℕ) {k : ℕ} → v < length mem → ((i : ℕ) → i < v → get_or mem i 0 ≡ get_or initial i 0) → k ≡ get_or initial v 0 →
    (i : ℕ) → i < v + 1 → get_or (set mem v k) i 0 ≡ get_or initial i 0
cell_written mem initial v {k} inside before e =
    below_more (λ i. get_or (set mem v k) i 0 ≡ get_or initial i 0) v
    (λ i h. get_or-set_other mem v i k 0 (omega arith) ∙ before i h)
    (get_or-set_same mem v k 0 inside ∙ e)

-- eight cells that read as the initial values are those, and 0 behind them
memory_is :
    (initial mem : List ℕ) → length initial ≤ most_variables → length mem ≡ most_variables →
    ((v : ℕ) → v < most_variables → get_or mem v 0 ≡ get_or initial v 0) →
    mem ≡ initial ++ replicate (most_variables - length initial) 0
memory_is initial mem few size cells =
    ext_get_or 0 mem _ (simp (length-append, length-replicate) (omega arith)) (λ v h. cells v (omega arith) ∙ sym (padded v (dec_lt v (length initial))))
  where
    spare : ℕ
    spare = most_variables - length initial

    padded : (v : ℕ) → Dec (v < length initial) → get_or (initial ++ replicate spare 0) v 0 ≡ get_or initial v 0
    padded v (yes h) = get_or-append initial (replicate spare 0) 0 v h
    padded v (no h) = get_or_padded initial spare v 0 (omega arith) ∙ sym (get_or-eq_default initial 0 (omega arith))

-- the state with another memory
abbrev with_memory : List ℕ → states.State → states.State
with_memory m x = record { places = x.places; registers = x.registers; memory = m; buffers = x.buffers }

-- all is 0 and empty
pub blank_held : (b : Buf) → HoldsBuffer b empty_buffer →
    Holds (record { places = replicate most_threads 0; regs = replicate registers_size 0; mem = replicate memory_size 0; bufs = b ∷ b ∷ b ∷ b ∷ [] }) blank
unfolding held words word_bytes
blank_held b h =
    record {
      ok =
          record {
            places_number = refl;
            registers_number = refl;
            registers_lows = bytes_lows (replicate all_registers 0);
            memory_number = refl;
            memory_lows = bytes_lows (replicate most_variables 0);
            buffers_number = refl;
            buffers = (h.ok, (h.ok, (h.ok, (h.ok, tt))));
          };
      is =
          λ i. record {
            places = replicate most_threads 0;
            registers = replicate all_registers 0;
            memory = replicate most_variables 0;
            buffers = h.held i ∷ h.held i ∷ h.held i ∷ h.held i ∷ [];
          };
    }

-- the variables below v have their initial values, and all else is 0 and empty
pub record Started (j : Job) (s : State) (v : ℕ) : Type 0 where
  pub ok : StateOk s
  pub memory : List ℕ
  pub size : length memory ≡ most_variables
  pub cells : (i : ℕ) → i < v → get_or memory i 0 ≡ get_or j.initial i 0
  pub is : held s ≡ with_memory memory blank

pub started : (j : Job) (s : State) → Holds s blank → Started j s 0
started j s h =
    record { ok = h.ok; memory = replicate most_variables 0; size = refl; cells = λ i k. absurd (omega arith); is = h.is }

pub started_more : (j : Job) (s : State) (v k : ℕ) → v < most_variables → k ≡ get_or j.initial v 0 → Started j s v
    → (r : State) → Holds r (with_variable v k (held s)) → Started j r (v + 1)
unfolding with_variable
started_more j s v k below e h r w =
    record {
      ok = w.ok;
      memory = set h.memory v k;
      size = simp length-set h.size;
      cells = cell_written h.memory j.initial v (omega (arith, h.size)) h.cells e;
      is = w.is ∙ ap (with_variable v k) h.is;
    }

pub starts : (j : Job) → length j.initial ≤ most_variables → (s : State) (v : ℕ) → most_variables ≤ v → Started j s v → Holds s (start j)
unfolding start
starts j few s v all h =
    record {
      ok = h.ok;
      is = h.is ∙ ap (λ m. with_memory m blank) (memory_is j.initial h.memory few h.size (λ i k. h.cells i (omega arith)));
    }
