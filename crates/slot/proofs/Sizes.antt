-- How many elements the arrays of a state have, by their types.
use mathlib.Core.List.{List, [], ◌∷◌}
use mir.Val.{Val}
use denote.Laws.{Is}
use denote.Shadow.{shadow}
use denote.Array.{each}
use denote.Struct.Declared.{row}
use Rattle.reach.specs.Lists.{All}
use Rattle.buffer.specs.contracts.Buf.{the_row}
use Rattle.state.specs.contracts.State.{the_type}
use Rattle.buffer.specs.declared.Buf.{Buf}
use Rattle.state.specs.declared.State.{State}
use Rattle.slot.specs.Bytes.{FullBuffer, Sized}

-- The parts of a struct stand in the order of its fields. A field that is an array says its length.
buffers_full : (l : List Buf) (us : List Val) → shadow (each _ the_row.own_val l us) → All FullBuffer l
buffers_full [] us p = tt
buffers_full (b ∷ l) [] p = absurd p
buffers_full (b ∷ l) (u ∷ us) p = (p.0.1.1.1.0.1.0.1, buffers_full l us p.1)

pub state_sized : (s : State) (vs : List Val) → Is (row the_type) s vs → Sized s
state_sized s vs p =
    let fields = p.1.1 in
    let buffers = fields.1.1.1.0 in
    record {
      places_number = fields.0.1.0.1;
      registers_number = fields.1.0.1.0.1;
      memory_number = fields.1.1.0.1.0.1;
      buffers_number = buffers.1.0.1;
      full = buffers_full s.bufs buffers.0 buffers.1.1;
    }
