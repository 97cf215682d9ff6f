-- A state that is read back from its bytes is the state.
use Rattle.std.specs.Prelude.{◌≡◌, List, ℕ, ◌*◌}
use Rattle.std.proofs.Common.{sym, ap, subst, ◌∙◌}
use Rattle.rules.specs.Limits.{slot_size}
use Rattle.rules.specs.State as rules
use Rattle.rules.specs.Job.{Job}
use Rattle.rules.specs.Slot.{slot_bytes}
use Rattle.rules.specs.Sound.{JobIn, WellFormed}
use Rattle.span.specs.Span.{bytes_at}
use Rattle.state.specs.Held.{held, written, StateOk}
use Rattle.state.specs.HeldLaws.{held_written, written_ok}
use Rattle.state.specs.Parts.{Holds}
use Rattle.state.specs.declared.State.{State}
use Rattle.slot.specs.BytesLaws.{sized}
use Rattle.slot.proofs.BytesLaws.{state_bytes_equal}
use Rattle.slot.proofs.StateHeld.{state_bytes_held}
use Rattle.slot.specs.Table.{ReadFrom}

pub read_held :
    (j : Job) → JobIn j → (x : rules.State) → WellFormed j x → (table : List ℕ) (i : ℕ) → bytes_at table (slot_size * i) slot_size ≡ slot_bytes x →
    (s : State) → ReadFrom table i s → Holds s x
read_held j in_range x well table i there s read =
    let back = held_written j in_range x well in
    let good = written_ok j in_range x well in
    let bytes_are = state_bytes_held (written x) good ∙ ap slot_bytes back in
    let same : s ≡ written x = state_bytes_equal s (written x) read.sized (sized (written x) good) (read.bytes ∙ there ∙ sym bytes_are) in
    record { ok = subst StateOk (sym same) good; is = ap held same ∙ back }
