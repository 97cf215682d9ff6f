-- A state's bytes: as many as a slot has, and equal only for equal states.
use Rattle.std.specs.Prelude.{◌≡◌}
use Rattle.std.proofs.Common.{sym, ◌∙◌, append_assoc}
use Rattle.reach.specs.ListLaws.{append_equal}
use Rattle.state.specs.declared.State.{State}
use Rattle.slot.specs.Bytes.{state_bytes, Sized}
use Rattle.slot.specs.BytesLaws.{buffers_bytes_equal}

-- states with the same bytes are the same state
pub state_bytes_equal : (x y : State) → Sized x → Sized y → state_bytes x ≡ state_bytes y → x ≡ y
unfolding state_bytes
state_bytes_equal x y h k e =
    let p = append_equal x.places y.places _ _ (h.places_number ∙ sym k.places_number) (simp append_assoc at e) in
    let r = append_equal x.regs y.regs _ _ (h.registers_number ∙ sym k.registers_number) p.1 in
    let m = append_equal x.mem y.mem _ _ (h.memory_number ∙ sym k.memory_number) r.1 in
    let n = h.buffers_number ∙ sym k.buffers_number in
    let b = buffers_bytes_equal x.bufs y.bufs n h.full k.full m.1 in
    λ i. record { places = p.0 i; regs = r.0 i; mem = m.0 i; bufs = b i }
