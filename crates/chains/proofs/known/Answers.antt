use Rattle.std.proofs.Common.{◌≡◌, ◌∙◌, suc, length, sym, ap, subst, true≢false, arith}
use Rattle.lent.specs.Parts.{slot_at}
use Rattle.chains.specs.Chains.{On}
use Rattle.chains.specs.ChainLaws.{none_on, on_behind}
use Rattle.chains.proofs.known.Goals as goal

pub loop-slot-preserved : goal.loop-slot-preserved
loop-slot-preserved c =
    let given = c.args in
    let slot = c.in-Some.slot in
    let one : c.loop-slot.number ≡ suc slot = omega (arith, c.in-Some.ensures) in
    let before = c.requires.indexed.befores slot (omega (arith, one, c.loop-slot.invariant.counted)) in
    let other = λ (e : slot_at (length given.bytes.now) given.table.now slot ≡ given.bytes.now). true≢false (sym (c.same_bytes.ensures.each e) ∙ c.if-same_bytes.false) in
    record {
      counted = omega (arith, before, one, c.loop-slot.invariant.counted);
      ahead = λ i few e.
          on_behind _ _ slot i (subst (On given.index.now given.width i) one (c.loop-slot.invariant.ahead i few e))
          (λ same. other (ap (slot_at (length given.bytes.now) given.table.now) (sym same) ∙ e));
    }

pub returns : goal.returns
returns c =
    let none : c.loop-slot.number ≡ 0 = omega (arith, c.in_default.ensures) in
    record {
      hit = λ e. absurd (true≢false (sym e));
      miss = λ e found. none_on _ _ found.0 (subst (On _ _ found.0) none (c.loop-slot.invariant.ahead found.0 found.1 found.2));
    }
