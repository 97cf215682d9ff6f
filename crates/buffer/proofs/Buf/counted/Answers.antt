use Rattle.std.proofs.Common.{◌≡◌, refl, sym, ap, ap₂, subst, ◌∙◌, ◌-◌, ◌/◌, ◌%◌, get_or, arith}
use Rattle.rules.specs.Limits.{group_unit}
use Rattle.buffer.specs.Held.{held_buffer}
use Rattle.buffer.specs.Posts.{Holds, counted_buffer}
use Rattle.buffer.specs.declared.Entry.{Entry}
use Rattle.buffer.proofs.GroupLaws.{none_counted, counted_already, lowering_starts, lowering_goes_on, lowering_ends}
use Rattle.buffer.proofs.Buf.counted.Goals as goal

pub returns-then-n-eq0 : goal.returns-then-n-eq0
returns-then-n-eq0 c =
    none_counted c.args.self c.requires c.empty.result (omega arith) c.empty.ensures

pub returns-then-oldest-eq0 : goal.returns-then-oldest-eq0
returns-then-oldest-eq0 c =
    counted_already c.args.self c.requires (omega (arith, c.if-n-eq0.false))
    (ap (λ (e : Entry). e.byte / group_unit) (sym c.entry.ensures) ∙ sym c.group-oldest.ensures.is ∙ c.if-oldest-eq0.true)

pub loop-i-init : goal.loop-i-init
loop-i-init c =
    (lowering_starts c.args.self c.requires (omega (arith, c.if-n-eq0.false)), refl)

pub loop-i-preserved : goal.loop-i-preserved
loop-i-preserved c =
    let l = c.loop-i in
    let lower = c.lower-byte in
    let store = c.entry-store.ensures in
    let oldest : c.group-oldest.result ≡ get_or c.args.self.slots 0 0 / group_unit =
    c.group-oldest.ensures.is ∙ ap (λ (e : Entry). e.byte / group_unit) c.entry.ensures in
    let group = lower.ensures.0 ∙ ap₂ (λ (e : Entry) g. e.byte / group_unit - g) store oldest in
    let variable = lower.ensures.1 ∙ ap (λ (e : Entry). e.byte % group_unit) store in (
      rw (c.set_entry.ensures, store)
          (lowering_goes_on c.args.self c.requires (omega (arith, c.if-n-eq0.false)) l.counted.slots l.i lower.result
          (omega (arith, c.requires.few, c.loop-i-test.true)) (group, variable) l.invariant.0),
      rw c.set_entry.ensures l.invariant.1,
    )

pub returns : goal.returns
returns c =
    let l = c.loop-i in
    subst (λ n. Holds (record { count = n; slots = l.counted.slots }) (counted_buffer (held_buffer c.args.self))) (sym l.invariant.1)
    (lowering_ends c.args.self c.requires (omega (arith, c.if-n-eq0.false)) l.counted.slots l.i (omega (arith, c.loop-i-test.false)) l.invariant.0)
