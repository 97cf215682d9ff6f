use Rattle.std.proofs.Common.{sym, ap, ◌∙◌, ◌%◌, arith}
use Rattle.std.proofs.lemmas.Bool.{eq-eqb, ne_eqb}
use Rattle.rules.specs.Limits.{group_unit}
use Rattle.buffer.specs.declared.Entry.{Entry}
use Rattle.buffer.proofs.ReadLaws.{all_seen, newest_here, newest_below, none_seen}
use Rattle.buffer.proofs.Buf.newest.Goals as goal

pub loop-i-init : goal.loop-i-init
loop-i-init c = all_seen c.args.self c.requires c.args.v c.args.memory _ c.number-n.ensures

pub returns-then-variable-v : goal.returns-then-variable-v
returns-then-variable-v c =
    let variable = ap (λ (e : Entry). e.byte % group_unit) (sym c.entry-store.ensures) ∙ sym c.variable.ensures in
    rw c.entry-store.ensures
    (newest_here c.args.self c.requires c.args.v c.args.memory c.loop-i.i c.loop-i-test.true (omega arith)
    (eq-eqb _ _ (variable ∙ c.if-variable-v.true)) c.loop-i.invariant)

pub loop-i-preserved : goal.loop-i-preserved
loop-i-preserved c =
    let variable = ap (λ (e : Entry). e.byte % group_unit) (sym c.entry-store.ensures) ∙ sym c.variable.ensures in
    newest_below c.args.self c.requires c.args.v c.args.memory c.loop-i.i c.loop-i-test.true (omega arith)
    (ne_eqb _ _ (λ e. c.if-variable-v.false (sym variable ∙ e))) c.loop-i.invariant

pub returns : goal.returns
returns c = none_seen c.args.self c.requires c.args.v c.args.memory c.loop-i.i c.loop-i-test.false c.loop-i.invariant
