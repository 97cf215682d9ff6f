use Rattle.std.specs.Prelude.{is_ok}
use mathlib.Core.Path.{◌≡◌, ap, sym, ◌∙◌}
use Prim.Native.Nat.{ℕ, ◌+◌, ◌*◌, ◌≤◌, ◌<◌}
use native.Mathlib.Numerals.{add-one}
use native.Mathlib.Omega.{arith}
use lib.ListN.{length}
use Rattle.bits.specs.BitLaws.{added_below}
use Rattle.rules.specs.Limits.{most_threads, most_variables}
use Rattle.rules.specs.Step.{is_empty, enabled_below}
use Rattle.engine.proofs.MaskLaws.{enabled_more, empty_adds_none, absent_variables_add_none}
use Rattle.engine.proofs.StepLaws.{may_flush_at}
use Rattle.engine.proofs.flushes.Goals as goal

pub returns-then-is_empty : goal.returns-then-is_empty
returns-then-is_empty c = λ j x of e.
    let pre = c.requires in
    let few : length j.initial ≤ most_variables = omega (arith, pre.few_variables, of.variables) in
    let empty = ap is_empty (sym of.stores) ∙ sym c.is_empty.ensures ∙ c.if-is_empty.true in
    e ∙ empty_adds_none j x _ pre.is_thread of.thread few empty

pub loop-v-preserved : goal.loop-v-preserved
loop-v-preserved c =
    let l = c.loop-v in
    let below = c.loop-v-test.true in
    let small : l.v < most_variables = omega (arith, below, c.requires.few_variables) in
    let step : ℕ = most_threads + most_variables * c.args.t + l.v in
    let more : most_threads + most_variables * c.args.t + (l.v + 1) ≡ step + 1 = omega arith in (
      rw (more, add-one, c.with_bit-mask.ensures) (added_below c.is_ok-on.result _ step l.invariant.0),
      λ j x of e.
          let used : l.v < length j.initial = omega (arith, below, of.variables) in
          let may = c.may_flush.ensures ∙ may_flush_at j x _ _ c.requires.is_thread small of.thread used of.model of.stores in
          rw more (enabled_more j x step _ _ _ (l.invariant.1 j x of e) (c.is_ok-on.ensures.value ∙ ap is_ok may) c.with_bit-mask.ensures),
    )

pub returns : goal.returns
returns c = λ j x of e.
    let l = c.loop-v in
    let few : length j.initial ≤ most_variables = omega (arith, c.requires.few_variables, of.variables) in
    let all : l.v ≡ length j.initial = omega (arith, l.auto.v-end, c.loop-v-test.false, of.variables) in
    l.invariant.1 j x of e ∙ ap (λ v. enabled_below j x (most_threads + most_variables * c.args.t + v)) all
    ∙ absent_variables_add_none j x _ c.requires.is_thread few
