use Rattle.std.proofs.Common.{◌≡◌, ℕ, ◌+◌, ◌-◌, ap, ◌∙◌, subst, arith}
use Rattle.std.specs.Prelude.{Ok}
use Rattle.bits.specs.Bits.{count_of}
use Rattle.reach.specs.Meaning.{link}
use Rattle.lent.specs.Parts.{Memory, Put}
use Rattle.rules.specs.Limits.{slot_size}
use Rattle.rules.specs.State.{State}
use Rattle.rules.specs.Job.{Job}
use Rattle.rules.specs.Slot.{slot_bytes}
use Rattle.rules.specs.Step.{may, after}
use Rattle.engine.specs.At.{At}
use Rattle.search.specs.Read.{read_at, read_is}
use Rattle.search.specs.Walking.{walking_start, step_may, walking_step, walked, walked_full, expanded}
use Rattle.search.proofs.expand.Goals as goal
use Rattle.search.proofs.expand.Goals.{After-read_slot-x}

-- the state that was read is one of the job's machine
at_slot : (c : After-read_slot-x) → At c.args.job.now.bytes.now c.read_slot-x.result
at_slot c = read_at _ c.args.job.now.in_range _ _ c.requires.stands _ c.read_slot-x.ensures

-- what is handed on as the step is the number that the iterator gave
module _ (j : Job) (x : State) (s t : ℕ) where
  may_as : may j s x ≡ Ok tt → s ≡ t → may j t x ≡ Ok tt
  may_as m e = subst (λ z. may j z x ≡ Ok tt) e m

  put_as : (N q : ℕ) (before behind : Memory) → Put slot_size N before (slot_bytes (after j s x)) (link q s) behind → s ≡ t →
      Put slot_size N before (slot_bytes (after j t x)) (link q t) behind
  put_as N q before behind p e = subst (λ z. Put slot_size N before (slot_bytes (after j z x)) (link q z) behind) e p

pub enabled-mask-requires : goal.enabled-mask-requires
enabled-mask-requires c = at_slot c

pub loop-s-init : goal.loop-s-init
loop-s-init c =
    let members = c.into_iter-s-iterator.result in
    let left_is = ap (λ z. z.left) c.into_iter-s-iterator.ensures.into_iter_gives ∙ c.each-s-items.ensures.left ∙ c.enabled-mask.ensures in
    let none_tried : members.tries - members.tries ≡ 0 = omega arith in
    (rw none_tried (walking_start _ _ _ _ _ _ _ left_is members.counted), c.requires.fits)

pub put_next-at-requires : goal.put_next-at-requires
put_next-at-requires c =
    let step = c.in-Some.ensures.steps in
    record {
      fits = c.loop-s.invariant.1;
      slot_in_range = omega (arith, c.requires.fits.few, c.requires.counted, c.requires.most);
      at = at_slot (goal.at.put_next-at-requires c).After-read_slot-x;
      may_be_taken = may_as _ _ _ _ (step_may _ _ _ _ _ _ _ _ _ c.loop-s.invariant.0 _ step.1 step.0) (omega arith);
    }

pub returns-then-at : goal.returns-then-at
returns-then-at c =
    let step = c.in-Some.ensures.steps in
    let walking = walking_step _ _ _ _ _ _ _ _ _ c.loop-s.invariant.0 _ step.1 step.0 _ step.2 _ (put_as _ _ _ _ _ _ _ _ c.put_next-at.ensures.put (omega arith)) in
    record {
      few = c.put_next-at.ensures.few;
      ready = c.put_next-at.ensures.ready;
      expanded = expanded _ _ _ _ _ _ (λ at. read_is _ c.args.job.now.in_range _ _ at _ c.read_slot-x.ensures) (walked_full _ _ _ _ _ _ _ _ _ walking c.if-at.true);
    }

pub loop-s-preserved : goal.loop-s-preserved
loop-s-preserved c =
    let step = c.in-Some.ensures.steps in
    let put = c.put_next-at in
    let walking = c.loop-s.invariant.0 in
    let fits = c.loop-s.invariant.1 in
    let tries = c.into_iter-s-iterator.result.tries in
    let before = c.loop-s.s-iterator in
    let behind = c.next.new.self in
    let one_more : tries - behind.tries ≡ tries - before.tries + 1 =
    omega (arith, walking.number, before.counted.is, before.counted.one_less step.0, behind.counted.is, ap count_of step.2.is) in (
      rw one_more (walking_step _ _ _ _ _ _ _ _ _ walking _ step.1 step.0 _ step.2 _ (put_as _ _ _ _ _ _ _ _ put.ensures.put (omega arith))),
      record { table = omega (arith, fits.table, put.auto.table); links = omega (arith, fits.links, put.auto.links); few = put.ensures.few; ready = put.ensures.ready },
    )

pub returns : goal.returns
returns c =
    let none_left : c.loop-s.s-iterator.tries ≡ 0 = c.loop-s.s-iterator.counted.empty c.in-None.ensures.steps.0 in
    record {
      few = c.loop-s.invariant.1.few;
      ready = c.loop-s.invariant.1.ready;
      expanded = expanded _ _ _ _ _ _ (λ at. read_is _ c.args.job.now.in_range _ _ at _ c.read_slot-x.ensures) (walked _ _ _ _ _ _ _ _ _ c.loop-s.invariant.0 (omega (arith, none_left)));
    }
