-- Every state that an accepted job reaches is well formed: the start is, and each step keeps it so.
use Rattle.std.specs.Prelude.{◌≡◌, Bool, List, [], ◌∷◌, ℕ, ◌+◌, ◌≤◌, ◌<◌, eqb, ltb, get_or, Ok}
use Rattle.std.proofs.Math.Path.{refl, ap, subst}
use Rattle.std.proofs.Common.{arith, ltb-true}
use Rattle.std.proofs.Math.Bool.{true, false, cond}
use Rattle.std.proofs.Math.Option.{Option, none, some}
use Rattle.std.proofs.Math.ListN.{length}
use Rattle.reach.specs.Lists.{All}
use Rattle.reach.specs.ListLaws.{all_at}
use Rattle.reach.specs.System.{run}
use Rattle.reach.specs.RunLaws.{andThen_some}
use Rattle.rules.specs.Limits.{most_threads, step_bound}
use Rattle.rules.specs.State.{Pending, Buffer, State, place, register, variable, buffer, pending}
use Rattle.rules.specs.Job.{Job, width, start}
use Rattle.rules.specs.Kinds.{control_of, wait_of}
use Rattle.rules.specs.Step.{oldest_to, without_oldest_to, counted, flushed_buffer, has_room, free, may_execute, is_pending_to, is_in_oldest_group, may_flush}
use Rattle.rules.specs.Step.{carried, stored, changed, executed, flushed, instruction_at, flush_thread, flush_variable, needs, ◌then◌}
use Rattle.rules.specs.Step.{may_execute_of, may_flush_of, may, after_execute, after, step, next}
use Rattle.rules.specs.MayLaws.{no_is_not_yes, needs_yes, then_yes, taken_some, execute_passed, flush_passed}
use Rattle.rules.specs.Machine.{machine}
use Rattle.rules.specs.Fences.{onward}
use Rattle.rules.specs.Sound.{Value, InstrIn, JobIn, StandsBefore, InOrder, BufferIn, WellFormed}
use Rattle.rules.specs.BufferLaws.{inserted_length, inserted_all, removed_all, removed_pairwise, at_end, in_its_place_inserted, oldest_taken, counted_all, counted_length, counted_in_order, flush_leaves}
use Rattle.rules.proofs.BufferLaws.{joins_in_order}
use Rattle.rules.specs.Onward.{place_after_onward, control_in, onward_in}
use Rattle.rules.specs.declared.Reason.TheVariants.{NoSuchStep, NothingToFlush, NotTheOldest}
use Rattle.rules.specs.declared.Model.{Model}
use Rattle.rules.specs.declared.Model.TheVariants.{Sc, Tso, Pso}
use Rattle.rules.specs.declared.Instr.{Instr}
use Rattle.rules.specs.declared.Instr.TheVariants.{Set, Add, Load, Store, Fence, Xchg, Jeq, Jmp, Cmpx, Wfence}
use Rattle.rules.specs.Keeps.{sum_in, flush_pending, newest_value, flush_mark_in, register_value, variable_value, buffer_in, with_place_keeps, with_register_keeps, with_variable_keeps, with_buffer_keeps, carried_value, StandsIn, stands, joined_keeps, grouped_keeps, compared_keeps, start_well_formed}

-- Buffers.

-- what a flush leaves is in order
flush_in_order : (m : Model) (v : ℕ) (b : List Pending) → may_flush m v b ≡ Ok tt → InOrder m b → InOrder m (counted (without_oldest_to v b))
unfolding may_flush
flush_in_order Sc v b may o = absurd (no_is_not_yes may)
flush_in_order Tso v b may o =
    let i = (oldest_taken v b (flush_pending Tso v b may)).1 in
    counted_all (λ p. p.group ≡ 0) (λ g p h. omega (arith, h)) _ (removed_all (λ p. p.group ≡ 0) i o).1
flush_in_order Pso v b may o =
    let i = (oldest_taken v b (flush_pending Pso v b may)).1 in
    let oldest = needs_yes (is_in_oldest_group v b) NotTheOldest (then_yes (needs (is_pending_to v b) NothingToFlush) _ may).1 in
    counted_in_order 1 _ (removed_pairwise StandsBefore i o.0) (flush_leaves v b 0 o.0 oldest o.1)

module _ (j : Job) where
  -- a store is flushed: what went to memory, and what is left
  flushed_in : (v : ℕ) (b : Buffer) → may_flush j.model v b.pending ≡ Ok tt → BufferIn j b
      → (v < length j.initial) × Value (width j) (oldest_to v b.pending) × BufferIn j (flushed_buffer v b)
  unfolding flushed_buffer
  flushed_in v b may h =
      let i = (oldest_taken v b.pending (flush_pending j.model v b.pending may)).1 in
      let rest = without_oldest_to v b.pending in
      let u = removed_all (λ p. p.variable < length j.initial) i h.variables in
      let k = removed_all (λ p. Value (width j) p.value) i h.values_in in (
        u.0,
        k.0,
        record {
          count = omega (arith, inserted_length i, counted_length rest, h.count);
          variables = counted_all (λ p. p.variable < length j.initial) (λ g p e. e) rest u.1;
          values_in = counted_all (λ p. Value (width j) p.value) (λ g p e. e) rest k.1;
          order = flush_in_order j.model v b.pending may h.order;
          mark = flush_mark_in j.model v b h.mark;
        },
      )

-- States: what may be written to each part.

-- One step, of a thread that the job has.

module _ (j : Job) (t : ℕ) (used : t < length j.threads) (x : State) (w : WellFormed j x) where
  stored_keeps : (m : Model) → j.model ≡ m → (v k : ℕ) → v < length j.initial → Value (width j) k
      → has_room m j.capacity (pending t x) ≡ true → WellFormed j (stored m t v k x)
  unfolding stored has_room
  stored_keeps Sc e v k to value room = with_variable_keeps j x w v k to value
  stored_keeps Tso e v k to value room =
      let o : All (λ p. p.group ≡ 0) (pending t x) = rw e at (buffer_in j x w t).order in
      joined_keeps j t used x w (at_end _ _) (record { variable_in = to; value_in = value }) (ltb-true _ _ room)
      (rw e (inserted_all (λ p. p.group ≡ 0) (at_end _ (pending t x)) refl o))
  stored_keeps Pso e v k to value room =
      let b = buffer_in j x w t in
      joined_keeps j t used x w (in_its_place_inserted _ _) (record { variable_in = to; value_in = value }) (ltb-true _ _ room)
      (rw e (joins_in_order (buffer t x) v k (rw e at b.mark) (rw e at b.order)))

  changed_keeps : (n : ℕ) (i : Instr) → InstrIn (width j) (length j.initial) n i
      → free j.model j.capacity (wait_of i) (pending t x) ≡ Ok tt → WellFormed j (changed j.model t i x)
  unfolding changed wait_of free
  changed_keeps n (Set r k) h f = with_register_keeps j x w t r k used h.0 h.1
  changed_keeps n (Add u r k) h f =
      with_register_keeps j x w t r _ used h.0 (omega (arith, h.2, sum_in u (register t r x + k)))
  changed_keeps n (Load r v) h f =
      with_register_keeps j x w t r _ used h.0
      (newest_value (width j) v _ _ (variable_value j x w v) (buffer_in j x w _).values_in)
  changed_keeps n (Store a v) h f =
      stored_keeps j.model refl v (carried t x a) h.1 (carried_value j x w t a h.0) (needs_yes _ _ f)
  changed_keeps n Fence h f = w
  changed_keeps n (Xchg r v) h f =
      with_register_keeps j _ (with_variable_keeps j x w v _ h.1 (register_value j x w t r)) t r _ used h.0 (variable_value j x w v)
  changed_keeps n (Jeq r p k) h f = w
  changed_keeps n (Jmp p) h f = w
  changed_keeps n (Cmpx r v k) h f =
      with_register_keeps j _ (compared_keeps j t used x w (eqb (variable v x) (register t r x)) v k h.1 h.2) t r _ used h.0 (variable_value j x w v)
  changed_keeps n Wfence h f = grouped_keeps j t used x w j.model refl

  executed_keeps : (i : Instr) → StandsIn j t (place t x) i → free j.model j.capacity (wait_of i) (pending t x) ≡ Ok tt
      → WellFormed j (executed j.model t i x)
  unfolding executed
  executed_keeps i h f =
      let n = length (get_or j.threads t []) in
      let places = onward_in n (place t x) (control_of i) (control_in (width j) (length j.initial) n i h.operands) h.inside in
      let goes_on = all_at (λ q. q ≤ n) (onward (place t x) (control_of i)) places _ (place_after_onward t (control_of i) x) in
      with_place_keeps j _ (changed_keeps n i h.operands f) t _ goes_on

module _ (j : Job) (ok : JobIn j) (x : State) (w : WellFormed j x) where
  execute_keeps : (t : ℕ) (o : Option Instr) → instruction_at j t (place t x) ≡ o
      → may_execute j.model j.capacity o (pending t x) ≡ Ok tt → WellFormed j (after_execute j.model t o x)
  unfolding may_execute after_execute
  execute_keeps t none e may = w
  execute_keeps t (some i) e may = let h = stands j ok t (place t x) i e in executed_keeps j t h.thread x w i h may

  flush_keeps : (t v : ℕ) → may_flush j.model v (pending t x) ≡ Ok tt → WellFormed j (flushed t v x)
  unfolding flushed
  flush_keeps t v may =
      let r = flushed_in j v (buffer t x) may (buffer_in j x w t) in
      let i = (oldest_taken v (pending t x) (flush_pending j.model v (pending t x) may)).1 in
      -- a thread that the job doesn't have has nothing pending
      let there : ¬ (length j.threads ≤ t) =
      λ beyond. omega (arith, inserted_length i, ap (λ (b : Buffer). length b.pending) (w.buffers_unused t beyond)) in
      with_buffer_keeps j _ (with_variable_keeps j x w v _ r.0 r.1) t _ (omega arith) r.2

  after_keeps : (s : ℕ) → may j s x ≡ Ok tt → WellFormed j (after j s x)
  unfolding may after
  after_keeps s = which (ltb s most_threads)
    where
      which :
          (b : Bool) → cond b (may_execute_of j s x) (needs (ltb s step_bound) NoSuchStep then may_flush_of j (flush_thread s) (flush_variable s) x) ≡ Ok tt →
          WellFormed j
          (cond b (after_execute j.model s (instruction_at j s (place s x)) x) (flushed (flush_thread s) (flush_variable s) x))
      which true h = execute_keeps s (instruction_at j s (place s x)) refl (execute_passed j x s h).1
      which false h =
          let t = flush_thread s in
          let v = flush_variable s in
          flush_keeps t v (flush_passed j x t v (then_yes (needs (ltb s step_bound) NoSuchStep) (may_flush_of j t v x) h).1).2

pub next_well_formed : (j : Job) → JobIn j → (s : ℕ) (x y : State) → WellFormed j x → next j s x ≡ some y → WellFormed j y
unfolding step
next_well_formed j ok s x y w e =
    let g = taken_some (may j s x) (after j s x) y e in
    subst (WellFormed j) g.1 (after_keeps j ok x w s g.0)

run_keeps : (j : Job) → JobIn j → (u : List ℕ) (x y : State) → WellFormed j x → run (machine j) u x ≡ some y → WellFormed j y
run_keeps j ok [] x y w e = let same : x ≡ y = (let f : some x ≡ some y = e in cc) in subst (WellFormed j) same w
run_keeps j ok (s ∷ u) x y w e =
    let r = andThen_some (next j s x) (run (machine j) u) y e in
    run_keeps j ok u r.0 y (next_well_formed j ok s x r.0 w r.1) r.2

pub run_well_formed : (j : Job) → JobIn j → (w : List ℕ) (y : State) → run (machine j) w (start j) ≡ some y → WellFormed j y
run_well_formed j ok w y e = run_keeps j ok w (start j) y (start_well_formed j ok) e
