-- Dead code never runs: under every model each thread stands at a place to which moves lead from its place 0.
use Rattle.std.specs.Prelude.{◌≡◌, refl, Bool, true, false, cond, [], ℕ, eqb}
use Rattle.std.proofs.Common.{inl, arith}
use Rattle.std.proofs.Math.Option.{some}
use Rattle.std.proofs.Math.ListN.{get_elem?}
use Rattle.reach.specs.ListLaws.{at_set, get_or_padded}
use Rattle.rules.specs.Limits.{most_threads}
use Rattle.rules.specs.State.{State, place, register, variable, with_place, with_register, with_variable, with_buffer}
use Rattle.rules.specs.Job.{Job, start}
use Rattle.rules.specs.Kinds.{control_of}
use Rattle.rules.specs.Step.{stored, grouped, changed, place_after, executed}
use Rattle.rules.specs.Fences.{Live}
use Rattle.rules.specs.FenceCheck.{move_by, live_on}
use Rattle.rules.specs.Onward.{place_after_onward}
use Rattle.rules.specs.declared.Model.{Model}
use Rattle.rules.specs.declared.Model.TheVariants.{Sc, Tso, Pso}
use Rattle.rules.specs.declared.Instr.{Instr}
use Rattle.rules.specs.declared.Instr.TheVariants.{Set, Add, Load, Store, Fence, Xchg, Jeq, Jmp, Cmpx, Wfence}
use Rattle.signed.specs.Steps.{code}

-- every thread stands at a live place
abbrev pub AllLive : Job → State → Type 0
AllLive j x = (t : ℕ) → Live (code j t) (place t x)

pub start_live : (j : Job) → AllLive j (start j)
unfolding start place
start_live j t = inl (get_or_padded [] most_threads t 0 (omega arith))

compared_kept : (b : Bool) (v k : ℕ) (x : State) → (cond b (with_variable v k x) x).places ≡ x.places
unfolding with_variable
compared_kept true v k x = refl
compared_kept false v k x = refl

-- before it goes on an instruction leaves all places as they are
places_kept : (m : Model) (t : ℕ) (i : Instr) (x : State) → (changed m t i x).places ≡ x.places
unfolding changed stored grouped with_register with_variable with_buffer
places_kept m t (Set r k) x = refl
places_kept m t (Add w r k) x = refl
places_kept m t (Load r v) x = refl
places_kept Sc t (Store a v) x = refl
places_kept Tso t (Store a v) x = refl
places_kept Pso t (Store a v) x = refl
places_kept m t Fence x = refl
places_kept m t (Xchg r v) x = refl
places_kept m t (Jeq r p k) x = refl
places_kept m t (Jmp p) x = refl
places_kept m t (Cmpx r v k) x = compared_kept (eqb (variable v x) (register t r x)) v k x
places_kept Sc t Wfence x = refl
places_kept Tso t Wfence x = refl
places_kept Pso t Wfence x = refl

module _ (j : Job) where
  pub executed_live : (m : Model) (t : ℕ) (i : Instr) (x : State) → get_elem? (code j t) (place t x) ≡ some i → AllLive j x
      → AllLive j (executed m t i x)
  unfolding executed with_place place
  executed_live m t i x e live =
      let p = place_after t (control_of i) x in
      let move = move_by (code j t) (place t x) p i e (place_after_onward t (control_of i) x) in
      rw (places_kept m t i x) (at_set (λ u q. Live (code j u) q) x.places t p 0 live (live_on (code j t) (place t x) p (live t) move))
