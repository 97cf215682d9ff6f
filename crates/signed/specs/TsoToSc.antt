-- Each run under TSO of a program that the fence check passes is followed under SC: a store runs at its flush, with the quiet
-- instructions behind it.
use Rattle.std.specs.Prelude.{◌≡◌, refl, ◌≢◌, true, ℕ, ◌<◌, get_or, set, Ok}
use Rattle.std.proofs.Math.Path.{sym, ap, ap₂, subst}
use Rattle.std.proofs.Common.{◌∙◌, subst₂, arith, eqb-true}
use Rattle.std.proofs.Math.Bool.{false}
use Rattle.std.proofs.lemmas.Bool.{false≢true}
use mathlib.Core.List.{List, [], ◌∷◌, ◌++◌}
use Rattle.std.proofs.Math.Option.{some}
use Rattle.std.proofs.Math.ListN.{get_elem?, length-set}
use Rattle.std.proofs.Math.Seq.{get_or-set_same, get_or-set_other}
use Rattle.reach.specs.System.{run}
use Rattle.rules.specs.Limits.{most_threads}
use Rattle.rules.specs.State.{Pending, Buffer, empty_buffer, State, place, buffer, pending, with_variable, with_buffer}
use Rattle.rules.specs.Job.{Job, width}
use Rattle.rules.specs.Kinds.{control_of, role_of}
use Rattle.rules.specs.Step.{counted, flushed_buffer, oldest_to, without_oldest_to, needs, is_pending_to, is_oldest_to, may_flush, carried, stored, changed, place_after, executed, flushed}
use Rattle.rules.specs.Machine.{machine}
use Rattle.rules.specs.Fences.{Unfenced, Open}
use Rattle.rules.specs.FenceCheck.{role_there}
use Rattle.rules.specs.Sound.{JobIn}
use Rattle.rules.specs.BufferLaws.{counted_level}
use Rattle.rules.specs.MayLaws.{needs_yes, then_yes}
use Rattle.rules.specs.declared.Reason.TheVariants.{NothingToFlush, NotTheOldest}
use Rattle.rules.specs.declared.Model.TheVariants.{Sc, Tso}
use Rattle.rules.specs.declared.Role.TheVariants.{Loads}
use Rattle.rules.specs.declared.Source.{Source}
use Rattle.rules.specs.declared.Instr.{Instr}
use Rattle.rules.specs.declared.Instr.TheVariants.{Store}
use Rattle.signed.specs.Under.{under}
use Rattle.signed.specs.Own.{OwnPart, own, onwards, carries, goes_on, altered, after, wrote, Sized, Changed, carried_own, changed_onwards, executed_does}
use Rattle.signed.specs.Roles.{Quiet, quiet_no_load}
use Rattle.signed.specs.Behind.{made, ahead_level, Waits, Behind, waits_quiet, behind_store, store_role, waits_walk}
use Rattle.signed.specs.Steps.{code, code_there, instr_in}
use Rattle.signed.specs.Live.{AllLive}
use Rattle.signed.specs.Calm.{calm_changed, sc_next, sc_does}
use Rattle.signed.specs.Delayed.{Delayed, delayed_but, CaughtUp, catch_up}

-- SC runs from x to a state of which y is ahead
pub record Follows (j : Job) (x y : State) : Type 0 where
  pub way : List ℕ
  pub state : State
  pub leads : run (machine (under Sc 0 j)) way x ≡ some state
  pub delayed : Delayed j state y

-- One part of a state after a buffer was written.
module _ (t : ℕ) (low : t < most_threads) (b : Buffer) (y : State) (z : Sized y) where
  buffer_same : buffer t (with_buffer t b y) ≡ b
  unfolding buffer with_buffer
  buffer_same = get_or-set_same y.buffers t b empty_buffer (omega (arith, z.buffers))

  buffer_other : (u : ℕ) → u ≢ t → buffer u (with_buffer t b y) ≡ buffer u y
  unfolding buffer with_buffer
  buffer_other u n = get_or-set_other y.buffers t u b empty_buffer n

  sized_with_buffer : Sized (with_buffer t b y)
  unfolding with_buffer
  sized_with_buffer = record { places = z.places; registers = z.registers; buffers = simp length-set z.buffers }

-- buffers that were left alone
buffers_kept : (x y : State) → y.buffers ≡ x.buffers → (u : ℕ) → buffer u y ≡ buffer u x
unfolding buffer
buffers_kept x y e u = ap (λ (l : List Buffer). get_or l u empty_buffer) e

-- A thread's step under TSO.
module _ (j : Job) (ok : JobIn j) (t : ℕ) (low : t < most_threads) (x y : State) (d : Delayed j x y) where
  waits_for : (p : Pending) (b : List Pending) → pending t y ≡ p ∷ b → Waits (code j t) (own t x) (own t y) p b
  waits_for p b e = subst (Behind (code j t) (own t x) (own t y)) e (d.threads t)

  module _ (i : Instr) (at : get_elem? (code j t) (place t y) ≡ some i) where
    -- with nothing pending SC takes the same step
    pub both_step : pending t y ≡ [] → Follows j x (executed Sc t i y)
    unfolding own
    both_step e =
        let behind : Behind (code j t) (own t x) (own t y) [] = subst (Behind (code j t) (own t x) (own t y)) e (d.threads t) in
        let stands : get_elem? (code j t) (place t x) ≡ some i = rw (ap (λ (z : OwnPart). z.place) behind) at in
        let c = sc_does j ok t x i low d.calm stands in
        let c' = executed_does t low y d.sized _ _ _ i (instr_in j ok t (place t y) i at) (λ h. e) in
        let kept = buffers_kept y (executed Sc t i y) c'.buffers t in
        let now_empty : pending t (executed Sc t i y) ≡ [] = ap (λ (b : Buffer). b.pending) kept ∙ e in
        let same : own t (executed Sc t i x) ≡ own t (executed Sc t i y) = c.mine ∙ ap₂ (after i) d.memory behind ∙ sym c'.mine in
        record {
          way = t ∷ [];
          state = executed Sc t i x;
          leads = rw (sc_next j ok t x i low d.calm stands);
          delayed =
              delayed_but j t d (calm_changed c d.calm) c'.sized
              (c.memory ∙ ap₂ (wrote i) behind d.memory ∙ sym c'.memory)
              c.others
              c'.others
              (λ u n. buffers_kept y (executed Sc t i y) c'.buffers u)
              (subst (Behind (code j t) (own t (executed Sc t i x)) (own t (executed Sc t i y))) (sym now_empty) same)
              (ap (λ (b : Buffer). b.marked) kept ∙ d.unmarked t);
        }

    -- with a store pending SC waits
    pub quiet_step : Quiet i → (p : Pending) (b : List Pending) → pending t y ≡ p ∷ b → Follows j x (executed Sc t i y)
    unfolding own
    quiet_step q p b e =
        let c = executed_does t low y d.sized _ _ _ i (instr_in j ok t (place t y) i at) (quiet_no_load q) in
        let kept = buffers_kept y (executed Sc t i y) c.buffers t in
        let still : pending t (executed Sc t i y) ≡ p ∷ b = ap (λ (b : Buffer). b.pending) kept ∙ e in
        record {
          way = [];
          state = x;
          leads = refl;
          delayed =
              delayed_but j t d d.calm c.sized
              (d.memory ∙ sym (q.silent (own t y) y.memory) ∙ sym c.memory)
              (λ u n. refl)
              c.others
              (λ u n. buffers_kept y (executed Sc t i y) c.buffers u)
              (subst₂ (Behind (code j t) (own t x)) (sym c.mine) (sym still) (waits_quiet (code j t) i y.memory at q (waits_for p b e)))
              (ap (λ (b : Buffer). b.marked) kept ∙ d.unmarked t);
        }

    -- a load with a store pending would be an open pair
    pub open_pair : AllLive j x → role_of i ≡ Loads → (p : Pending) (b : List Pending) → pending t y ≡ p ∷ b
        → Open j.threads t (own t x).place (own t y).place
    unfolding own
    open_pair live load p b e =
        let w = waits_for p b e in
        let r = waits_walk (code j t) w in
        let pair : Unfenced (code j t) (place t x) (place t y) =
        record {
          store = store_role (code j t) w.source w.to (place t x) w.at_store;
          load = role_there (code j t) (place t y) i at ∙ load;
          between = r.0;
          walk = r.1;
        } in
        record { code = code j t; thread_is = code_there j t (place t y) i at; is_open = record { pair = pair; live = live t } }

  -- a store joins the pending ones
  pub store_step : (a : Source) (v : ℕ) → get_elem? (code j t) (place t y) ≡ some (Store a v) → Follows j x (executed Tso t (Store a v) y)
  unfolding own with_buffer place executed changed stored control_of place_after
  store_step a v at =
      let p : Pending = record { group = 0; variable = v; value = carried t y a } in
      let b : Buffer = record { pending = pending t y ++ (p ∷ []); marked = false } in
      let z : State = with_buffer t b y in
      let y' : State = executed Tso t (Store a v) y in
      let sized : Sized z = sized_with_buffer t low b y d.sized in
      let c : Changed t (onwards (own t y)) y.memory z y' = changed_onwards t low z sized in
      let is_made : p ≡ made (own t y) a v =
      ap (λ (k : ℕ). record { group = 0; variable = v; value = k }) (carried_own t low y d.sized (width j) a (instr_in j ok t (place t y) (Store a v) at).0) in
      let now : buffer t y' ≡ b = buffers_kept z y' c.buffers t ∙ buffer_same t low b y d.sized in
      let longer : pending t y' ≡ pending t y ++ (made (own t y) a v ∷ []) =
      ap (λ (b : Buffer). b.pending) now ∙ ap (λ (q : Pending). pending t y ++ (q ∷ [])) is_made in
      record {
        way = [];
        state = x;
        leads = refl;
        delayed =
            delayed_but j t d d.calm c.sized
            (d.memory ∙ sym c.memory)
            (λ u n. refl)
            c.others
            (λ u n. buffers_kept z y' c.buffers u ∙ buffer_other t low b y d.sized u n)
            (subst₂ (Behind (code j t) (own t x)) (sym c.mine) (sym longer)
            (behind_store (code j t) (own t x) (own t y) (pending t y) a v at (d.threads t)))
            (ap (λ (b : Buffer). b.marked) now);
      }

-- what a flush under TSO takes: the first store that is pending
pub record Took (v : ℕ) (pending : List Pending) : Type 0 where
  oldest : Pending
  rest : List Pending
  were : pending ≡ oldest ∷ rest
  to : oldest.variable ≡ v
  value : oldest_to v pending ≡ oldest.value
  left : without_oldest_to v pending ≡ rest

pub flush_took : (v : ℕ) (b : List Pending) → is_oldest_to v b ≡ true → Took v b
unfolding is_oldest_to oldest_to without_oldest_to
flush_took v [] h = absurd (false≢true h)
flush_took v (p ∷ b) h = record { oldest = p; rest = b; were = refl; to = eqb-true _ _ h; value = rw h; left = rw h }

pub oldest_flushed : (v : ℕ) (b : List Pending) → may_flush Tso v b ≡ Ok tt → is_oldest_to v b ≡ true
unfolding may_flush
oldest_flushed v b h = needs_yes _ NotTheOldest (then_yes (needs (is_pending_to v b) NothingToFlush) (needs (is_oldest_to v b) NotTheOldest) h).1

-- A flush under TSO: SC runs the store, and then catches up.
module _ (j : Job) (ok : JobIn j) (t : ℕ) (low : t < most_threads) (x y : State) (d : Delayed j x y)
    (v : ℕ) (f : Took v (pending t y)) where
  -- x' is x after the store
  caught_up_delayed : (x' : State) (w : Waits (code j t) (own t x) (own t y) f.oldest f.rest)
      → Changed t (onwards (own t x)) (set x.memory w.to (carries (own t x) w.source)) x x'
      → (r : CaughtUp j t (own t y) f.rest x') → Delayed j r.state (flushed t v y)
  unfolding own place buffer with_buffer with_variable flushed flushed_buffer
  caught_up_delayed x' w c r =
      let rest : Buffer = record { pending = f.rest; marked = false } in
      let level : counted f.rest ≡ f.rest = counted_level f.rest (ahead_level (code j t) w.ahead) in
      let z : State = with_variable v f.oldest.value y in
      let sized : Sized z = record { places = d.sized.places; registers = d.sized.registers; buffers = d.sized.buffers } in
      let to : w.to ≡ v = ap (λ (q : Pending). q.variable) (sym w.oldest) ∙ f.to in
      let value : carries (own t x) w.source ≡ f.oldest.value = ap (λ (q : Pending). q.value) (sym w.oldest) in
      rw (f.value, f.left, d.unmarked t, level)
      (delayed_but j t d r.calm (sized_with_buffer t low rest z sized)
      (r.memory ∙ c.memory ∙ rw (to, value, d.memory))
      (λ u n. r.others u n ∙ c.others u n)
      (λ u n. refl)
      (buffer_other t low rest z sized)
      (subst (Behind (code j t) (own t r.state) (own t y)) (sym (ap (λ (b : Buffer). b.pending) (buffer_same t low rest z sized))) r.behind)
      (ap (λ (b : Buffer). b.marked) (buffer_same t low rest z sized)))

  pub flush_step : Follows j x (flushed t v y)
  unfolding own after wrote altered goes_on control_of onwards
  flush_step =
      let w : Waits (code j t) (own t x) (own t y) f.oldest f.rest = subst (Behind (code j t) (own t x) (own t y)) f.were (d.threads t) in
      let i : Instr = Store w.source w.to in
      let c = sc_does j ok t x i low d.calm w.at_store in
      let r = catch_up j ok t low w.ahead (executed Sc t i x) (calm_changed c d.calm) c.mine in
      record {
        way = t ∷ r.way;
        state = r.state;
        leads = rw (sc_next j ok t x i low d.calm w.at_store) r.leads;
        delayed = caught_up_delayed (executed Sc t i x) w c r;
      }
