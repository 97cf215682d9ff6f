-- Each step under SC is one under TSO, and a store is a store and its flush.
use Rattle.std.specs.Prelude.{◌≡◌, false, ℕ, ◌*◌, ◌+◌, ◌≤◌, ◌<◌, Ok}
use Rattle.std.proofs.Math.Path.{refl, ap}
use Rattle.std.proofs.Common.{sym, ◌∙◌, subst, arith, get_or-set_same}
use mathlib.Core.List.{List, [], ◌∷◌, ◌++◌}
use Rattle.std.proofs.Math.Option.{some}
use Rattle.std.proofs.Math.ListN.{length, set, get_elem?}
use Rattle.std.proofs.Math.Seq.{set-set, set-get_or}
use borrow.Author.Tests.{lt-ltb, eq-eqb}
use Rattle.reach.specs.ListLaws.{at_below}
use Rattle.reach.specs.System.{run}
use Rattle.reach.specs.RunLaws.{andThen_some}
use Rattle.rules.specs.Limits.{most_threads, most_variables}
use Rattle.rules.specs.State.{Pending, Buffer, empty_buffer, State, place, buffer, pending, with_place, with_variable, with_buffer}
use Rattle.rules.specs.Job.{Job}
use Rattle.rules.specs.Kinds.{control_of, wait_of}
use Rattle.rules.specs.Step.{flushed_buffer, counted, oldest_to, without_oldest_to, is_empty, has_room, free, is_pending_to, is_oldest_to, may_flush, carried, stored, changed, place_after, executed, flushed, next}
use Rattle.rules.specs.Machine.{machine}
use Rattle.rules.specs.Sound.{JobIn}
use Rattle.rules.specs.declared.Model.TheVariants.{Sc, Tso}
use Rattle.rules.specs.declared.Wait.{Wait}
use Rattle.rules.specs.declared.Wait.TheVariants.{Never, ForRoom, UntilEmpty}
use Rattle.rules.specs.declared.Source.{Source}
use Rattle.rules.specs.declared.Instr.{Instr}
use Rattle.rules.specs.declared.Instr.TheVariants.{Store}
use Rattle.signed.specs.Under.{under}
use Rattle.signed.specs.Roles.{Alike, ByRole, is_store, is_load, is_wait, is_quiet, by_role}
use Rattle.signed.specs.Steps.{run_then, code, code_there, instr_in, next_runs, next_flushes}
use Rattle.signed.specs.Calm.{Calm, calm_buffer, calm_pending, sc_ran, sc_calm}

module _ (j : Job) (ok : JobIn j) (c : ℕ) (room : 1 ≤ c) where
  -- with nothing pending there is room, and nothing to wait for
  nothing_waits : (w : Wait) (b : List Pending) → b ≡ [] → free Tso c w b ≡ Ok tt
  unfolding free has_room is_empty
  nothing_waits Never b e = refl
  nothing_waits ForRoom b e = rw (e, lt-ltb 0 c room)
  nothing_waits UntilEmpty b e = rw e

  -- TSO runs from x to y
  abbrev ByTso : State → State → Type 0
  ByTso x y = (w : List ℕ) × (run (machine (under Tso c j)) w x ≡ some y)

  module _ (t : ℕ) (x : State) (low : t < most_threads) (k : Calm x) where
    tso_next : (i : Instr) → get_elem? (code j t) (place t x) ≡ some i → next (under Tso c j) t x ≡ some (executed Tso t i x)
    tso_next i at = next_runs (under Tso c j) t x i low at (nothing_waits (wait_of i) (pending t x) (calm_pending k t))

    one_step : (i : Instr) → Alike i → get_elem? (code j t) (place t x) ≡ some i → ByTso x (executed Sc t i x)
    unfolding executed
    one_step i alike at = (t ∷ [], rw (tso_next i at, alike t x))

    -- after a store it is the oldest that is pending, and its flush leaves what SC does at once
    abbrev stands_alone : (a : Source) (v : ℕ) → Buffer
    stands_alone a v = record { pending = record { group = 0; variable = v; value = carried t x a } ∷ []; marked = false }

    one_pending : (a : Source) (v : ℕ) → buffer t (executed Tso t (Store a v) x) ≡ stands_alone a v
    unfolding executed changed stored buffer with_place with_buffer
    one_pending a v =
        let there : t < length x.buffers = omega (arith, k.sized.buffers) in
        rw (get_or-set_same x.buffers t _ empty_buffer there, calm_pending k t)

    flushes : (a : Source) (v : ℕ) → flushed t v (executed Tso t (Store a v) x) ≡ executed Sc t (Store a v) x
    unfolding flushed flushed_buffer counted oldest_to without_oldest_to executed changed stored buffer with_buffer with_variable with_place place_after control_of place
    flushes a v =
        let back : set x.buffers t empty_buffer ≡ x.buffers =
        ap (set x.buffers t) (sym (calm_buffer k t)) ∙ set-get_or x.buffers t empty_buffer in
        let stores = ap (λ (b : Buffer). b.pending) (one_pending a v) in
        let mark = ap (λ (b : Buffer). b.marked) (one_pending a v) in
        rw (stores, mark, eq-eqb v v refl, set-set, back)

    two_steps : (a : Source) (v : ℕ) → get_elem? (code j t) (place t x) ≡ some (Store a v) → ByTso x (executed Sc t (Store a v) x)
    unfolding may_flush is_pending_to is_oldest_to
    two_steps a v at =
        let used : v < length j.initial = (instr_in j ok t (place t x) (Store a v) at).1 in
        let small : v < most_variables = omega (arith, used, ok.variables_most) in
        let there : t < length j.threads = at_below j.threads t (code j t) (code_there j t (place t x) (Store a v) at) in
        let first : may_flush Tso v (pending t (executed Tso t (Store a v) x)) ≡ Ok tt =
        rw (ap (λ (b : Buffer). b.pending) (one_pending a v), eq-eqb v v refl) in (
          t ∷ (most_threads + most_variables * t + v) ∷ [],
          rw (tso_next (Store a v) at, next_flushes (under Tso c j) t v _ low small there used first, flushes a v),
        )

    -- only a store differs
    steps : (i : Instr) → ByRole i → get_elem? (code j t) (place t x) ≡ some i → ByTso x (executed Sc t i x)
    steps i (is_store a v) at = two_steps a v at
    steps i (is_load r alike) at = one_step i alike at
    steps i (is_wait w alike) at = one_step i alike at
    steps i (is_quiet q alike) at = one_step i alike at

  pub sc_to_tso : (w : List ℕ) (x y : State) → Calm x → run (machine (under Sc 0 j)) w x ≡ some y → ByTso x y
  sc_to_tso [] x y k e = ([], e)
  sc_to_tso (s ∷ w) x y k e =
      let z = andThen_some (next (under Sc 0 j) s x) (run (machine (under Sc 0 j)) w) y e in
      let r = sc_ran j ok s x z.0 z.1 in
      let one = subst (ByTso x) r.is (steps s x r.low k r.instr (by_role r.instr) r.stands) in
      let rest = sc_to_tso w z.0 y (sc_calm j ok s x z.0 k z.1) z.2 in
      (one.0 ++ rest.0, run_then (machine (under Tso c j)) one.0 rest.0 x z.0 y one.1 rest.1)
