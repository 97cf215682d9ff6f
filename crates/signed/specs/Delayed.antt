-- The SC state behind a TSO state: every thread with a store pending stands where the oldest was made.
use Rattle.std.specs.Prelude.{◌≡◌, refl, ◌≢◌, false, List, [], ◌∷◌, ℕ, ◌*◌, ◌+◌, ◌/◌, ◌%◌, ◌<◌, length, replicate}
use Rattle.std.proofs.Common.{sym, ◌∙◌, ap₂, arith, ext_get_or}
use Rattle.std.proofs.Math.Path.{ap, subst}
use Rattle.std.proofs.Math.Option.{some}
use Rattle.std.proofs.Math.Decide.{ℕ_discrete}
use Rattle.std.proofs.Math.ListN.{get_elem?}
use Rattle.reach.specs.Lists.{All}
use Rattle.reach.specs.ListLaws.{all_get_or, all_by_get_or}
use Rattle.reach.specs.System.{run}
use Rattle.rules.specs.Limits.{most_threads, registers_each}
use Rattle.rules.specs.State.{Pending, Buffer, empty_buffer, State, place, register, buffer, pending}
use Rattle.rules.specs.Job.{Job, start}
use Rattle.rules.specs.Step.{executed}
use Rattle.rules.specs.Machine.{machine}
use Rattle.rules.specs.Sound.{JobIn}
use Rattle.rules.specs.declared.Model.TheVariants.{Sc}
use Rattle.signed.specs.Under.{under, AllEmpty}
use Rattle.signed.specs.Own.{OwnPart, own, own_register, after, Sized, register_own}
use Rattle.signed.specs.Roles.{quiet_after}
use Rattle.signed.specs.Behind.{made, Ahead, level, quietly, storing, Waits, Behind}
use Rattle.signed.specs.Steps.{code}
use Rattle.signed.specs.Calm.{Calm, calm_buffer, calm_pending, calm_changed, start_calm, sc_next, sc_does}

-- x is y with each thread put back to where its oldest pending store was made
pub record Delayed (j : Job) (x y : State) : Type 0 where
  pub calm : Calm x
  pub sized : Sized y
  pub memory : x.memory ≡ y.memory
  pub threads : (t : ℕ) → Behind (code j t) (own t x) (own t y) (pending t y)
  -- under TSO no WFENCE leaves a mark
  pub unmarked : (t : ℕ) → (buffer t y).marked ≡ false

pub start_delayed : (j : Job) → Delayed j (start j) (start j)
start_delayed j =
    record {
      calm = start_calm j;
      sized = (start_calm j).sized;
      memory = refl;
      threads = λ t. subst (Behind (code j t) (own t (start j)) (own t (start j))) (sym (calm_pending (start_calm j) t)) refl;
      unmarked = λ t. ap (λ (b : Buffer). b.marked) (calm_buffer (start_calm j) t);
    }

-- only thread t's part has changed
pub delayed_but : (j : Job) (t : ℕ) {x y x' y' : State} → Delayed j x y → Calm x' → Sized y' → x'.memory ≡ y'.memory
    → ((u : ℕ) → u ≢ t → own u x' ≡ own u x)
    → ((u : ℕ) → u ≢ t → own u y' ≡ own u y)
    → ((u : ℕ) → u ≢ t → buffer u y' ≡ buffer u y)
    → Behind (code j t) (own t x') (own t y') (pending t y') → (buffer t y').marked ≡ false → Delayed j x' y'
delayed_but j t {x} {y} {x'} {y'} d calm sized memory mine yours buffers here mark =
    record { calm = calm; sized = sized; memory = memory; threads = λ u. which u (ℕ_discrete u t); unmarked = λ u. plain u (ℕ_discrete u t) }
  where
    plain : (u : ℕ) → Dec (u ≡ t) → (buffer u y').marked ≡ false
    plain u (yes e) = rw e mark
    plain u (no n) = ap (λ (b : Buffer). b.marked) (buffers u n) ∙ d.unmarked u

    which : (u : ℕ) → Dec (u ≡ t) → Behind (code j u) (own u x') (own u y') (pending u y')
    which u (yes e) = rw e here
    which u (no n) = rw (mine u n, yours u n, ap (λ (b : Buffer). b.pending) (buffers u n)) (d.threads u)

-- with all buffers empty the two states are one
all_alike : {A : Type 0} (a : A) (l : List A) → All (λ b. b ≡ a) l → l ≡ replicate (length l) a
all_alike a [] h = refl
all_alike a (b ∷ l) h = ap₂ ◌∷◌ h.0 (all_alike a l h.1)

pub delayed_empty : (j : Job) (x y : State) → Delayed j x y → AllEmpty y → x ≡ y
unfolding own place register buffer
delayed_empty j x y d h =
    λ i. record { places = places i; registers = registers i; memory = d.memory i; buffers = buffers i }
  where
    each_empty : (t : ℕ) → buffer t y ≡ empty_buffer
    each_empty t =
        let none : pending t y ≡ [] = all_get_or (λ (b : Buffer). b.pending ≡ []) y.buffers t empty_buffer h refl in
        λ i. record { pending = none i; marked = d.unmarked t i }

    calm_y : Calm y
    calm_y =
        record {
          sized = d.sized;
          empty =
              all_alike empty_buffer y.buffers (all_by_get_or (λ (b : Buffer). b ≡ empty_buffer) y.buffers empty_buffer each_empty)
              ∙ ap (λ n. replicate n empty_buffer) d.sized.buffers;
        }

    same : (t : ℕ) → own t x ≡ own t y
    same t = subst (Behind (code j t) (own t x) (own t y)) (calm_pending calm_y t) (d.threads t)

    buffers : x.buffers ≡ y.buffers
    buffers = d.calm.empty ∙ sym calm_y.empty

    places : x.places ≡ y.places
    places = ext_get_or 0 x.places y.places (d.calm.sized.places ∙ sym d.sized.places) (λ t b. ap (λ (o : OwnPart). o.place) (same t))

    register_same : (t r : ℕ) → t < most_threads → r < registers_each → register t r x ≡ register t r y
    register_same t r low b =
        register_own t low x d.calm.sized r b ∙ ap (own_register r) (same t) ∙ sym (register_own t low y d.sized r b)

    registers : x.registers ≡ y.registers
    registers =
        ext_get_or 0 x.registers y.registers (d.calm.sized.registers ∙ sym d.sized.registers)
        (λ i b.
        let e : registers_each * (i / registers_each) + i % registers_each ≡ i = omega arith in
        rw e at (register_same (i / registers_each) (i % registers_each) (omega (arith, d.calm.sized.registers)) (omega arith)))

-- SC runs thread t from x until it has caught up with q but for the stores b
pub record CaughtUp (j : Job) (t : ℕ) (q : OwnPart) (b : List Pending) (x : State) : Type 0 where
  pub way : List ℕ
  pub state : State
  pub leads : run (machine (under Sc 0 j)) way x ≡ some state
  pub calm : Calm state
  pub memory : state.memory ≡ x.memory
  pub others : (u : ℕ) → u ≢ t → own u state ≡ own u x
  pub behind : Behind (code j t) (own t state) q b

module _ (j : Job) (ok : JobIn j) (t : ℕ) (low : t < most_threads) where
  -- the quiet instructions behind a store that has run, up to the next store
  pub catch_up : {o q : OwnPart} {b : List Pending} → Ahead (code j t) o q b → (x : State) → Calm x → own t x ≡ o → CaughtUp j t q b x
  unfolding own
  catch_up level x k e =
      record { way = []; state = x; leads = refl; calm = k; memory = refl; others = λ u n. refl; behind = e }
  catch_up {q = q} (storing {o = o} {b = b} a v at w) x k e =
      record {
        way = [];
        state = x;
        leads = refl;
        calm = k;
        memory = refl;
        others = λ u n. refl;
        behind =
            subst (λ (z : OwnPart). Waits (code j t) z q (made o a v) b) (sym e)
            (record { source = a; to = v; at_store = at; oldest = refl; ahead = w });
      }
  catch_up (quietly {o = o} i m at h w) x k e =
      let stands : get_elem? (code j t) (place t x) ≡ some i = rw (ap (λ (z : OwnPart). z.place) e) at in
      let c = sc_does j ok t x i low k stands in
      let moved : own t (executed Sc t i x) ≡ after i m o = c.mine ∙ quiet_after h x.memory m (own t x) ∙ ap (after i m) e in
      let r = catch_up w (executed Sc t i x) (calm_changed c k) moved in
      record {
        way = t ∷ r.way;
        state = r.state;
        leads = rw (sc_next j ok t x i low k stands) r.leads;
        calm = r.calm;
        memory = r.memory ∙ c.memory ∙ h.silent (own t x) x.memory;
        others = λ u n. r.others u n ∙ c.others u n;
        behind = r.behind;
      }
