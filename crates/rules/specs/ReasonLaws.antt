-- A step is withheld for the first reason that applies, and given where none does: `Reasons` is met by `Step` `step`, for every job, number and state.
use Rattle.std.specs.Prelude.{◌≡◌, ◌⊎◌, Bool, ◌&&◌, ◌||◌, List, [], ◌∷◌, ℕ, suc, ◌≤◌, ◌<◌, eqb, get_or, Ok, Err}
use Rattle.std.proofs.Math.Path.{refl, ap, subst}
use Rattle.std.proofs.Common.{sym, ◌∙◌, ltb-true, ltb-false, eqb-true}
use Rattle.std.proofs.Math.Logic.{inl, inr}
use Rattle.std.proofs.Math.Bool.{true, false}
use Rattle.std.proofs.lemmas.Bool.{false≢true, eqb-false}
use Rattle.std.proofs.Math.Option.{some, some-injective}
use native.Mathlib.Omega.{arith}
use Rattle.std.proofs.Math.Decide.{dec_lt}
use Rattle.std.proofs.Math.ListN.{length}
use Rattle.reach.specs.Lists.{◌∈◌}
use Rattle.reach.specs.ListLaws.{at_below}
use Rattle.rules.specs.Limits.{most_threads, step_bound}
use Rattle.rules.specs.State.{Pending, State, place, pending}
use Rattle.rules.specs.Job.{Job}
use Rattle.rules.specs.Kinds.{wait_of}
use Rattle.rules.specs.Step.{is_empty, needs, ◌then◌, has_room, is_pending_to, is_oldest_to, is_in_oldest_group, may_flush, instruction_at, May}
use Rattle.rules.specs.Reasons.{number_of, same_number, Flushes, PendingTo, OldestTo, InOldestGroup, Behind, Stores, Drains, Applies}
use Rattle.rules.specs.Keeps.{instruction_of_thread}
use Rattle.rules.specs.declared.Model.{Model}
use Rattle.rules.specs.declared.Model.TheVariants.{Sc, Tso, Pso}
use Rattle.rules.specs.declared.Instr.{Instr}
use Rattle.rules.specs.declared.Instr.TheVariants.{Set, Add, Load, Store, Fence, Xchg, Jeq, Jmp, Cmpx, Wfence}
use Rattle.rules.specs.declared.Wait.{Wait}
use Rattle.rules.specs.declared.Wait.TheVariants.{Never, ForRoom, UntilEmpty}
use Rattle.rules.specs.declared.Reason.{Reason}
use Rattle.rules.specs.declared.Reason.TheVariants.{NoSuchStep, ThreadEnded, BufferFull, BufferNotEmpty, NothingToFlush, NotTheOldest}

-- The order: one reason after another.

numbered_from_one : (why : Reason) → 1 ≤ number_of why
numbered_from_one NoSuchStep = omega arith
numbered_from_one ThreadEnded = omega arith
numbered_from_one BufferFull = omega arith
numbered_from_one BufferNotEmpty = omega arith
numbered_from_one NothingToFlush = omega arith
numbered_from_one NotTheOldest = omega arith

numbered_to_six : (why : Reason) → number_of why < 7
numbered_to_six NoSuchStep = omega arith
numbered_to_six ThreadEnded = omega arith
numbered_to_six BufferFull = omega arith
numbered_to_six BufferNotEmpty = omega arith
numbered_to_six NothingToFlush = omega arith
numbered_to_six NotTheOldest = omega arith

module _ (P : Reason → Type 0) where
  -- of no reason with a number below n does P hold
  abbrev pub NoneBelow : ℕ → Type 0
  NoneBelow n = (other : Reason) → number_of other < n → ¬ (P other)

  pub none_below_one : NoneBelow 1
  none_below_one other h = absurd (omega (arith, numbered_from_one other))

  -- one more
  pub none_below_next : (why : Reason) → NoneBelow (number_of why) → ¬ (P why) → NoneBelow (suc (number_of why))
  none_below_next why below not other h p = which (dec_lt (number_of other) (number_of why))
    where
      which : Dec (number_of other < number_of why) → ⊥
      which (yes l) = below other l p
      which (no l) = not (subst P (same_number other why (omega arith)) p)

-- What is asked of a buffer, as the tests have it.

pending_to : (v : ℕ) (b : List Pending) → is_pending_to v b ≡ true → PendingTo v b
unfolding is_pending_to
pending_to v [] e = absurd (false≢true e)
pending_to v (p ∷ b) e = which (eqb p.variable v) refl e (pending_to v b)
  where
    which : (c : Bool) → eqb p.variable v ≡ c → (c || is_pending_to v b) ≡ true → (is_pending_to v b ≡ true → PendingTo v b) → PendingTo v (p ∷ b)
    which true d e behind = (p, inl refl, eqb-true _ _ d)
    which false d e behind = let q = behind e in (q.0, inr q.1, q.2)

not_pending_to : (v : ℕ) (b : List Pending) → is_pending_to v b ≡ false → ¬ (PendingTo v b)
unfolding is_pending_to
not_pending_to v [] e h = h.1
not_pending_to v (p ∷ b) e h = which (eqb p.variable v) refl e (not_pending_to v b) h.1
  where
    which : (c : Bool) → eqb p.variable v ≡ c → (c || is_pending_to v b) ≡ false → (is_pending_to v b ≡ false → ¬ (PendingTo v b)) →
        (h.0 ≡ p) ⊎ (h.0 ∈ b) → ⊥
    which true d e behind m = false≢true (sym e)
    which false d e behind (inl same) = eqb-false _ _ d (ap (λ q. q.variable) (sym same) ∙ h.2)
    which false d e behind (inr m) = behind e (h.0, m, h.2)

oldest_to_is : (v : ℕ) (b : List Pending) → is_oldest_to v b ≡ true → OldestTo v b
unfolding is_oldest_to
oldest_to_is v [] e = absurd (false≢true e)
oldest_to_is v (p ∷ b) e = (p, b, refl, eqb-true _ _ e)

not_oldest_to : (v : ℕ) (b : List Pending) → is_oldest_to v b ≡ false → ¬ (OldestTo v b)
unfolding is_oldest_to
not_oldest_to v [] e h = absurd (omega (arith, ap length h.2))
not_oldest_to v (p ∷ b) e h = let same : p ≡ h.0 = (let d = h.2 in cc) in eqb-false _ _ e (ap (λ q. q.variable) same ∙ h.3)

in_oldest_group : (v : ℕ) (b : List Pending) → is_in_oldest_group v b ≡ true → InOldestGroup v b
unfolding is_in_oldest_group
in_oldest_group v [] e = absurd (false≢true e)
in_oldest_group v (p ∷ b) e = which (eqb p.group 0) (eqb p.variable v) refl refl e (in_oldest_group v b)
  where
    later : InOldestGroup v b → InOldestGroup v (p ∷ b)
    later q = (q.0, inr q.1, q.2, q.3)

    which : (c d : Bool) → eqb p.group 0 ≡ c → eqb p.variable v ≡ d → ((c && d) || is_in_oldest_group v b) ≡ true →
        (is_in_oldest_group v b ≡ true → InOldestGroup v b) → InOldestGroup v (p ∷ b)
    which true true g u e behind = (p, inl refl, eqb-true _ _ u, eqb-true _ _ g)
    which true false g u e behind = later (behind e)
    which false d g u e behind = later (behind e)

not_in_oldest_group : (v : ℕ) (b : List Pending) → is_in_oldest_group v b ≡ false → ¬ (InOldestGroup v b)
unfolding is_in_oldest_group
not_in_oldest_group v [] e h = h.1
not_in_oldest_group v (p ∷ b) e h = which (eqb p.group 0) (eqb p.variable v) refl refl e (not_in_oldest_group v b) h.1
  where
    which : (c d : Bool) → eqb p.group 0 ≡ c → eqb p.variable v ≡ d → ((c && d) || is_in_oldest_group v b) ≡ false →
        (is_in_oldest_group v b ≡ false → ¬ (InOldestGroup v b)) → (h.0 ≡ p) ⊎ (h.0 ∈ b) → ⊥
    which true true g u e behind m = false≢true (sym e)
    which true false g u e behind (inl same) = eqb-false _ _ u (ap (λ q. q.variable) (sym same) ∙ h.2)
    which true false g u e behind (inr m) = behind e (h.0, m, h.2, h.3)
    which false d g u e behind (inl same) = eqb-false _ _ g (ap (λ q. q.group) (sym same) ∙ h.3)
    which false d g u e behind (inr m) = behind e (h.0, m, h.2, h.3)

pub empty_is : (b : List Pending) → is_empty b ≡ true → b ≡ []
unfolding is_empty
empty_is [] e = refl
empty_is (p ∷ b) e = absurd (false≢true e)

pub not_empty : (b : List Pending) → is_empty b ≡ false → ¬ (b ≡ [])
unfolding is_empty
not_empty [] e h = false≢true (sym e)
not_empty (p ∷ b) e h = absurd (omega (arith, ap length h))

-- the three waits and the three models are not each other
unfoldable pub wait_number : Wait → ℕ
wait_number Never = 0
wait_number ForRoom = 1
wait_number UntilEmpty = 2

-- STORE and STOREK wait for room, and no other
store_waits : (i : Instr) → Stores i → wait_of i ≡ ForRoom
unfolding wait_of
store_waits i h = ap wait_of h.2

pub waits_store : (i : Instr) → wait_of i ≡ ForRoom → Stores i
unfolding wait_of wait_number
waits_store (Set r k) e = absurd (omega (arith, ap wait_number e))
waits_store (Add w r k) e = absurd (omega (arith, ap wait_number e))
waits_store (Load r v) e = absurd (omega (arith, ap wait_number e))
waits_store (Store a v) e = (a, v, refl)
waits_store Fence e = absurd (omega (arith, ap wait_number e))
waits_store (Xchg r v) e = absurd (omega (arith, ap wait_number e))
waits_store (Jeq r p k) e = absurd (omega (arith, ap wait_number e))
waits_store (Jmp p) e = absurd (omega (arith, ap wait_number e))
waits_store (Cmpx r v k) e = absurd (omega (arith, ap wait_number e))
waits_store Wfence e = absurd (omega (arith, ap wait_number e))

-- FENCE, XCHG and CMPX wait until the buffer is empty, and no other
pub drain_waits : (i : Instr) → Drains i → wait_of i ≡ UntilEmpty
unfolding wait_of
drain_waits i (inl e) = ap wait_of e
drain_waits i (inr (inl (r, v, e))) = ap wait_of e
drain_waits i (inr (inr (r, v, k, e))) = ap wait_of e

pub waits_drain : (i : Instr) → wait_of i ≡ UntilEmpty → Drains i
unfolding wait_of wait_number
waits_drain (Set r k) e = absurd (omega (arith, ap wait_number e))
waits_drain (Add w r k) e = absurd (omega (arith, ap wait_number e))
waits_drain (Load r v) e = absurd (omega (arith, ap wait_number e))
waits_drain (Store a v) e = absurd (omega (arith, ap wait_number e))
waits_drain Fence e = inl refl
waits_drain (Xchg r v) e = inr (inl (r, v, refl))
waits_drain (Jeq r p k) e = absurd (omega (arith, ap wait_number e))
waits_drain (Jmp p) e = absurd (omega (arith, ap wait_number e))
waits_drain (Cmpx r v k) e = inr (inr (r, v, k, refl))
waits_drain Wfence e = absurd (omega (arith, ap wait_number e))

model_number : Model → ℕ
model_number Sc = 0
model_number Tso = 1
model_number Pso = 2

-- a buffer with room has fewer than C stores, unless the model is SC
pub with_room : (m : Model) (c : ℕ) (b : List Pending) → has_room m c b ≡ true → ¬ (m ≡ Sc) → length b < c
unfolding has_room
with_room Sc c b e n = absurd (n refl)
with_room Tso c b e n = ltb-true _ _ e
with_room Pso c b e n = ltb-true _ _ e

pub without_room : (m : Model) (c : ℕ) (b : List Pending) → has_room m c b ≡ false → (¬ (m ≡ Sc)) × (c ≤ length b)
unfolding has_room model_number
without_room Sc c b e = absurd (false≢true (sym e))
without_room Tso c b e = (λ d. omega (arith, ap model_number d), ltb-false _ _ e)
without_room Pso c b e = (λ d. omega (arith, ap model_number d), ltb-false _ _ e)

-- A rule's verdict is right: it lets a step pass where no reason holds, and gives the first that does.
abbrev pub Judged : (Reason → Type 0) → May → Type 0
Judged P (Ok tt) = (why : Reason) → ¬ (P why)
Judged P (Err why) = P why × NoneBelow P (number_of why)

pub judged_alike : (P Q : Reason → Type 0) → ((why : Reason) → P why → Q why) → ((why : Reason) → Q why → P why) → (m : May) → Judged P m → Judged Q m
judged_alike P Q to from (Ok tt) h = λ why q. h why (from why q)
judged_alike P Q to from (Err why) h = (to why h.0, λ other l q. h.1 other l (from other q))

none_at_all : (P : Reason → Type 0) → NoneBelow P 7 → (why : Reason) → ¬ (P why)
none_at_all P h why = h why (numbered_to_six why)

module _ (j : Job) (x : State) where
  -- what each reason comes to, for the execute step of thread t
  abbrev pub Executing : (t : ℕ) → Reason → Type 0
  Executing t NoSuchStep = length j.threads ≤ t
  Executing t ThreadEnded = length (get_or j.threads t []) ≤ place t x
  Executing t BufferFull =
      (i : Instr) × (instruction_at j t (place t x) ≡ some i) × Stores i × (¬ (j.model ≡ Sc)) × (j.capacity ≤ length (pending t x))
  Executing t BufferNotEmpty = (i : Instr) × (instruction_at j t (place t x) ≡ some i) × Drains i × (¬ (pending t x ≡ []))
  Executing t NothingToFlush = ⊥
  Executing t NotTheOldest = ⊥

  -- for the flush of thread t's store to v
  abbrev pub Flushing : (t v : ℕ) → Reason → Type 0
  Flushing t v NoSuchStep = (length j.threads ≤ t) ⊎ (length j.initial ≤ v)
  Flushing t v ThreadEnded = ⊥
  Flushing t v BufferFull = ⊥
  Flushing t v BufferNotEmpty = ⊥
  Flushing t v NothingToFlush = (j.model ≡ Sc) ⊎ (¬ (PendingTo v (pending t x)))
  Flushing t v NotTheOldest = PendingTo v (pending t x) × Behind j.model v (pending t x)

  -- and for a number above 35
  abbrev pub Beyond : Reason → Type 0
  Beyond NoSuchStep = Unit {0}
  Beyond ThreadEnded = ⊥
  Beyond BufferFull = ⊥
  Beyond BufferNotEmpty = ⊥
  Beyond NothingToFlush = ⊥
  Beyond NotTheOldest = ⊥

  pub none_executing : (t : ℕ) → NoneBelow (Executing t) 5 → (why : Reason) → ¬ (Executing t why)
  none_executing t h =
      none_at_all (Executing t) (none_below_next (Executing t) NotTheOldest (none_below_next (Executing t) NothingToFlush h (λ h. h)) (λ h. h))

  -- thread t stands at the instruction i
  module _ (t : ℕ) (there : t < length j.threads) (i : Instr) (at : instruction_at j t (place t x) ≡ some i) where
    pub not_ended : NoneBelow (Executing t) 3
    not_ended =
        let inside : place t x < length (get_or j.threads t []) = at_below (get_or j.threads t []) (place t x) i (sym (instruction_of_thread j t (place t x)) ∙ at) in
        none_below_next (Executing t) ThreadEnded
        (none_below_next (Executing t) NoSuchStep (none_below_one (Executing t)) (λ beyond. omega arith)) (λ ended. omega arith)

    -- it has one wait
    pub same_wait : (w u : Wait) → wait_of i ≡ w → (k : Instr) → instruction_at j t (place t x) ≡ some k → wait_of k ≡ u → wait_number w ≡ wait_number u
    same_wait w u e k stands f =
        let same : i ≡ k = some-injective _ _ (sym at ∙ stands) in
        ap wait_number (sym e ∙ ap wait_of same ∙ f)

    pub no_store : (w : Wait) → wait_of i ≡ w → ¬ (wait_number w ≡ 1) → ¬ (Executing t BufferFull)
    unfolding wait_number
    no_store w e n h = n (same_wait w ForRoom e h.0 h.1 (store_waits h.0 h.2))

  module _ (t v : ℕ) where
    -- with a store to v pending there is something to flush, but under SC
    not_nothing : is_pending_to v (pending t x) ≡ true → ¬ (j.model ≡ Sc) → ¬ (Flushing t v NothingToFlush)
    not_nothing p buffered (inl sc) = buffered sc
    not_nothing p buffered (inr none_pending) = none_pending (pending_to v (pending t x) p)

    -- with buffers: first whether a store to v is pending, then whether it is behind
    judged_pending :
        NoneBelow (Flushing t v) 5 → ¬ (j.model ≡ Sc) → (c : Bool) →
        (c ≡ true → ¬ (Behind j.model v (pending t x))) → (c ≡ false → Behind j.model v (pending t x)) →
        Judged (Flushing t v) (needs (is_pending_to v (pending t x)) NothingToFlush then needs c NotTheOldest)
    judged_pending low buffered c not_behind is_behind = which (is_pending_to v (pending t x)) c refl refl
      where
        some_pending : is_pending_to v (pending t x) ≡ true → NoneBelow (Flushing t v) 6
        some_pending p = none_below_next (Flushing t v) NothingToFlush low (not_nothing p buffered)

        which : (a d : Bool) → is_pending_to v (pending t x) ≡ a → c ≡ d → Judged (Flushing t v) (needs a NothingToFlush then needs d NotTheOldest)
        which false d p o = (inr (not_pending_to v (pending t x) p), low)
        which true true p o = none_at_all (Flushing t v) (none_below_next (Flushing t v) NotTheOldest (some_pending p) (λ h. not_behind o h.1))
        which true false p o = ((pending_to v (pending t x) p, is_behind o), some_pending p)

    pub judged_model : NoneBelow (Flushing t v) 5 → (m : Model) → j.model ≡ m → Judged (Flushing t v) (may_flush m v (pending t x))
    unfolding may_flush model_number
    judged_model low Sc e = (inl e, low)
    judged_model low Tso e =
        judged_pending low (λ d. omega (arith, ap model_number (sym e ∙ d))) (is_oldest_to v (pending t x)) not_behind (λ o. inl (e, not_oldest_to v (pending t x) o))
      where
        not_behind : is_oldest_to v (pending t x) ≡ true → ¬ (Behind j.model v (pending t x))
        not_behind o (inl h) = h.1 (oldest_to_is v (pending t x) o)
        not_behind o (inr h) = omega (arith, ap model_number (sym e ∙ h.0))
    judged_model low Pso e =
        judged_pending low (λ d. omega (arith, ap model_number (sym e ∙ d))) (is_in_oldest_group v (pending t x)) not_behind (λ o. inr (e, not_in_oldest_group v (pending t x) o))
      where
        not_behind : is_in_oldest_group v (pending t x) ≡ true → ¬ (Behind j.model v (pending t x))
        not_behind o (inl h) = omega (arith, ap model_number (sym e ∙ h.0))
        not_behind o (inr h) = h.1 (in_oldest_group v (pending t x) o)

  -- What is said of every number comes to that: a number is that of one step.

  module _ (t : ℕ) (low : t < most_threads) where
    pub executing_applies : (why : Reason) → Executing t why → Applies j t x why
    executing_applies NoSuchStep h = inr (inl (t, (low, refl), h))
    executing_applies ThreadEnded h = (t, (low, refl), h)
    executing_applies BufferFull h = (t, ((low, refl), h.0, h.1, h.2), h.3, h.4)
    executing_applies BufferNotEmpty h = (t, ((low, refl), h.0, h.1, h.2), h.3)
    executing_applies NothingToFlush h = absurd h
    executing_applies NotTheOldest h = absurd h

    pub applies_executing : (why : Reason) → Applies j t x why → Executing t why
    applies_executing NoSuchStep (inl h) = absurd (omega arith)
    applies_executing NoSuchStep (inr (inl (u, e, h))) = rw e.1 h
    applies_executing NoSuchStep (inr (inr (u, v, f, h))) = absurd (omega (arith, f.2))
    applies_executing ThreadEnded (u, e, h) = rw e.1 h
    applies_executing BufferFull (u, (e, i, at, w), n, h) = rw e.1 (i, at, w, n, h)
    applies_executing BufferNotEmpty (u, (e, i, at, w), h) = rw e.1 (i, at, w, h)
    applies_executing NothingToFlush (u, v, f, h) = absurd (omega (arith, f.2))
    applies_executing NotTheOldest (u, v, f, p, o) = absurd (omega (arith, f.2))

  module _ (s t v : ℕ) (is : Flushes s t v) where
    same_thread : (u w : ℕ) → Flushes s u w → (u ≡ t) × (w ≡ v)
    same_thread u w f = (omega (arith, is.0, is.1, is.2, f.0, f.1, f.2), omega (arith, is.0, is.1, is.2, f.0, f.1, f.2))

    pub flushing_applies : (why : Reason) → Flushing t v why → Applies j s x why
    flushing_applies NoSuchStep h = inr (inr (t, v, is, h))
    flushing_applies ThreadEnded h = absurd h
    flushing_applies BufferFull h = absurd h
    flushing_applies BufferNotEmpty h = absurd h
    flushing_applies NothingToFlush h = (t, v, is, h)
    flushing_applies NotTheOldest h = (t, v, is, h.0, h.1)

    pub applies_flushing : (why : Reason) → Applies j s x why → Flushing t v why
    applies_flushing NoSuchStep (inl h) = absurd (omega (arith, is.0, is.1, is.2))
    applies_flushing NoSuchStep (inr (inl (u, e, h))) = absurd (omega (arith, is.2, e.0, e.1))
    applies_flushing NoSuchStep (inr (inr (u, w, f, h))) = let d = same_thread u w f in rw (← d.0, ← d.1) h
    applies_flushing ThreadEnded (u, e, h) = absurd (omega (arith, is.2, e.0, e.1))
    applies_flushing BufferFull (u, (e, i, at, w), m, h) = absurd (omega (arith, is.2, e.0, e.1))
    applies_flushing BufferNotEmpty (u, (e, i, at, w), h) = absurd (omega (arith, is.2, e.0, e.1))
    applies_flushing NothingToFlush (u, w, f, h) = let d = same_thread u w f in rw (← d.0, ← d.1) h
    applies_flushing NotTheOldest (u, w, f, p, o) = let d = same_thread u w f in rw (← d.0, ← d.1) (p, o)

  module _ (s : ℕ) (high : step_bound ≤ s) where
    pub beyond_applies : (why : Reason) → Beyond why → Applies j s x why
    beyond_applies NoSuchStep h = inl high
    beyond_applies ThreadEnded h = absurd h
    beyond_applies BufferFull h = absurd h
    beyond_applies BufferNotEmpty h = absurd h
    beyond_applies NothingToFlush h = absurd h
    beyond_applies NotTheOldest h = absurd h

    pub applies_beyond : (why : Reason) → Applies j s x why → Beyond why
    applies_beyond NoSuchStep h = tt
    applies_beyond ThreadEnded (u, e, h) = absurd (omega (arith, e.0, e.1))
    applies_beyond BufferFull (u, (e, i, at, w), m, h) = absurd (omega (arith, e.0, e.1))
    applies_beyond BufferNotEmpty (u, (e, i, at, w), h) = absurd (omega (arith, e.0, e.1))
    applies_beyond NothingToFlush (u, v, f, h) = absurd (omega (arith, f.0, f.1, f.2))
    applies_beyond NotTheOldest (u, v, f, p, o) = absurd (omega (arith, f.0, f.1, f.2))
