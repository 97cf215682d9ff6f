-- One step of the machine under each model, and why it can't be taken: 01, "The machine" and "Memory rules", and requests 5, 7 and 10. Rules i to vii are those of source document 003, of a TSO buffer; under SC and PSO 01 changes iv and v.
use Rattle.std.specs.Prelude.{⊤, Result, Ok, Err, Bool, true, false, cond, not, ◌&&◌, ◌||◌, List, [], ◌∷◌, ◌++◌, ℕ, zero, suc, ◌+◌, ◌-◌, ◌/◌, ◌%◌, ◌^◌, eqb, ltb, leb, length}
use Rattle.std.proofs.Math.Option.{Option, none, some}
use Rattle.std.proofs.Math.ListN.{get_elem?}
use Rattle.reach.specs.System.{and_then}
use Rattle.reach.specs.Explained.{Stepped, gives, withheld, forget}
use Rattle.rules.specs.Limits.{values, most_threads, most_variables, step_bound}
use Rattle.rules.specs.State.{Pending, Buffer, State, place, register, variable, buffer, pending, with_place, with_register, with_variable, with_buffer}
use Rattle.rules.specs.Job.{Job}
use Rattle.rules.specs.Kinds.{control_of, wait_of}
use Rattle.rules.specs.declared.Model.{Model}
use Rattle.rules.specs.declared.Model.TheVariants.{Sc, Tso, Pso}
use Rattle.rules.specs.declared.Source.{Source}
use Rattle.rules.specs.declared.Source.TheVariants.{Register, Constant}
use Rattle.rules.specs.declared.Instr.{Instr}
use Rattle.rules.specs.declared.Instr.TheVariants.{Set, Add, Load, Store, Fence, Xchg, Jeq, Jmp, Cmpx, Wfence}
use Rattle.rules.specs.declared.Control.{Control}
use Rattle.rules.specs.declared.Control.TheVariants.{On, To, ToIf}
use Rattle.rules.specs.declared.Wait.{Wait}
use Rattle.rules.specs.declared.Wait.TheVariants.{Never, ForRoom, UntilEmpty}
use Rattle.rules.specs.declared.Reason.{Reason}
use Rattle.rules.specs.declared.Reason.TheVariants.{NoSuchStep, ThreadEnded, BufferFull, BufferNotEmpty, NothingToFlush, NotTheOldest}

-- what is given if the test holds
abbrev pub given : {A : Type 0} → Bool → A → Option A
given true a = some a
given false a = none

-- The store buffer of a thread: its pending stores, under PSO in groups, and whether a WFENCE stands after the newest.

-- "A load takes the newest pending store of its own thread to that variable, else memory": rules i and ii. Newest is last; `else` is memory's value.
unfoldable pub newest : ℕ → ℕ → List Pending → ℕ
newest v else [] = else
newest v else (p ∷ b) = newest v (cond (eqb p.variable v) p.value else) b

-- PSO: "Pairs stand by group, then by variable (oldest first within a variable, as before)". Does p, which is there already, stand before q, which joins?
unfoldable pub stands_before : Pending → Pending → Bool
stands_before p q = ltb p.group q.group || (eqb p.group q.group && leb p.variable q.variable)

-- q goes in behind the last that stands before it
unfoldable pub in_its_place : Pending → List Pending → List Pending
in_its_place q [] = q ∷ []
in_its_place q (p ∷ b) = cond (stands_before p q) (p ∷ in_its_place q b) (q ∷ p ∷ b)

-- the newest group, that of the last store (g where none is pending)
unfoldable pub newest_group : ℕ → List Pending → ℕ
newest_group g [] = g
newest_group g (p ∷ b) = newest_group p.group b

-- PSO: the group that a store joins. WFENCE "starts a new group".
unfoldable pub joined_group : Buffer → ℕ
joined_group b = cond b.marked (suc (newest_group 0 b.pending)) (newest_group 0 b.pending)

-- "a flush takes the oldest pending store to a chosen variable": its value, and the stores that are left. (0 where none is pending to v.)
unfoldable pub oldest_to : ℕ → List Pending → ℕ
oldest_to v [] = 0
oldest_to v (p ∷ b) = cond (eqb p.variable v) p.value (oldest_to v b)

unfoldable pub without_oldest_to : ℕ → List Pending → List Pending
without_oldest_to v [] = []
without_oldest_to v (p ∷ b) = cond (eqb p.variable v) b (p ∷ without_oldest_to v b)

unfoldable pub is_empty : List Pending → Bool
is_empty [] = true
is_empty (p ∷ b) = false

-- "Groups are counted from the oldest present", which stands first: every number less by the first's
unfoldable pub lowered : ℕ → List Pending → List Pending
lowered g [] = []
lowered g (p ∷ b) = record { group = p.group - g; variable = p.variable; value = p.value } ∷ lowered g b

unfoldable pub counted : List Pending → List Pending
counted [] = []
counted (p ∷ b) = lowered p.group (p ∷ b)

-- the buffer that a flush to v leaves; the mark "ends when .. the buffer empties"
unfoldable pub flushed_buffer : ℕ → Buffer → Buffer
flushed_buffer v b =
    record {
      pending = counted (without_oldest_to v b.pending);
      marked = b.marked && not (is_empty (without_oldest_to v b.pending));
    }

-- the buffer that a WFENCE leaves under PSO: "On an empty buffer WFENCE leaves nothing."
unfoldable pub marked_buffer : Buffer → Buffer
marked_buffer b = record { pending = b.pending; marked = not (is_empty b.pending) }

-- Which steps may be taken, and why the others may not: decided here alone. Each reason stands beside the rule that withholds the step. That the
-- reason given is the first that applies, in the request's order, is a theorem (`Reasons` `FirstThatApplies`, `ReasonLaws` `withheld_first`).

-- whether a step may be taken, or else why not
abbrev pub May : Type 0
May = Result ⊤ Reason

-- a rule asks for this, else it withholds the step for that reason
abbrev pub needs : Bool → Reason → May
needs true why = Ok tt
needs false why = Err why

-- one rule, and then another
infixr 4 ◌then◌
abbrev pub ◌then◌ : May → May → May
Ok tt then rule = rule
Err why then rule = Err why

-- SC: "Stores go straight to memory." TSO: "it waits while C stores are pending". PSO: "C counts all of a thread's pending stores."
unfoldable pub has_room : Model → (capacity : ℕ) → List Pending → Bool
has_room Sc capacity b = true
has_room Tso capacity b = ltb (length b) capacity
has_room Pso capacity b = ltb (length b) capacity

-- What an instruction waits for in its thread's buffer. A store: "buffer full". FENCE, XCHG and CMPX: "buffer not empty".
unfoldable pub free : Model → (capacity : ℕ) → Wait → List Pending → May
free m capacity Never b = Ok tt
free m capacity ForRoom b = needs (has_room m capacity b) BufferFull
free m capacity UntilEmpty b = needs (is_empty b) BufferNotEmpty

-- "An ended or waiting thread has no execute step": at place n there is no instruction, "thread ended"
unfoldable pub may_execute : Model → (capacity : ℕ) → Option Instr → List Pending → May
may_execute m capacity none b = Err ThreadEnded
may_execute m capacity (some i) b = free m capacity (wait_of i) b

-- is a store to v pending?
unfoldable pub is_pending_to : ℕ → List Pending → Bool
is_pending_to v [] = false
is_pending_to v (p ∷ b) = eqb p.variable v || is_pending_to v b

-- is the oldest pending store one to v?
unfoldable pub is_oldest_to : ℕ → List Pending → Bool
is_oldest_to v [] = false
is_oldest_to v (p ∷ b) = eqb p.variable v

-- is a store to v pending in the oldest group, which `counted` has left at number 0?
unfoldable pub is_in_oldest_group : ℕ → List Pending → Bool
is_in_oldest_group v [] = false
is_in_oldest_group v (p ∷ b) = (eqb p.group 0 && eqb p.variable v) || is_in_oldest_group v b

-- SC: "No flush steps." TSO: "only the oldest store's v is enabled". PSO: "the oldest pending store to a chosen variable", and "only stores of
-- the oldest group may flush". "Ended threads still flush." Where none is pending to v, as always under SC: "nothing to flush". Where one is,
-- but under TSO behind another or under PSO in a later group only: "not the oldest".
unfoldable pub may_flush : Model → ℕ → List Pending → May
may_flush Sc v b = Err NothingToFlush
may_flush Tso v b = needs (is_pending_to v b) NothingToFlush then needs (is_oldest_to v b) NotTheOldest
may_flush Pso v b = needs (is_pending_to v b) NothingToFlush then needs (is_in_oldest_group v b) NotTheOldest

-- What a step does, once it may be taken.

-- what a store carries
unfoldable pub carried : ℕ → State → Source → ℕ
carried t x (Register r) = register t r x
carried t x (Constant k) = k

-- a store: SC "straight to memory"; TSO "joins the end of its thread's buffer" (rule iv); PSO in its place of the newest group, or of a new one.
-- The mark "ends when a store joins".
unfoldable pub stored : Model → (t v k : ℕ) → State → State
stored Sc t v k x = with_variable v k x
stored Tso t v k x =
    with_buffer t (record { pending = pending t x ++ (record { group = 0; variable = v; value = k } ∷ []); marked = false }) x
stored Pso t v k x =
    with_buffer t
    (record { pending = in_its_place (record { group = joined_group (buffer t x); variable = v; value = k }) (pending t x); marked = false })
    x

-- WFENCE "does nothing under SC and TSO. Under PSO it starts a new group": it sets the mark, and the next store that joins is the group's first
unfoldable pub grouped : Model → (t : ℕ) → State → State
grouped Sc t x = x
grouped Tso t x = x
grouped Pso t x = with_buffer t (marked_buffer (buffer t x)) x

-- what instruction i of thread t does to registers, memory and its buffer
unfoldable pub changed : Model → (t : ℕ) → Instr → State → State
-- SET: "register r becomes k": rule vi
changed m t (Set r k) x = with_register t r k x
-- ADD: "register r becomes (r + k) mod 256", in version 3 "mod 65,536": rules iii and vi
changed m t (Add w r k) x = with_register t r ((register t r x + k) % values w) x
-- LOAD: "r takes variable v": rules i, ii and vi
changed m t (Load r v) x = with_register t r (newest v (variable v x) (pending t x)) x
-- STORE, STOREK: "store register r to v", "store k to v": rules iii and iv, bounded by C
changed m t (Store a v) x = stored m t v (carried t x a) x
-- FENCE only waits: rule vii
changed m t Fence x = x
-- XCHG: "r and memory's v change places in one step"
changed m t (Xchg r v) x = with_register t r (variable v x) (with_variable v (register t r x) x)
-- JEQ and JMP only move
changed m t (Jeq r p k) x = x
changed m t (Jmp p) x = x
-- CMPX: "In one step, memory's v becomes k if it equals r, and r takes the old value either way."
changed m t (Cmpx r v k) x =
    with_register t r (variable v x) (cond (eqb (variable v x) (register t r x)) (with_variable v k x) x)
-- WFENCE starts a new group, under PSO alone
changed m t Wfence x = grouped m t x

-- the place to which thread t then goes on
unfoldable pub place_after : ℕ → Control → State → ℕ
place_after t On x = suc (place t x)
place_after t (To p) x = p
place_after t (ToIf r k p) x = cond (eqb (register t r x) k) p (suc (place t x))

unfoldable pub executed : Model → (t : ℕ) → Instr → State → State
executed m t i x = with_place t (place_after t (control_of i) x) (changed m t i x)

-- a flush of thread t's store to v (TSO: rule v)
unfoldable pub flushed : (t v : ℕ) → State → State
flushed t v x = with_buffer t (flushed_buffer v (buffer t x)) (with_variable v (oldest_to v (pending t x)) x)

-- The steps of a job's machine, by number.

-- what stands at place p of thread t
unfoldable pub instruction_at : Job → (t p : ℕ) → Option Instr
instruction_at j t p = and_then (get_elem? j.threads t) (λ code. get_elem? code p)

-- "Step numbers: t (0 to 3) executes one instruction of thread t; 4 + 8t + v flushes thread t's store to v."
unfoldable pub flush_thread : ℕ → ℕ
flush_thread s = (s - most_threads) / most_variables

unfoldable pub flush_variable : ℕ → ℕ
flush_variable s = (s - most_threads) % most_variables

-- The job has threads below T and variables below V.
unfoldable pub has_thread : Job → ℕ → Bool
has_thread j t = ltb t (length j.threads)

unfoldable pub has_variable : Job → ℕ → Bool
has_variable j v = ltb v (length j.initial)

-- an execute step: "no such step" of threads from T up; then what the thread and its buffer say
unfoldable pub may_execute_of : Job → (t : ℕ) → State → May
may_execute_of j t x =
    needs (has_thread j t) NoSuchStep
    then may_execute j.model j.capacity (instruction_at j t (place t x)) (pending t x)

-- a flush step: "no such step" of threads from T up and to variables from V up; then what the buffer says
unfoldable pub may_flush_of : Job → (t v : ℕ) → State → May
may_flush_of j t v x =
    needs (has_thread j t && has_variable j v) NoSuchStep
    then may_flush j.model v (pending t x)

-- may step s be taken, and why not? "No such step" of numbers above 35.
unfoldable pub may : Job → ℕ → State → May
may j s x =
    cond (ltb s most_threads)
    (may_execute_of j s x)
    (needs (ltb s step_bound) NoSuchStep then may_flush_of j (flush_thread s) (flush_variable s) x)

-- the state after instruction i of thread t, if there is one
unfoldable pub after_execute : Model → (t : ℕ) → Option Instr → State → State
after_execute m t none x = x
after_execute m t (some i) x = executed m t i x

-- the state after step s, where it may be taken; where not, nothing is meant by it
unfoldable pub after : Job → ℕ → State → State
after j s x =
    cond (ltb s most_threads)
    (after_execute j.model s (instruction_at j s (place s x)) x)
    (flushed (flush_thread s) (flush_variable s) x)

-- y if the step may be taken, else the reason
abbrev pub by_may : May → State → Stepped State Reason
by_may (Ok tt) y = gives y
by_may (Err why) y = withheld why

-- a step: the state after it, or the reason why it may not be taken
unfoldable pub step : Job → ℕ → State → Stepped State Reason
step j s x = by_may (may j s x) (after j s x)

-- the state after a step or none, the reason forgotten: a search asks for no more
abbrev pub next : Job → ℕ → State → Option State
next j s x = forget (step j s x)

-- "The enabled steps are one 64-bit number; bit s is set when step s may be taken": 0 exactly when it has a reason.
abbrev pub bit : May → ℕ → ℕ
bit (Ok tt) s = 2 ^ s
bit (Err why) s = 0

unfoldable pub enabled_below : Job → State → ℕ → ℕ
enabled_below j x zero = 0
enabled_below j x (suc s) = enabled_below j x s + bit (may j s x) s

unfoldable pub enabled : Job → State → ℕ
enabled j x = enabled_below j x step_bound
