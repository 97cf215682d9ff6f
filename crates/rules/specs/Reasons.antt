-- "The first that applies is given, in that order": request 5. When each reason applies is said here of each by itself, without an order and
-- without the rules that withhold a step; `ReasonLaws` proves that `Step` `step` is withheld for the first that applies, and given where none does.
use Rattle.std.specs.Prelude.{◌≡◌, refl, ◌⊎◌, List, [], ◌∷◌, ℕ, ◌+◌, ◌*◌, ◌≤◌, ◌<◌, length, get_or}
use Rattle.std.proofs.Common.{sym, ◌∙◌, ap}
use Rattle.std.proofs.Math.Option.{some}
use Rattle.reach.specs.Lists.{◌∈◌}
use Rattle.rules.specs.Limits.{most_threads, most_variables, step_bound}
use Rattle.rules.specs.State.{Pending, State, place, pending}
use Rattle.rules.specs.Job.{Job}
use Rattle.rules.specs.Step.{instruction_at}
use Rattle.rules.specs.declared.Model.{Model}
use Rattle.rules.specs.declared.Model.TheVariants.{Sc, Tso, Pso}
use Rattle.rules.specs.declared.Source.{Source}
use Rattle.rules.specs.declared.Instr.{Instr}
use Rattle.rules.specs.declared.Instr.TheVariants.{Store, Fence, Xchg, Cmpx}
use Rattle.rules.specs.declared.Reason.{Reason}
use Rattle.rules.specs.declared.Reason.TheVariants.{NoSuchStep, ThreadEnded, BufferFull, BufferNotEmpty, NothingToFlush, NotTheOldest}

-- "1 no such step, 2 thread ended, 3 buffer full, 4 buffer not empty, 5 nothing to flush, 6 not the oldest": its number is its place in the order
abbrev pub number_of : Reason → ℕ
number_of NoSuchStep = 1
number_of ThreadEnded = 2
number_of BufferFull = 3
number_of BufferNotEmpty = 4
number_of NothingToFlush = 5
number_of NotTheOldest = 6

-- "t (0 to 3) executes one instruction of thread t; 4 + 8t + v flushes thread t's store to v"
abbrev pub Executes : (s t : ℕ) → Type 0
Executes s t = (t < most_threads) × (s ≡ t)

abbrev pub Flushes : (s t v : ℕ) → Type 0
Flushes s t v = (t < most_threads) × (v < most_variables) × (s ≡ most_threads + most_variables * t + v)

-- a store to v is pending; the oldest pending store is one to v
abbrev pub PendingTo : ℕ → List Pending → Type 0
PendingTo v b = (p : Pending) × (p ∈ b) × (p.variable ≡ v)

abbrev pub OldestTo : ℕ → List Pending → Type 0
OldestTo v b = (p : Pending) × (rest : List Pending) × (b ≡ p ∷ rest) × (p.variable ≡ v)

-- a store to v is pending in the oldest group: request 7, groups are "counted from 0 at the oldest group present"
abbrev pub InOldestGroup : ℕ → List Pending → Type 0
InOldestGroup v b = (p : Pending) × (p ∈ b) × (p.variable ≡ v) × (p.group ≡ 0)

-- no pending store to v may be the next to flush: under TSO none is the oldest, under PSO none is in the oldest group
abbrev pub Behind : Model → ℕ → List Pending → Type 0
Behind m v b = ((m ≡ Tso) × (¬ (OldestTo v b))) ⊎ ((m ≡ Pso) × (¬ (InOldestGroup v b)))

-- the instructions that wait: STORE and STOREK; FENCE, XCHG and CMPX
abbrev pub Stores : Instr → Type 0
Stores i = (a : Source) × (v : ℕ) × (i ≡ Store a v)

abbrev pub Drains : Instr → Type 0
Drains i = (i ≡ Fence) ⊎ (((r : ℕ) × (v : ℕ) × (i ≡ Xchg r v)) ⊎ ((r : ℕ) × (v : ℕ) × (k : ℕ) × (i ≡ Cmpx r v k)))

module _ (j : Job) (s : ℕ) (x : State) where
  -- "numbers above 35, threads from T up and variables from V up"
  abbrev pub IsNoStep : Type 0
  IsNoStep =
      (step_bound ≤ s)
      ⊎ (((t : ℕ) × Executes s t × (length j.threads ≤ t))
      ⊎ ((t : ℕ) × (v : ℕ) × Flushes s t v × ((length j.threads ≤ t) ⊎ (length j.initial ≤ v))))

  -- an execute step of a thread at its place n (or behind it, where no job comes). An absent thread has no instructions, so this applies to it too.
  abbrev pub HasEnded : Type 0
  HasEnded = (t : ℕ) × Executes s t × (length (get_or j.threads t []) ≤ place t x)

  -- an execute step of a thread that stands at such an instruction
  abbrev pub StandsAt : (t : ℕ) → (Instr → Type 0) → Type 0
  StandsAt t Kind = Executes s t × (i : Instr) × (instruction_at j t (place t x) ≡ some i) × Kind i

  -- "TSO and PSO: a store with C pending; never under SC"
  abbrev pub IsFull : Type 0
  IsFull = (t : ℕ) × StandsAt t Stores × (¬ (j.model ≡ Sc)) × (j.capacity ≤ length (pending t x))

  -- "FENCE, XCHG"; request 7: "FENCE, XCHG and CMPX (empty buffer)"
  abbrev pub IsNotEmpty : Type 0
  IsNotEmpty = (t : ℕ) × StandsAt t Drains × (¬ (pending t x ≡ []))

  -- "no pending store of t to v; under SC always"
  abbrev pub HasNothing : Type 0
  HasNothing = (t : ℕ) × (v : ℕ) × Flushes s t v × ((j.model ≡ Sc) ⊎ (¬ (PendingTo v (pending t x))))

  -- "TSO: there is one to v, but the oldest is to another"; request 7: under PSO "pending in a later group only"
  abbrev pub IsBehind : Type 0
  IsBehind = (t : ℕ) × (v : ℕ) × Flushes s t v × PendingTo v (pending t x) × Behind j.model v (pending t x)

  -- when each reason applies
  abbrev pub Applies : Reason → Type 0
  Applies NoSuchStep = IsNoStep
  Applies ThreadEnded = HasEnded
  Applies BufferFull = IsFull
  Applies BufferNotEmpty = IsNotEmpty
  Applies NothingToFlush = HasNothing
  Applies NotTheOldest = IsBehind

  -- it applies, and no earlier one does
  pub record FirstThatApplies (why : Reason) : Type 0 where
    pub applies : Applies why
    pub none_earlier : (other : Reason) → number_of other < number_of why → ¬ (Applies other)

-- a reason by its number
unfoldable pub by_number : ℕ → Reason
by_number n = get_or (NoSuchStep ∷ NoSuchStep ∷ ThreadEnded ∷ BufferFull ∷ BufferNotEmpty ∷ NothingToFlush ∷ NotTheOldest ∷ []) n NoSuchStep

pub numbered : (why : Reason) → by_number (number_of why) ≡ why
unfolding by_number
numbered NoSuchStep = refl
numbered ThreadEnded = refl
numbered BufferFull = refl
numbered BufferNotEmpty = refl
numbered NothingToFlush = refl
numbered NotTheOldest = refl

-- no two reasons have one number
pub same_number : (because why : Reason) → number_of because ≡ number_of why → because ≡ why
same_number because why e = sym (numbered because) ∙ ap by_number e ∙ numbered why
