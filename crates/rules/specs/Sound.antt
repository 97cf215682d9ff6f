-- What holds of every job whose bytes are accepted, and of every state that such a job reaches.
use Rattle.std.specs.Prelude.{◌≡◌, false, List, [], ◌∷◌, ℕ, suc, ◌≤◌, ◌<◌, length, get_or}
use Rattle.reach.specs.Lists.{All, Pairwise}
use Rattle.rules.specs.Limits.{most_threads, most_variables, registers_each, all_registers, values, longest_thread, most_pending, fewest_clauses, most_clauses}
use Rattle.rules.specs.State.{Pending, Buffer, empty_buffer, State, place, register, variable, buffer}
use Rattle.rules.specs.Job.{Job, width}
use Rattle.rules.specs.declared.Width.{Width}
use Rattle.rules.specs.declared.Model.{Model}
use Rattle.rules.specs.declared.Model.TheVariants.{Sc, Tso, Pso}
use Rattle.rules.specs.declared.Source.{Source}
use Rattle.rules.specs.declared.Source.TheVariants.{Register, Constant}
use Rattle.rules.specs.declared.Instr.{Instr}
use Rattle.rules.specs.declared.Instr.TheVariants.{Set, Add, Load, Store, Fence, Xchg, Jeq, Jmp, Cmpx, Wfence}
use Rattle.rules.specs.declared.Clause.{Clause}
use Rattle.rules.specs.declared.Clause.TheVariants.{PlaceIs, RegisterIs, MemoryIs}

-- a value of this width
abbrev pub Value : Width → ℕ → Type 0
Value w k = k < values w

-- "Here r is 0 to 3, v below V, p from 0 to n"; constants are values, and a sum is as wide as they
abbrev pub SourceIn : Width → Source → Type 0
SourceIn w (Register r) = r < registers_each
SourceIn w (Constant k) = Value w k

abbrev pub InstrIn : Width → (vars n : ℕ) → Instr → Type 0
InstrIn w vars n (Set r k) = (r < registers_each) × Value w k
InstrIn w vars n (Add u r k) = (r < registers_each) × Value w k × (values u ≡ values w)
InstrIn w vars n (Load r v) = (r < registers_each) × (v < vars)
InstrIn w vars n (Store a v) = SourceIn w a × (v < vars)
InstrIn w vars n Fence = Unit {0}
InstrIn w vars n (Xchg r v) = (r < registers_each) × (v < vars)
InstrIn w vars n (Jeq r p k) = (r < registers_each) × (p ≤ n) × Value w k
InstrIn w vars n (Jmp p) = p ≤ n
InstrIn w vars n (Cmpx r v k) = (r < registers_each) × (v < vars) × Value w k
InstrIn w vars n Wfence = Unit {0}

abbrev pub ClauseIn : Width → (vars : ℕ) → List (List Instr) → Clause → Type 0
ClauseIn w vars threads (PlaceIs t p) = (t < length threads) × (p ≤ length (get_or threads t []))
ClauseIn w vars threads (RegisterIs t r k) = (t < length threads) × (r < registers_each) × Value w k
ClauseIn w vars threads (MemoryIs v k) = (v < vars) × Value w k

-- "SC (model 0, C must be 0)"; else 1 to 8
abbrev pub CapacityIn : Model → ℕ → Type 0
CapacityIn Sc c = c ≡ 0
CapacityIn Tso c = (1 ≤ c) × (c ≤ most_pending)
CapacityIn Pso c = (1 ≤ c) × (c ≤ most_pending)

-- every number of the job is in its range
pub record JobIn (j : Job) : Type 0 where
  pub capacity : CapacityIn j.model j.capacity
  pub threads_least : 1 ≤ length j.threads
  pub threads_most : length j.threads ≤ most_threads
  pub variables_least : 1 ≤ length j.initial
  pub variables_most : length j.initial ≤ most_variables
  pub initial : All (Value (width j)) j.initial
  pub lengths : All (λ code. length code ≤ longest_thread) j.threads
  pub instructions : All (λ code. All (InstrIn (width j) (length j.initial) (length code)) code) j.threads
  pub clauses_least : fewest_clauses ≤ length j.clauses
  pub clauses_most : length j.clauses ≤ most_clauses
  pub clauses : All (ClauseIn (width j) (length j.initial) j.threads) j.clauses

-- "Pairs stand by group, then by variable"
abbrev pub StandsBefore : Pending → Pending → Type 0
StandsBefore p q = (p.group ≤ q.group) × (p.group ≡ q.group → p.variable ≤ q.variable)

-- groups are counted one after another: the first is at most g, each other at most one more than the one before
abbrev pub NoGap : ℕ → List Pending → Type 0
NoGap g [] = Unit {0}
NoGap g (p ∷ b) = (p.group ≤ g) × NoGap (suc p.group) b

-- Under SC nothing is pending. Under TSO there is one group. Under PSO pairs are in order, and groups are counted from 0.
abbrev pub InOrder : Model → List Pending → Type 0
InOrder Sc b = b ≡ []
InOrder Tso b = All (λ p. p.group ≡ 0) b
InOrder Pso b = Pairwise StandsBefore b × NoGap 0 b

-- Only under PSO does a WFENCE stand after the newest store, and only where there is one.
abbrev pub MarkIn : Model → Buffer → Type 0
MarkIn Sc b = b.marked ≡ false
MarkIn Tso b = b.marked ≡ false
MarkIn Pso b = b.pending ≡ [] → b.marked ≡ false

pub record BufferIn (j : Job) (b : Buffer) : Type 0 where
  pub count : length b.pending ≤ j.capacity
  pub variables : All (λ p. p.variable < length j.initial) b.pending
  pub values_in : All (λ p. Value (width j) p.value) b.pending
  pub order : InOrder j.model b.pending
  pub mark : MarkIn j.model b

-- places at most n, counts at most C, unused parts 0, PSO pairs in order, groups counted, no mark without a store
pub record WellFormed (j : Job) (x : State) : Type 0 where
  pub places_number : length x.places ≡ most_threads
  pub registers_number : length x.registers ≡ all_registers
  pub memory_number : length x.memory ≡ most_variables
  pub buffers_number : length x.buffers ≡ most_threads
  pub places : (t : ℕ) → place t x ≤ length (get_or j.threads t [])
  pub registers : All (Value (width j)) x.registers
  pub registers_unused : (t r : ℕ) → length j.threads ≤ t → r < registers_each → register t r x ≡ 0
  pub memory : All (Value (width j)) x.memory
  pub memory_unused : (v : ℕ) → length j.initial ≤ v → variable v x ≡ 0
  pub buffers : All (BufferIn j) x.buffers
  pub buffers_unused : (t : ℕ) → length j.threads ≤ t → buffer t x ≡ empty_buffer
