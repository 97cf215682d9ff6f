-- The job file, and the refusals in their order: 01, "Job file" and "Refusal numbers and their order", and requests 7 and 10.
use Rattle.std.specs.Prelude.{Bool, true, false, cond, ◌&&◌, List, [], ◌∷◌, ◌++◌, ℕ, zero, suc, ◌+◌, ◌*◌, eqb, ltb, leb, length, get_or}
use Rattle.std.proofs.Math.Option.{Option, none, some}
use Rattle.rules.specs.Limits.{most_threads, most_variables, registers_each, longest_thread, most_pending, fewest_clauses, most_clauses, shortest_file, longest_file, byte_values, first_version, last_version, second_version, length_size, width_of, value_size, item_size}
use Rattle.rules.specs.Job.{Job}
use Rattle.rules.specs.Step.{given}
use Rattle.rules.specs.declared.Width.{Width}
use Rattle.rules.specs.declared.Width.TheVariants.{One, Two}
use Rattle.rules.specs.declared.Model.{Model}
use Rattle.rules.specs.declared.Model.TheVariants.{Sc, Tso, Pso}
use Rattle.rules.specs.declared.Source.TheVariants.{Register, Constant}
use Rattle.rules.specs.declared.Instr.{Instr}
use Rattle.rules.specs.declared.Instr.TheVariants.{Set, Add, Load, Store, Fence, Xchg, Jeq, Jmp, Cmpx, Wfence}
use Rattle.rules.specs.declared.Clause.{Clause}
use Rattle.rules.specs.declared.Clause.TheVariants.{PlaceIs, RegisterIs, MemoryIs}

-- what reading gives: a value and the offset of the next item, or the first fault's number and offset
pub data Read (A : Type 0) : Type 0 where
  got : A → (next : ℕ) → Read A
  fault : (number offset : ℕ) → Read A

-- a reader begins at an offset
abbrev pub Reader : Type 0 → Type 0
Reader A = ℕ → Read A

unfoldable pub read_on : {A B : Type 0} → Read A → (A → Reader B) → Read B
read_on (got a at) f = f a at
read_on (fault number offset) f = fault number offset

-- "then fields from the front, the first fault winning"
infixl 1 ◌>>=◌
unfoldable pub ◌>>=◌ : {A B : Type 0} → Reader A → (A → Reader B) → Reader B
(r >>= f) at = read_on (r at) f

unfoldable pub done : {A : Type 0} → A → Reader A
done a at = got a at

-- k items, one after another
unfoldable pub times : {A : Type 0} → ℕ → Reader A → Reader (List A)
times zero r = done []
times (suc k) r = r >>= λ a. times k r >>= λ l. done (a ∷ l)

unfoldable pub judged : {A : Type 0} → (number offset next : ℕ) → Option A → Read A
judged number offset next none = fault number offset
judged number offset next (some a) = got a next

-- What the fields hold.

-- "model, C, T or V out of range"
unfoldable pub model_of : ℕ → Option Model
model_of k = get_or (some Sc ∷ some Tso ∷ some Pso ∷ []) k none

unfoldable pub in_range : (low high : ℕ) → ℕ → Option ℕ
in_range low high k = given (leb low k && leb k high) k

-- "SC (model 0, C must be 0)", "TSO (model 1, C is 1 to 8)", "PSO (model 2, C is 1 to 8)"
unfoldable pub capacity_of : Model → ℕ → Option ℕ
capacity_of Sc = in_range 0 0
capacity_of Tso = in_range 1 most_pending
capacity_of Pso = in_range 1 most_pending

-- "r is 0 to 3, v below V, p from 0 to n"; "Bytes marked 0 must be 0.", of a k of two bytes both
unfoldable pub register_ok : ℕ → Bool
register_ok r = ltb r registers_each

unfoldable pub zero_ok : ℕ → Bool
zero_ok k = eqb k 0

-- the table of operations, from number 0 on: "Nine operation numbers have a meaning". An ADD is as wide as its file's values.
abbrev pub first_operations : Width → (vars n a b c : ℕ) → List (Option Instr)
first_operations w vars n a b c =
    none
    ∷ given (register_ok a && zero_ok b) (Set a c)
    ∷ given (register_ok a && zero_ok b) (Add w a c)
    ∷ given (register_ok a && ltb b vars && zero_ok c) (Load a b)
    ∷ given (register_ok a && ltb b vars && zero_ok c) (Store (Register a) b)
    ∷ given (zero_ok a && ltb b vars) (Store (Constant c) b)
    ∷ given (zero_ok a && zero_ok b && zero_ok c) Fence
    ∷ given (register_ok a && ltb b vars && zero_ok c) (Xchg a b)
    ∷ given (register_ok a && leb b n) (Jeq a b c)
    ∷ given (zero_ok a && leb b n && zero_ok c) (Jmp b)
    ∷ []

-- request 7: "Job version 2 adds two operations"; "In a version 1 file operations 10 and 11 are refused by 4 as before." Request 10, of version 3:
-- "Operations are version 2's."
unfoldable pub from_second : ℕ → Bool
from_second version = leb second_version version

abbrev pub operations : (version vars n a b c : ℕ) → List (Option Instr)
operations version vars n a b c =
    first_operations (width_of version) vars n a b c
    ++ (given (from_second version && register_ok a && ltb b vars) (Cmpx a b c)
    ∷ given (from_second version && zero_ok a && zero_ok b && zero_ok c) Wfence
    ∷ [])

-- "each other byte, 0 included, is refused"
unfoldable pub instruction_of : (version vars n op a b c : ℕ) → Option Instr
instruction_of version vars n op a b c = get_or (operations version vars n a b c) op none

-- the flag: "0 any buffers, 1 all buffers empty"
unfoldable pub flag_of : ℕ → Option Bool
flag_of k = get_or (some false ∷ some true ∷ []) k none

-- K, the number of clauses. Request 8: "K = 0 is refusal 5 at K's offset, whatever the flag."
abbrev pub clause_count_of : ℕ → Option ℕ
clause_count_of = in_range fewest_clauses most_clauses

-- "(1, t, 0, p) .. p from 0 to its n; (2, t, r, k) ..; (3, v, 0, k) ..; t below T, r 0 to 3, v below V, any other clause is bad"
unfoldable pub clause_of : (vars count n kind a b c : ℕ) → Option Clause
clause_of vars count n kind a b c =
    get_or
    (none
    ∷ given (ltb a count && zero_ok b && leb c n) (PlaceIs a c)
    ∷ given (ltb a count && register_ok b) (RegisterIs a b c)
    ∷ given (ltb a vars && zero_ok b) (MemoryIs a c)
    ∷ [])
    kind none

-- The file.

module _ (bytes : List ℕ) where
  unfoldable pub byte : ℕ → ℕ
  byte at = get_or bytes at 0

  -- "of each item whether it is wholly there before what it holds": refusal 6, else the item's own number, both where it begins
  unfoldable pub item : {A : Type 0} → (size number : ℕ) → (ℕ → Option A) → Reader A
  item size number value at =
      cond (leb (at + size) (length bytes)) (judged number at (at + size) (value at)) (fault 6 at)

  -- a value of the file: one byte, or two, "big-endian"
  unfoldable pub value : Width → ℕ → ℕ
  value One at = byte at
  value Two at = byte at * byte_values + byte (at + 1)

  -- an item of one byte
  unfoldable pub field : {A : Type 0} → (number : ℕ) → (ℕ → Option A) → Reader A
  field number value = item 1 number (λ at. value (byte at))

  -- "op, a, b, then k"
  unfoldable pub instruction : (version vars n : ℕ) → Reader Instr
  instruction version vars n =
      item (item_size (width_of version)) 4
      (λ at. instruction_of version vars n (byte at) (byte (at + 1)) (byte (at + 2)) (value (width_of version) (at + 3)))

  -- "per thread: n, then instructions"
  unfoldable pub thread : (version vars : ℕ) → Reader (List Instr)
  thread version vars = field 4 (in_range 0 longest_thread) >>= λ n. times n (instruction version vars n)

  -- a clause of kind 1 asks for the length of its thread: that of thread a, 0 if there is no such thread
  unfoldable pub clause : Width → (vars : ℕ) → List (List Instr) → Reader Clause
  clause w vars threads =
      item (item_size w) 5
      (λ at.
      clause_of vars (length threads) (length (get_or threads (byte (at + 1)) [])) (byte at) (byte (at + 1)) (byte (at + 2)) (value w (at + 3)))

  -- "initial values, each a field | any": no value is refused, only one that is not wholly there
  unfoldable pub initial_value : Width → Reader ℕ
  initial_value w = item (value_size w) 6 (λ at. some (value w at))

  -- "or bytes are left over": refusal 6 at the first byte left over
  unfoldable pub ended : {A : Type 0} → A → Reader A
  ended a at = cond (eqb at (length bytes)) (got a at) (fault 6 at)

  -- the fields in their order: those behind the version, and from the version on
  abbrev pub behind_version : (version : ℕ) → Reader Job
  behind_version version =
      field 3 model_of >>= λ model.
      field 3 (capacity_of model) >>= λ capacity.
      field 3 (in_range 1 most_threads) >>= λ count.
      field 3 (in_range 1 most_variables) >>= λ vars.
      times vars (initial_value (width_of version)) >>= λ initial.
      times count (thread version vars) >>= λ threads.
      field 5 flag_of >>= λ flag.
      field 5 clause_count_of >>= λ K.
      times K (clause (width_of version) vars threads) >>= λ clauses.
      ended
      (record {
        version = version;
        model = model;
        capacity = capacity;
        initial = initial;
        threads = threads;
        all_empty = flag;
        clauses = clauses;
      })

  unfoldable pub fields : Reader Job
  fields = field 2 (in_range first_version last_version) >>= behind_version

  -- "fewer than 3 bytes, more than 597, or length wrong", by request 2 more than 1,109, by request 10 more than "1,389 bytes where the version byte is 3,
  -- otherwise 1,109 as before"; the length is the "number of bytes that follow", big-endian
  unfoldable pub length_ok : Bool
  length_ok =
      leb shortest_file (length bytes)
      && leb (length bytes) (longest_file (width_of (byte length_size)))
      && eqb (byte 0 * byte_values + byte 1 + length_size) (length bytes)

-- what a job's bytes are: a job, or the refusal's number and offset
pub data Decoded : Type 0 where
  accepted : Job → Decoded
  refused : (number offset : ℕ) → Decoded

unfoldable pub decoded : Read Job → Decoded
decoded (got j at) = accepted j
decoded (fault number offset) = refused number offset

-- "1 is judged first"
unfoldable pub decode : List ℕ → Decoded
decode bytes = cond (length_ok bytes) (decoded (fields bytes length_size)) (refused 1 0)

-- the job that accepted bytes hold; refused bytes hold none, and an empty one stands for it
unfoldable pub held_job : Decoded → Job
held_job (accepted j) = j
held_job (refused number offset) =
    record { version = 0; model = Sc; capacity = 0; initial = []; threads = []; all_empty = false; clauses = [] }

unfoldable pub job_of : List ℕ → Job
job_of bytes = held_job (decode bytes)
