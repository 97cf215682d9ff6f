-- Every number of an accepted job is in its range, and a refusal is one of the list: "No other refusals exist."
use Rattle.std.specs.Prelude.{◌≡◌, refl, ◌↔◌, Bool, true, false, cond, ◌&&◌, List, [], T, eqb, leb, length, get_or}
use Rattle.std.proofs.Common.{ap, leb→le, ltb→lt}
use Rattle.std.proofs.Math.Option.{Option, none, some}
use Prim.Native.Nat.{ℕ, zero, suc, ◌+◌, ◌≤◌, ◌<◌}
use native.Mathlib.Omega.{arith}
use Rattle.reach.specs.Lists.{All}
use Rattle.reach.specs.ListLaws.{all_get_or}
use Rattle.rules.specs.Limits.{byte_values, longest_thread, width_of}
use Rattle.rules.specs.Job.{Job}
use Rattle.rules.specs.Step.{given}
use Rattle.rules.specs.Tests.{both, both_iff}
use Rattle.rules.specs.File.{Read, got, fault, Reader, read_on, ◌>>=◌, done, times, judged, byte, item, in_range, capacity_of}
use Rattle.rules.specs.File.{register_ok, zero_ok, instruction_of, clause_of, value, ended}
use Rattle.rules.specs.File.{Decoded, accepted, refused, decoded, decode, held_job, job_of}
use Rattle.rules.specs.Sound.{Value, InstrIn, ClauseIn, CapacityIn, JobIn}
use Rattle.rules.specs.declared.Width.{Width}
use Rattle.rules.specs.declared.Width.TheVariants.{One, Two}
use Rattle.rules.specs.declared.Model.{Model}
use Rattle.rules.specs.declared.Model.TheVariants.{Sc, Tso, Pso}
use Rattle.rules.specs.declared.Instr.{Instr}

-- the numbers that a job's bytes are refused by; 7 is the search's own
abbrev pub Listed : ℕ → Type 0
Listed number = (1 ≤ number) × (number ≤ 6)

pub listed : (number : ℕ) → T (leb 1 number && leb number 6) → Listed number
listed number t =
    let p = both (leb 1 number) (leb number 6) t in
    (leb→le 1 number p.0, leb→le number 6 p.1)

-- Readers that give only values with a property, and only faults with a number of the list. Data types, since antt reads P off them.
pub data IfSome {A : Type 0} (P : A → Type 0) : Option A → Type 0 where
  of_none : IfSome P none
  of_some : {a : A} → P a → IfSome P (some a)

pub data IfGot {A : Type 0} (P : A → Type 0) : Read A → Type 0 where
  of_fault : {number offset : ℕ} → Listed number → IfGot P (fault number offset)
  of_got : {a : A} {next : ℕ} → P a → IfGot P (got a next)

abbrev pub Gives : {A : Type 0} → (A → Type 0) → Reader A → Type 0
Gives P r = (at : ℕ) → IfGot P (r at)

module _ {A : Type 0} {P : A → Type 0} where
  pub gives_map : {Q : A → Type 0} {r : Reader A} → ((a : A) → P a → Q a) → Gives P r → Gives Q r
  gives_map {Q} {r} f h at = go (r at) (h at)
    where
      go : (x : Read A) → IfGot P x → IfGot Q x
      go x (of_fault n) = of_fault n
      go x (of_got {a} p) = of_got (f a p)

  pub then_gives : {B : Type 0} {Q : B → Type 0} {r : Reader A} {f : A → Reader B} →
      Gives P r → ((a : A) → P a → Gives Q (f a)) → Gives Q (r >>= f)
  unfolding ◌>>=◌ read_on
  then_gives {B} {Q} {r} {f} h k at = go (r at) (h at)
    where
      go : (x : Read A) → IfGot P x → IfGot Q (read_on x f)
      go x (of_fault n) = of_fault n
      go x (of_got {a} {next} p) = k a p next

  cond_got : (b : Bool) {x y : Read A} → IfGot P x → IfGot P y → IfGot P (cond b x y)
  cond_got true p q = p
  cond_got false p q = q

module _ {A : Type 0} {P : A → Type 0} where
  pub times_gives : (k : ℕ) {r : Reader A} → Gives P r → Gives (λ l. (length l ≡ k) × All P l) (times k r)
  unfolding times done
  times_gives zero h = λ at. of_got (refl, tt)
  times_gives (suc k) h = then_gives h λ a p. then_gives (times_gives k h) λ l q at. of_got (ap suc q.0, (p, q.1))

  pub item_gives : (bytes : List ℕ) (size number : ℕ) {value : ℕ → Option A} →
      Listed number → ((at : ℕ) → IfSome P (value at)) → Gives P (item bytes size number value)
  unfolding item judged
  item_gives bytes size number {value} n h at =
      cond_got (leb (at + size) (length bytes)) (go (value at) (h at)) (of_fault (listed 6 tt))
    where
      go : (o : Option A) → IfSome P o → IfGot P (judged number at (at + size) o)
      go o of_none = of_fault n
      go o (of_some p) = of_got p

  pub ended_gives : (bytes : List ℕ) (a : A) → P a → Gives P (ended bytes a)
  unfolding ended
  ended_gives bytes a p at = cond_got (eqb at (length bytes)) (of_got p) (of_fault (listed 6 tt))

-- The tables of the file. A value of which nothing is asked:
pub anything : {A : Type 0} (o : Option A) → IfSome (λ a. Unit {0}) o
anything none = of_none
anything (some a) = of_some tt

module _ {A : Type 0} {P : A → Type 0} where
  none_iff : IfSome P none ↔ Unit {0}
  none_iff = (λ h. tt, λ h. of_none)

  given_iff : (b : Bool) (a : A) → IfSome P (given b a) ↔ (T b → P a)
  given_iff true a = (λ h k. go h, λ h. of_some (h tt))
    where
      go : IfSome P (some a) → P a
      go (of_some p) = p
  given_iff false a = (λ h k. absurd k, λ h. of_none)

-- of a row of a table `row` leaves that the tests give the ranges, and `tests` lets omega prove that
ruleset row = (none_iff, given_iff, both_iff)

ruleset tests = (arith, ltb→lt, leb→le)

-- a family at each number below k, and at all the others: so that one line proves every row of a table
abbrev Rows : ℕ → (ℕ → Type 0) → Type 0
Rows zero F = (i : ℕ) → F i
Rows (suc k) F = F 0 × Rows k (λ i. F (suc i))

by_rows : (k : ℕ) (F : ℕ → Type 0) → Rows k F → (i : ℕ) → F i
by_rows zero F h i = h i
by_rows (suc k) F h zero = h.0
by_rows (suc k) F h (suc i) = by_rows k (λ j. F (suc j)) h.1 i

pub range_in : (low high k : ℕ) → IfSome (λ x. (low ≤ x) × (x ≤ high)) (in_range low high k)
unfolding in_range
range_in low high k = simp row (omega tests)

pub capacity_in : (m : Model) (k : ℕ) → IfSome (CapacityIn m) (capacity_of m k)
unfolding capacity_of in_range
capacity_in Sc k = simp row (omega tests)
capacity_in Tso k = simp row (omega tests)
capacity_in Pso k = simp row (omega tests)

pub instruction_in : (version vars n a b c : ℕ) → Value (width_of version) c → (op : ℕ)
    → IfSome (InstrIn (width_of version) vars n) (instruction_of version vars n op a b c)
unfolding instruction_of register_ok zero_ok
instruction_in version vars n a b c h = by_rows 12 _ (simp row (omega tests))

pub clause_in : (w : Width) (vars : ℕ) (threads : List (List Instr)) (a b c : ℕ) → Value w c →
    (kind : ℕ) → IfSome (ClauseIn w vars threads) (clause_of vars (length threads) (length (get_or threads a [])) kind a b c)
unfolding clause_of register_ok zero_ok
clause_in w vars threads a b c h = by_rows 4 _ (simp row (omega tests))

-- JobIn's two demands on a thread, as one
abbrev pub ThreadIn : Width → ℕ → List Instr → Type 0
ThreadIn w vars code = (length code ≤ longest_thread) × All (InstrIn w vars (length code)) code

-- The file, field by field.
module _ (bytes : List ℕ) (small : All (λ k. k < byte_values) bytes) where
  -- also past the end, where 0 stands for a byte
  pub byte_in : (at : ℕ) → byte bytes at < byte_values
  unfolding byte
  byte_in at = all_get_or (λ k. k < byte_values) bytes at 0 small (omega arith)

  -- a value of the file is one of its width
  pub value_in : (w : Width) (at : ℕ) → Value w (value bytes w at)
  unfolding value
  value_in One at = byte_in at
  value_in Two at = omega (arith, byte_in at, byte_in (at + 1))

-- what the decoder's answer shows. A function here, so that `subst` carries it along the equation
abbrev pub Shows : Decoded → Type 0
Shows (accepted j) = JobIn j
Shows (refused number offset) = Listed number

pub decoded_shows : (b : Bool) (x : Read Job) → IfGot JobIn x → Shows (cond b (decoded x) (refused 1 0))
unfolding decoded
decoded_shows false x h = listed 1 tt
decoded_shows true x (of_fault n) = n
decoded_shows true x (of_got p) = p

-- accepted bytes hold one job, and `job_of` names it
pub job_of_accepted : (bytes : List ℕ) (j : Job) → decode bytes ≡ accepted j → job_of bytes ≡ j
unfolding job_of held_job
job_of_accepted bytes j e = ap held_job e
