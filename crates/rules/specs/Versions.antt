-- Request 7: "Nothing else of version 1 moves". A version 2 file that uses neither CMPX nor WFENCE holds, but for the version field, the job of the
-- version 1 file with the same bytes behind the version; and the other way, every accepted version 1 file can say version 2. The machine knows no version.
use Rattle.std.specs.Prelude.{◌≡◌, ◌⊎◌, Bool, ◌&&◌, eqb, ltb, leb, length, get_or}
use Rattle.std.proofs.Math.Path.{refl, subst}
use Rattle.std.proofs.Common.{ap, arith}
use Rattle.std.proofs.Math.Logic.{inl, inr}
use Rattle.std.proofs.Math.Bool.{true, false, cond}
use mathlib.Core.List.{List, [], ◌∷◌, ◌++◌}
use Rattle.std.proofs.Math.Option.{Option, none, some}
use Prim.Native.Nat.{ℕ, zero, suc, ◌+◌, ◌≤◌}
use Rattle.rules.specs.Limits.{first_version, second_version, length_size, shortest_file}
use Rattle.rules.specs.Job.{Job, start}
use Rattle.rules.specs.Step.{given, instruction_at, has_thread, has_variable, may_execute_of, may_flush_of, may, after, step}
use Rattle.rules.specs.Goal.{goal}
use Rattle.rules.specs.Machine.{explained, machine}
use Rattle.rules.specs.File.{Read, got, fault, Reader, read_on, ◌>>=◌, done, times, judged, byte, item}
use Rattle.rules.specs.File.{register_ok, zero_ok, first_operations, from_second, operations, instruction_of, ended, length_ok, Decoded, accepted, refused, decoded, decode}
use Rattle.rules.specs.declared.Width.TheVariants.{One}
use Rattle.rules.specs.declared.Instr.{Instr}
use Rattle.rules.specs.declared.Instr.TheVariants.{Set, Add, Load, Store, Fence, Xchg, Jeq, Jmp, Cmpx, Wfence}

-- the job in a file of another version
abbrev pub in_version : ℕ → Job → Job
in_version version j =
    record {
      version = version;
      model = j.model;
      capacity = j.capacity;
      initial = j.initial;
      threads = j.threads;
      all_empty = j.all_empty;
      clauses = j.clauses;
    }

-- the machine, with its reasons and its goal, is the same in every version
pub explained_alike : (version : ℕ) (j : Job) → explained (in_version version j) ≡ explained j
unfolding start step may after may_execute_of may_flush_of has_thread has_variable instruction_at goal
explained_alike version j = refl

pub machine_alike : (version : ℕ) (j : Job) → machine (in_version version j) ≡ machine j
unfolding start step may after may_execute_of may_flush_of has_thread has_variable instruction_at goal
machine_alike version j = refl

-- what version 2 adds
abbrev pub IsNew : Instr → Type 0
IsNew (Set r k) = ⊥
IsNew (Add w r k) = ⊥
IsNew (Load r v) = ⊥
IsNew (Store a v) = ⊥
IsNew Fence = ⊥
IsNew (Xchg r v) = ⊥
IsNew (Jeq r p k) = ⊥
IsNew (Jmp p) = ⊥
IsNew (Cmpx r v k) = Unit {0}
IsNew Wfence = Unit {0}

abbrev pub Some : {A : Type 0} → (A → Type 0) → List A → Type 0
Some P [] = ⊥
Some P (x ∷ l) = P x ⊎ Some P l

abbrev pub UsesNew : Job → Type 0
UsesNew j = Some (Some IsNew) j.threads

-- an operation number that version 2 adds
abbrev pub IsAdded : ℕ → Type 0
IsAdded op = (op ≡ 10) ⊎ (op ≡ 11)

-- Readers of the two files, side by side, from behind the version on: both give the same (by φ), both refuse the same, or the first file has an added
-- operation there (`Barred` tells its refusals), and what the second then gives, if it gives anything, is new.

-- what only the second file can give
pub data GivesNew {B : Type 0} (New : B → Type 0) : Read B → Type 0 where
  gives : (b : B) (next : ℕ) → shortest_file ≤ next → New b → GivesNew New (got b next)
  refuses : (number offset : ℕ) → GivesNew New (fault number offset)

pub data Beside {A B : Type 0} (Barred : (number offset : ℕ) → Type 0) (φ : A → B) (New : B → Type 0) : Read A → Read B → Type 0 where
  both_give : (a : A) (next : ℕ) → shortest_file ≤ next → Beside Barred φ New (got a next) (got (φ a) next)
  both_refuse : (number offset : ℕ) → Beside Barred φ New (fault number offset) (fault number offset)
  first_barred : (number offset : ℕ) → Barred number offset → (y : Read B) → GivesNew New y → Beside Barred φ New (fault number offset) y

abbrev pub same : {A : Type 0} → A → A
same a = a

abbrev pub Follows : {A B : Type 0} → ((number offset : ℕ) → Type 0) → (A → B) → (B → Type 0) → Reader A → Reader B → Type 0
Follows Barred φ New r s = (at : ℕ) → shortest_file ≤ at → Beside Barred φ New (r at) (s at)

-- once something new was given: what the second reader gives later is new too
abbrev pub OnlySecond : {B : Type 0} → (B → Type 0) → Reader B → Type 0
OnlySecond New s = (at : ℕ) → shortest_file ≤ at → GivesNew New (s at)

done_only : {A : Type 0} {New : A → Type 0} (a : A) → New a → OnlySecond New (done a)
unfolding done
done_only a new at low = gives a at low new

module _ {Barred : (number offset : ℕ) → Type 0} where
  module _ {A B C : Type 0} {New : A → Type 0} {φ : B → C} {Later : C → Type 0} where
    pub then_follows : {r s : Reader A} {f : A → Reader B} {g : A → Reader C} →
        Follows Barred same New r s → ((a : A) → Follows Barred φ Later (f a) (g a)) → ((a : A) → New a → OnlySecond Later (g a)) → Follows Barred φ Later (r >>= f) (s >>= g)
    unfolding ◌>>=◌ read_on
    then_follows {r} {s} {f} {g} h k new at low = go (r at) (s at) (h at low)
      where
        later : (y : Read A) → GivesNew New y → GivesNew Later (read_on y g)
        later y (gives a next low w) = new a w next low
        later y (refuses number offset) = refuses number offset

        go : (x y : Read A) → Beside Barred same New x y → Beside Barred φ Later (read_on x f) (read_on y g)
        go x y (both_give a next low) = k a next low
        go x y (both_refuse number offset) = both_refuse number offset
        go x y (first_barred number offset barred _ w) = first_barred number offset barred (read_on y g) (later y w)

  module _ {A C : Type 0} {New : A → Type 0} {Later : C → Type 0} where
    -- a reader whose own value doesn't matter
    pub then_only : {r s : Reader A} {g : A → Reader C} → Follows Barred same New r s → ((a : A) → OnlySecond Later (g a)) → OnlySecond Later (s >>= g)
    unfolding ◌>>=◌ read_on
    then_only {r} {s} {g} h k at low = go (r at) (s at) (h at low)
      where
        later : (y : Read A) → GivesNew New y → GivesNew Later (read_on y g)
        later y (gives a next low w) = k a next low
        later y (refuses number offset) = refuses number offset

        go : (x y : Read A) → Beside Barred same New x y → GivesNew Later (read_on y g)
        go x y (both_give a next low) = k a next low
        go x y (both_refuse number offset) = refuses number offset
        go x y (first_barred number offset barred _ w) = later y w

  module _ {A : Type 0} {New : A → Type 0} where
    done_follows : (a : A) → Follows Barred same New (done a) (done a)
    unfolding done
    done_follows a at low = both_give a at low

  module _ {A : Type 0} {New : A → Type 0} where
    pub times_follows : (k : ℕ) {r s : Reader A} → Follows Barred same New r s → Follows Barred same (Some New) (times k r) (times k s)
    unfolding times
    times_follows zero h = done_follows []
    times_follows (suc k) h =
        then_follows h
        (λ a. then_follows (times_follows k h) (λ l. done_follows (a ∷ l)) (λ l new. done_only (a ∷ l) (inr new)))
        (λ a new. then_only (times_follows k h) (λ l. done_only (a ∷ l) (inl new)))

-- where nothing can be new, nothing is
abbrev pub Nothing : {A : Type 0} → A → Type 0
Nothing a = ⊥

pub some_nothing : {A : Type 0} (l : List A) → Some Nothing l → ⊥
some_nothing [] h = elim h [ ]
some_nothing (a ∷ l) (inl h) = elim h [ ]
some_nothing (a ∷ l) (inr h) = some_nothing l h

-- The values of items, side by side; `Added` tells where the second file alone may give one.

pub data Judged {A : Type 0} (Added : Type 0) (New : A → Type 0) : Option A → Option A → Type 0 where
  both_none : Judged Added New none none
  both_some : (a : A) → Judged Added New (some a) (some a)
  second_some : Added → (a : A) → New a → Judged Added New none (some a)

module _ {A : Type 0} {Added : Type 0} {New : A → Type 0} where
  pub judged_alike : (o : Option A) → Judged Added New o o
  judged_alike none = both_none
  judged_alike (some a) = both_some a

  pub judged_where : {Elsewhere : Type 0} → (Added → Elsewhere) → {o p : Option A} → Judged Added New o p → Judged Elsewhere New o p
  judged_where f both_none = both_none
  judged_where f (both_some a) = both_some a
  judged_where f (second_some added a new) = second_some (f added) a new

  -- a test that only the second file's version passes
  judged_new : Added → (b : Bool) (a : A) → New a → Judged Added New none (given b a)
  judged_new added true a new = second_some added a new
  judged_new added false a new = both_none

-- tables of as many rows; `Added` tells the rows, by their numbers
abbrev RowsJudged : {A : Type 0} → (ℕ → Type 0) → (A → Type 0) → List (Option A) → List (Option A) → Type 0
RowsJudged Added New [] [] = Unit {0}
RowsJudged Added New [] (p ∷ m) = ⊥
RowsJudged Added New (o ∷ l) [] = ⊥
RowsJudged Added New (o ∷ l) (p ∷ m) = Judged (Added 0) New o p × RowsJudged (λ i. Added (suc i)) New l m

row_judged : {A : Type 0} (Added : ℕ → Type 0) (New : A → Type 0) (l m : List (Option A)) → RowsJudged Added New l m
    → (i : ℕ) → Judged (Added i) New (get_or l i none) (get_or m i none)
row_judged Added New [] [] h i = both_none
row_judged Added New [] (p ∷ m) h i = absurd h
row_judged Added New (o ∷ l) [] h i = absurd h
row_judged Added New (o ∷ l) (p ∷ m) h zero = h.0
row_judged Added New (o ∷ l) (p ∷ m) h (suc i) = row_judged (λ i. Added (suc i)) New l m h.1 i

-- the same rows in front
abbrev from_row : {A : Type 0} → (ℕ → Type 0) → List (Option A) → ℕ → Type 0
from_row Added [] = Added
from_row Added (o ∷ l) = from_row (λ i. Added (suc i)) l

rows_behind : {A : Type 0} (Added : ℕ → Type 0) (New : A → Type 0) (l m n : List (Option A)) → RowsJudged (from_row Added l) New m n
    → RowsJudged Added New (l ++ m) (l ++ n)
rows_behind Added New [] m n h = h
rows_behind Added New (o ∷ l) m n h = (judged_alike o, rows_behind (λ i. Added (suc i)) New l m n h)

-- operations 10 and 11 are version 2's alone, all others are the same
pub operations_judged : (vars n op a b c : ℕ)
    → Judged (IsAdded op) IsNew (instruction_of first_version vars n op a b c) (instruction_of second_version vars n op a b c)
unfolding instruction_of from_second
operations_judged vars n op a b c =
    row_judged IsAdded IsNew (operations first_version vars n a b c) (operations second_version vars n a b c)
    (rows_behind IsAdded IsNew (first_operations One vars n a b c) (none ∷ none ∷ [])
    (given (register_ok a && ltb b vars) (Cmpx a b c) ∷ given (zero_ok a && zero_ok b && zero_ok c) Wfence ∷ [])
    (judged_new (inl refl) (register_ok a && ltb b vars) (Cmpx a b c) tt, (judged_new (inr refl) (zero_ok a && zero_ok b && zero_ok c) Wfence tt, tt)))
    op

-- What the two files are then.

-- the same job but for the version, or the same refusal
abbrev pub re_versioned : ℕ → Decoded → Decoded
re_versioned version (accepted j) = accepted (in_version version j)
re_versioned version (refused number offset) = refused number offset

was_accepted : Decoded → ℕ
was_accepted (accepted j) = 1
was_accepted (refused number offset) = 0

pub not_both : {number offset : ℕ} {j : Job} {A : Type 0} → refused number offset ≡ accepted j → A
unfolding was_accepted
not_both e = absurd (omega (arith, ap was_accepted e))

pub back_accepts : (d : Decoded) (j : Job) → re_versioned second_version d ≡ accepted j → (i : Job) × (d ≡ accepted i) × (j ≡ in_version second_version i)
back_accepts (accepted i) j e = (i, refl, cc)
back_accepts (refused number offset) j e = not_both e

pub only_new : (y : Read Job) → GivesNew UsesNew y → (j : Job) → decoded y ≡ accepted j → UsesNew j
unfolding decoded
only_new y (gives k next low new) j e = let same_job : k ≡ j = cc in subst UsesNew same_job new
only_new y (refuses number offset) j e = not_both e

-- The first is refused by 4 at an instruction with operation 10 or 11; the job that the second then holds, if it holds one, uses a new operation.
abbrev pub FirstBars : (one two : List ℕ) → Type 0
FirstBars one two = (offset : ℕ) × (decode one ≡ refused 4 offset) × IsAdded (byte one offset) × ((j : Job) → decode two ≡ accepted j → UsesNew j)

-- Two files of the same bytes but for the version.
module _ (one two : List ℕ) (long : length one ≡ length two) (alike : (at : ℕ) → ¬ (at ≡ length_size) → byte one at ≡ byte two at) where
  -- refused by 4 at an instruction with an added operation
  abbrev pub Barred : (number offset : ℕ) → Type 0
  Barred number offset = (number ≡ 4) × IsAdded (byte one offset)

  pub behind : (at : ℕ) → shortest_file ≤ at → byte one at ≡ byte two at
  behind at low = alike at (λ e. omega (arith, low, e))

  module _ {A : Type 0} {New : A → Type 0} where
    pub item_follows : (size number : ℕ) {v w : ℕ → Option A} → ((at : ℕ) → shortest_file ≤ at → Judged (Barred number at) New (v at) (w at))
        → Follows Barred same New (item one size number v) (item two size number w)
    unfolding item judged
    item_follows size number {v} {w} h at low =
        subst (λ n. Beside Barred same New (item one size number v at) (cond (leb (at + size) n) (judged number at (at + size) (w at)) (fault 6 at))) long
        (which (leb (at + size) (length one)) (v at) (w at) (h at low))
      where
        which : (b : Bool) (o p : Option A) → Judged (Barred number at) New o p
            → Beside Barred same New (cond b (judged number at (at + size) o) (fault 6 at)) (cond b (judged number at (at + size) p) (fault 6 at))
        which false o p k = both_refuse 6 at
        which true o p both_none = both_refuse number at
        which true o p (both_some a) = both_give a (at + size) (omega arith)
        which true o p (second_some barred a new) = first_barred number at barred (got a (at + size)) (gives a (at + size) (omega arith) new)

  pub ended_follows : (j : Job) → Follows Barred (in_version second_version) UsesNew (ended one j) (ended two (in_version second_version j))
  unfolding ended
  ended_follows j at low =
      subst (λ n. Beside Barred (in_version second_version) UsesNew (ended one j at) (cond (eqb at n) (got (in_version second_version j) at) (fault 6 at)))
      long (which (eqb at (length one)))
    where
      which : (b : Bool)
          → Beside Barred (in_version second_version) UsesNew (cond b (got j at) (fault 6 at)) (cond b (got (in_version second_version j) at) (fault 6 at))
      which true = both_give j at low
      which false = both_refuse 6 at

  pub ended_only : (j : Job) → UsesNew j → OnlySecond UsesNew (ended two j)
  unfolding ended
  ended_only j new at low = which (eqb at (length two))
    where
      which : (b : Bool) → GivesNew UsesNew (cond b (got j at) (fault 6 at))
      which true = gives j at low new
      which false = refuses 6 at

  module _ (is_first : byte one length_size ≡ first_version) (is_second : byte two length_size ≡ second_version) where
    pub length_alike : length_ok one ≡ length_ok two
    unfolding length_ok
    length_alike = rw (is_first, is_second, long, alike 0 (λ e. omega (arith, e)), alike 1 (λ e. omega (arith, e)))
