-- Where the fields of the head stand, and what the readers' answers are in the definitions of the file.
use Rattle.std.specs.Prelude.{◌≡◌, List, [], ℕ, zero, suc, ◌+◌, ◌^◌, ◌<◌, get_or, Result, Ok, Err}
use Rattle.std.proofs.Math.Option.{Option}
use Rattle.rules.specs.Limits.{length_size, width_of}
use Rattle.rules.specs.File.{Read, got, fault, model_of, value, instruction_of}
use Rattle.rules.specs.declared.Width.{Width}
use Rattle.rules.specs.declared.Instr.{Instr}
use Rattle.rules.specs.declared.Model.{Model}
use Rattle.tables.specs.declared.Item.{Item}
use Rattle.readers.specs.declared.faults.Fault as faults
use Rattle.readers.specs.Refusals.{number_of}

-- "Length first, big-endian, then one version byte", and then "model, C, T, V", a byte each
abbrev pub version_at : ℕ
version_at = length_size

abbrev pub model_at : ℕ
model_at = version_at + 1

abbrev pub capacity_at : ℕ
capacity_at = model_at + 1

abbrev pub threads_at : ℕ
threads_at = capacity_at + 1

abbrev pub variables_at : ℕ
variables_at = threads_at + 1

-- the version, T and V
abbrev pub version_in : List ℕ → ℕ
version_in bytes = get_or bytes version_at 0

abbrev pub count_in : List ℕ → ℕ
count_in bytes = get_or bytes threads_at 0

abbrev pub vars_in : List ℕ → ℕ
vars_in bytes = get_or bytes variables_at 0

abbrev pub model_in : List ℕ → Option Model
model_in bytes = model_of (get_or bytes model_at 0)

-- the parts of an item that begins at an offset
pub record ItemAt (bytes : List ℕ) (w : Width) (at : ℕ) (i : Item) : Type 0 where
  pub op : i.op ≡ get_or bytes at 0
  pub a : i.a ≡ get_or bytes (at + 1) 0
  pub b : i.b ≡ get_or bytes (at + 2) 0
  pub c : i.c ≡ value bytes w (at + 3)

-- what they are
abbrev pub instruction_in_bytes : List ℕ → (version vars n at : ℕ) → Option Instr
instruction_in_bytes bytes version vars n at =
    instruction_of version vars n (get_or bytes at 0) (get_or bytes (at + 1) 0) (get_or bytes (at + 2) 0) (value bytes (width_of version) (at + 3))

-- where reading has come to: an offset, or the first fault's number and offset
pub data Next : Type 0 where
  At : ℕ → Next
  Fault : (number offset : ℕ) → Next

-- what a reader in code comes to, by what its caller's answers stand for
abbrev pub outcome : {E : Type 0} → (E → Next) → Result ℕ E → Next
outcome n (Ok at) = At at
outcome n (Err e) = n e

-- what a reader in code answers
abbrev pub came_to : Result ℕ faults.Fault → Next
came_to (Ok at) = At at
came_to (Err f) = Fault (number_of f.refusal) f.offset

-- where a reader has come to, its value forgotten
abbrev pub passed : {A : Type 0} → Read A → Next
passed (got a next) = At next
passed (fault number offset) = Fault number offset

-- the list that was read, its place forgotten; none, where reading was refused
abbrev pub listed : {A : Type 0} → Read (List A) → List A
listed (got l next) = l
listed (fault number offset) = []

-- the first fault wins
abbrev pub then : Next → Next → Next
then (At next) b = b
then (Fault number offset) b = Fault number offset

-- on from where the first came to
abbrev pub chain : Next → (ℕ → Next) → Next
chain (At next) f = f next
chain (Fault number offset) f = Fault number offset

-- a reader in code, by what a call of it may answer, comes where r does
abbrev pub Reads : (ℕ → Result ℕ faults.Fault → Type 0) → (ℕ → Next) → Type 0
Reads post r = (at : ℕ) (x : Result ℕ faults.Fault) → at < 2 ^ 64 → post at x → came_to x ≡ r at

-- so many items, each from where the one before it ended
abbrev pub repeated : ℕ → (ℕ → Next) → ℕ → Next
repeated zero r at = At at
repeated (suc k) r at = chain (r at) (repeated k r)
