-- What the decoder's small answers are in the definitions of the file.
use Rattle.std.specs.Prelude.{List, [], ℕ, ◌+◌, length, get_or, Result, Ok, Err}
use Rattle.std.proofs.Math.Option.{Option, none, some}
use Rattle.rules.specs.File.{accepted, refused, value, clause_of}
use Rattle.rules.specs.File as file
use Rattle.rules.specs.declared.Model.{Model}
use Rattle.rules.specs.declared.Width.{Width}
use Rattle.rules.specs.declared.Instr.{Instr}
use Rattle.rules.specs.declared.Clause.{Clause}
use Rattle.readers.specs.declared.faults.Fault as faults
use Rattle.readers.specs.Refusals.{number_of}
use Rattle.readers.specs.Passed.{Next, At, Fault, model_at}

abbrev pub clause_in_bytes : List ℕ → Width → (vars : ℕ) → List (List Instr) → (at : ℕ) → Option Clause
clause_in_bytes bytes w vars threads at =
    clause_of vars (length threads) (length (get_or threads (get_or bytes (at + 1) 0) [])) (get_or bytes at 0) (get_or bytes (at + 1) 0) (get_or bytes (at + 2) 0) (value bytes w (at + 3))

-- what decoding comes to: accepted, with the model, or the refusal's number and offset
pub data Decoded : Type 0 where
  Accepted : Model → Decoded
  Refused : (number offset : ℕ) → Decoded

-- what the decoder in code answers
abbrev pub came_out : Result Model faults.Fault → Decoded
came_out (Ok m) = Accepted m
came_out (Err f) = Refused (number_of f.refusal) f.offset

-- reading that came to the end, under the model that was read, or to a fault
abbrev pub answer : Next → Option Model → Decoded
answer (At next) (some m) = Accepted m
answer (At next) none = Refused 3 model_at
answer (Fault number offset) m = Refused number offset

-- what bytes are, the job left in them but for its model
abbrev pub answer_of : file.Decoded → Decoded
answer_of (accepted j) = Accepted j.model
answer_of (refused number offset) = Refused number offset
