-- Request 4 beside 01 alone: every program that was passed is passed still, and one that was OPEN by dead code alone is FENCED.
use Rattle.std.specs.Prelude.{◌≡◌, refl, ◌↔◌, List, [], ◌∷◌, ℕ}
use Rattle.std.proofs.Common.{inl}
use Rattle.std.proofs.Math.Option.{some}
use Rattle.std.proofs.Math.ListN.{get_elem?}
use Rattle.rules.specs.Kinds.{control_of, role_of}
use Rattle.rules.specs.File.{read_on, ◌>>=◌, done, times, judged, byte, item, field, model_of, in_range, capacity_of, register_ok, zero_ok}
use Rattle.rules.specs.File.{instruction_of, instruction, thread, value, initial_value, flag_of, clause_of, clause, ended, fields, length_ok}
use Rattle.rules.specs.File.{decoded, decode, held_job, job_of}
use Rattle.rules.specs.Fences.{onward, onward_at, successors, role_at, Unfenced, Live, fenced, ChecksTo}
use Rattle.rules.specs.Jobs.{parked_store}
use Rattle.rules.specs.declared.Source.TheVariants.{Constant}
use Rattle.rules.specs.declared.Instr.{Instr}
use Rattle.rules.specs.declared.Instr.TheVariants.{Load, Store, Fence, Jeq, Jmp}

-- "Every place counts, run or not.": what 01 alone passes
abbrev pub PassedBefore : List (List Instr) → Type 0
PassedBefore threads = (t s l : ℕ) (code : List Instr) → get_elem? threads t ≡ some code → ¬ (Unfenced code s l)

-- every program that was passed is passed still
pub passed_still : (threads : List (List Instr)) → PassedBefore threads → ChecksTo threads fenced
passed_still threads before t s l o = before t s l o.code o.thread_is o.is_open.pair

-- what is passed is just this: each pair that 01 alone calls open has its store in dead code
pub dead_code_alone : (threads : List (List Instr)) → ChecksTo threads fenced
    ↔ ((t s l : ℕ) (code : List Instr) → get_elem? threads t ≡ some code → Unfenced code s l → ¬ (Live code s))
dead_code_alone threads = (
  λ passes t s l code is pair live. passes t s l (record { code = code; thread_is = is; is_open = record { pair = pair; live = live } }),
  λ dead t s l o. dead t s l o.code o.thread_is o.is_open.pair o.is_open.live,
)

-- The worked job: thread 0 of `parked_store`, and the store at place 1 behind its JMP.

pub parked_code : List Instr
parked_code =
    Jmp 5 ∷ Store (Constant 1) 0 ∷ Load 0 1 ∷ Jeq 0 2 1 ∷ Jmp 9 ∷ Store (Constant 1) 0 ∷ Fence ∷ Load 0 1 ∷ Jeq 0 7 1 ∷ Store (Constant 0) 0 ∷ Jmp 5 ∷ []

pub parked_thread : get_elem? (job_of parked_store).threads 0 ≡ some parked_code
unfolding parked_code parked_store job_of held_job decode read_on ◌>>=◌ done times judged byte item field model_of in_range capacity_of register_ok zero_ok instruction_of instruction thread value initial_value flag_of clause_of clause ended fields length_ok decoded
parked_thread = refl

pub parked_pair : Unfenced parked_code 1 2
unfolding parked_code role_at role_of successors onward_at onward control_of
parked_pair = record { store = refl; load = refl; between = []; walk = inl refl }
