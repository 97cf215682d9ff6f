-- `job::decode` meets its contract: the length is judged first, and then the fields from the front.
use mathlib.Core.Path.{◌≡◌}
use native.Mathlib.Omega.{arith}
use Prim.Native.Nat.{ℕ}
use mathlib.Core.List.{List}
use Rattle.std.proofs.Common.{rules}
use Rattle.readers.specs.Passed.{At, then}
use Rattle.readers.specs.Stages.{length_stage, head_stage}
use Rattle.readers.proofs.Readers.{handed_on}
use Rattle.job.proofs.StageLaws.{head_good}
use Rattle.job.proofs.FieldsGot.{decode_stages, length_fault, head_fault}
use Rattle.job.proofs.decode.Goals as goal

-- the length and the head were good
good : (bytes : List ℕ) (p next : ℕ) → At p ≡ length_stage bytes → At next ≡ head_stage bytes → then (length_stage bytes) (head_stage bytes) ≡ At next
good bytes p next e f = rw (← e, ← f)

pub returns-in_err-length_field : goal.returns-in_err-length_field
returns-in_err-length_field c = length_fault c.args.job.now _ c.in_err-length_field.field-0.0 (search rules) c.in_err-length_field.ensures

pub returns-in_err-head_fields : goal.returns-in_err-head_fields
returns-in_err-head_fields c = search (rules, head_fault c.args.job.now c.in_err-head_fields.field-0.0 c.in_err-head_fields.ensures)

pub behind_head-requires : goal.behind_head-requires
behind_head-requires c = head_good _ _ (good _ _ _ c.in_ok-length_field.ensures c.in_ok-head_fields.ensures)

pub returns-in_err-behind_head : goal.returns-in_err-behind_head
returns-in_err-behind_head c =
    rw (handed_on _ c.in_err-behind_head.field-0.0 c.from_residual-in_err-behind_head.ensures.1, decode_stages c.args.job.now, good _ _ _ c.in_ok-length_field.ensures c.in_ok-head_fields.ensures, ← c.in_err-behind_head.ensures)

pub bounds-job-3 : goal.bounds-job-3
bounds-job-3 c = omega (arith, (head_good _ _ (good _ _ _ c.in_ok-length_field.ensures c.in_ok-head_fields.ensures)).there)

pub returns : goal.returns
returns c =
    rw (decode_stages c.args.job.now, good _ _ _ c.in_ok-length_field.ensures c.in_ok-head_fields.ensures, ← c.in_ok-behind_head.ensures)
    (c.model_named.ensures c.in_ok-behind_head.field-0)
