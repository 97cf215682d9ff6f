-- What RELEASE stands for, whatever memory was lent.
use Rattle.std.specs.Prelude.{◌≡◌, true, List, ℕ, ◌≤◌}
use Rattle.std.proofs.Common.{sym, subst}
use Rattle.reach.specs.Meaning.{NoGoal}
use Rattle.rules.specs.File.{accepted, decode, job_of}
use Rattle.rules.specs.Machine.{machine}
use Rattle.rules.proofs.Accepted.{accepted_in}
use Rattle.rules.specs.declared.Model.TheVariants.{Sc, Tso}
use Rattle.signed.specs.Under.{under, under_sc}
use Rattle.signed.proofs.NeverContradict.{no_goal_alike}
use Rattle.lent.specs.Meaning.{Lent}
use Rattle.search.specs.Meaning.{slots_of, SearchPromise}
use Rattle.fences.specs.Meaning.{FencePromise}
use Rattle.together.specs.Answered.{ruled_out, passed}
use Rattle.together.specs.Board.{Bytes}
use Rattle.verdict.specs.declared.Verdict.{Verdict}
use Rattle.verdict.specs.Meaning.{VerdictPromise}

-- No schedule of any length reaches a goal on the job's own machine; if the job says SC, none does under TSO either, at any capacity from 1.
pub record Released (bytes : List ℕ) : Type 0 where
  pub decoded : decode bytes ≡ accepted (job_of bytes)
  pub none : NoGoal (machine (job_of bytes))
  pub none_under_tso : (job_of bytes).model ≡ Sc → (c : ℕ) → 1 ≤ c → NoGoal (machine (under Tso c (job_of bytes)))

pub released : (bytes : List ℕ) → Bytes bytes → (m : Lent) (v : Verdict) (m' : Lent) → VerdictPromise bytes m v m' → v.release ≡ true → Released bytes
released bytes small m v m' h e =
    let may = h.releases.0 e in
    let searched : SearchPromise bytes m _ m' = subst (λ ws. SearchPromise bytes m ws m') may.unreachable_only h.searched in
    let none = (ruled_out bytes (job_of bytes) may.decoded (slots_of m) m m' may.states searched).means.no_goal in
    let ok = accepted_in bytes small (job_of bytes) may.decoded in
    record {
      decoded = may.decoded;
      none = none;
      none_under_tso =
          λ says_sc c room.
          (let asked = may.under_sc says_sc in
          let passes = passed bytes (job_of bytes) may.decoded (subst (FencePromise bytes) asked.1 h.checked) in
          (no_goal_alike (job_of bytes) ok passes asked.0 c room).1 (subst (λ j. NoGoal (machine j)) (sym (under_sc (job_of bytes) ok says_sc)) none));
    }

-- both promises of `judge`
pub with_release :
    (bytes : List ℕ) → Bytes bytes → (m : Lent) (v : Verdict) (m' : Lent) → VerdictPromise bytes m v m' →
    VerdictPromise bytes m v m' × (v.release ≡ true → Released bytes)
with_release bytes small m v m' h = (h, released bytes small m v m' h)
