-- Which of RELEASE and HOLD is said, for every input: 01, "Bench program".
use Rattle.std.specs.Prelude.{◌≡◌, Bool, true, false, ◌↔◌, List, [], ◌∷◌, ℕ}
use Rattle.reach.specs.Meaning.{unreachable}
use Rattle.rules.specs.Job.{Job}
use Rattle.rules.specs.File.{accepted, decode, job_of}
use Rattle.rules.specs.Fences.{fenced}
use Rattle.rules.specs.declared.Model.TheVariants.{Sc}
use Rattle.reach.specs.Words.{answer_words}
use Rattle.lent.specs.Meaning.{Lent}
use Rattle.search.specs.Meaning as search
use Rattle.fences.specs.Meaning as fences
use Rattle.verdict.specs.declared.Verdict.{Verdict}

-- "under SC only if the flag is 1 and the program FENCED"
abbrev pub ScAsks : Job → List ℕ → Type 0
ScAsks j checked = j.model ≡ Sc → (j.all_empty ≡ true) × (checked ≡ fences.checked_words fenced)

-- "RELEASE for unreachable only, and under SC only if the flag is 1 and the program FENCED; else HOLD." Of the bytes of a job, and the
-- words that the search and the fence check answered.
pub record MayRelease (bytes found checked : List ℕ) : Type 0 where
  pub decoded : decode bytes ≡ accepted (job_of bytes)
  pub states : ℕ
  pub unreachable_only : found ≡ answer_words (unreachable states)
  pub under_sc : ScAsks (job_of bytes) checked

-- the whole promise: job, buffers before, verdict, buffers after
pub record VerdictPromise (bytes : List ℕ) (m : Lent) (v : Verdict) (m' : Lent) : Type 0 where
  pub searched : search.SearchPromise bytes m (search.words v.search) m'
  pub checked : fences.FencePromise bytes (fences.words v.fences)
  pub releases : (v.release ≡ true) ↔ MayRelease bytes (search.words v.search) (fences.words v.fences)

-- the last line of the bench program, in bytes: RELEASE, or HOLD, and the line's end
abbrev pub line_of : Bool → List ℕ
line_of true = 82 ∷ 69 ∷ 76 ∷ 69 ∷ 65 ∷ 83 ∷ 69 ∷ 10 ∷ []
line_of false = 72 ∷ 79 ∷ 76 ∷ 68 ∷ 10 ∷ []
