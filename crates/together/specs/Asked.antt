-- Request 8, of the public promises: whatever is answered but a refusal is answered of a job that has at least one clause.
use Rattle.std.specs.Prelude.{◌≡◌, refl, List, ℕ, ◌≤◌, length, get_or}
use Rattle.std.proofs.Common.{ap}
use Rattle.reach.specs.Words.{refusal_words}
use Rattle.rules.specs.Job.{Job}
use Rattle.rules.specs.File.{Decoded, accepted, refused, decode}
use Rattle.rules.proofs.Asked.{some_clause}
use Rattle.lent.specs.Meaning.{Lent}
use Rattle.search.specs.Meaning.{SearchIn, SearchedIn}
use Rattle.replay.specs.Meaning.{ReplayOf, ReplayPromise}
use Rattle.fences.specs.Meaning.{FenceOf, FencePromise}
use Rattle.together.specs.Board.{Bytes}

-- the bytes hold a job that asks for something
pub record Asks (bytes : List ℕ) : Type 0 where
  pub job : Job
  pub is : decode bytes ≡ accepted job
  pub clause : 1 ≤ length job.clauses

-- the first word of a refusal is 0, and of no other answer
abbrev pub Refusal : List ℕ → Type 0
Refusal ws = get_or ws 0 0 ≡ 0

module _ (bytes : List ℕ) (small : Bytes bytes) where
  -- a promise that gives refused bytes their refusal's words, and words that are none
  asks :
      (P : Decoded → Type 0) (ws : List ℕ) → ((number offset : ℕ) → P (refused number offset) → ws ≡ refusal_words number offset) →
      ¬ (Refusal ws) → P (decode bytes) → Asks bytes
  asks P ws words answer h = which (decode bytes) refl h
    where
      which : (d : Decoded) → decode bytes ≡ d → P d → Asks bytes
      which (accepted j) e h = record { job = j; is = e; clause = some_clause bytes small j e }
      which (refused number offset) e h = absurd (answer (ap (λ z. get_or z 0 0) (words number offset h)))

  pub search_asks : (N : ℕ) (m m' : Lent) (ws : List ℕ) → ¬ (Refusal ws) → SearchedIn N bytes m ws m' → Asks bytes
  search_asks N m m' ws = asks (λ d. SearchIn N d m ws m') ws (λ number offset r. r.answer)

  pub replay_asks : (schedule ws : List ℕ) → ¬ (Refusal ws) → ReplayPromise bytes schedule ws → Asks bytes
  replay_asks schedule ws = asks (λ d. ReplayOf d schedule ws) ws (λ number offset r. r)

  pub fences_asks : (ws : List ℕ) → ¬ (Refusal ws) → FencePromise bytes ws → Asks bytes
  fences_asks ws = asks (λ d. FenceOf d ws) ws (λ number offset r. r)
