-- From the four words that a search or a fence check answers back to what they mean.
use Rattle.std.specs.Prelude.{◌≡◌, refl, ◌↔◌, List, get_or}
use Rattle.std.proofs.Common.{sym, ◌∙◌, arith}
use Rattle.std.proofs.Math.Path.{ap, subst}
use Prim.Native.Nat.{ℕ, zero, suc}
use Rattle.reach.specs.System.{System}
use Rattle.reach.specs.Meaning.{Answer, reachable, unreachable, unknown, Outcome, MeansAt, IsReachable, IsUnreachable, Outnumber}
use Rattle.reach.specs.Words.{answer_words}
use Rattle.reach.proofs.Promise as reach_promise
use Rattle.rules.specs.State.{State}
use Rattle.rules.specs.Job.{Job}
use Rattle.rules.specs.File.{accepted, decode}
use Rattle.rules.specs.Limits.{slot_size}
use Rattle.rules.specs.Slot.{slot_bytes}
use Rattle.rules.specs.Machine.{machine}
use Rattle.rules.specs.Same.{searchable}
use Rattle.rules.specs.Fences.{Checked, fenced, open_at, ChecksTo}
use Rattle.rules.specs.DeadCode as dead_code
use Rattle.fences.specs.Meaning as fences
use Rattle.lent.specs.Meaning.{Lent, filled, AnsweredWith}
use Rattle.search.specs.Meaning.{SearchIn, SearchedIn}

abbrev pub reachable_words : (d states : ℕ) → List ℕ
reachable_words d states = answer_words (reachable d states)

abbrev pub unreachable_words : (states : ℕ) → List ℕ
unreachable_words states = answer_words (unreachable states)

-- the n-th word
word : ℕ → List ℕ → ℕ
word i ws = get_or ws i 0

module _ (S : System) (N : ℕ) (o : Outcome S.State) where
  reachable_of : (d n : ℕ) (a : Answer) → MeansAt S N a o → reachable_words d n ≡ answer_words a → IsReachable S N d n o
  unfolding word
  reachable_of d n (reachable d' n') h e =
      subst (λ k. IsReachable S N k n o) (sym (ap (word 1) e)) (subst (λ k. IsReachable S N d' k o) (sym (ap (word 2) e)) h)
  reachable_of d n (unreachable k) h e = absurd (let f : 1 ≡ 2 = ap (word 0) e in omega arith)
  reachable_of d n (unknown k) h e = absurd (let f : 1 ≡ 3 = ap (word 0) e in omega arith)

  unreachable_of : (n : ℕ) (a : Answer) → MeansAt S N a o → unreachable_words n ≡ answer_words a → IsUnreachable S N n o
  unfolding word
  unreachable_of n (reachable d k) h e = absurd (let f : 2 ≡ 1 = ap (word 0) e in omega arith)
  unreachable_of n (unreachable n') h e = subst (λ k. IsUnreachable S N k o) (sym (ap (word 1) e)) h
  unreachable_of n (unknown k) h e = absurd (let f : 2 ≡ 3 = ap (word 0) e in omega arith)

-- what "reachable" says of an accepted job, whatever was lent
pub record FoundIn (j : Job) (d n : ℕ) (m m' : Lent) : Type 0 where
  pub slots : ℕ
  pub outcome : Outcome State
  pub means : IsReachable (machine j) slots d n outcome
  pub buffers : m' ≡ filled (machine j) slot_size slot_bytes outcome m

-- what "unreachable" says
pub record RuledOutIn (j : Job) (n : ℕ) : Type 0 where
  pub slots : ℕ
  pub outcome : Outcome State
  pub means : IsUnreachable (machine j) slots n outcome

-- the search of a job with N slots
abbrev Answers : Job → ℕ → Lent → List ℕ → Lent → Type 0
Answers j N m ws m' = AnsweredWith (machine j) slot_size slot_bytes N m ws m'

-- with any number of slots, so of a search with an index as of one without
module _ (bytes : List ℕ) (j : Job) (is : decode bytes ≡ accepted j) (N : ℕ) (m m' : Lent) where
  pub found : (d n : ℕ) → SearchedIn N bytes m (reachable_words d n) m' → FoundIn j d n m m'
  unfolding word
  found d n h = which N (subst (λ r. SearchIn N r m (reachable_words d n) m') is h)
    where
      which : (N : ℕ) → Answers j N m (reachable_words d n) m' → FoundIn j d n m m'
      which zero k = absurd (let f : 1 ≡ 0 = ap (word 0) k.answer in omega arith)
      which (suc N) k =
          record {
            slots = suc N;
            outcome = k.outcome;
            means = reachable_of (machine j) (suc N) k.outcome d n k.outcome.answer k.means k.answer;
            buffers = k.buffers;
          }

  pub ruled_out : (n : ℕ) → SearchedIn N bytes m (unreachable_words n) m' → RuledOutIn j n
  unfolding word
  ruled_out n h = which N (subst (λ r. SearchIn N r m (unreachable_words n) m') is h)
    where
      which : (N : ℕ) → Answers j N m (unreachable_words n) m' → RuledOutIn j n
      which zero k = absurd (let f : 2 ≡ 0 = ap (word 0) k.answer in omega arith)
      which (suc N) k =
          record {
            slots = suc N;
            outcome = k.outcome;
            means = unreachable_of (machine j) (suc N) k.outcome n k.outcome.answer k.means k.answer;
          }

-- "Unknown" is answered exactly when the states up to the goal's distance, or all states if no goal can be reached, outnumber the slots
module _ (bytes : List ℕ) (j : Job) (is : decode bytes ≡ accepted j) (m m' : Lent) (ws : List ℕ) (N : ℕ) where
  unknown_of : (a : Answer) → answer_words a ≡ answer_words (unknown (suc N)) → a ≡ unknown (suc N)
  unfolding word
  unknown_of (reachable d n) e = absurd (let f : 1 ≡ 3 = ap (word 0) e in omega arith)
  unknown_of (unreachable n) e = absurd (let f : 2 ≡ 3 = ap (word 0) e in omega arith)
  unknown_of (unknown n) e = ap {B = Answer} unknown (ap (word 1) e)

  pub unknown_exactly : SearchedIn (suc N) bytes m ws m' → (ws ≡ answer_words (unknown (suc N))) ↔ Outnumber (machine j) (suc N)
  unknown_exactly h =
      let k : Answers j (suc N) m ws m' = subst (λ r. SearchIn (suc N) r m ws m') is h in
      let exactly = reach_promise.unknown_exactly (searchable j) (suc N) k.outcome k.means in
      (λ e. exactly.0 (unknown_of k.outcome.answer (sym k.answer ∙ e)), λ o. k.answer ∙ ap answer_words (exactly.1 o))

abbrev pub fenced_words : List ℕ
fenced_words = fences.checked_words fenced

-- what "FENCED" says of an accepted job
pub passed : (bytes : List ℕ) (j : Job) → decode bytes ≡ accepted j → fences.FencePromise bytes fenced_words → ChecksTo j.threads fenced
unfolding word
passed bytes j is h = let k = subst (λ r. fences.FenceOf r fenced_words) is h in which k.checked k.means k.answer
  where
    which : (a : Checked) → ChecksTo j.threads a → fenced_words ≡ fences.checked_words a → ChecksTo j.threads fenced
    which fenced m e = m
    which (open_at t s l) m e = absurd (let f : 1 ≡ 2 = ap (word 0) e in omega arith)

-- a file that 01 alone passed is still answered FENCED
pub passed_still : (bytes : List ℕ) (j : Job) → decode bytes ≡ accepted j → dead_code.PassedBefore j.threads
    → (ws : List ℕ) → fences.FencePromise bytes ws → ws ≡ fenced_words
passed_still bytes j is before ws h =
    fences.fences_once bytes ws fenced_words h
    (fences.fences_accepted bytes fenced_words j is
    (record { checked = fenced; means = dead_code.passed_still j.threads before; answer = refl }))
