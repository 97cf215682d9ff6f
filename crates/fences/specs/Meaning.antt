-- What a fence check answers, for every input: 01, "Replay and fence check", and 02, request 4.
use Rattle.std.specs.Prelude.{◌≡◌, refl, List, [], ◌∷◌, ℕ, get_or, Result, Ok, Err}
use Rattle.std.proofs.Common.{sym, ◌∙◌, ap, subst}
use Rattle.reach.specs.Words.{refusal_words}
use Rattle.rules.specs.Job.{Job}
use Rattle.rules.specs.File.{Decoded, accepted, refused, decode}
use Rattle.rules.specs.Fences as rules
use Rattle.rules.specs.FenceCheck.{one_fence_answer}
use Rattle.rules.specs.declared.Instr.{Instr}
use Rattle.fences.specs.declared.Answer.{Answer}
use Rattle.fences.specs.declared.Answer.TheVariants.{Fenced, Open}
use Rattle.readers.specs.Refusals.{number_of, refusal_by, refusal_numbered}
use Rattle.readers.specs.declared.faults.Fault.{Fault}
use Rattle.readers.specs.declared.faults.Refusal.TheVariants.{ThreadBad}

-- each case of the answer with its number and values
abbrev pub checked_words : rules.Checked → List ℕ
checked_words rules.fenced = 1 ∷ 0 ∷ 0 ∷ 0 ∷ []
checked_words (rules.open_at t s l) = 2 ∷ t ∷ s ∷ l ∷ []

abbrev pub answer_words : Answer → List ℕ
answer_words Fenced = checked_words rules.fenced
answer_words (Open t s l) = checked_words (rules.open_at t s l)

abbrev pub words : Result Answer Fault → List ℕ
words (Err f) = refusal_words (number_of f.refusal) f.offset
words (Ok a) = answer_words a

-- worked values of them
pub words_are :
    (words (Err (record { refusal = ThreadBad; offset = 10 })) ≡ 0 ∷ 4 ∷ 10 ∷ 0 ∷ [])
    × (words (Ok Fenced) ≡ 1 ∷ 0 ∷ 0 ∷ 0 ∷ [])
    × (words (Ok (Open 3 0 1)) ≡ 2 ∷ 3 ∷ 0 ∷ 1 ∷ [])
words_are = (refl, refl, refl)

-- "The answer is FENCED, or OPEN with the least (thread, store, load)." It is of the threads alone.
pub record FenceFor (threads : List (List Instr)) (ws : List ℕ) : Type 0 where
  pub checked : rules.Checked
  pub means : rules.ChecksTo threads checked
  pub answer : ws ≡ checked_words checked

-- "Replay and fence check refuse by 1 to 6."
abbrev pub FenceOf : Decoded → List ℕ → Type 0
FenceOf (accepted j) ws = FenceFor j.threads ws
FenceOf (refused number offset) ws = ws ≡ refusal_words number offset

-- the whole promise: job, answer
abbrev pub FencePromise : List ℕ → List ℕ → Type 0
FencePromise bytes ws = FenceOf (decode bytes) ws

-- any two answers that the promise allows are equal
pub fences_once : (bytes ws vs : List ℕ) → FencePromise bytes ws → FencePromise bytes vs → ws ≡ vs
fences_once bytes ws vs h k = which (decode bytes) h k
  where
    which : (d : Decoded) → FenceOf d ws → FenceOf d vs → ws ≡ vs
    which (accepted j) h k =
        h.answer ∙ ap checked_words (one_fence_answer j.threads h.checked k.checked h.means k.means) ∙ sym k.answer
    which (refused number offset) h k = h ∙ sym k

pub fences_accepted : (bytes ws : List ℕ) (j : Job) → decode bytes ≡ accepted j → FenceFor j.threads ws → FencePromise bytes ws
fences_accepted bytes ws j e = subst (λ d. FenceOf d ws) (sym e)

pub fences_refused : (bytes : List ℕ) (number offset : ℕ) → decode bytes ≡ refused number offset → FencePromise bytes (refusal_words number offset)
fences_refused bytes number offset e = subst (λ d. FenceOf d (refusal_words number offset)) (sym e) refl

-- The words tell the answers apart: from the words back to the case.
case_of : List ℕ → Result Answer Fault
case_of ws =
    let x = get_or ws 1 0 in
    let y = get_or ws 2 0 in
    get_or (Err (record { refusal = refusal_by x; offset = y }) ∷ Ok Fenced ∷ []) (get_or ws 0 0) (Ok (Open x y (get_or ws 3 0)))

case_back : (a : Result Answer Fault) → case_of (words a) ≡ a
unfolding case_of
case_back (Err f) = ap (λ r. Err (record { refusal = r; offset = f.offset })) (refusal_numbered f.refusal)
case_back (Ok Fenced) = refl
case_back (Ok (Open t s l)) = refl

pub same_answer : (a b : Result Answer Fault) → words a ≡ words b → a ≡ b
same_answer a b e = sym (case_back a) ∙ ap case_of e ∙ case_back b
