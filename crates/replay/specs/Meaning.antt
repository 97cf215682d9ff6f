-- What a replay answers, for every input: 01, "Replay and fence check", and request 5.
use Rattle.std.specs.Prelude.{◌≡◌, refl, List, [], ◌∷◌, ℕ, get_or, Result, Ok, Err}
use Rattle.std.proofs.Common.{sym, ◌∙◌, ap, subst}
use Rattle.reach.specs.Replay as reach
use Rattle.reach.specs.ReplayLaws.{schedule_reaches}
use Rattle.reach.proofs.ReplayLaws.{one_replay}
use Rattle.reach.specs.Meaning.{IsReachable, Outcome}
use Rattle.reach.specs.Words.{refusal_words}
use Rattle.rules.specs.State.{State}
use Rattle.rules.specs.Job.{Job}
use Rattle.rules.specs.File.{Decoded, accepted, refused, decode}
use Rattle.rules.specs.Machine.{explained, machine}
use Rattle.rules.specs.Reasons.{number_of, by_number, numbered}
use Rattle.rules.specs.declared.Reason.{Reason}
use Rattle.rules.specs.declared.Reason.TheVariants.{NoSuchStep, ThreadEnded, BufferFull, BufferNotEmpty, NothingToFlush, NotTheOldest}
use Rattle.replay.specs.declared.Answer.{Answer}
use Rattle.replay.specs.declared.Answer.TheVariants.{Reaches, FallsShort, Stuck}
use Rattle.readers.specs.Refusals as refusals
use Rattle.readers.specs.declared.faults.Fault.{Fault}
use Rattle.readers.specs.declared.faults.Refusal.TheVariants.{ThreadBad}

-- each case of the answer with its number and values
abbrev pub replayed_words : reach.Replayed Reason → List ℕ
replayed_words reach.reaches = 1 ∷ 0 ∷ 0 ∷ 0 ∷ []
replayed_words reach.falls_short = 2 ∷ 0 ∷ 0 ∷ 0 ∷ []
replayed_words (reach.stuck i why) = 3 ∷ i ∷ number_of why ∷ 0 ∷ []

abbrev pub answer_words : Answer → List ℕ
answer_words Reaches = replayed_words reach.reaches
answer_words FallsShort = replayed_words reach.falls_short
answer_words (Stuck i why) = replayed_words (reach.stuck i why)

abbrev pub words : Result Answer Fault → List ℕ
words (Err f) = refusal_words (refusals.number_of f.refusal) f.offset
words (Ok a) = answer_words a

-- worked values of them
pub words_are :
    (words (Err (record { refusal = ThreadBad; offset = 10 })) ≡ 0 ∷ 4 ∷ 10 ∷ 0 ∷ [])
    × (words (Ok Reaches) ≡ 1 ∷ 0 ∷ 0 ∷ 0 ∷ [])
    × (words (Ok FallsShort) ≡ 2 ∷ 0 ∷ 0 ∷ 0 ∷ [])
    × (words (Ok (Stuck 7 NoSuchStep)) ≡ 3 ∷ 7 ∷ 1 ∷ 0 ∷ [])
    × (words (Ok (Stuck 7 ThreadEnded)) ≡ 3 ∷ 7 ∷ 2 ∷ 0 ∷ [])
    × (words (Ok (Stuck 7 BufferFull)) ≡ 3 ∷ 7 ∷ 3 ∷ 0 ∷ [])
    × (words (Ok (Stuck 7 BufferNotEmpty)) ≡ 3 ∷ 7 ∷ 4 ∷ 0 ∷ [])
    × (words (Ok (Stuck 7 NothingToFlush)) ≡ 3 ∷ 7 ∷ 5 ∷ 0 ∷ [])
    × (words (Ok (Stuck 7 NotTheOldest)) ≡ 3 ∷ 7 ∷ 6 ∷ 0 ∷ [])
words_are = (refl, refl, refl, refl, refl, refl, refl, refl, refl)

-- "stuck at i" and why, else "reaches" or "falls short" by the state at the end
pub record ReplayFor (j : Job) (schedule : List ℕ) (ws : List ℕ) : Type 0 where
  pub replayed : reach.Replayed Reason
  pub means : reach.ReplaysTo (explained j) schedule replayed
  pub answer : ws ≡ replayed_words replayed

-- "Replay and fence check refuse by 1 to 6."
abbrev pub ReplayOf : Decoded → List ℕ → List ℕ → Type 0
ReplayOf (accepted j) schedule ws = ReplayFor j schedule ws
ReplayOf (refused number offset) schedule ws = ws ≡ refusal_words number offset

-- the whole promise: job, schedule, answer
abbrev pub ReplayPromise : List ℕ → List ℕ → List ℕ → Type 0
ReplayPromise bytes schedule ws = ReplayOf (decode bytes) schedule ws

-- any two answers that the promise allows are equal
pub replay_once : (bytes schedule ws vs : List ℕ) → ReplayPromise bytes schedule ws → ReplayPromise bytes schedule vs → ws ≡ vs
replay_once bytes schedule ws vs h k = which (decode bytes) h k
  where
    which : (d : Decoded) → ReplayOf d schedule ws → ReplayOf d schedule vs → ws ≡ vs
    which (accepted j) h k =
        h.answer ∙ ap replayed_words (one_replay (explained j) schedule h.replayed k.replayed h.means k.means) ∙ sym k.answer
    which (refused number offset) h k = h ∙ sym k

-- the schedule that search gives replays to "reaches"
pub found_reaches :
    (bytes : List ℕ) (j : Job) → decode bytes ≡ accepted j → (N d n : ℕ) (o : Outcome State) → IsReachable (machine j) N d n o →
    (ws : List ℕ) → ReplayPromise bytes o.schedule ws → ws ≡ replayed_words reach.reaches
found_reaches bytes j e N d n o h ws r =
    replay_once bytes o.schedule ws (replayed_words reach.reaches) r
    (subst (λ z. ReplayOf z o.schedule (replayed_words reach.reaches)) (sym e)
    (record { replayed = reach.reaches; means = schedule_reaches (explained j) N d n o h; answer = refl }))

-- The words tell the answers apart: from the words back to the case.
case_of : List ℕ → Result Answer Fault
case_of ws =
    let x = get_or ws 1 0 in
    let y = get_or ws 2 0 in
    get_or (Err (record { refusal = refusals.refusal_by x; offset = y }) ∷ Ok Reaches ∷ Ok FallsShort ∷ []) (get_or ws 0 0) (Ok (Stuck x (by_number y)))

case_back : (a : Result Answer Fault) → case_of (words a) ≡ a
unfolding case_of
case_back (Err f) = ap (λ r. Err (record { refusal = r; offset = f.offset })) (refusals.refusal_numbered f.refusal)
case_back (Ok Reaches) = refl
case_back (Ok FallsShort) = refl
case_back (Ok (Stuck i why)) = ap (λ r. Ok (Stuck i r)) (numbered why)

pub same_answer : (a b : Result Answer Fault) → words a ≡ words b → a ≡ b
same_answer a b e = sym (case_back a) ∙ ap case_of e ∙ case_back b
