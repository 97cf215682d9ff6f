-- "The schedule's first d bytes hold the steps": so many bytes are there to be printed.
use Rattle.std.specs.Prelude.{◌≡◌, refl, List, ℕ, ◌≤◌, length, drop, Ok}
use Rattle.std.proofs.Common.{ap, subst, arith, length-append}
use Rattle.rules.specs.File.{Decoded, accepted, refused, decode}
use Rattle.lent.specs.Meaning.{Lent}
use Rattle.search.specs.Meaning.{words, slots_of, SearchOf, SearchPromise}
use Rattle.search.specs.declared.Answer.TheVariants.{Reachable}
use Rattle.together.specs.Answered.{reachable_words, found}
use Rattle.verdict.specs.declared.Verdict.{Verdict}
use Rattle.verdict.specs.Meaning.{VerdictPromise}
use Rattle.verdict.specs.Deciding.{first_word}

pub steps_there :
    (bytes : List ℕ) (m : Lent) (v : Verdict) (m' : Lent) → VerdictPromise bytes m v m' → (d n : ℕ) → v.search ≡ Ok (Reachable d n) →
    d ≤ length m'.schedule
unfolding first_word
steps_there bytes m v m' h d n e = which (decode bytes) refl
  where
    said : SearchPromise bytes m (reachable_words d n) m'
    said = subst (λ a. SearchPromise bytes m (words a) m') e h.searched

    which : (x : Decoded) → decode bytes ≡ x → d ≤ length m'.schedule
    which (accepted j) is =
        let f = found bytes j is (slots_of m) m m' d n said in
        let steps = f.outcome.schedule in
        let written = ap (λ z. length z.schedule) f.buffers in
        omega (arith, written, length-append steps (drop (length steps) m.schedule), f.means.first.has.steps)
    which (refused number offset) is =
        let k = subst (λ z. SearchOf z m (reachable_words d n) m') is said in
        absurd (let f : 1 ≡ 0 = ap first_word k.answer in omega arith)
