-- What a search answers, and what the three lent buffers then hold, for every input: 01, "Search" and "Refusal numbers and their order".
use Rattle.std.specs.Prelude.{◌≡◌, refl, List, [], ◌∷◌, ℕ, ◌/◌, min, length, get_or, Result, Ok, Err}
use Rattle.std.proofs.Common.{sym, ◌∙◌, ap}
use Rattle.reach.specs.Meaning.{reachable, unreachable, unknown}
use Rattle.reach.specs.Words.{refusal_words, answer_words}
use Rattle.lent.specs.Meaning.{Lent, slots_lent, IsRefused, AnsweredWith}
use Rattle.rules.specs.Limits.{slot_size, most_slots}
use Rattle.rules.specs.File.{Decoded, accepted, refused, decode}
use Rattle.rules.specs.Slot.{slot_bytes}
use Rattle.rules.specs.Machine.{machine}
use Rattle.search.specs.declared.Answer.{Answer}
use Rattle.search.specs.declared.Answer.TheVariants.{Reachable, Unreachable, Unknown}
use Rattle.readers.specs.Refusals.{number_of, refusal_by, refusal_numbered}
use Rattle.readers.specs.declared.faults.Fault.{Fault}

-- each case of the answer as four words: its number here, and its values as 01 names them
abbrev pub found_words : Answer → List ℕ
found_words (Reachable d states) = answer_words (reachable d states)
found_words (Unreachable states) = answer_words (unreachable states)
found_words (Unknown slots) = answer_words (unknown slots)

abbrev pub words : Result Answer Fault → List ℕ
words (Err f) = refusal_words (number_of f.refusal) f.offset
words (Ok a) = found_words a

-- "N is the smallest of table bytes / 152 rounded down, links, schedule bytes, and 65,536"
abbrev pub slots_of : Lent → ℕ
slots_of m = slots_lent slot_size most_slots m

-- an accepted job is searched in N slots, a refused one gives its refusal; both searches promise this, each with its own N
abbrev pub SearchIn : (N : ℕ) → Decoded → Lent → List ℕ → Lent → Type 0
SearchIn N (accepted j) m ws m' = AnsweredWith (machine j) slot_size slot_bytes N m ws m'
SearchIn N (refused number offset) m ws m' = IsRefused number offset m ws m'

abbrev pub SearchedIn : (N : ℕ) (bytes : List ℕ) → Lent → List ℕ → Lent → Type 0
SearchedIn N bytes m ws m' = SearchIn N (decode bytes) m ws m'

abbrev pub SearchOf : Decoded → Lent → List ℕ → Lent → Type 0
SearchOf d m ws m' = SearchIn (slots_of m) d m ws m'

-- the whole promise: job, buffers before, answer, buffers after
abbrev pub SearchPromise : List ℕ → Lent → List ℕ → Lent → Type 0
SearchPromise bytes m ws m' = SearchedIn (slots_of m) bytes m ws m'

-- "N is then also at most half that slice's length, rounded down"
abbrev pub slots_indexed : Lent → (index : List ℕ) → ℕ
slots_indexed m index = min (slots_of m) (length index / 2)

-- the whole promise of the search with an index: what the index holds afterwards is left open, "but a refusal leaves them unchanged"
pub record IndexedPromise (bytes : List ℕ) (m : Lent) (index : List ℕ) (ws : List ℕ) (m' : Lent) (index' : List ℕ) : Type 0 where
  pub searched : SearchedIn (slots_indexed m index) bytes m ws m'
  pub as_long : length index' ≡ length index
  pub unchanged : (number offset : ℕ) → ws ≡ refusal_words number offset → index' ≡ index

-- The words tell the answers apart: from the words back to the case.
case_of : List ℕ → Result Answer Fault
case_of ws =
    let x = get_or ws 1 0 in
    let y = get_or ws 2 0 in
    get_or (Err (record { refusal = refusal_by x; offset = y }) ∷ Ok (Reachable x y) ∷ Ok (Unreachable x) ∷ []) (get_or ws 0 0) (Ok (Unknown x))

case_back : (a : Result Answer Fault) → case_of (words a) ≡ a
unfolding case_of
case_back (Err f) = ap (λ r. Err (record { refusal = r; offset = f.offset })) (refusal_numbered f.refusal)
case_back (Ok (Reachable d states)) = refl
case_back (Ok (Unreachable states)) = refl
case_back (Ok (Unknown slots)) = refl

pub same_answer : (a b : Result Answer Fault) → words a ≡ words b → a ≡ b
same_answer a b e = sym (case_back a) ∙ ap case_of e ∙ case_back b
