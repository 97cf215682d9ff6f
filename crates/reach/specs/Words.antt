-- An answer as four words: the number of its case, and its values.
use Rattle.std.specs.Prelude.{List, [], ◌∷◌, ℕ}
use Rattle.reach.specs.Meaning.{Answer, reachable, unreachable, unknown}

-- a refusal's number and offset, of every public job
abbrev pub refusal_words : (number offset : ℕ) → List ℕ
refusal_words number offset = 0 ∷ number ∷ offset ∷ 0 ∷ []

-- what a search answers
abbrev pub answer_words : Answer → List ℕ
answer_words (reachable d states) = 1 ∷ d ∷ states ∷ 0 ∷ []
answer_words (unreachable states) = 2 ∷ states ∷ 0 ∷ 0 ∷ []
answer_words (unknown slots) = 3 ∷ slots ∷ 0 ∷ 0 ∷ []
