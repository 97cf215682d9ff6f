-- What a search in lent memory answers, and what the three lent buffers then hold: 01, "Search", over any system and any bytes of its states.
use Rattle.std.specs.Prelude.{◌≡◌, List, ◌++◌, ℕ, zero, suc, ◌*◌, ◌/◌, min, length, drop}
use Rattle.reach.specs.System.{System}
use Rattle.reach.specs.Meaning as reach
use Rattle.reach.specs.Meaning.{slots_bytes}
use Rattle.reach.specs.Words.{refusal_words, answer_words}

-- the three lent buffers: table bytes, links, schedule bytes
pub record Lent : Type 0 where
  pub table : List ℕ
  pub links : List ℕ
  pub schedule : List ℕ

-- "N is the smallest of table bytes / 152 rounded down, links, schedule bytes, and 65,536", for a slot of `size` bytes
unfoldable pub slots_lent : (size most : ℕ) → Lent → ℕ
slots_lent size most m = min (length m.table / size) (min (length m.links) (min (length m.schedule) most))

-- "A refusal returns number and offset, and writes nowhere."
pub record IsRefused (number offset : ℕ) (m : Lent) (ws : List ℕ) (m' : Lent) : Type 0 where
  pub answer : ws ≡ refusal_words number offset
  pub untouched : m' ≡ m

module _ (S : System) (size : ℕ) (bytes : S.State → List ℕ) where
  -- "All later slots, links and schedule bytes, and the whole schedule unless reachable, keep their contents."
  abbrev pub filled : reach.Outcome S.State → Lent → Lent
  filled o m =
      record {
        table = slots_bytes bytes o.slots ++ drop (size * length o.slots) m.table;
        links = o.links ++ drop (length o.links) m.links;
        schedule = o.schedule ++ drop (length o.schedule) m.schedule;
      }

  -- the answer and the buffers are what the search of the system with N slots means
  pub record IsAnswered (N : ℕ) (m : Lent) (ws : List ℕ) (m' : Lent) : Type 0 where
    pub outcome : reach.Outcome S.State
    pub means : reach.Means S N outcome
    pub answer : ws ≡ answer_words outcome.answer
    pub buffers : m' ≡ filled outcome m

  -- "7: search only: no slot", "7 last"
  abbrev pub AnsweredWith : (N : ℕ) → Lent → List ℕ → Lent → Type 0
  AnsweredWith zero m ws m' = IsRefused 7 0 m ws m'
  AnsweredWith (suc n) m ws m' = IsAnswered (suc n) m ws m'
