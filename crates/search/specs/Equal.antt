-- Request 6: "Answers, slots, links and schedule are equal to the plain search's at the same N." Of any two outcomes that the two promises allow.
use Rattle.std.specs.Prelude.{◌≡◌, List, ℕ, zero, suc, ◌/◌, ◌≤◌, length}
use Rattle.std.proofs.Common.{sym, ◌∙◌, ap, subst, arith}
use Rattle.reach.specs.Meaning.{Outcome, Means}
use Rattle.reach.proofs.Unique.{one_outcome}
use Rattle.reach.specs.Words.{answer_words}
use Rattle.lent.specs.Meaning.{Lent, filled}
use Rattle.rules.specs.Limits.{slot_size}
use Rattle.rules.specs.State.{State}
use Rattle.rules.specs.Job.{Job}
use Rattle.rules.specs.File.{Decoded, accepted, refused, decode}
use Rattle.rules.specs.Slot.{slot_bytes}
use Rattle.rules.specs.Machine.{machine}
use Rattle.rules.specs.Same.{searchable}
use Rattle.search.specs.Meaning.{slots_of, slots_indexed, SearchIn, SearchedIn, SearchPromise, IndexedPromise}
use Rattle.search.specs.Unique.{Same, search_once_in}

-- the same slots, links and schedule, those of the answer, were written over the fronts of the buffers that were lent to the one and to the other
pub record SameWritten (N : ℕ) (j : Job) (ws : List ℕ) (m m' n n' : Lent) : Type 0 where
  pub outcome : Outcome State
  pub means : Means (machine j) N outcome
  pub answer : ws ≡ answer_words outcome.answer
  pub one : m' ≡ filled (machine j) slot_size slot_bytes outcome m
  pub other : n' ≡ filled (machine j) slot_size slot_bytes outcome n

-- nothing was written to either
pub record NoneWritten (m m' n n' : Lent) : Type 0 where
  pub one : m' ≡ m
  pub other : n' ≡ n

-- a refusal, or no slot, writes nowhere
abbrev pub AlikeIn : (N : ℕ) → Decoded → (ws : List ℕ) (m m' n n' : Lent) → Type 0
AlikeIn zero (accepted j) ws m m' n n' = NoneWritten m m' n n'
AlikeIn (suc k) (accepted j) ws m m' n n' = SameWritten (suc k) j ws m m' n n'
AlikeIn N (refused number offset) ws m m' n n' = NoneWritten m m' n n'

pub record Equal (N : ℕ) (d : Decoded) (m : Lent) (ws : List ℕ) (m' n : Lent) (vs : List ℕ) (n' : Lent) : Type 0 where
  pub answer : ws ≡ vs
  pub written : AlikeIn N d ws m m' n n'

module _ (m : Lent) (ws : List ℕ) (m' n : Lent) (vs : List ℕ) (n' : Lent) where
  -- two searches of one job in N slots, each in memory of its own
  pub equal_in : (N : ℕ) (d : Decoded) → SearchIn N d m ws m' → SearchIn N d n vs n' → Equal N d m ws m' n vs n'
  equal_in zero (accepted j) h k = record { answer = h.answer ∙ sym k.answer; written = record { one = h.untouched; other = k.untouched } }
  equal_in (suc b) (accepted j) h k =
      let e = one_outcome (searchable j) (suc b) h.outcome k.outcome h.means k.means in
      record {
        answer = h.answer ∙ ap (λ o. answer_words o.answer) e ∙ sym k.answer;
        written =
            record {
              outcome = h.outcome;
              means = h.means;
              answer = h.answer;
              one = h.buffers;
              other = k.buffers ∙ ap (λ o. filled (machine j) slot_size slot_bytes o n) (sym e);
            };
      }
  equal_in zero (refused number offset) h k = record { answer = h.answer ∙ sym k.answer; written = record { one = h.untouched; other = k.untouched } }
  equal_in (suc b) (refused number offset) h k = record { answer = h.answer ∙ sym k.answer; written = record { one = h.untouched; other = k.untouched } }

-- in the same memory, with an index of at least two numbers for each slot: every byte of it
pub byte_for_byte :
    (m : Lent) (ws vs : List ℕ) (m' n' : Lent) (bytes index index' : List ℕ) → slots_of m ≤ length index / 2 →
    IndexedPromise bytes m index ws m' index' → SearchPromise bytes m vs n' → Same ws vs m' n'
byte_for_byte m ws vs m' n' bytes index index' enough h k =
    let all : slots_indexed m index ≡ slots_of m = omega (arith, enough) in
    search_once_in m ws vs m' n' (slots_of m) (decode bytes) (subst (λ N. SearchedIn N bytes m ws m') all h.searched) k
