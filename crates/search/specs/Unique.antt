-- Any two outcomes that the promise of search allows are equal: answer and all three buffers.
use Rattle.std.specs.Prelude.{◌≡◌, refl, List, ℕ, zero, suc, ◌/◌, min, length}
use Rattle.std.proofs.Common.{sym, ◌∙◌, ap, subst}
use Rattle.reach.specs.Searchable.{Searchable}
use Rattle.reach.proofs.Unique.{one_outcome}
use Rattle.reach.specs.Words.{refusal_words, answer_words}
use Rattle.lent.specs.Meaning.{Lent, filled, IsRefused, AnsweredWith}
use Rattle.rules.specs.Limits.{slot_size}
use Rattle.rules.specs.File.{Decoded, accepted, refused, decode}
use Rattle.rules.specs.Slot.{slot_bytes}
use Rattle.rules.specs.Same.{searchable}
use Rattle.search.specs.Meaning.{slots_of, slots_indexed, SearchIn, SearchedIn, SearchPromise, IndexedPromise}

pub record Same (ws vs : List ℕ) (m n : Lent) : Type 0 where
  pub answer : ws ≡ vs
  pub buffers : m ≡ n

module _ (m : Lent) (ws vs : List ℕ) (m' n' : Lent) where
  refused_once : (number offset : ℕ) → IsRefused number offset m ws m' → IsRefused number offset m vs n' → Same ws vs m' n'
  refused_once number offset h k =
      record { answer = h.answer ∙ sym k.answer; buffers = h.untouched ∙ sym k.untouched }

  -- of any system that can be searched, in slots of any size
  answered_once :
      (E : Searchable) (size : ℕ) (bytes : E.system.State → List ℕ) (N : ℕ) →
      AnsweredWith E.system size bytes N m ws m' → AnsweredWith E.system size bytes N m vs n' → Same ws vs m' n'
  answered_once E size bytes zero h k = refused_once 7 0 h k
  answered_once E size bytes (suc n) h k =
      let e = one_outcome E (suc n) h.outcome k.outcome h.means k.means in
      record {
        answer = h.answer ∙ ap (λ o. answer_words o.answer) e ∙ sym k.answer;
        buffers = h.buffers ∙ ap (λ o. filled E.system size bytes o m) e ∙ sym k.buffers;
      }

  pub search_once_in : (N : ℕ) (d : Decoded) → SearchIn N d m ws m' → SearchIn N d m vs n' → Same ws vs m' n'
  search_once_in N (accepted j) h k = answered_once (searchable j) slot_size slot_bytes N h k
  search_once_in N (refused number offset) h k = record { answer = h.answer ∙ sym k.answer; buffers = h.untouched ∙ sym k.untouched }

  pub search_once : (bytes : List ℕ) → SearchPromise bytes m ws m' → SearchPromise bytes m vs n' → Same ws vs m' n'
  search_once bytes h k = search_once_in (slots_of m) (decode bytes) h k

  -- with an index likewise, whatever it holds at the start
  pub indexed_once :
      (bytes index other i' o' : List ℕ) → length other ≡ length index →
      IndexedPromise bytes m index ws m' i' → IndexedPromise bytes m other vs n' o' → Same ws vs m' n'
  indexed_once bytes index other i' o' long h k =
      search_once_in (slots_indexed m index) (decode bytes) h.searched
      (subst (λ n. SearchedIn (min (slots_of m) (n / 2)) bytes m vs n') long k.searched)

  -- so only what the index holds after an answer is left open: after a refusal it is one and the same, too
  pub index_once :
      (bytes index i' o' : List ℕ) (number offset : ℕ) → ws ≡ refusal_words number offset →
      IndexedPromise bytes m index ws m' i' → IndexedPromise bytes m index vs n' o' → i' ≡ o'
  index_once bytes index i' o' number offset is h k =
      let same = indexed_once bytes index index i' o' refl h k in
      h.unchanged number offset is ∙ sym (k.unchanged number offset (sym same.answer ∙ is))
