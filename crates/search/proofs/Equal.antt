-- Request 6: "Answers, slots, links and schedule are equal to the plain search's at the same N." Of any two outcomes that the two promises allow.
use Rattle.std.specs.Prelude.{◌≡◌, List, ℕ}
use Rattle.std.proofs.Common.{subst}
use Rattle.lent.specs.Meaning.{Lent}
use Rattle.rules.specs.File.{decode}
use Rattle.search.specs.Meaning.{slots_of, slots_indexed, SearchedIn, SearchPromise, IndexedPromise}
use Rattle.search.specs.Equal.{Equal, equal_in}

module _ (m : Lent) (ws : List ℕ) (m' n : Lent) (vs : List ℕ) (n' : Lent) where
  -- the search with an index and the plain one, where the memory that is lent to each makes up the same N
  pub equal_to_plain :
      (bytes index index' : List ℕ) → slots_indexed m index ≡ slots_of n → IndexedPromise bytes m index ws m' index' → SearchPromise bytes n vs n' →
      Equal (slots_of n) (decode bytes) m ws m' n vs n'
  equal_to_plain bytes index index' same h k =
      equal_in m ws m' n vs n' (slots_of n) (decode bytes) (subst (λ N. SearchedIn N bytes m ws m') same h.searched) k
