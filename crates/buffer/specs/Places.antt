-- Pending stores by index: where one is found, and where one goes in or out.
use Rattle.std.specs.Prelude.{Bool, not, cond, ◌&&◌, List, [], ◌∷◌, ◌++◌, ℕ, suc, ◌+◌, ◌*◌, ◌-◌, eqb, length, get_or, set, take, drop, replicate}
use Rattle.rules.specs.Limits.{most_pending, entry_size}
use Rattle.rules.specs.State.{Pending}
use Rattle.rules.specs.Step.{stands_before}
use Rattle.words.specs.Words.{word}
use Rattle.buffer.specs.Held.{entry}

-- an unused entry
abbrev pub no_entry : Pending
no_entry = record { group = 0; variable = 0; value = 0 }

-- the entry at an index of the bytes, and the bytes with an entry written there
abbrev pub entry_at : List ℕ → ℕ → Pending
entry_at s i = entry (get_or s (entry_size * i) 0) (word (get_or s (entry_size * i + 1) 0) (get_or s (entry_size * i + 2) 0))

abbrev pub set_entry : List ℕ → (i byte high low : ℕ) → List ℕ
set_entry s i byte high low = set (set (set s (entry_size * i) byte) (entry_size * i + 1) high) (entry_size * i + 2) low

-- pending stores and unused entries, together as many as there is room for
abbrev pub padded : List Pending → List Pending
padded l = l ++ replicate (most_pending - length l) no_entry

-- the index of the first that passes the test, or the length
unfoldable pub first : {A : Type 0} → (A → Bool) → List A → ℕ
first f [] = 0
first f (x ∷ l) = cond (f x) 0 (suc (first f l))

-- whether a store is to v; whether it is one of the oldest group to v; whether it stands behind where q goes in
abbrev pub is_to : ℕ → Pending → Bool
is_to v p = eqb p.variable v

abbrev pub is_next_to : ℕ → Pending → Bool
is_next_to v p = eqb p.group 0 && eqb p.variable v

abbrev pub is_after : Pending → Pending → Bool
is_after q p = not (stands_before p q)

-- the list with x put in at index i, and the list without what stands there
abbrev pub with_at : {A : Type 0} → ℕ → A → List A → List A
with_at i x l = take i l ++ x ∷ drop i l

abbrev pub without_at : {A : Type 0} → ℕ → List A → List A
without_at i l = take i l ++ drop (suc i) l
