-- A buffer's pending stores are read one by one by their index.
use Rattle.std.proofs.Common.{◌≡◌, refl, sym, ap, subst, ◌∙◌, arith, Bool, true, false, not, cond, ltb, List, [], ◌∷◌, ℕ, zero, suc, ◌+◌, ◌-◌, ◌≤◌, ◌<◌, length, get_or, take, Option, Some, None, MatchOption, is_some, IfSome}
use Rattle.std.specs.Option.{unwrap_or}
use Rattle.std.proofs.lemmas.List.{take_all}
use Rattle.std.specs.List.{position, position_or_len}
use Rattle.std.proofs.lemmas.Bool.{lt-ltb, le-ltb, ltb-true, ltb-false}
use Rattle.std.proofs.lemmas.List.Sums.{position_or_len_is}
use Rattle.rules.specs.State.{Pending}
use Rattle.rules.specs.Step.{newest, is_oldest_to}
use Rattle.buffer.specs.Held.{entry, number, held_pending, BufferOk}
use Rattle.buffer.specs.HeldLaws.{held_number, held_at}
use Rattle.buffer.specs.Places.{no_entry, entry_at, first, is_to}
use Rattle.buffer.specs.Posts.{read_entry, Fails, IsPosition}
use Rattle.buffer.specs.declared.Buf.{Buf}
use Rattle.buffer.specs.declared.Entry.{Entry}
use Rattle.buffer.proofs.PlaceLaws.{first_within}

-- from index i on no pending store is to v: those before it decide
abbrev pub Unseen : (v memory : ℕ) → Buf → ℕ → Type 0
Unseen v memory b i = newest v memory (take i (held_pending b)) ≡ newest v memory (held_pending b)

-- the index of the first that passes is that of the library's search
pub first_is : {A : Type 0} (f : A → Bool) (l : List A) → first f l ≡ position_or_len f l
unfolding first
first_is f [] = refl
first_is f (x ∷ l) = either (f x) (first_is f l)
  where
    either : (t : Bool) → first f l ≡ position_or_len f l → cond t 0 (suc (first f l)) ≡ cond (not t) (1 + position_or_len f l) 0
    either true e = refl
    either false e = omega (arith, e)

-- what an index that is found says of the first, and what it says where none is found
abbrev pub AtFirst : ℕ → ℕ → Option ℕ → Type 0
AtFirst n i r = MatchOption r (i ≡ n) (λ k. (k ≡ i) × (k < n))

pub at_first : {A : Type 0} (f : A → Bool) (l : List A) (r : Option ℕ) → r ≡ position f l → AtFirst (length l) (first f l) r
at_first f l r e = subst (AtFirst (length l) (first f l)) (sym e) (which (ltb (position_or_len f l) (length l)) refl)
  where
    which : (t : Bool) → ltb (position_or_len f l) (length l) ≡ t → AtFirst (length l) (first f l) (cond t (Some (position_or_len f l)) None)
    which true h = (sym (first_is f l), ltb-true _ _ h)
    which false h = omega (arith, ltb-false _ _ h, first_is f l, first_within f l)

-- one is found where the first that passes is before the end
pub found_within : {A : Type 0} (f : A → Bool) (l : List A) (r : Option ℕ) → r ≡ position f l → is_some r ≡ ltb (first f l) (length l)
found_within f l r e = ap is_some e ∙ which (ltb (position_or_len f l) (length l)) ∙ ap (λ i. ltb i (length l)) (sym (first_is f l))
  where
    which : (t : Bool) → is_some (cond t (Some (position_or_len f l)) None) ≡ t
    which true = refl
    which false = refl

-- its index, or how many there are
pub found_or : {A : Type 0} (f : A → Bool) (l : List A) (r : Option ℕ) (n : ℕ) → r ≡ position f l → length l ≡ n → unwrap_or r n ≡ first f l
found_or f l r n e is = which r (at_first f l r e)
  where
    which : (r : Option ℕ) → AtFirst (length l) (first f l) r → unwrap_or r n ≡ first f l
    which None h = sym (h ∙ is)
    which (Some i) h = h.0

-- the other way round
position_at : {A : Type 0} (f : A → Bool) (l : List A) (i : ℕ) → position_or_len f l ≡ i → i < length l → Some i ≡ position f l
position_at f l i e h = rw (e, lt-ltb i (length l) h)

position_none : {A : Type 0} (f : A → Bool) (l : List A) → position_or_len f l ≡ length l → None ≡ position f l
position_none f l e = rw (e, le-ltb (length l) (length l) (omega arith))

pub found_pending : (b : Buf) (post : Entry → Bool → Type 0) (r : Option ℕ) → IsPosition post b r → IfSome r (λ i. i < number b)
found_pending b post r h = which r h.is
  where
    which :
        (r : Option ℕ) → MatchOption r (Fails post b (number b)) (λ i. (i < number b) × post (read_entry b.slots i) true × Fails post b i) →
        IfSome r (λ i. i < number b)
    which None h = tt
    which (Some i) h = h.0

module _ (v memory : ℕ) where
  -- the newest of one more store
  newest_next : (l : List Pending) (m i : ℕ) → i < length l
      → newest v m (take (suc i) l) ≡ cond (is_to v (get_or l i no_entry)) (get_or l i no_entry).value (newest v m (take i l))
  unfolding newest
  newest_next [] m i h = absurd (omega arith)
  newest_next (p ∷ l) m zero h = refl
  newest_next (p ∷ l) m (suc i) h = newest_next l (cond (is_to v p) p.value m) i (omega arith)

module _ (b : Buf) (ok : BufferOk b) where
  -- the oldest store is the entry at index 0, if there is one
  pub oldest_first : (v : ℕ) → 0 < number b → is_to v (entry_at b.slots 0) ≡ is_oldest_to v (held_pending b)
  unfolding is_oldest_to
  oldest_first v h = which (held_pending b) (held_number b ok) (held_at b ok 0 h)
    where
      which : (l : List Pending) → length l ≡ number b → get_or l 0 no_entry ≡ entry_at b.slots 0 → is_to v (entry_at b.slots 0) ≡ is_oldest_to v l
      which [] is oldest = absurd (omega arith)
      which (p ∷ l) is oldest = ap (is_to v) (sym oldest)

  pub none_oldest : (v : ℕ) → number b ≡ 0 → false ≡ is_oldest_to v (held_pending b)
  unfolding is_oldest_to
  none_oldest v h = which (held_pending b) (held_number b ok)
    where
      which : (l : List Pending) → length l ≡ number b → false ≡ is_oldest_to v l
      which [] is = refl
      which (p ∷ l) is = absurd (omega arith)

  -- where the test says what f does, its index is that of f
  pub found :
      (f : Pending → Bool) (post : Entry → Bool → Type 0) (r : Option ℕ) → IsPosition post b r →
      ((e : Entry) (t : Bool) → post e t → f (entry e.byte e.value) ≡ t) → r ≡ position f (held_pending b)
  found f post r h says = which r h.is
    where
      is : (i : ℕ) → i < number b → (t : Bool) → post (read_entry b.slots i) t → f (get_or (held_pending b) i no_entry) ≡ t
      is i h t p = ap f (held_at b ok i h) ∙ says _ t p

      which : (r : Option ℕ) → MatchOption r (Fails post b (number b)) (λ i. (i < number b) × post (read_entry b.slots i) true × Fails post b i) → r ≡ position f (held_pending b)
      which None h =
          let n = held_number b ok in
          position_none f (held_pending b)
          (position_or_len_is f (held_pending b) (length (held_pending b)) no_entry (omega arith)
          (λ k below. let few : k < number b = omega arith in is k few false (h k few)) (λ few. absurd (omega arith)))
      which (Some i) h =
          let n = held_number b ok in
          position_at f (held_pending b) i
          (position_or_len_is f (held_pending b) i no_entry (omega (arith, h.0))
          (λ k below. is k (omega (arith, h.0)) false (h.2 k below)) (λ few. is i h.0 true h.1))
          (omega (arith, h.0))

  module _ (v memory : ℕ) where
    by_entry :
        (i : ℕ) → i < number b → Unseen v memory b (suc i) →
        cond (is_to v (entry_at b.slots i)) (entry_at b.slots i).value (newest v memory (take i (held_pending b))) ≡ newest v memory (held_pending b)
    by_entry i h s =
        let rest = newest v memory (take i (held_pending b)) in
        ap (λ (p : Pending). cond (is_to v p) p.value rest) (sym (held_at b ok i h))
        ∙ sym (newest_next v memory (held_pending b) memory i (omega (arith, held_number b ok)))
        ∙ s

    pub all_seen : (i : ℕ) → i ≡ number b → Unseen v memory b i
    all_seen i e = ap (newest v memory) (take_all i (held_pending b) (omega (arith, e, held_number b ok)))

    -- a store to v is seen, any other is not
    pub newest_here :
        (i : ℕ) → 0 < i → i ≤ number b → is_to v (entry_at b.slots (i - 1)) ≡ true → Unseen v memory b i →
        (entry_at b.slots (i - 1)).value ≡ newest v memory (held_pending b)
    newest_here i h few t s =
        let next : i ≡ suc (i - 1) = omega arith in
        let rest = newest v memory (take (i - 1) (held_pending b)) in
        ap (λ t. cond t (entry_at b.slots (i - 1)).value rest) (sym t) ∙ by_entry (i - 1) (omega arith) (subst (Unseen v memory b) next s)

    pub newest_below : (i : ℕ) → 0 < i → i ≤ number b → is_to v (entry_at b.slots (i - 1)) ≡ false → Unseen v memory b i → Unseen v memory b (i - 1)
    newest_below i h few t s =
        let next : i ≡ suc (i - 1) = omega arith in
        let rest = newest v memory (take (i - 1) (held_pending b)) in
        ap (λ t. cond t (entry_at b.slots (i - 1)).value rest) (sym t) ∙ by_entry (i - 1) (omega arith) (subst (Unseen v memory b) next s)

    pub none_seen : (i : ℕ) → i ≤ 0 → Unseen v memory b i → memory ≡ newest v memory (held_pending b)
    unfolding newest
    none_seen i e s =
        let none : 0 ≡ i = omega arith in
        ap (λ i. newest v memory (take i (held_pending b))) none ∙ s
