-- Laws of membership, of what holds of every element, and the pigeonhole.
use Rattle.std.specs.Prelude.{◌≡◌, ◌⊎◌, length, get_or, set, replicate, take, drop}
use Rattle.std.proofs.Math.Path.{refl, sym, ap}
use Rattle.std.proofs.Common.{◌∙◌, ap₂, subst, zero-add, suc-add, arith, take_at, drop_at}
use Rattle.std.proofs.Math.Logic.{inl, inr}
use mathlib.Core.List.{List, [], ◌∷◌, ◌++◌, map}
use Rattle.std.proofs.Math.Option.{Option, none, some, none-ne-some}
use Prim.Native.Nat.{ℕ, zero, suc, ◌+◌, ◌≤◌, ◌<◌, zero-le}
use Rattle.std.proofs.Math.ListN.{get_elem?}
use Rattle.reach.specs.Lists.{◌∈◌, All, Pairwise, Distinct}

module _ {A : Type 0} where
  pub in_left : (x : A) (l m : List A) → x ∈ l → x ∈ (l ++ m)
  in_left x [] m h = absurd h
  in_left x (y ∷ l) m (inl e) = inl e
  in_left x (y ∷ l) m (inr h) = inr (in_left x l m h)

  pub in_right : (x : A) (l m : List A) → x ∈ m → x ∈ (l ++ m)
  in_right x [] m h = h
  in_right x (y ∷ l) m h = inr (in_right x l m h)

  pub in_either : (x : A) (l m : List A) → x ∈ (l ++ m) → (x ∈ l) ⊎ (x ∈ m)
  in_either x [] m h = inr h
  in_either x (y ∷ l) m (inl e) = inl (inl e)
  in_either x (y ∷ l) m (inr h) = step (in_either x l m h)
    where
      step : (x ∈ l) ⊎ (x ∈ m) → (x ∈ (y ∷ l)) ⊎ (x ∈ m)
      step (inl k) = inl (inr k)
      step (inr k) = inr k

  pub in_last : (x : A) (l : List A) → x ∈ (l ++ (x ∷ []))
  in_last x l = in_right x l (x ∷ []) (inl refl)

  pub all_at : (P : A → Type 0) (l : List A) → All P l → (x : A) → x ∈ l → P x
  all_at P [] ps x h = absurd h
  all_at P (y ∷ l) ps x (inl e) = subst P (sym e) ps.0
  all_at P (y ∷ l) ps x (inr h) = all_at P l ps.1 x h

  pub all_of : (P : A → Type 0) (l : List A) → ((x : A) → x ∈ l → P x) → All P l
  all_of P [] f = tt
  all_of P (y ∷ l) f = (f y (inl refl), all_of P l (λ x h. f x (inr h)))

  pub pairwise_append :
      (R : A → A → Type 0) (l m : List A) →
      Pairwise R l → Pairwise R m → ((x y : A) → x ∈ l → y ∈ m → R x y) → Pairwise R (l ++ m)
  pairwise_append R [] m p q f = q
  pairwise_append R (x ∷ l) m p q f = (
    all_of (R x) (l ++ m) (λ y h. either y (in_either y l m h)),
    pairwise_append R l m p.1 q (λ a b h k. f a b (inr h) k),
  )
    where
      either : (y : A) → (y ∈ l) ⊎ (y ∈ m) → R x y
      either y (inl h) = all_at (R x) l p.0 y h
      either y (inr h) = f x y (inl refl) h

  pub pairwise_left : (R : A → A → Type 0) (l m : List A) → Pairwise R (l ++ m) → Pairwise R l
  pairwise_left R [] m p = tt
  pairwise_left R (x ∷ l) m p = (all_of (R x) l (λ y h. all_at (R x) (l ++ m) p.0 y (in_left y l m h)), pairwise_left R l m p.1)

  pub pairwise_right : (R : A → A → Type 0) (l m : List A) → Pairwise R (l ++ m) → Pairwise R m
  pairwise_right R [] m p = p
  pairwise_right R (x ∷ l) m p = pairwise_right R l m p.1

  pub pairwise_across : (R : A → A → Type 0) (l m : List A) → Pairwise R (l ++ m) → (x y : A) → x ∈ l → y ∈ m → R x y
  pairwise_across R [] m p x y h k = absurd h
  pairwise_across R (a ∷ l) m p x y (inl e) k =
      subst (λ z. R z y) (sym e) (all_at (R a) (l ++ m) p.0 y (in_right y l m k))
  pairwise_across R (a ∷ l) m p x y (inr h) k = pairwise_across R l m p.1 x y h k

  pub all_imp : (P Q : A → Type 0) → ((x : A) → P x → Q x) → (l : List A) → All P l → All Q l
  all_imp P Q f [] p = tt
  all_imp P Q f (x ∷ l) p = (f x p.0, all_imp P Q f l p.1)

  pub all_append : (P : A → Type 0) (l m : List A) → All P l → All P m → All P (l ++ m)
  all_append P [] m h k = k
  all_append P (x ∷ l) m h k = (h.0, all_append P l m h.1 k)

  pub all_replicate : (P : A → Type 0) (n : ℕ) (x : A) → P x → All P (replicate n x)
  all_replicate P zero x h = tt
  all_replicate P (suc n) x h = (h, all_replicate P n x h)

  pub all_get_or : (P : A → Type 0) (l : List A) (i : ℕ) (d : A) → All P l → P d → P (get_or l i d)
  all_get_or P [] i d h k = k
  all_get_or P (x ∷ l) zero d h k = h.0
  all_get_or P (x ∷ l) (suc i) d h k = all_get_or P l i d h.1 k

  pub all_by_get_or : (P : A → Type 0) (l : List A) (d : A) → ((i : ℕ) → P (get_or l i d)) → All P l
  all_by_get_or P [] d h = tt
  all_by_get_or P (x ∷ l) d h = (h 0, all_by_get_or P l d (λ i. h (suc i)))

  pub all_set : (P : A → Type 0) (l : List A) (i : ℕ) (y : A) → All P l → P y → All P (set l i y)
  all_set P [] i y h k = tt
  all_set P (x ∷ l) zero y h k = (k, h.1)
  all_set P (x ∷ l) (suc i) y h k = (h.0, all_set P l i y h.1 k)

  -- what holds at each index, beyond the end too, still does after a `set` to a value of which it holds there
  pub at_set :
      (P : ℕ → A → Type 0) (l : List A) (i : ℕ) (y d : A) → ((k : ℕ) → P k (get_or l k d)) → P i y → (k : ℕ) → P k (get_or (set l i y) k d)
  at_set P [] i y d h p k = h k
  at_set P (x ∷ l) zero y d h p zero = p
  at_set P (x ∷ l) zero y d h p (suc k) = h (suc k)
  at_set P (x ∷ l) (suc i) y d h p zero = h zero
  at_set P (x ∷ l) (suc i) y d h p (suc k) = at_set (λ n. P (suc n)) l i y d (λ n. h (suc n)) p k

  -- past the front of a list whose rest is all d, d is read
  pub get_or_padded : (l : List A) (n i : ℕ) (d : A) → length l ≤ i → get_or (l ++ replicate n d) i d ≡ d
  get_or_padded [] n i d h = all_get_or (λ x. x ≡ d) (replicate n d) i d (all_replicate (λ x. x ≡ d) n d refl) refl
  get_or_padded (x ∷ l) n zero d h = absurd (omega arith)
  get_or_padded (x ∷ l) n (suc i) d h = get_or_padded l n i d (omega arith)

  -- lists that are equal where they are joined, and whose first parts are equally long, are equal part by part
  pub append_equal : (a b c d : List A) → length a ≡ length b → a ++ c ≡ b ++ d → (a ≡ b) × (c ≡ d)
  append_equal a b c d n e = (
    sym (take_at a c (length b) n) ∙ ap (take (length b)) e ∙ take_at b d (length b) refl,
    sym (drop_at a c (length b) n) ∙ ap (drop (length b)) e ∙ drop_at b d (length b) refl,
  )

  pub pairwise_imp : (R Q : A → A → Type 0) → ((x y : A) → R x y → Q x y) → (l : List A) → Pairwise R l → Pairwise Q l
  pairwise_imp R Q f [] p = tt
  pairwise_imp R Q f (x ∷ l) p = (all_imp (R x) (Q x) (f x) l p.0, pairwise_imp R Q f l p.1)

  -- the list without one of its elements
  without : (x : A) (l : List A) → x ∈ l → List A
  without x [] h = absurd h
  without x (y ∷ l) (inl e) = l
  without x (y ∷ l) (inr h) = y ∷ without x l h

  without_length : (x : A) (l : List A) (h : x ∈ l) → length l ≡ suc (length (without x l h))
  unfolding without
  without_length x [] h = absurd h
  without_length x (y ∷ l) (inl e) = refl
  without_length x (y ∷ l) (inr h) = ap suc (without_length x l h)

  without_others : (x : A) (l : List A) (h : x ∈ l) (y : A) → y ∈ l → ¬ (x ≡ y) → y ∈ without x l h
  unfolding without
  without_others x [] h y k ne = absurd h
  without_others x (z ∷ l) (inl e) y (inl d) ne = absurd (ne (e ∙ sym d))
  without_others x (z ∷ l) (inl e) y (inr k) ne = k
  without_others x (z ∷ l) (inr h) y (inl d) ne = inl d
  without_others x (z ∷ l) (inr h) y (inr k) ne = inr (without_others x l h y k ne)

  -- the pigeonhole: a list without repeats is no longer than one that has all its elements
  pub no_longer : (l m : List A) → Distinct l → ((x : A) → x ∈ l → x ∈ m) → length l ≤ length m
  no_longer [] m d f = zero-le
  no_longer (x ∷ l) m d f =
      let h = f x (inl refl) in
      let rest =
      no_longer l (without x m h) d.1
      (λ y k. without_others x m h y (f y (inr k)) (all_at (λ z. ¬ (x ≡ z)) l d.0 y k)) in
      omega (arith, without_length x m h)

  pub at_in : (l : List A) (i : ℕ) (x : A) → get_elem? l i ≡ some x → x ∈ l
  at_in [] i x e = absurd (none-ne-some x e)
  at_in (y ∷ l) zero x e = inl (cc)
  at_in (y ∷ l) (suc i) x e = inr (at_in l i x e)

  pub all_nth : (P : A → Type 0) (l : List A) → All P l → (i : ℕ) (x : A) → get_elem? l i ≡ some x → P x
  all_nth P l ps i x e = all_at P l ps x (at_in l i x e)

  pub in_at : (l : List A) (x : A) → x ∈ l → (i : ℕ) × (get_elem? l i ≡ some x)
  in_at [] x h = absurd h
  in_at (y ∷ l) x (inl e) = (0, ap {B = Option A} some (sym e))
  in_at (y ∷ l) x (inr h) = let r = in_at l x h in (suc r.0, r.1)

  pub at_left : (l m : List A) (i : ℕ) (x : A) → get_elem? l i ≡ some x → get_elem? (l ++ m) i ≡ some x
  at_left [] m i x e = absurd (none-ne-some x e)
  at_left (y ∷ l) m zero x e = e
  at_left (y ∷ l) m (suc i) x e = at_left l m i x e

  pub at_right : (l m : List A) (i : ℕ) → get_elem? (l ++ m) (length l + i) ≡ get_elem? m i
  at_right [] m i = rw zero-add
  at_right (y ∷ l) m i = rw suc-add (at_right l m i)

  pub at_past : (l : List A) (i : ℕ) → length l ≤ i → get_elem? l i ≡ none
  at_past [] i h = refl
  at_past (y ∷ l) zero h = absurd (omega arith)
  at_past (y ∷ l) (suc i) h = at_past l i (omega arith)

  pub at_below : (l : List A) (i : ℕ) (x : A) → get_elem? l i ≡ some x → i < length l
  at_below [] i x e = absurd (none-ne-some x e)
  at_below (y ∷ l) zero x e = omega arith
  at_below (y ∷ l) (suc i) x e = let h = at_below l i x e in omega arith

  pub below_at : (l : List A) (i : ℕ) → i < length l → (x : A) × (get_elem? l i ≡ some x)
  below_at [] i h = absurd (omega arith)
  below_at (y ∷ l) zero h = (y, refl)
  below_at (y ∷ l) (suc i) h = below_at l i (omega arith)

  pub at_get_or : (l : List A) (i : ℕ) (x d : A) → get_elem? l i ≡ some x → get_or l i d ≡ x
  at_get_or [] i x d e = absurd (at_in [] i x e)
  at_get_or (y ∷ l) zero x d e = cc
  at_get_or (y ∷ l) (suc i) x d e = at_get_or l i x d e

  -- below the end of a list, the default is not what is read
  pub at_default : (l : List A) (i : ℕ) (d : A) → i < length l → get_elem? l i ≡ some (get_or l i d)
  at_default l i d h = let x = below_at l i h in x.1 ∙ ap {B = Option A} some (sym (at_get_or l i x.0 d x.1))

  pub take_one_more : (l : List A) (i : ℕ) (x : A) → get_elem? l i ≡ some x → take (suc i) l ≡ take i l ++ (x ∷ [])
  take_one_more [] i x e = absurd (at_in [] i x e)
  take_one_more (y ∷ l) zero x e = let d : y ≡ x = cc in ap {B = List A} (λ z. z ∷ []) d
  take_one_more (y ∷ l) (suc i) x e = ap {B = List A} (λ z. y ∷ z) (take_one_more l i x e)

  pub at_split :
      (l m : List A) (i : ℕ) (x : A) → get_elem? (l ++ m) i ≡ some x →
      (get_elem? l i ≡ some x) ⊎ ((k : ℕ) × (i ≡ length l + k) × (get_elem? m k ≡ some x))
  at_split [] m i x e = inr (i, sym (zero-add i), e)
  at_split (y ∷ l) m zero x e = inl e
  at_split (y ∷ l) m (suc i) x e = step (at_split l m i x e)
    where
      step :
          (get_elem? l i ≡ some x) ⊎ ((k : ℕ) × (i ≡ length l + k) × (get_elem? m k ≡ some x)) →
          (get_elem? l i ≡ some x) ⊎ ((k : ℕ) × (suc i ≡ suc (length l) + k) × (get_elem? m k ≡ some x))
      step (inl h) = inl h
      step (inr h) = inr (h.0, omega (arith, h.1), h.2)

  -- two lists of one length are equal if they have the same at every place
  pub same_at :
      (l m : List A) → length l ≡ length m →
      ((i : ℕ) (x y : A) → get_elem? l i ≡ some x → get_elem? m i ≡ some y → x ≡ y) → l ≡ m
  same_at [] [] e f = refl
  same_at [] (y ∷ m) e f = absurd (omega arith)
  same_at (x ∷ l) [] e f = absurd (omega arith)
  same_at (x ∷ l) (y ∷ m) e f =
      ap₂ {C = List A} ◌∷◌ (f 0 x y refl refl) (same_at l m (omega arith) (λ i a b h k. f (suc i) a b h k))

  -- an element of a list without repeats stands at one place
  pub same_place :
      (l : List A) → Distinct l → (i j : ℕ) (x : A) → get_elem? l i ≡ some x → get_elem? l j ≡ some x → i ≡ j
  same_place [] d i j x e f = absurd (at_in [] i x e)
  same_place (y ∷ l) d zero zero x e f = refl
  same_place (y ∷ l) d zero (suc j) x e f =
      let p : y ≡ x = cc in absurd (all_at (λ z. ¬ (y ≡ z)) l d.0 x (at_in l j x f) p)
  same_place (y ∷ l) d (suc i) zero x e f =
      let p : y ≡ x = cc in absurd (all_at (λ z. ¬ (y ≡ z)) l d.0 x (at_in l i x e) p)
  same_place (y ∷ l) d (suc i) (suc j) x e f = ap suc (same_place l d.1 i j x e f)

pub at_map : {A B : Type 0} (f : A → B) (l : List A) (i : ℕ) (y : B) → get_elem? (map f l) i ≡ some y
    → (x : A) × (get_elem? l i ≡ some x) × (f x ≡ y)
at_map f [] i y e = absurd (none-ne-some y e)
at_map f (a ∷ l) zero y e = (a, refl, cc)
at_map f (a ∷ l) (suc i) y e = at_map f l i y e

pub map_at : {A B : Type 0} (f : A → B) (l : List A) (i : ℕ) (x : A) → get_elem? l i ≡ some x → get_elem? (map f l) i ≡ some (f x)
map_at f [] i x e = absurd (none-ne-some x e)
map_at {B = B} f (a ∷ l) zero x e = let d : a ≡ x = cc in ap {B = Option B} (λ z. some (f z)) d
map_at f (a ∷ l) (suc i) x e = map_at f l i x e

pub map_append : {A B : Type 0} (f : A → B) (l m : List A) → map f (l ++ m) ≡ map f l ++ map f m
map_append f [] m = refl
map_append {B = B} f (a ∷ l) m = ap {B = List B} (λ z. f a ∷ z) (map_append f l m)

pub in_map : {A B : Type 0} (f : A → B) (l : List A) (y : B) → y ∈ map f l → (x : A) × (x ∈ l) × (f x ≡ y)
in_map f [] y h = absurd h
in_map f (a ∷ l) y (inl e) = (a, inl refl, sym e)
in_map f (a ∷ l) y (inr h) = let r = in_map f l y h in (r.0, inr r.1, r.2)

pub map_in : {A B : Type 0} (f : A → B) (l : List A) (x : A) → x ∈ l → f x ∈ map f l
map_in {B = B} f [] x h = absurd h
map_in f (a ∷ l) x (inl e) = inl (ap f e)
map_in f (a ∷ l) x (inr h) = inr (map_in f l x h)
