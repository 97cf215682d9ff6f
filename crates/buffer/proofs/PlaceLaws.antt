-- The rules on a buffer are what they say by index, and carrying an entry along a list moves the place where it goes in.
use mathlib.Core.Path.{◌≡◌, refl, sym, ap, ◌∙◌}
use mathlib.Core.Bool.{Bool, true, false, not, cond, ◌&&◌, ◌||◌}
use mathlib.Core.List.{List, [], ◌∷◌, ◌++◌, append-nil}
use Prim.Native.Nat.{ℕ, zero, suc, ◌-◌, ◌/◌, ◌%◌, ◌≤◌, ◌<◌}
use native.Mathlib.Omega.{arith}
use native.Mathlib.Decide.{dec_lt}
use lib.Dec.{eqb, ltb, leb, leb-suc-suc}
use borrow.Author.Tests.{lt-ltb, le-ltb, lt-leb, le-leb, eq-eqb, ne_eqb}
use lib.ListN.{length, get_or}
use Rattle.rules.specs.Limits.{group_unit}
use Rattle.rules.specs.State.{Pending}
use Rattle.rules.specs.Step.{stands_before, in_its_place, newest_group, oldest_to, without_oldest_to, is_empty, is_pending_to, is_in_oldest_group}
use Rattle.buffer.specs.Held.{entry}
use Rattle.buffer.specs.Places.{no_entry, first, is_to, is_next_to, is_after, with_at, without_at}

module _ {A : Type 0} where
  pub first_within : (f : A → Bool) (l : List A) → first f l ≤ length l
  unfolding first
  first_within f [] = omega arith
  first_within f (x ∷ l) = either (f x) (first_within f l)
    where
      either : (t : Bool) → first f l ≤ length l → cond t 0 (suc (first f l)) ≤ suc (length l)
      either true h = omega arith
      either false h = omega arith

  pub with_at_end : (l m : List A) (x : A) → with_at (length l) x (l ++ m) ≡ l ++ x ∷ m
  with_at_end [] m x = refl
  with_at_end (y ∷ l) m x = ap {B = List A} (λ r. y ∷ r) (with_at_end l m x)

  pub with_at_last : (l : List A) (x : A) → with_at (length l) x l ≡ l ++ (x ∷ [])
  with_at_last l x = ap (with_at (length l) x) (sym (append-nil l)) ∙ with_at_end l [] x

  pub with_at_number : (l : List A) (i : ℕ) (x : A) → length (with_at i x l) ≡ suc (length l)
  with_at_number l zero x = refl
  with_at_number [] (suc i) x = refl
  with_at_number (y ∷ l) (suc i) x = ap suc (with_at_number l i x)

  pub without_at_number : (l : List A) (i : ℕ) → i < length l → suc (length (without_at i l)) ≡ length l
  without_at_number [] i h = absurd (omega arith)
  without_at_number (y ∷ l) zero h = refl
  without_at_number (y ∷ l) (suc i) h = ap suc (without_at_number l i (omega arith))

  pub without_at_beyond : (l : List A) (i : ℕ) → length l ≤ i → without_at i l ≡ l
  without_at_beyond [] zero h = refl
  without_at_beyond [] (suc i) h = refl
  without_at_beyond (y ∷ l) zero h = absurd (omega arith)
  without_at_beyond (y ∷ l) (suc i) h = ap {B = List A} (λ r. y ∷ r) (without_at_beyond l i (omega arith))

-- PSO keeps a store before the first that stands behind its place.
in_its_place_at : (q : Pending) (b : List Pending) → in_its_place q b ≡ with_at (first (is_after q) b) q b
unfolding in_its_place first
in_its_place_at q [] = refl
in_its_place_at q (p ∷ b) = either (stands_before p q) (in_its_place_at q b)
  where
    either :
        (t : Bool) → in_its_place q b ≡ with_at (first (is_after q) b) q b →
        cond t (p ∷ in_its_place q b) (q ∷ p ∷ b) ≡ with_at (cond (not t) 0 (suc (first (is_after q) b))) q (p ∷ b)
    either true e = ap {B = List Pending} (λ r. p ∷ r) e
    either false e = refl

pub sorted_place : (q : Pending) (b : List Pending) (n : ℕ) → n ≡ first (is_after q) b → with_at n q b ≡ in_its_place q b
sorted_place q b n e = ap (λ i. with_at i q b) e ∙ sym (in_its_place_at q b)

-- Group and then variable is the order of the variable bytes.
pub before_by_byte : (c d k l : ℕ) → stands_before (entry c k) (entry d l) ≡ leb c d
unfolding stands_before
before_by_byte c d k l = which (dec_lt (c / group_unit) (d / group_unit)) (dec_lt (d / group_unit) (c / group_unit)) (dec_lt d c)
  where
    which : Dec (c / group_unit < d / group_unit) → Dec (d / group_unit < c / group_unit) → Dec (d < c)
        → (ltb (c / group_unit) (d / group_unit) || (eqb (c / group_unit) (d / group_unit) && leb (c % group_unit) (d % group_unit))) ≡ leb c d
    which (yes lower) _ _ = let h : c ≤ d = omega arith in rw (lt-ltb _ _ lower, le-leb c d h)
    which (no n) (yes higher) _ =
        let h : d < c = omega arith in
        let from : d / group_unit ≤ c / group_unit = omega arith in
        rw (le-ltb _ _ from, ne_eqb (c / group_unit) (d / group_unit) (λ e. omega arith), lt-leb c d h)
    which (no n) (no m) (yes behind) =
        let same : c / group_unit ≡ d / group_unit = omega arith in
        let h : d % group_unit < c % group_unit = omega arith in
        let from : d / group_unit ≤ c / group_unit = omega arith in
        rw (le-ltb _ _ from, eq-eqb (c / group_unit) (d / group_unit) same, lt-leb (c % group_unit) (d % group_unit) h, lt-leb c d behind)
    which (no n) (no m) (no before) =
        let same : c / group_unit ≡ d / group_unit = omega arith in
        let h : c % group_unit ≤ d % group_unit = omega arith in
        let from : d / group_unit ≤ c / group_unit = omega arith in
        let up : c ≤ d = omega arith in
        rw (le-ltb _ _ from, eq-eqb (c / group_unit) (d / group_unit) same, le-leb (c % group_unit) (d % group_unit) h, le-leb c d up)

pub not_leb : (a b : ℕ) → not (leb a b) ≡ ltb b a
not_leb a b = which (dec_lt b a)
  where
    which : Dec (b < a) → not (leb a b) ≡ ltb b a
    which (yes h) = rw (lt-leb a b h, lt-ltb b a h)
    which (no n) = let h : a ≤ b = omega arith in rw (le-leb a b h, le-ltb b a h)

-- The newest group is that of the last store.
pub newest_last : (g : ℕ) (b : List Pending) → 1 ≤ length b → newest_group g b ≡ (get_or b (length b - 1) no_entry).group
unfolding newest_group
newest_last g [] h = absurd (omega arith)
newest_last g (p ∷ []) h = refl
newest_last g (p ∷ q ∷ b) h =
    let up : suc (suc (length b)) - 1 ≡ suc (suc (length b) - 1) = omega arith in
    newest_last p.group (q ∷ b) (omega arith) ∙ sym (ap (λ n. (get_or (p ∷ q ∷ b) n no_entry).group) up)

-- TSO keeps a store behind the last.
pub last_place : (q : Pending) (b : List Pending) (n : ℕ) → length b ≡ n → with_at n q b ≡ b ++ (q ∷ [])
last_place q b n e = ap (λ i. with_at i q b) (sym e) ∙ with_at_last b q

-- One that passes a test is pending where a search for one ends before the last.
unfoldable any : (Pending → Bool) → List Pending → Bool
any f [] = false
any f (p ∷ b) = f p || any f b

any_within : (f : Pending → Bool) (b : List Pending) → any f b ≡ ltb (first f b) (length b)
unfolding any first
any_within f [] = refl
any_within f (p ∷ b) = either (f p) (any_within f b)
  where
    either : (t : Bool) → any f b ≡ ltb (first f b) (length b) → (t || any f b) ≡ ltb (cond t 0 (suc (first f b))) (suc (length b))
    either true e = sym (lt-ltb 0 (suc (length b)) (omega arith))
    either false e = e ∙ sym (leb-suc-suc (suc (first f b)) (length b))

any_to : (v : ℕ) (b : List Pending) → any (is_to v) b ≡ is_pending_to v b
unfolding any is_pending_to
any_to v [] = refl
any_to v (p ∷ b) = ap (λ z. is_to v p || z) (any_to v b)

any_next_to : (v : ℕ) (b : List Pending) → any (is_next_to v) b ≡ is_in_oldest_group v b
unfolding any is_in_oldest_group
any_next_to v [] = refl
any_next_to v (p ∷ b) = ap (λ z. is_next_to v p || z) (any_next_to v b)

pub pending_within : (v : ℕ) (b : List Pending) → is_pending_to v b ≡ ltb (first (is_to v) b) (length b)
pending_within v b = sym (any_to v b) ∙ any_within (is_to v) b

pub next_within : (v : ℕ) (b : List Pending) → is_in_oldest_group v b ≡ ltb (first (is_next_to v) b) (length b)
next_within v b = sym (any_next_to v b) ∙ any_within (is_next_to v) b

-- The oldest store to v is the first to v.
pub oldest_at : (v : ℕ) (b : List Pending) → oldest_to v b ≡ (get_or b (first (is_to v) b) no_entry).value
unfolding oldest_to first
oldest_at v [] = refl
oldest_at v (p ∷ b) = either (eqb p.variable v) (oldest_at v b)
  where
    either :
        (t : Bool) → oldest_to v b ≡ (get_or b (first (is_to v) b) no_entry).value →
        cond t p.value (oldest_to v b) ≡ (get_or (p ∷ b) (cond t 0 (suc (first (is_to v) b))) no_entry).value
    either true e = refl
    either false e = e

pub without_oldest_at : (v : ℕ) (b : List Pending) → without_oldest_to v b ≡ without_at (first (is_to v) b) b
unfolding without_oldest_to first
without_oldest_at v [] = refl
without_oldest_at v (p ∷ b) = either (eqb p.variable v) (without_oldest_at v b)
  where
    either :
        (t : Bool) → without_oldest_to v b ≡ without_at (first (is_to v) b) b →
        cond t b (p ∷ without_oldest_to v b) ≡ without_at (cond t 0 (suc (first (is_to v) b))) (p ∷ b)
    either true e = refl
    either false e = ap {B = List Pending} (λ r. p ∷ r) e

pub empty_by_number : (b : List Pending) (n : ℕ) → length b ≡ n → eqb n 0 ≡ is_empty b
unfolding is_empty
empty_by_number [] n e = eq-eqb n 0 (sym e)
empty_by_number (p ∷ b) n e = ne_eqb n 0 (λ h. omega arith)
