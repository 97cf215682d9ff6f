-- Rows in lent memory: a table of slots of one size, and a list of links. What is not counted keeps its contents.
use Rattle.std.specs.Prelude.{◌≡◌, get_or, set}
use Rattle.std.proofs.Math.Path.{refl, sym, ap}
use Rattle.std.proofs.Common.{◌∙◌, subst, mul-zero, arith, length-drop, take_at, drop-cons}
use mathlib.Core.List.{List, [], ◌∷◌, ◌++◌, append_assoc, append-nil}
use Rattle.std.proofs.Math.Option.{some}
use Prim.Native.Nat.{ℕ, zero, suc, ◌+◌, ◌*◌, ◌≤◌, ◌<◌}
use Rattle.std.proofs.Math.Nat.{mul-suc}
use Rattle.std.proofs.Math.ListN.{length, length-append, take, drop, get_elem?}
use Rattle.std.proofs.Math.Seq.{drop_at, drop-drop, append_snoc}
use Rattle.std.proofs.lemmas.List.{set_at}
use Rattle.reach.specs.Lists.{All}
use Rattle.reach.specs.ListLaws.{at_left, all_append}
use Rattle.reach.specs.Meaning.{slots_bytes}
use Rattle.reach.specs.RunLaws.{none_is_not_some}

-- `code` gives the bytes of a state
module _ {X : Type 0} (code : X → List ℕ) where
  -- the bytes of one state after another
  slots_append : (l m : List X) → slots_bytes code (l ++ m) ≡ slots_bytes code l ++ slots_bytes code m
  unfolding slots_bytes
  slots_append [] m = refl
  slots_append (x ∷ l) m = rw (slots_append l m, append_assoc (code x) (slots_bytes code l) (slots_bytes code m))

  module _ (size : ℕ) where
    -- every state of the list has as many bytes as a slot
    abbrev pub Sized : List X → Type 0
    Sized l = All (λ x. length (code x) ≡ size) l

    slots_length : (l : List X) → Sized l → length (slots_bytes code l) ≡ size * length l
    unfolding slots_bytes
    slots_length [] h = sym (mul-zero size)
    slots_length (x ∷ l) h =
        length-append (code x) (slots_bytes code l) ∙ omega (arith, h.0, slots_length l h.1, mul-suc size (length l))

    -- a table whose first slots hold the states, and whose rest is that of t
    pub record Table (t : List ℕ) (l : List X) (t' : List ℕ) : Type 0 where
      pub is : t' ≡ slots_bytes code l ++ drop (size * length l) t
      pub room : size * length l ≤ length t
      pub sized : Sized l

    module _ (t : List ℕ) (l : List X) (t' : List ℕ) (h : Table t l t') where
      pub table_length : length t' ≡ length t
      table_length =
          ap length h.is
          ∙ length-append (slots_bytes code l) (drop (size * length l) t)
          ∙ omega (arith, slots_length l h.sized, length-drop (size * length l) t, h.room)

      -- the slot of a state holds its bytes
      pub table_read : (q : ℕ) (x : X) → get_elem? l q ≡ some x → take size (drop (size * q) t') ≡ code x
      unfolding slots_bytes
      table_read q x e = rw h.is (read l q h.sized e (drop (size * length l) t))
        where
          read : (l : List X) (q : ℕ) → Sized l → get_elem? l q ≡ some x → (r : List ℕ) → take size (drop (size * q) (slots_bytes code l ++ r)) ≡ code x
          read [] q sized e r = absurd (none_is_not_some e)
          read (y ∷ l) zero sized e r =
              let d : y ≡ x = cc in
              rw (mul-zero size, append_assoc (code y) (slots_bytes code l) r) (take_at (code y) (slots_bytes code l ++ r) size sized.0 ∙ ap code d)
          read (y ∷ l) (suc q) sized e r =
              let n : size * suc q ≡ size + size * q = omega (arith, mul-suc size q) in
              rw (
                n,
                append_assoc (code y) (slots_bytes code l) r,
                ← (drop-drop (size * q) size (code y ++ (slots_bytes code l ++ r))),
                drop_at (code y) (slots_bytes code l ++ r) size sized.0,
              )
              (read l q sized.1 e r)

      -- the bytes of one state more, written to the slot behind the last
      pub table_put :
          (x : X) → length (code x) ≡ size → size * suc (length l) ≤ length t →
          Table t (l ++ (x ∷ [])) (take (size * length l) t' ++ code x ++ drop (size * length l + size) t')
      unfolding slots_bytes
      table_put x e n =
          let front = slots_length l h.sized in
          let number : length (l ++ (x ∷ [])) ≡ suc (length l) = omega (arith, length-append l (x ∷ [])) in
          let next : size * suc (length l) ≡ size * length l + size = omega (arith, mul-suc size (length l)) in
          let kept : take (size * length l) t' ≡ slots_bytes code l = rw h.is (take_at (slots_bytes code l) (drop (size * length l) t) (size * length l) front) in
          let rest : drop (size * length l + size) t' ≡ drop (size * length l + size) t =
          sym (drop-drop size (size * length l) t')
          ∙ ap (drop size) (ap (drop (size * length l)) h.is ∙ drop_at (slots_bytes code l) (drop (size * length l) t) (size * length l) front)
          ∙ drop-drop size (size * length l) t in
          let one : slots_bytes code (l ++ (x ∷ [])) ≡ slots_bytes code l ++ code x = slots_append l (x ∷ []) ∙ ap (λ m. slots_bytes code l ++ m) (append-nil (code x)) in
          record {
            is = rw (kept, rest, number, next, one);
            room = rw number n;
            sized = all_append (λ y. length (code y) ≡ size) l (x ∷ []) h.sized (e, tt);
          }

-- a list of links whose first are given, and whose rest is that of l
pub record Links (l ks l' : List ℕ) : Type 0 where
  pub is : l' ≡ ks ++ drop (length ks) l
  pub room : length ks ≤ length l

module _ (l ks l' : List ℕ) (h : Links l ks l') where
  pub links_length : length l' ≡ length l
  links_length = ap length h.is ∙ length-append ks (drop (length ks) l) ∙ omega (arith, length-drop (length ks) l, h.room)

  pub links_put : (k : ℕ) → length ks < length l → Links l (ks ++ (k ∷ [])) (set l' (length ks) k)
  links_put k n =
      let rest : drop (length ks) l ≡ get_or l (length ks) 0 ∷ drop (suc (length ks)) l = drop-cons l (length ks) 0 n in
      let number : length (ks ++ (k ∷ [])) ≡ suc (length ks) = omega (arith, length-append ks (k ∷ [])) in
      record {
        is =
            ap (λ l. set l (length ks) k) (h.is ∙ ap (λ l. ks ++ l) rest)
            ∙ set_at ks (get_or l (length ks) 0) (drop (suc (length ks)) l) k (length ks) refl
            ∙ rw (number, append_snoc ks k (drop (suc (length ks)) l));
        room = rw number n;
      }

  pub links_at : (q k : ℕ) → get_elem? ks q ≡ some k → get_elem? l' q ≡ some k
  links_at q k e = subst (λ l. get_elem? l q ≡ some k) (sym h.is) (at_left ks (drop (length ks) l) q k e)
