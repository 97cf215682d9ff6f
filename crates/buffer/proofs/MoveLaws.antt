-- Entries move by one along a buffer's bytes: up where a store goes in, down where one goes out.
use Rattle.std.proofs.Common.{◌≡◌, refl, sym, ap, ap₂, subst, ◌∙◌, add-one, arith, false, leb, List, [], ◌∷◌, ◌++◌, ℕ, zero, suc, ◌+◌, ◌*◌, ◌-◌, ◌≤◌, ◌<◌, length, get_or, set, take, drop, replicate, take_at, length-set}
use Rattle.std.specs.List.{copy_within}
use Rattle.std.proofs.Math.ListN.{get_or-eq_default}
use Rattle.rules.specs.Limits.{most_pending, mark_unit, entry_size, entries_size}
use Rattle.rules.specs.State.{Pending}
use Rattle.rules.specs.Slot.{high, low}
use Rattle.rules.specs.Step.{without_oldest_to}
use Rattle.buffer.specs.Held.{entry, entries, EntryLows, number, held_pending, held_buffer, BufferOk}
use Rattle.buffer.specs.HeldLaws.{count_both, held_number, held_at, entries_held, holds}
use Rattle.buffer.specs.EntryLaws.{entries_written, written_lows, entries_copied, copied_lows}
use Rattle.buffer.specs.Places.{no_entry, set_entry, padded, first, is_to, with_at, without_at}
use Rattle.buffer.specs.Posts.{RoomAt, Holds, Joined, TakesOut, read_entry}
use Rattle.buffer.specs.declared.Buf.{Buf}
use Rattle.buffer.proofs.PlaceLaws.{with_at_number, without_at_number, without_at_beyond, oldest_at, without_oldest_at}

module _ {A : Type 0} where
  -- what stands at index i and from there on goes up by one over x, and q is written at i
  moved_up : (l r : List A) (x q : A) (i k : ℕ) → i + k ≡ length l
      → set ((take (suc i) (l ++ x ∷ r) ++ take k (drop i (l ++ x ∷ r))) ++ drop (suc (length l)) (l ++ x ∷ r)) i q ≡ with_at i q l ++ r
  moved_up [] r x q zero k e = let none : k ≡ 0 = omega arith in rw none
  moved_up [] r x q (suc i) k e = absurd (omega arith)
  moved_up (y ∷ l) r x q zero k e =
      let all : k ≡ suc (length l) = omega arith in
      rw (all, take_at l (x ∷ r) (length l) refl, drop_behind l)
    where
      drop_behind : (l : List A) → drop (suc (length l)) (l ++ x ∷ r) ≡ r
      drop_behind [] = refl
      drop_behind (y ∷ l) = drop_behind l
  moved_up (y ∷ l) r x q (suc i) k e = ap {B = List A} (λ r. y ∷ r) (moved_up l r x q i k (omega arith))

  -- what stands at index i is overwritten by what stands behind it, which goes down by one, and q is written at the last
  last_set : (y : A) (l r : List A) (q : A) → set (l ++ drop (length l) (y ∷ l ++ r)) (length l) q ≡ l ++ q ∷ r
  last_set y [] r q = refl
  last_set y (z ∷ l) r q = ap {B = List A} (λ r. z ∷ r) (last_set z l r q)

  moved_down : (l r : List A) (q : A) (i k m : ℕ) → suc i + k ≡ length l → m ≡ i + k
      → set ((take i (l ++ r) ++ take k (drop (suc i) (l ++ r))) ++ drop m (l ++ r)) m q ≡ without_at i l ++ q ∷ r
  moved_down [] r q i k m e f = absurd (omega arith)
  moved_down (y ∷ l) r q zero k m e f =
      let all : k ≡ length l = omega arith in
      let last : m ≡ length l = omega arith in
      rw (all, last, take_at l r (length l) refl) (last_set y l r q)
  moved_down (y ∷ l) r q (suc i) k zero e f = absurd (omega arith)
  moved_down (y ∷ l) r q (suc i) k (suc m) e f = ap {B = List A} (λ r. y ∷ r) (moved_down l r q i k m (omega arith) (omega arith))

-- the entries from the index on are copied up by one, and the store is written there: it is in
pub put_in_holds :
    (b : Buf) (at byte k : ℕ) → RoomAt b at → (s : List ℕ) →
    s ≡ copy_within b.slots (entry_size * at) (entry_size * number b) (entry_size * (at + 1)) → length s ≡ entries_size →
    Joined (record { count = number b + 1; slots = set_entry s at byte (high k) (low k) }) (with_at at (entry byte k) (held_pending b))
put_in_holds b at byte k h s e size =
    let ok = h.room.ok in
    let l = held_pending b in
    let q = entry byte k in
    let is = held_number b ok in
    let rest = replicate (most_pending - suc (length l)) no_entry in
    let room : most_pending - length l ≡ suc (most_pending - suc (length l)) = omega (arith, h.room.room) in
    let all : entries b.slots ≡ l ++ no_entry ∷ rest = entries_held b ok ∙ ap (λ n. l ++ replicate n no_entry) room in
    let behind : at + 1 + (number b - at) ≡ suc (length l) = omega (arith, h.within) in
    let copied : entries s ≡ (take (suc at) (l ++ no_entry ∷ rest) ++ take (number b - at) (drop at (l ++ no_entry ∷ rest))) ++ drop (suc (length l)) (l ++ no_entry ∷ rest) =
    ap entries e
    ∙ entries_copied most_pending b.slots ok.size at (number b) (at + 1) h.within (omega (arith, h.room.room)) (omega (arith, h.within, h.room.room))
    ∙ ap₂ (λ l n. (take (at + 1) l ++ take (number b - at) (drop at l)) ++ drop n l) all behind
    ∙ ap (λ i. (take i (l ++ no_entry ∷ rest) ++ take (number b - at) (drop at (l ++ no_entry ∷ rest))) ++ drop (suc (length l)) (l ++ no_entry ∷ rest)) (add-one at) in
    let more = with_at_number l at q in
    let done : entries (set_entry s at byte (high k) (low k)) ≡ padded (with_at at q l) =
    entries_written most_pending s size at byte k
    ∙ ap (λ l. set l at q) copied
    ∙ moved_up l rest no_entry q at (number b - at) (omega (arith, h.within))
    ∙ ap (λ n. with_at at q l ++ replicate (most_pending - n) no_entry) (sym more) in
    let lows = written_lows most_pending s size at byte k (subst EntryLows (sym e)
    (copied_lows most_pending b.slots ok.size at (number b) (at + 1) h.within (omega (arith, h.room.room)) (omega (arith, h.within, h.room.room)) ok.lows)) in
    holds (record { count = number b + 1; slots = set_entry s at byte (high k) (low k) }) (with_at at q l) false
    (omega (arith, more, is)) (omega (arith, h.room.room, more, is)) (simp length-set size) lows done

module _ (b : Buf) (v : ℕ) (ok : BufferOk b) where
  -- where no store to v is pending, nothing goes out
  pub nothing_taken : length (held_pending b) ≤ first (is_to v) (held_pending b) → TakesOut (record { value = 0; rest = b }) v (held_buffer b)
  nothing_taken past =
      let l = held_pending b in
      let stores : l ≡ without_oldest_to v l = sym (without_oldest_at v l ∙ without_at_beyond l _ past) in
      record {
        value = sym (oldest_at v l ∙ ap (λ (p : Pending). p.value) (get_or-eq_default l no_entry past));
        rest = record { ok = ok; held = λ i. record { pending = stores i; marked = leb mark_unit b.count } };
      }

  -- the entries behind the oldest store to v are copied down by one, and an unused one is written behind them: it is out
  pub take_out_takes :
      (at : ℕ) → at ≡ first (is_to v) (held_pending b) → at < length (held_pending b) → (s : List ℕ) →
      s ≡ copy_within b.slots (entry_size * (at + 1)) (entry_size * number b) (entry_size * at) → length s ≡ entries_size →
      TakesOut (record { value = (read_entry b.slots at).value; rest = record { count = b.count - 1; slots = set_entry s (number b - 1) 0 (high 0) (low 0) } }) v (held_buffer b)
  take_out_takes at e within s copy size =
      let l = held_pending b in
      let m = leb mark_unit b.count in
      let n = number b in
      let is = held_number b ok in
      let below : at < n = omega arith in
      let unused = replicate (most_pending - length l) no_entry in
      let less = without_at_number l at within in
      let fits : at + (n - (at + 1)) ≤ most_pending = omega (arith, ok.few) in
      let behind : at + (n - (at + 1)) ≡ n - 1 = omega arith in
      let copied : entries s ≡ (take at (l ++ unused) ++ take (n - (at + 1)) (drop (suc at) (l ++ unused))) ++ drop (n - 1) (l ++ unused) =
      ap entries copy
      ∙ entries_copied most_pending b.slots ok.size (at + 1) n at (omega arith) ok.few fits
      ∙ ap₂ (λ l m. (take at l ++ take (n - (at + 1)) (drop (at + 1) l)) ++ drop m l) (entries_held b ok) behind
      ∙ ap (λ i. (take at (l ++ unused) ++ take (n - (at + 1)) (drop i (l ++ unused))) ++ drop (n - 1) (l ++ unused)) (add-one at) in
      let count : suc (most_pending - length l) ≡ most_pending - length (without_at at l) = omega (arith, less, is, ok.few) in
      let done : entries (set_entry s (n - 1) 0 (high 0) (low 0)) ≡ padded (without_at at l) =
      entries_written most_pending s size (n - 1) 0 0
      ∙ ap (λ l. set l (n - 1) no_entry) copied
      ∙ moved_down l unused no_entry at (n - (at + 1)) (n - 1) (omega arith) (omega arith)
      ∙ ap (λ k. without_at at l ++ replicate k no_entry) count in
      let lows = written_lows most_pending s size (n - 1) 0 0 (subst EntryLows (sym copy)
      (copied_lows most_pending b.slots ok.size (at + 1) n at (omega arith) ok.few fits ok.lows)) in
      let rest = holds (record { count = b.count - 1; slots = set_entry s (n - 1) 0 (high 0) (low 0) }) (without_at at l) m
      (omega (arith, count_both b.count ok.byte, less, is, below)) (omega (arith, less, is, ok.few)) (simp length-set size) lows done in
      let stores : without_at at l ≡ without_oldest_to v l = ap (λ i. without_at i l) e ∙ sym (without_oldest_at v l) in
      record {
        value = ap (λ (p : Pending). p.value) (sym (held_at b ok at below)) ∙ ap (λ i. (get_or l i no_entry).value) e ∙ sym (oldest_at v l);
        rest = subst (λ r. Holds (record { count = b.count - 1; slots = set_entry s (n - 1) 0 (high 0) (low 0) }) (record { pending = r; marked = m })) stores rest;
      }
