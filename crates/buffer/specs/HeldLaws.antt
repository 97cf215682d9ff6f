-- A buffer that is as it should be is what it holds, written: its entries are the pending stores, the rest is unused, and the count byte has the mark.
use Rattle.std.specs.Prelude.{◌≡◌, refl, Bool, true, false, List, ◌∷◌, ◌++◌, ℕ, ◌+◌, ◌*◌, ◌-◌, ◌%◌, ◌≤◌, ◌<◌, leb, get_or, take, drop}
use Rattle.std.proofs.Common.{sym, ap₂, ◌∙◌, add-one, arith, length-take, length-drop, take-append-drop, ext_get_or, get_or-drop, get_or-take, drop-cons, take_at, le-leb}
use Rattle.std.proofs.Math.Path.{ap, subst}
use Rattle.std.proofs.Math.Decide.{dec_lt}
use Rattle.std.proofs.Math.ListN.{length, replicate, length-append, length-replicate}
use Rattle.std.proofs.lemmas.List.{get_or-replicate}
use Rattle.std.proofs.lemmas.Bool.{lt-leb}
use Rattle.reach.specs.ListLaws.{get_or_padded}
use Rattle.rules.specs.Limits.{most_pending, mark_unit, entry_size, entries_size}
use Rattle.rules.specs.State.{Pending, Buffer}
use Rattle.rules.specs.Slot.{entry_bytes, mark_byte}
use Rattle.rules.specs.SlotLaws.{Writable}
use Rattle.buffer.specs.Held.{entries, EntryLows, number, held_pending, held_buffer, written_buffer, BufferOk}
use Rattle.buffer.specs.EntryLaws.{bytes_number, bytes_append, bytes_unused, bytes_lows, entries_bytes, bytes_entries, entries_number, entries_take, entries_at}
use Rattle.buffer.specs.Places.{no_entry, entry_at, padded}
use Rattle.buffer.specs.Posts.{Holds}
use Rattle.buffer.specs.declared.Buf.{Buf}

-- The count byte: its mark, its number, and both together.

count_mark : (m : Bool) (n : ℕ) → n ≤ most_pending → leb mark_unit (mark_byte m + n) ≡ m
count_mark true n h = le-leb mark_unit (mark_unit + n) (omega arith)
count_mark false n h = lt-leb mark_unit (0 + n) (omega arith)

count_number : (m : Bool) (n : ℕ) → n ≤ most_pending → (mark_byte m + n) % mark_unit ≡ n
count_number true n h = omega arith
count_number false n h = omega arith

count_byte : (m : Bool) (n : ℕ) → n ≤ most_pending → mark_byte m + n < 2 * mark_unit
count_byte true n h = omega arith
count_byte false n h = omega arith

pub count_both : (c : ℕ) → c < 2 * mark_unit → mark_byte (leb mark_unit c) + c % mark_unit ≡ c
count_both c h = which (dec_lt c mark_unit)
  where
    which : Dec (c < mark_unit) → mark_byte (leb mark_unit c) + c % mark_unit ≡ c
    which (yes low) = rw (lt-leb mark_unit c low) (omega arith)
    which (no high) = let from : mark_unit ≤ c = omega arith in rw (le-leb mark_unit c from) (omega arith)

-- Written, and read back.

module _ (l : List Pending) (few : length l ≤ most_pending) where
  slots_written : entry_bytes l ++ replicate (entries_size - length (entry_bytes l)) 0 ≡ entry_bytes (padded l)
  slots_written =
      let count : entries_size - length (entry_bytes l) ≡ entry_size * (most_pending - length l) = omega (arith, bytes_number l) in
      ap (λ n. entry_bytes l ++ replicate n 0) count
      ∙ ap (λ r. entry_bytes l ++ r) (sym (bytes_unused (most_pending - length l)))
      ∙ sym (bytes_append l (replicate (most_pending - length l) no_entry))

module _ (b : Buffer) (w : Writable b) where
  pub written_ok : BufferOk (written_buffer b)
  unfolding written_buffer
  written_ok =
      let l = b.pending in
      let padding = length-append (entry_bytes l) (replicate (entries_size - length (entry_bytes l)) 0) in
      let is = count_number b.marked (length l) w.fits in
      record {
        few = rw is w.fits;
        byte = count_byte b.marked (length l) w.fits;
        size = omega (arith, padding, length-replicate {A = ℕ} (entries_size - length (entry_bytes l)) 0, bytes_number l, w.fits);
        unused = λ i h. get_or_padded (entry_bytes l) (entries_size - length (entry_bytes l)) i 0 (omega (arith, bytes_number l, is));
        lows = subst EntryLows (sym (slots_written l w.fits)) (bytes_lows (padded l));
      }

  pub held_written : held_buffer (written_buffer b) ≡ b
  unfolding written_buffer held_pending
  held_written =
      let l = b.pending in
      let is = count_number b.marked (length l) w.fits in
      let stores =
      ap (λ n. entries (take (entry_size * n) (entry_bytes l ++ replicate (entries_size - length (entry_bytes l)) 0))) is
      ∙ ap entries (take_at (entry_bytes l) (replicate (entries_size - length (entry_bytes l)) 0) (entry_size * length l) (bytes_number l))
      ∙ entries_bytes l w.named in
      λ i. record { pending = stores i; marked = count_mark b.marked (length l) w.fits i }

module _ (b : Buf) (ok : BufferOk b) where
  pub held_entries : held_pending b ≡ take (number b) (entries b.slots)
  unfolding held_pending
  held_entries = entries_take most_pending b.slots ok.size (number b)

  pub entries_most : length (entries b.slots) ≡ most_pending
  entries_most = entries_number most_pending b.slots ok.size

  pub held_number : length (held_pending b) ≡ number b
  held_number = ap length held_entries ∙ length-take (number b) (entries b.slots) ∙ omega (arith, entries_most, ok.few)

  unused_at : (i : ℕ) → number b ≤ i → get_or (entries b.slots) i no_entry ≡ no_entry
  unused_at i h =
      let byte = ok.unused (entry_size * i) (omega arith) in
      let high = ok.unused (entry_size * i + 1) (omega arith) in
      let low = ok.unused (entry_size * i + 2) (omega arith) in
      entries_at most_pending b.slots ok.size i ∙ rw (byte, high, low)

  pub rest_unused : drop (number b) (entries b.slots) ≡ replicate (most_pending - number b) no_entry
  rest_unused =
      let left = length-drop (number b) (entries b.slots) in
      ext_get_or no_entry _ _ (omega (arith, left, entries_most, length-replicate (most_pending - number b) no_entry))
      (λ i h.
      get_or-drop (number b) (entries b.slots) i no_entry
      ∙ unused_at (number b + i) (omega arith)
      ∙ sym (get_or-replicate (most_pending - number b) i no_entry no_entry (omega (arith, left, entries_most))))

  pub entries_held : entries b.slots ≡ padded (held_pending b)
  entries_held =
      sym (take-append-drop (number b) (entries b.slots))
      ∙ ap₂ {C = List Pending} ◌++◌ (sym held_entries) (rest_unused ∙ ap (λ n. replicate (most_pending - n) no_entry) (sym held_number))

  -- a pending store by its index
  pub held_at :
      (i : ℕ) → i < number b →
      get_or (held_pending b) i no_entry ≡ entry_at b.slots i
  held_at i h =
      ap (λ l. get_or l i no_entry) held_entries
      ∙ get_or-take (number b) (entries b.slots) i no_entry h
      ∙ entries_at most_pending b.slots ok.size i

  -- what is left at an index: the store that stands there, and what is left behind it
  pub held_from :
      (i : ℕ) → i < number b →
      drop i (held_pending b) ≡ entry_at b.slots i ∷ drop (i + 1) (held_pending b)
  held_from i h =
      drop-cons (held_pending b) i no_entry (omega (arith, held_number))
      ∙ ap₂ {C = List Pending} (λ p n. p ∷ drop n (held_pending b)) (held_at i h) (sym (add-one i))

  pub held_few : length (held_pending b) ≤ most_pending
  held_few = omega (arith, held_number, ok.few)

  pub written_held : written_buffer (held_buffer b) ≡ b
  unfolding written_buffer
  written_held =
      let count = ap (λ n. mark_byte (leb mark_unit b.count) + n) held_number ∙ count_both b.count ok.byte in
      let bytes = ap entry_bytes (sym entries_held) ∙ bytes_entries most_pending b.slots ok.size ok.lows in
      let slots = slots_written (held_pending b) held_few ∙ bytes in
      λ i. record { count = count i; slots = slots i }

-- a buffer whose entries are some stores and else unused, and whose count byte has their number and the mark, holds those stores and the mark
pub holds :
    (b : Buf) (l : List Pending) (m : Bool) → b.count ≡ mark_byte m + length l → length l ≤ most_pending → length b.slots ≡ entries_size → EntryLows b.slots →
    entries b.slots ≡ padded l → Holds b (record { pending = l; marked = m })
unfolding held_pending
holds b l m count few size lows e =
    let is : number b ≡ length l = ap (λ c. c % mark_unit) count ∙ count_number m (length l) few in
    let stores : held_pending b ≡ l =
    entries_take most_pending b.slots size (number b) ∙ ap₂ (λ n r. take n r) is e ∙ take_at l (replicate (most_pending - length l) no_entry) (length l) refl in
    let bytes = sym (bytes_entries most_pending b.slots size lows) ∙ ap entry_bytes e ∙ sym (slots_written l few) in
    record {
      ok =
          record {
            few = rw is few;
            byte = rw count (count_byte m (length l) few);
            size = size;
            unused =
                λ i h.
                ap (λ s. get_or s i 0) bytes
                ∙ get_or_padded (entry_bytes l) (entries_size - length (entry_bytes l)) i 0 (omega (arith, bytes_number l, is, h));
            lows = lows;
          };
      held = λ i. record { pending = stores i; marked = (ap (leb mark_unit) count ∙ count_mark m (length l) few) i };
    }
