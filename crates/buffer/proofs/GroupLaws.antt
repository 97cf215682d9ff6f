-- Groups are counted anew entry by entry, and a mark stands only behind a store.
use mathlib.Core.Path.{◌≡◌, refl, sym, ap, ap₂, subst, ◌∙◌}
use mathlib.Core.Bool.{Bool, true, false, not, ◌&&◌}
use mathlib.Core.List.{List, [], ◌∷◌, ◌++◌}
use Prim.Native.Nat.{ℕ, zero, suc, ◌+◌, ◌-◌, ◌/◌, ◌%◌, ◌≤◌, ◌<◌}
use native.Mathlib.Numerals.{add-one}
use native.Mathlib.Omega.{arith}
use lib.Dec.{leb}
use lib.ListN.{length, get_or, set, take, drop, replicate, length-set}
use Rattle.rules.specs.Limits.{most_pending, group_unit, mark_unit, entries_size}
use Rattle.rules.specs.State.{Pending, Buffer, empty_buffer}
use Rattle.rules.specs.Slot.{mark_byte, high, low}
use Rattle.rules.specs.Step.{lowered, counted, marked_buffer, is_empty}
use Rattle.rules.specs.BufferLaws.{lower, lowered_length, lowered_none}
use Rattle.buffer.specs.Held.{entry, entries, EntryLows, number, held_pending, held_buffer, BufferOk}
use Rattle.buffer.specs.HeldLaws.{count_both, held_entries, entries_held, rest_unused, held_number, held_at, held_few, holds}
use Rattle.buffer.specs.EntryLaws.{entries_number, entries_at, entries_written, written_lows}
use Rattle.buffer.specs.Places.{no_entry, entry_at, set_entry, padded}
use Rattle.buffer.specs.Posts.{read_entry, Holds, counted_buffer}
use Rattle.buffer.specs.declared.Buf.{Buf}

-- the entries below index i have their groups lowered by g, the others are as they were
pub record Lowering (all : List Pending) (g : ℕ) (s : List ℕ) (i : ℕ) : Type 0 where
  pub size : length s ≡ entries_size
  pub lows : EntryLows s
  pub is : entries s ≡ lowered g (take i all) ++ drop i all

lower_one : (g : ℕ) (l : List Pending) (i : ℕ) → i < length l
    → set (lowered g (take i l) ++ drop i l) i (lower g (get_or l i no_entry)) ≡ lowered g (take (suc i) l) ++ drop (suc i) l
unfolding lowered
lower_one g [] i h = absurd (omega arith)
lower_one g (p ∷ l) zero h = refl
lower_one g (p ∷ l) (suc i) h = ap {B = List Pending} (λ r. lower g p ∷ r) (lower_one g l i (omega arith))

-- a buffer with nothing pending has no mark
nothing_counted : (b : Buffer) → length b.pending ≡ 0 → counted_buffer b ≡ empty_buffer
unfolding counted is_empty
nothing_counted b e = go b.pending b.marked e
  where
    go : (l : List Pending) (m : Bool) → length l ≡ 0 → counted_buffer (record { pending = l; marked = m }) ≡ empty_buffer
    go [] true h = refl
    go [] false h = refl
    go (p ∷ l) m h = absurd (omega arith)

counted_first : (l : List Pending) → 1 ≤ length l → counted l ≡ lowered (get_or l 0 no_entry).group l
unfolding counted
counted_first [] h = absurd (omega arith)
counted_first (p ∷ l) h = refl

some_left : (l : List Pending) → 1 ≤ length l → not (is_empty l) ≡ true
unfolding is_empty
some_left [] h = absurd (omega arith)
some_left (p ∷ l) h = refl

and_true : (m c : Bool) → c ≡ true → (m && c) ≡ m
and_true true c e = e
and_true false c e = refl

module _ (b : Buf) (ok : BufferOk b) where
  counted_empty : number b ≡ 0 → counted_buffer (held_buffer b) ≡ empty_buffer
  counted_empty e = nothing_counted (held_buffer b) (held_number b ok ∙ e)

  pub none_counted : (r : Buf) → number b ≡ 0 → Holds r empty_buffer → Holds r (counted_buffer (held_buffer b))
  none_counted r e h = subst (Holds r) (sym (counted_empty e)) h

  module _ (some : 1 ≤ number b) where
    abbrev m : Bool
    m = leb mark_unit b.count

    least : 1 ≤ length (held_pending b)
    least = omega (arith, held_number b ok, some)

    -- the first store's group
    abbrev g : ℕ
    g = get_or b.slots 0 0 / group_unit

    counted_by : counted (held_pending b) ≡ lowered g (held_pending b)
    counted_by = counted_first (held_pending b) least ∙ ap (λ (p : Pending). lowered p.group (held_pending b)) (held_at b ok 0 some)

    kept_mark : (m && not (is_empty (held_pending b))) ≡ m
    kept_mark = and_true m (not (is_empty (held_pending b))) (some_left (held_pending b) least)

    as_counted : (stores : List Pending) → stores ≡ counted (held_pending b)
        → record { pending = stores; marked = m } ≡ counted_buffer (held_buffer b)
    as_counted stores e = λ i. record { pending = e i; marked = sym kept_mark i }

    -- the oldest is group 0 already
    pub counted_already : g ≡ 0 → Holds b (counted_buffer (held_buffer b))
    counted_already e =
        record { ok = ok; held = as_counted (held_pending b) (sym (counted_by ∙ ap (λ n. lowered n (held_pending b)) e ∙ lowered_none (held_pending b))) }

    pub lowering_starts : Lowering (entries b.slots) g b.slots 0
    unfolding lowered
    lowering_starts = record { size = ok.size; lows = ok.lows; is = refl }

    pub lowering_goes_on : (s : List ℕ) (i byte : ℕ) → i < most_pending
        → (byte / group_unit ≡ (read_entry b.slots i).byte / group_unit - g) × (byte % group_unit ≡ (read_entry b.slots i).byte % group_unit)
        → Lowering (entries b.slots) g s i
        → Lowering (entries b.slots) g (set_entry s i byte (high (read_entry b.slots i).value) (low (read_entry b.slots i).value)) (i + 1)
    lowering_goes_on s i byte few e h =
        let all = entries b.slots in
        let value = (read_entry b.slots i).value in
        let below : i < length all = omega (arith, entries_number most_pending b.slots ok.size) in
        let lowered_entry : entry byte value ≡ lower g (entry_at b.slots i) = λ j. record { group = e.0 j; variable = e.1 j; value = value } in
        record {
          size = simp length-set h.size;
          lows = written_lows most_pending s h.size i byte value h.lows;
          is =
              entries_written most_pending s h.size i byte value
              ∙ ap₂ (λ r p. set r i p) h.is (lowered_entry ∙ ap (lower g) (sym (entries_at most_pending b.slots ok.size i)))
              ∙ lower_one g all i below
              ∙ sym (ap (λ n. lowered g (take n all) ++ drop n all) (add-one i));
        }

    pub lowering_ends : (s : List ℕ) (i : ℕ) → i ≡ number b → Lowering (entries b.slots) g s i
        → Holds (record { count = b.count; slots = s }) (counted_buffer (held_buffer b))
    lowering_ends s i e h =
        let stores = lowered g (held_pending b) in
        let same = lowered_length g (held_pending b) in
        let left : drop (number b) (entries b.slots) ≡ replicate (most_pending - length stores) no_entry =
        rest_unused b ok ∙ ap (λ n. replicate (most_pending - n) no_entry) (sym (same ∙ held_number b ok)) in
        let done : entries s ≡ padded stores =
        h.is
        ∙ ap (λ n. lowered g (take n (entries b.slots)) ++ drop n (entries b.slots)) e
        ∙ ap₂ {C = List Pending} (λ u w. lowered g u ++ w) (sym (held_entries b ok)) left in
        let count : b.count ≡ mark_byte m + length stores = omega (arith, count_both b.count ok.byte, same, held_number b ok) in
        subst (Holds (record { count = b.count; slots = s })) (as_counted stores (sym counted_by))
        (holds (record { count = b.count; slots = s }) stores m count (omega (arith, same, held_few b ok)) h.size h.lows done)

    -- a WFENCE after the newest
    pub marks : Holds (record { count = mark_unit + number b; slots = b.slots }) (marked_buffer (held_buffer b))
    unfolding marked_buffer
    marks =
        let count : mark_unit + number b ≡ mark_byte true + length (held_pending b) = omega (arith, held_number b ok) in
        subst (λ n. Holds (record { count = mark_unit + number b; slots = b.slots }) (record { pending = held_pending b; marked = n }))
        (sym (some_left (held_pending b) least))
        (holds (record { count = mark_unit + number b; slots = b.slots }) (held_pending b) true count (held_few b ok) ok.size ok.lows (entries_held b ok))

  nothing_marked : (l : List Pending) → length l ≡ 0 → record { pending = l; marked = not (is_empty l) } ≡ empty_buffer
  unfolding is_empty
  nothing_marked [] h = refl
  nothing_marked (p ∷ l) h = absurd (omega arith)

  -- on an empty buffer it leaves nothing
  pub none_marked : (r : Buf) → number b ≡ 0 → Holds r empty_buffer → Holds r (marked_buffer (held_buffer b))
  unfolding marked_buffer
  none_marked r e h = subst (Holds r) (sym (nothing_marked (held_pending b) (held_number b ok ∙ e))) h
