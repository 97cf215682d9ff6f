-- One buffer more, after t that were laid or read.
use mathlib.Core.Path.{◌≡◌, sym, ap, ◌∙◌}
use mathlib.Core.List.{List, [], ◌∷◌, append-nil}
use Prim.Native.Nat.{ℕ, suc, ◌+◌, ◌*◌, ◌<◌, ◌≤◌}
use native.Mathlib.Numerals.{add-one}
use native.Mathlib.Omega.{arith}
use lib.ListN.{length, get_or, set, take, length-append}
use lib.Seq.{take-suc-set}
use Rattle.reach.specs.Lists.{All}
use Rattle.reach.specs.ListLaws.{all_append}
use Rattle.rules.specs.Limits.{buffer_size, entries_size}
use Rattle.span.specs.Span.{bytes_at, laid}
use Rattle.span.specs.SpanLaws.{laid_then, bytes_at_add, bytes_at_number, one_more}
use Rattle.buffer.specs.declared.Buf.{Buf}
use Rattle.slot.specs.Bytes.{buffer_bytes, buffers_bytes, FullBuffer}
use Rattle.slot.specs.BytesLaws.{no_buffer, buffers_bytes_suc, buffers_bytes_append, front_number}
use Rattle.slot.specs.Table.{ReadBuffer, ReadBuffers}

module _ (table : List ℕ) (at : ℕ) (l : List Buf) (full : All FullBuffer l) (t : ℕ) (h : t < length l) where
  abbrev front : List ℕ
  front = buffers_bytes (take t l)

  abbrev next : List ℕ
  next = buffer_bytes (get_or l t no_buffer)

  number : length front ≡ buffer_size * t
  number = front_number l t full (omega arith)

  pub laid_buffer : at + buffer_size * t ≤ length table
      → laid (laid table at front) (at + buffer_size * t) next ≡ laid table at (buffers_bytes (take (suc t) l))
  laid_buffer room = rw (buffers_bytes_suc l t h) (laid_then table at front next (buffer_size * t) number room)

pub read_buffer_bytes : (table : List ℕ) (at : ℕ) (slots : List ℕ) → at + buffer_size ≤ length table
    → slots ≡ bytes_at table (at + 1) entries_size → ReadBuffer table at (record { count = get_or table at 0; slots = slots })
unfolding buffer_bytes
read_buffer_bytes table at slots h e =
    let entries : slots ≡ bytes_at table (suc at) entries_size = e ∙ rw add-one in
    record {
      bytes = ap (◌∷◌ (get_or table at 0)) entries ∙ sym (one_more table at entries_size (omega arith));
      full = ap length e ∙ bytes_at_number table (at + 1) entries_size (omega arith);
    }

pub read_more : (table : List ℕ) (at : ℕ) (l : List Buf) (t : ℕ) (b : Buf) → t < length l
    → ReadBuffers table at t (take t l) → ReadBuffer table (at + buffer_size * t) b → ReadBuffers table at (suc t) (take (suc t) (set l t b))
unfolding buffers_bytes
read_more table at l t b h so_far next =
    let count : buffer_size * suc t ≡ buffer_size * t + buffer_size = omega arith in
    rw (take-suc-set l t b h) (record {
      bytes =
          rw (buffers_bytes_append, append-nil (buffer_bytes b), so_far.bytes, next.bytes)
          (rw (count, bytes_at_add table at (buffer_size * t) buffer_size));
      number = simp length-append (omega (arith, so_far.number));
      full = all_append FullBuffer (take t l) (b ∷ []) so_far.full (next.full, tt);
    })
