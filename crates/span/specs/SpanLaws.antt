-- Runs of bytes one after another: laid over a table, read from it, and compared with it.
use Rattle.std.specs.Prelude.{◌≡◌, refl, Bool, false, List, [], ◌∷◌, ◌++◌, ℕ, suc, ◌+◌, ◌-◌, ◌<◌, ◌≤◌, length, get_or, set, take, drop}
use Rattle.std.proofs.Common.{sym, ap, ◌∙◌, true≢false, append_assoc, append-nil, zero-add, add_assoc, add-one, arith, length-append, length-take, length-drop, take-add, take-take, drop-drop, drop-cons}
use Rattle.std.proofs.Math.Seq.{take_at, drop_at, append_snoc, drop-length, take-length, paste-zero}
use Rattle.std.proofs.lemmas.List.{set_split}
use Rattle.std.proofs.lemmas.Slice.{put_mid-paste}
use borrow.Rule.Slice.PartMut.{put_mid, same_len_mid}
use Rattle.span.specs.Span.{bytes_at, laid, Laid, Compared}

-- Bytes laid over a table.

pub laid_is : (table : List ℕ) (at : ℕ) (b : List ℕ) → laid table at b ≡ take at table ++ b ++ drop (at + length b) table
unfolding laid
laid_is table at b = refl

module _ (table : List ℕ) (at : ℕ) (a : List ℕ) (room : at + length a ≤ length table) where
  front_laid : length (take at table ++ a) ≡ at + length a
  front_laid = simp (length-append, length-take) (omega arith)

  take_laid : take (at + length a) (laid table at a) ≡ take at table ++ a
  unfolding laid
  take_laid = take_at _ _ _ front_laid

  drop_laid : drop (at + length a) (laid table at a) ≡ drop (at + length a) table
  unfolding laid
  drop_laid = drop_at (take at table ++ a) _ _ front_laid

  laid_append : (b : List ℕ) → laid (laid table at a) (at + length a) b ≡ laid table at (a ++ b)
  laid_append b =
      let front = laid_is (laid table at a) (at + length a) b in
      let rest = drop-drop (length b) (at + length a) (laid table at a) in
      let both = laid_is table at (a ++ b) in
      rw (front, take_laid, ← rest, drop_laid, drop-drop, both, length-append, ← add_assoc, ← append_assoc)

-- a run of n bytes, and then another from its end on, are the two as one run
pub laid_then : (table : List ℕ) (at : ℕ) (a b : List ℕ) (n : ℕ) → length a ≡ n → at + n ≤ length table
    → laid (laid table at a) (at + n) b ≡ laid table at (a ++ b)
laid_then table at a b n e h = rw (← e) (laid_append table at a (omega arith) b)

pub laid_none : (table : List ℕ) (at : ℕ) → table ≡ laid table at []
unfolding laid
laid_none table at = paste-zero table at []

pub laid_nothing : (table bytes : List ℕ) (at : ℕ) → length bytes ≡ 0 → Laid table table at bytes
laid_nothing table [] at e = record { is = laid_none table at; size = refl }
laid_nothing table (x ∷ b) at e = absurd (omega (arith, e))

laid_one : (table : List ℕ) (at x : ℕ) → at < length table → set table at x ≡ laid table at (x ∷ [])
unfolding laid
laid_one table at x h = rw (set_split table at x h, append_snoc, add-one)

pub laid_cons : (table : List ℕ) (at x : ℕ) (b : List ℕ) → at + suc (length b) ≤ length table
    → laid (set table at x) (at + 1) b ≡ laid table at (x ∷ b)
laid_cons table at x b h =
    let first : at < length table = omega arith in
    rw (laid_one table at x first) (laid_then table at (x ∷ []) b 1 refl (omega arith))

-- bytes over all of a list are those bytes
pub laid_all : (l b : List ℕ) → length l ≡ length b → laid l 0 b ≡ b
unfolding laid
laid_all l b e = rw (zero-add, ← e, drop-length, append-nil b)

-- Bytes read from a table.

pub bytes_at_add : (table : List ℕ) (at n m : ℕ) → bytes_at table at (n + m) ≡ bytes_at table at n ++ bytes_at table (at + n) m
bytes_at_add table at n m = rw (take-add, drop-drop)

pub one_more : (table : List ℕ) (at n : ℕ) → at < length table → bytes_at table at (suc n) ≡ get_or table at 0 ∷ bytes_at table (suc at) n
one_more table at n h = rw (drop-cons table at 0 h)

pub bytes_at_number : (table : List ℕ) (at n : ℕ) → at + n ≤ length table → length (bytes_at table at n) ≡ n
bytes_at_number table at n h = simp (length-take, length-drop) (omega arith)

-- a part written anew lays what it then holds over the table
pub laid_over : (table part bytes : List ℕ) (at k : ℕ) → part ≡ bytes → length bytes ≡ k → at + k ≤ length table
    → Laid table (put_mid at k table part) at bytes
unfolding laid
laid_over table part bytes at k e n h =
    record {
      is = put_mid-paste _ _ _ _ _ _ e n refl ∙ rw take-length;
      size = same_len_mid _ _ _ _ (ap length e ∙ n ∙ sym (bytes_at_number table at k h));
    }

-- a list filled with the table's bytes holds them
pub filled : (out table : List ℕ) (at : ℕ) → at + length out ≤ length table
    → laid out 0 (bytes_at table at (at + length out - at)) ≡ bytes_at table at (length out)
filled out table at h =
    let count : at + length out - at ≡ length out = omega arith in
    rw count (laid_all out (bytes_at table at (length out)) (sym (bytes_at_number table at (length out) h)))

-- a run of a run
inner : (table : List ℕ) (at size k n : ℕ) → k + n ≤ size → at + size ≤ length table
    → bytes_at (bytes_at table at size) k n ≡ bytes_at table (at + k) n
inner table at size k n inside room =
    let rest = size - k in
    let count : size ≡ k + rest = omega arith in
    let front : length (bytes_at table at k) ≡ k = bytes_at_number table at k (omega arith) in
    let behind : drop k (bytes_at table at (k + rest)) ≡ bytes_at table (at + k) rest =
    ap (drop k) (bytes_at_add table at k rest) ∙ drop_at (bytes_at table at k) (bytes_at table (at + k) rest) k front in
    rw (count, behind) (take-take n rest (drop (at + k) table) (omega arith))

-- one byte is equal where its value is, and nowhere else
module _ (s t : List ℕ) (at from : ℕ) (inside : at < length s) (within : from < length t) where
  pub same_byte : get_or s at 0 ≡ get_or t from 0 → bytes_at s at 1 ≡ bytes_at t from 1
  same_byte e = rw (one_more s at 0 inside, one_more t from 0 within, e)

  pub other_byte : ¬ (get_or s at 0 ≡ get_or t from 0) → ¬ (bytes_at s at 1 ≡ bytes_at t from 1)
  other_byte differs e = differs (ap (λ l. get_or l 0 0) (rw (one_more s at 0 inside, one_more t from 0 within) at e))

-- Bytes compared with a table, of which the first k were found: the n behind them.
module _ (table : List ℕ) (at : ℕ) (bytes : List ℕ) (k n : ℕ) (inside : k + n ≤ length bytes) (room : at + length bytes ≤ length table) where
  pub found_more :
      bytes_at table at k ≡ take k bytes → bytes_at table (at + k) n ≡ bytes_at bytes k n → bytes_at table at (k + n) ≡ take (k + n) bytes
  found_more so_far same = bytes_at_add table at k n ∙ rw (so_far, same) (sym (take-add k n bytes))

  -- runs that are equal are equal there too
  equal_there : bytes_at table at (length bytes) ≡ bytes → bytes_at table (at + k) n ≡ bytes_at bytes k n
  equal_there same = sym (inner table at (length bytes) k n inside room) ∙ ap (λ l. bytes_at l k n) same

  -- where they differ, the runs do
  pub told_apart : ¬ (bytes_at table (at + k) n ≡ bytes_at bytes k n) → Compared (bytes_at table at (length bytes)) bytes false
  told_apart differs = record { only = λ e. absurd (true≢false (sym e)); each = λ e. absurd (differs (equal_there e)) }

  -- where they are all that is left, they decide
  pub left_decides :
      {same : Bool} → bytes_at table at k ≡ take k bytes → k + n ≡ length bytes →
      Compared (bytes_at table (at + k) n) (bytes_at bytes k n) same → Compared (bytes_at table at (length bytes)) bytes same
  left_decides so_far all left =
      record {
        only = λ e. (rw all at (found_more so_far (left.only e))) ∙ take-length bytes;
        each = λ e. left.each (equal_there e);
      }
