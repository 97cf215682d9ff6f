-- A piece of bytes as one number, so that pieces are compared at once.
use Rattle.std.specs.Prelude.{◌≡◌, refl, List, [], ◌∷◌, ℕ, zero, suc, ◌+◌, ◌*◌, ◌<◌, ◌≤◌, length, get_or}
use Rattle.std.proofs.Common.{sym, ap, ◌∙◌, arith, add-zero, add-suc, add-one}
use Rattle.span.specs.Span.{bytes_at}
use Rattle.span.specs.SpanLaws.{one_more}

-- so many bytes are compared at once
abbrev pub piece_size : ℕ
piece_size = 8

-- the piece from `at` on as one number, its first byte the lowest
abbrev pub piece_at : List ℕ → (at : ℕ) → ℕ
piece_at s at =
    get_or s at 0 + 256 * (get_or s (at + 1) 0 + 256 * (get_or s (at + 2) 0 + 256 * (get_or s (at + 3) 0
    + 256 * (get_or s (at + 4) 0 + 256 * (get_or s (at + 5) 0 + 256 * (get_or s (at + 6) 0 + 256 * get_or s (at + 7) 0))))))

-- bytes 1 to 8
piece_worked : piece_at (1 ∷ 2 ∷ 3 ∷ 4 ∷ 5 ∷ 6 ∷ 7 ∷ 8 ∷ []) 0 ≡ 0x0807060504030201
piece_worked = refl

-- any bytes as one number likewise
unfoldable number : List ℕ → ℕ
number [] = 0
number (x ∷ l) = x + 256 * number l

-- each of them is a byte
abbrev Bytes : List ℕ → Type 0
Bytes l = (i : ℕ) → get_or l i 0 < 256

-- the number of a byte and those behind it
number_first : (s : List ℕ) (at n : ℕ) → at + suc n ≤ length s
    → number (bytes_at s at (suc n)) ≡ get_or s at 0 + 256 * number (bytes_at s (at + 1) n)
unfolding number
number_first s at n h = rw add-one (ap number (one_more s at n (omega arith)))

-- the same from place k of a piece on
number_more : (s : List ℕ) (at k n : ℕ) → at + k + suc n ≤ length s
    → number (bytes_at s (at + k) (suc n)) ≡ get_or s (at + k) 0 + 256 * number (bytes_at s (at + suc k) n)
number_more s at k n h = rw add-suc (rw add-one at (number_first s (at + k) n h))

-- one number stands for so many bytes, and for no others
same_number : (s t : List ℕ) → Bytes s → Bytes t → (n at from : ℕ) → at + n ≤ length s → from + n ≤ length t
    → number (bytes_at s at n) ≡ number (bytes_at t from n) → bytes_at s at n ≡ bytes_at t from n
unfolding number
same_number s t hs ht zero at from a b e = refl
same_number s t hs ht (suc n) at from a b e =
    let se = one_more s at n (omega arith) in
    let te = one_more t from n (omega arith) in
    let whole : get_or s at 0 + 256 * number (bytes_at s (suc at) n) ≡ get_or t from 0 + 256 * number (bytes_at t (suc from) n) = rw (se, te) at e in
    let first : get_or s at 0 ≡ get_or t from 0 = omega (arith, hs at, ht from) in
    let others : number (bytes_at s (suc at) n) ≡ number (bytes_at t (suc from) n) = omega (arith, hs at, ht from) in
    let rest = same_number s t hs ht n (suc at) (suc from) (omega arith) (omega arith) others in
    rw (se, te, first, rest)

piece_is : (s : List ℕ) (at : ℕ) → at + piece_size ≤ length s → number (bytes_at s at piece_size) ≡ piece_at s at
unfolding number
piece_is s at h =
    rw (
      number_first s at 7 (omega arith),
      number_more s at 1 6 (omega arith),
      number_more s at 2 5 (omega arith),
      number_more s at 3 4 (omega arith),
      number_more s at 4 3 (omega arith),
      number_more s at 5 2 (omega arith),
      number_more s at 6 1 (omega arith),
      number_more s at 7 0 (omega arith),
      add-zero,
    )

-- pieces are equal where their numbers are, and nowhere else
module _ (s t : List ℕ) (at from : ℕ) (inside : at + piece_size ≤ length s) (within : from + piece_size ≤ length t) {x y : ℕ} where
  pub same_piece :
      Bytes s → Bytes t → x ≡ piece_at s at → y ≡ piece_at t from → x ≡ y → bytes_at s at piece_size ≡ bytes_at t from piece_size
  same_piece hs ht one other same =
      same_number s t hs ht piece_size at from inside within (piece_is s at inside ∙ sym one ∙ same ∙ other ∙ sym (piece_is t from within))

  pub other_piece :
      x ≡ piece_at s at → y ≡ piece_at t from → ¬ (x ≡ y) → ¬ (bytes_at s at piece_size ≡ bytes_at t from piece_size)
  other_piece one other differs e =
      differs (one ∙ sym (piece_is s at inside) ∙ ap number e ∙ piece_is t from within ∙ sym other)
