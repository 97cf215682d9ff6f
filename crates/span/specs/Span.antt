-- A run of bytes at a place of a table.
use Rattle.std.specs.Prelude.{◌≡◌, Bool, true, List, ◌++◌, ℕ, ◌+◌, length, take, drop}

-- n bytes of the table from `at` on
abbrev pub bytes_at : List ℕ → (at n : ℕ) → List ℕ
bytes_at table at n = take n (drop at table)

-- the table with the bytes over it from `at` on, and nothing else changed
unfoldable pub laid : List ℕ → (at : ℕ) → List ℕ → List ℕ
laid table at bytes = take at table ++ bytes ++ drop (at + length bytes) table

pub record Laid (before after : List ℕ) (at : ℕ) (bytes : List ℕ) : Type 0 where
  pub is : after ≡ laid before at bytes
  pub size : length after ≡ length before

-- a comparison answers true for equal bytes, and for no other
pub record Compared (there bytes : List ℕ) (same : Bool) : Type 0 where
  pub only : same ≡ true → there ≡ bytes
  pub each : there ≡ bytes → same ≡ true
