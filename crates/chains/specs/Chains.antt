-- An index over the counted slots of a table: so many chains, and every counted slot is on the chain that its bytes belong to.
-- First stands, for each chain, the newest slot on it, and then, for each slot, the one before it on its chain; each number is a slot's plus 1, and
-- 0 is none.
use Rattle.std.specs.Prelude.{◌≡◌, List, ℕ, suc, ◌+◌, ◌≤◌, ◌<◌, get_or, set}
use Rattle.lent.specs.Parts.{slot_at}
use Rattle.chains.specs.Sums.{chain_of}

-- from this number on, back along its chain, one comes to slot i
pub data On (index : List ℕ) (width i : ℕ) : ℕ → Type 0 where
  here : (number : ℕ) → number ≡ suc i → On index width i number
  behind : (number k : ℕ) → number ≡ suc k → On index width i (get_or index (width + k) 0) → On index width i number

-- the index as it should be: every number is of a slot that was counted before, and every slot is found
pub record Indexed (size : ℕ) (table index : List ℕ) (width count : ℕ) : Type 0 where
  pub firsts : (c : ℕ) → c < width → get_or index c 0 ≤ count
  pub befores : (k : ℕ) → k < count → get_or index (width + k) 0 ≤ k
  pub found : (i : ℕ) → i < count → On index width i (get_or index (chain_of (slot_at size table i) width) 0)

-- the index with slot k as the newest on chain c
abbrev pub entered : List ℕ → (width c k : ℕ) → List ℕ
entered index width c k = set (set index (width + k) (get_or index c 0)) c (suc k)

-- a chain's first is none
abbrev pub Cleared : List ℕ → (width : ℕ) → Type 0
Cleared index width = (c : ℕ) → c < width → get_or index c 0 ≡ 0
