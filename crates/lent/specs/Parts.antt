-- What the parts of a search promise of the lent memory: one candidate put, the steps of one state tried, the first goal looked for.
use Rattle.std.specs.Prelude.{◌≡◌, Bool, true, false, List, ◌++◌, ℕ, zero, suc, ◌+◌, ◌*◌, ◌≤◌, ◌<◌, take, drop, set}
use Rattle.std.proofs.Math.Option.{Option, none, some}
use Rattle.reach.specs.Meaning.{Reached, link}
use Rattle.lent.specs.Coding.{Coding, system}

-- the table and the links, how many slots are counted, and whether a state was met for which none was left
pub record Memory : Type 0 where
  pub table : List ℕ
  pub links : List ℕ
  pub count : ℕ
  pub full : Bool

abbrev pub slot_at : (size : ℕ) → List ℕ → ℕ → List ℕ
slot_at size table i = take size (drop (size * i) table)

-- one of the counted slots holds the bytes
abbrev pub InSlots : (size : ℕ) → List ℕ → (count : ℕ) → List ℕ → Type 0
InSlots size table count bytes = (i : ℕ) × (i < count) × (slot_at size table i ≡ bytes)

-- the bytes were looked up among the counted slots
pub record Looked (size : ℕ) (table : List ℕ) (count : ℕ) (bytes : List ℕ) (found : Bool) : Type 0 where
  pub hit : found ≡ true → InSlots size table count bytes
  pub miss : found ≡ false → ¬ (InSlots size table count bytes)

-- the table with slot i replaced, and nothing else changed
unfoldable pub with_slot : (size : ℕ) → List ℕ → ℕ → List ℕ → List ℕ
with_slot size table i bytes = take (size * i) table ++ bytes ++ drop (size * i + size) table

-- the memory with one slot more
abbrev pub with_one_more : (size : ℕ) → Memory → List ℕ → ℕ → Memory
with_one_more size e bytes k =
    record { table = with_slot size e.table e.count bytes; links = set e.links e.count k; count = suc e.count; full = false }

-- the memory when a state was left out
abbrev pub with_none_left : Memory → Memory
with_none_left e = record { table = e.table; links = e.links; count = e.count; full = true }

-- A candidate, its bytes and its link, is put into a memory of N slots: it is not taken once one was left out, nor if it is known, nor if no slot is left.
pub data Put (size N : ℕ) (e : Memory) (bytes : List ℕ) (k : ℕ) (e' : Memory) : Type 0 where
  was_full : e.full ≡ true → e' ≡ e → Put size N e bytes k e'
  was_known : e.full ≡ false → InSlots size e.table e.count bytes → e' ≡ e → Put size N e bytes k e'
  none_left : e.full ≡ false → ¬ (InSlots size e.table e.count bytes) → e.count ≡ N → e' ≡ with_none_left e → Put size N e bytes k e'
  one_more : e.full ≡ false → ¬ (InSlots size e.table e.count bytes) → e.count < N → e' ≡ with_one_more size e bytes k → Put size N e bytes k e'

module _ (C : Coding) where
  -- a state that can be reached stands in slot i
  pub record Stands (table : List ℕ) (i : ℕ) : Type 0 where
    pub state : (system C).State
    pub reached : Reached (system C) state
    pub bytes : slot_at C.size table i ≡ C.bytes state

  module _ (N q : ℕ) (x : (system C).State) where
    -- what step s of the state x in slot q leads to is put
    abbrev pub Offered : (s : ℕ) → Option (system C).State → (e e' : Memory) → Type 0
    Offered s none e e' = e' ≡ e
    Offered s (some y) e e' = Put C.size N e (C.bytes y) (link q s) e'

    -- the steps below k were tried, from the lowest upward
    unfoldable pub Tried : (k : ℕ) (e e' : Memory) → Type 0
    Tried zero e e' = e' ≡ e
    Tried (suc s) e e'' = (e' : Memory) × Tried s e e' × Offered s ((system C).next s x) e' e''

  -- the state in slot q was expanded: all its steps were tried
  abbrev pub Expanded : (N q : ℕ) (e e' : Memory) → Type 0
  Expanded N q e e' = (at : Stands e.table q) → Tried N q at.state C.searched.bound e e'

  -- g is the first slot from lo on that holds a goal, or the count where none does
  pub record FirstGoal (table : List ℕ) (lo count g : ℕ) : Type 0 where
    pub low : lo ≤ g
    pub within : g ≤ count
    pub none_before : (i : ℕ) → lo ≤ i → i < g → (at : Stands table i) → (system C).goal at.state ≡ false
    pub here : g < count → (at : Stands table g) → (system C).goal at.state ≡ true
