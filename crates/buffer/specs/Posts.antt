-- What the functions on a buffer ask and answer.
use Rattle.std.specs.Prelude.{◌≡◌, Bool, true, false, not, ◌&&◌, List, ℕ, ◌+◌, ◌*◌, ◌≤◌, ◌<◌, get_or, Option, MatchOption, Err}
use Rattle.std.proofs.Common.{ap}
use Rattle.rules.specs.Limits.{most_pending, most_variables, group_unit, entry_size}
use Rattle.rules.specs.State.{Pending, Buffer}
use Rattle.rules.specs.Step as rules
use Rattle.rules.specs.Step.{◌then◌, May}
use Rattle.rules.specs.declared.Reason.TheVariants.{NothingToFlush, NotTheOldest}
use Rattle.words.specs.Words.{word}
use Rattle.buffer.specs.Held.{number, held_pending, held_buffer, BufferOk}
use Rattle.buffer.specs.declared.Buf.{Buf}
use Rattle.buffer.specs.declared.Entry.{Entry}
use Rattle.buffer.specs.declared.Taken.{Taken}

-- what is read of the entry at an index
abbrev pub read_entry : List ℕ → ℕ → Entry
read_entry s i = record { byte = get_or s (entry_size * i) 0; value = word (get_or s (entry_size * i + 1) 0) (get_or s (entry_size * i + 2) 0) }

-- the test fails at each entry below index n
abbrev pub Fails : (Entry → Bool → Type 0) → Buf → ℕ → Type 0
Fails post b n = (i : ℕ) → i < n → post (read_entry b.slots i) false

-- the first pending store at which the test does not fail is at this index; without one it fails at each
pub record IsPosition (post : Entry → Bool → Type 0) (b : Buf) (r : Option ℕ) : Type 0 where
  pub is : MatchOption r (Fails post b (number b)) (λ i. (i < number b) × post (read_entry b.slots i) true × Fails post b i)

-- why no store to v of these may be flushed: there is none, or none that is the oldest
abbrev pub why_not : ℕ → List Pending → May
why_not v l = rules.needs (rules.is_pending_to v l) NothingToFlush then Err NotTheOldest

-- one more store can be pending; it can go in at an index
pub record HasRoom (b : Buf) : Type 0 where
  pub ok : BufferOk b
  pub room : number b < most_pending

pub record RoomAt (b : Buf) (i : ℕ) : Type 0 where
  pub room : HasRoom b
  pub within : i ≤ number b

-- one more store to v can be pending in its group: both have room in a byte
pub record GroupHasRoom (b : Buf) (v : ℕ) : Type 0 where
  pub room : HasRoom b
  pub variable : v < most_variables
  pub group : rules.joined_group (held_buffer b) < group_unit

-- the buffer that it holds is this
pub record Holds (b : Buf) (x : Buffer) : Type 0 where
  pub ok : BufferOk b
  pub held : held_buffer b ≡ x

-- its pending stores are the buffer's
pub stores_held : {b : Buf} {x : Buffer} → Holds b x → held_pending b ≡ x.pending
stores_held h = ap (λ (y : Buffer). y.pending) h.held

-- a store has joined, so these are pending and no WFENCE stands after the newest
abbrev pub Joined : Buf → List Pending → Type 0
Joined b l = Holds b (record { pending = l; marked = false })

-- the oldest store to v is out of this buffer, and the groups are numbered as they were
pub record TakesOut (t : Taken) (v : ℕ) (b : Buffer) : Type 0 where
  pub value : t.value ≡ rules.oldest_to v b.pending
  pub rest : Holds t.rest (record { pending = rules.without_oldest_to v b.pending; marked = b.marked })

-- groups counted anew, and a mark only behind a store
abbrev pub counted_buffer : Buffer → Buffer
counted_buffer b = record { pending = rules.counted b.pending; marked = b.marked && not (rules.is_empty b.pending) }

-- the oldest store to v goes out of this buffer, which is then as a flush leaves it
pub record Takes (t : Taken) (v : ℕ) (b : Buffer) : Type 0 where
  pub value : t.value ≡ rules.oldest_to v b.pending
  pub rest : Holds t.rest (rules.flushed_buffer v b)
