-- What putting a candidate asks and promises.
use Rattle.std.specs.Prelude.{◌≡◌, refl, false, List, ℕ, ◌+◌, ◌*◌, ◌≤◌, ◌<◌, length, set}
use Rattle.std.proofs.Common.{mul-le-mul_left, add-one, arith}
use Rattle.span.specs.Span.{laid}
use Rattle.chains.specs.Sums.{word_values, chain_of}
use Rattle.chains.specs.Chains.{Indexed, entered}
use Rattle.chains.specs.ChainLaws.{slot_room, indexed_more}
use Rattle.lent.specs.Parts.{Memory, InSlots, with_slot, Put, one_more}
use Rattle.shelf.specs.declared.Front.{Front}

abbrev pub memory : (t l : List ℕ) → Front → Memory
memory t l f = record { table = t; links = l; count = f.count; full = f.full }

-- where there is an index, it has room for its chains and for N slots, and the counted slots are on their chains
pub record Ready (size N : ℕ) (t index : List ℕ) (width count : ℕ) : Type 0 where
  pub narrow : width ≤ word_values
  pub few : 0 < width → N < word_values
  pub room : 0 < width → width + N ≤ length index
  pub indexed : 0 < width → Indexed size t index width count

-- the chain of the bytes, where there is an index
abbrev pub OnChain : (bytes : List ℕ) (width chain : ℕ) → Type 0
OnChain bytes width chain = 0 < width → (chain ≡ chain_of bytes width) × (chain < width)

-- the slots that are counted, and all that may be, fit in what was lent
pub record Fits (size N : ℕ) (t l index : List ℕ) (width : ℕ) (f : Front) : Type 0 where
  pub table : size * N ≤ length t
  pub links : N ≤ length l
  pub few : f.count ≤ N
  pub ready : Ready size N t index width f.count

pub record PutDone (size N : ℕ) (t l : List ℕ) (f : Front) (bytes : List ℕ) (k : ℕ) (t' l' index' : List ℕ) (width : ℕ) (f' : Front) : Type 0 where
  pub few : f'.count ≤ N
  pub put : Put size N (memory t l f) bytes k (memory t' l' f')
  pub ready : Ready size N t' index' width f'.count

module _ (size N : ℕ) (t l index : List ℕ) (width : ℕ) (f : Front) (h : Fits size N t l index width f) where
  -- the counted slots lie in the table, and the next, if any is left
  pub counted_room : size * f.count ≤ length t
  counted_room = omega (arith, mul-le-mul_left size h.few, h.table)

  pub next_room : ¬ (f.count ≡ N) → size * f.count + size ≤ length t
  next_room n = slot_room size f.count N (length t) (omega (arith, h.few)) h.table

  -- the next slot has room in the index, where there is one
  pub entry_room : (bytes : List ℕ) (chain : ℕ) → OnChain bytes width chain → ¬ (f.count ≡ N) →
      0 < width → (chain < width) × (width + f.count < length index) × (f.count + 1 < word_values)
  entry_room bytes chain on n some =
      ((on some).1, omega (arith, h.ready.room some, h.few, n), omega (arith, h.ready.few some, h.few, n))

-- the bytes laid over the slot behind the last, the link beside them, and the slot on its chain
pub put_new :
    (N : ℕ) (t l index : List ℕ) (width : ℕ) (f : Front) (bytes : List ℕ) (k chain : ℕ) (t' index' : List ℕ) →
    Fits (length bytes) N t l index width f → f.full ≡ false →
    ¬ (InSlots (length bytes) t f.count bytes) → ¬ (f.count ≡ N) → t' ≡ laid t (length bytes * f.count) bytes →
    OnChain bytes width chain → (0 < width → index' ≡ entered index width chain f.count) → length index' ≡ length index →
    PutDone (length bytes) N t l f bytes k t' (set l f.count k) index' width (record { count = f.count + 1; full = false })
unfolding laid with_slot
put_new N t l index width f bytes k chain t' index' h left missed n is on entry same =
    let below : f.count < N = omega (arith, h.few) in
    record {
      few = omega arith;
      put = one_more left missed below (rw (is, add-one f.count));
      ready =
          record {
            narrow = h.ready.narrow;
            few = h.ready.few;
            room = λ some. omega (arith, h.ready.room some, same);
            indexed = λ some. rw (entry some, add-one f.count)
                (indexed_more (length bytes) t index width f.count chain (h.ready.indexed some) (on some).1
                (omega (arith, h.ready.room some, h.few, n)) bytes t' refl (next_room (length bytes) N t l index width f h n) is (on some).0);
          };
    }
