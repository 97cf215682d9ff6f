-- What the lent table and links hold while a search goes on: the rows met, in their order, and behind them what stood there.
use Rattle.std.specs.Prelude.{◌≡◌, refl, ◌⊎◌, Bool, true, false, List, [], ◌∷◌, ◌++◌, T}
use Rattle.std.proofs.Math.Path.{sym, subst}
use Rattle.std.proofs.Common.{◌∙◌, ap, inl, inr, mul-zero, arith}
use Rattle.std.proofs.Math.Option.{some}
use Prim.Native.Nat.{ℕ, suc, ◌*◌, ◌≤◌, ◌<◌}
use Rattle.std.proofs.Math.Nat.{mul-le-mul_left}
use borrow.Author.Tests.{le-leb, lt-leb}
use Rattle.std.proofs.Math.ListN.{length, length-append, length-map, get_elem?}
use Rattle.reach.specs.Lists.{◌∈◌}
use Rattle.reach.specs.ListLaws.{in_either, at_in, in_at, at_below, below_at, map_at, map_append}
use Rattle.reach.specs.Meaning.{LeadsTo, Reached, slots_bytes}
use Rattle.reach.specs.Rows.{Row, known, Met, put}
use Rattle.reach.specs.Growth.{Has, known_has, has_known}
use Rattle.reach.specs.Found.{states, links}
use Rattle.reach.specs.PutLaws.{put_when_full, put_when_known, put_when_none_left, put_when_new}
use Rattle.reach.specs.Stored.{Table, table_put, table_read, Links, links_put}
use Rattle.lent.specs.Coding.{Coding, system, Faithful}
use Rattle.lent.specs.Parts.{Memory, slot_at, InSlots, with_slot, with_one_more, Put, was_full, was_known, none_left, one_more, Stands}

-- N slots fit in the table and among the links as they were lent
pub record Lends (size N : ℕ) (t l : List ℕ) : Type 0 where
  pub table : size * N ≤ length t
  pub links : N ≤ length l

-- the memory e holds the rows of m, of a search with N slots that was lent the table t and the links l
pub record Kept (C : Coding) (N : ℕ) (t l : List ℕ) (m : Met (system C).State) (e : Memory) : Type 0 where
  pub table : Table C.bytes C.size t (states m.rows) e.table
  pub links : Links l (links m.rows) e.links
  pub count : e.count ≡ length m.rows
  pub full : e.full ≡ m.full
  pub few : length m.rows ≤ N
  pub ways : (r : Row (system C).State) → r ∈ m.rows → LeadsTo (system C) r.way r.state

is_true : (b : Bool) → T b → b ≡ true
is_true true h = refl
is_true false h = absurd h

is_false : (b : Bool) → ¬ (T b) → b ≡ false
is_false true n = absurd (n tt)
is_false false n = refl

-- before anything is met
pub kept_nothing :
    (C : Coding) (N : ℕ) (t l : List ℕ) →
    Kept C N t l (record { rows = []; full = false }) (record { table = t; links = l; count = 0; full = false })
unfolding slots_bytes
kept_nothing C N t l =
    record {
      table = record { is = rw (mul-zero C.size); room = omega (arith, mul-zero C.size); sized = tt };
      links = record { is = refl; room = omega arith };
      count = refl;
      full = refl;
      few = omega arith;
      ways = λ r h. absurd h;
    }

module _ (C : Coding) (N : ℕ) (t l : List ℕ) (m : Met (system C).State) (e : Memory) (h : Kept C N t l m e) where
  -- the row of a counted slot can be reached
  abbrev row_reached : (r : Row (system C).State) → r ∈ m.rows → Reached (system C) r.state
  row_reached r k = record { way = r.way; leads = h.ways r k }

  -- a counted slot holds the bytes of its row's state
  pub row_bytes : (i : ℕ) (r : Row (system C).State) → get_elem? m.rows i ≡ some r → slot_at C.size e.table i ≡ C.bytes r.state
  row_bytes i r p =
      table_read C.bytes C.size t (states m.rows) e.table h.table i r.state (map_at (λ z. z.state) m.rows i r p)

  abbrev pub row_stands : (i : ℕ) (r : Row (system C).State) → get_elem? m.rows i ≡ some r → Stands C e.table i
  row_stands i r p = record { state = r.state; reached = row_reached r (at_in m.rows i r p); bytes = row_bytes i r p }

  -- so a state that can be reached stands in every counted slot
  pub kept_stands : (i : ℕ) → i < e.count → Stands C e.table i
  kept_stands i n = let r = below_at m.rows i (omega (arith, h.count)) in row_stands i r.0 r.1

  -- what stands in a row's slot is the row's state
  pub stands_row :
      Faithful C → (i : ℕ) (r : Row (system C).State) → get_elem? m.rows i ≡ some r → (at : Stands C e.table i) → at.state ≡ r.state
  stands_row f i r p at = f.apart at.state r.state at.reached (row_reached r (at_in m.rows i r p)) (sym at.bytes ∙ row_bytes i r p)

  module _ (f : Faithful C) (x : (system C).State) (reached : Reached (system C) x) where
    -- the bytes of a state are in the slots exactly when the state is known
    in_slots_known : InSlots C.size e.table e.count (C.bytes x) → known C.searched x m.rows ≡ true
    in_slots_known (i, n, b) =
        let r = below_at m.rows i (omega (arith, h.count)) in
        let inside = at_in m.rows i r.0 r.1 in
        let same = f.apart r.0.state x (row_reached r.0 inside) reached (sym (row_bytes i r.0 r.1) ∙ b) in
        is_true (known C.searched x m.rows) (has_known C.searched x m.rows r.0 inside same)

    not_in_slots : ¬ (InSlots C.size e.table e.count (C.bytes x)) → known C.searched x m.rows ≡ false
    not_in_slots missed = is_false (known C.searched x m.rows) (λ k. there (known_has C.searched x m.rows k))
      where
        there : Has m.rows x → ⊥
        there (r, inside, same) =
            let i = in_at m.rows r inside in
            missed (i.0, omega (arith, h.count, at_below m.rows i.0 r i.1), row_bytes i.0 r i.1 ∙ ap C.bytes same)

  module _ (f : Faithful C) (lends : Lends C.size N t l) (c : Row (system C).State) (leads : LeadsTo (system C) c.way c.state) where
    reached : Reached (system C) c.state
    reached = record { way = c.way; leads = leads }

    -- one row more
    kept_more :
        m.full ≡ false → known C.searched c.state m.rows ≡ false → e.count < N →
        Kept C N t l (put C.searched N m c) (with_one_more C.size e (C.bytes c.state) c.from)
    unfolding with_slot
    kept_more not_full new n =
        let fits = lt-leb N (length m.rows) (omega (arith, h.count)) in
        let number = length-map m.rows (λ r. r.state) in
        let links_number = length-map m.rows (λ r. r.from) in
        let more : length (m.rows ++ (c ∷ [])) ≡ suc (length m.rows) = omega (arith, length-append m.rows (c ∷ [])) in
        let there : e.count ≡ length (states m.rows) = h.count ∙ sym number in
        let linked : e.count ≡ length (links m.rows) = h.count ∙ sym links_number in
        let one : suc (length (states m.rows)) ≤ N = omega (arith, number, h.count) in
        let room : C.size * suc (length (states m.rows)) ≤ length t = omega (arith, mul-le-mul_left C.size one, lends.table) in
        rw (put_when_new C.searched N m c not_full new fits)
        (record {
          table =
              rw (there, map_append (λ r. r.state) m.rows (c ∷ []))
              (table_put C.bytes C.size t (states m.rows) e.table h.table c.state (f.sized c.state reached) room);
          links =
              rw (linked, map_append (λ r. r.from) m.rows (c ∷ []))
              (links_put l (links m.rows) e.links h.links c.from (omega (arith, lends.links, links_number, h.count)));
          count = rw more (ap suc h.count);
          full = refl;
          few = omega (arith, more, h.count);
          ways = λ r p. ways r (in_either r m.rows (c ∷ []) p);
        })
      where
        ways : (r : Row (system C).State) → (r ∈ m.rows) ⊎ (r ∈ (c ∷ [])) → LeadsTo (system C) r.way r.state
        ways r (inl p) = h.ways r p
        ways r (inr (inl p)) = subst (λ z. LeadsTo (system C) z.way z.state) (sym p) leads
        ways r (inr (inr p)) = absurd p

    -- whatever rows the memory holds, after a candidate was put it holds what the list search makes of them
    pub kept_put : (e' : Memory) → Put C.size N e (C.bytes c.state) c.from e' → Kept C N t l (put C.searched N m c) e'
    kept_put e' (was_full full is) =
        rw (is, put_when_full C.searched N m c (sym h.full ∙ full)) h
    kept_put e' (was_known left there is) =
        rw (is, put_when_known C.searched N m c (sym h.full ∙ left) (in_slots_known f c.state reached there)) h
    kept_put e' (none_left left missed n is) =
        let fills = le-leb N (length m.rows) (omega (arith, h.count)) in
        rw (is, put_when_none_left C.searched N m c (sym h.full ∙ left) (not_in_slots f c.state reached missed) fills)
        (record { table = h.table; links = h.links; count = h.count; full = refl; few = h.few; ways = h.ways })
    kept_put e' (one_more left missed n is) =
        rw is (kept_more (sym h.full ∙ left) (not_in_slots f c.state reached missed) n)
