-- Laws of the file's readers, for any bytes: an item that is there or not, one reader after another, k items in a row.
use mathlib.Core.Path.{◌≡◌, refl, sym, ap, ◌∙◌}
use mathlib.Core.Bool.{Bool, true, false, cond}
use mathlib.Core.List.{List, [], ◌∷◌}
use mathlib.Core.Option.{Option, none, some}
use Prim.Native.Nat.{ℕ, zero, suc, ◌+◌, ◌-◌, ◌*◌, ◌≤◌, ◌<◌}
use native.Mathlib.Omega.{arith}
use borrow.Author.Tests.{le-leb, lt-leb, leb-true}
use lib.Dec.{leb}
use lib.ListN.{length, get_elem?}
use Rattle.reach.specs.ListLaws.{at_in, below_at}
use Rattle.rules.specs.File.{Read, got, fault, Reader, read_on, ◌>>=◌, done, times, judged, item}
use Rattle.readers.specs.Passed.{Next, At, Fault, came_to, passed, listed, chain, then, repeated}
use Rattle.std.specs.Prelude.{Result, Err}
use Rattle.std.specs.Result.{IsErrAnd}
use Rattle.std.proofs.lemmas.Result.{err_from_is_err_and}
use Rattle.readers.specs.declared.faults.Fault as faults
use Rattle.readers.specs.Refusals.{number_of}

-- a fault that is handed on is the same fault
pub handed_on : {T : Type 0} (x : Result T faults.Fault) (f : faults.Fault) → IsErrAnd x (λ e. e ≡ f) → x ≡ Err f
handed_on x f h = let e = err_from_is_err_and x h in rw (e.1, e.2)

pub came_to_err : (x : Result ℕ faults.Fault) (f : faults.Fault) → IsErrAnd x (λ e. e ≡ f) → came_to x ≡ Fault (number_of f.refusal) f.offset
came_to_err x f h = ap came_to (handed_on x f h)

module _ {A : Type 0} (bytes : List ℕ) (size number : ℕ) (value : ℕ → Option A) (at : ℕ) where
  pub item_missing : length bytes < at + size → item bytes size number value at ≡ fault 6 at
  unfolding item
  item_missing h = rw (lt-leb (at + size) (length bytes) h)

  pub item_there : at + size ≤ length bytes → item bytes size number value at ≡ judged number at (at + size) (value at)
  unfolding item
  item_there h = rw (le-leb (at + size) (length bytes) h)

  pub item_judged : (o : Option A) → at + size ≤ length bytes → o ≡ value at → passed (judged number at (at + size) o) ≡ passed (item bytes size number value at)
  item_judged o h e = rw (item_there h, e)

  -- an item that was read was there
  pub item_got : (a : A) (next : ℕ) → item bytes size number value at ≡ got a next →
      (at + size ≤ length bytes) × (next ≡ at + size) × (value at ≡ some a)
  unfolding item judged
  item_got a next e = there (leb (at + size) (length bytes)) refl e
    where
      holds : (o : Option A) → judged number at (at + size) o ≡ got a next → (next ≡ at + size) × (o ≡ some a)
      holds none e = absurd (let z : ◌≡◌ {A = ℕ} 0 1 = cc in omega arith)
      holds (some x) e = (cc, let h : x ≡ a = cc in ap {B = Option A} some h)

      there :
          (b : Bool) → leb (at + size) (length bytes) ≡ b → cond b (judged number at (at + size) (value at)) (fault 6 at) ≡ got a next →
          (at + size ≤ length bytes) × (next ≡ at + size) × (value at ≡ some a)
      there true h e = let k = holds (value at) e in (leb-true (at + size) (length bytes) h, k.0, k.1)
      there false h e = absurd (let z : ◌≡◌ {A = ℕ} 0 1 = cc in omega arith)

module _ {A : Type 0} where
  pub got_of_passed : (x : Read A) (p : ℕ) → passed x ≡ At p → (a : A) × (x ≡ got a p)
  got_of_passed (got a next) p e = let h : next ≡ p = cc in (a, ap {B = Read A} (got a) h)
  got_of_passed (fault number offset) p e = absurd (let z : ◌≡◌ {A = ℕ} 0 1 = cc in omega arith)

  pub listed_got : (x : Read (List A)) (p : ℕ) → passed x ≡ At p → x ≡ got (listed x) p
  listed_got (got l next) p e = let h : next ≡ p = cc in ap {B = Read (List A)} (got l) h
  listed_got (fault number offset) p e = absurd (let z : ◌≡◌ {A = ℕ} 0 1 = cc in omega arith)

module _ {A B : Type 0} where
  -- one reader after another, where what the second is does not matter for how far it comes
  pub passed_then : (r : Reader A) (f : A → Reader B) (g : ℕ → Next) (at : ℕ) →
      ((a : A) (p : ℕ) → r at ≡ got a p → passed (f a p) ≡ g p) → passed ((r >>= f) at) ≡ chain (passed (r at)) g
  unfolding ◌>>=◌ read_on
  passed_then r f g at h = go (r at) refl
    where
      go : (x : Read A) → r at ≡ x → passed (read_on x f) ≡ chain (passed x) g
      go (got a p) e = h a p e
      go (fault number offset) e = refl

  pub passed_first : (r : Reader A) (f : A → Reader B) (b : Next) (at : ℕ) →
      ((a : A) (p : ℕ) → r at ≡ got a p → passed (f a p) ≡ b) → passed ((r >>= f) at) ≡ then (passed (r at)) b
  passed_first r f b at h = passed_then r f (λ p. b) at h ∙ go (passed (r at))
    where
      go : (x : Next) → chain x (λ p. b) ≡ then x b
      go (At p) = refl
      go (Fault number offset) = refl

  pub then_got : (r : Reader A) (f : A → Reader B) (at : ℕ) (b : B) (next : ℕ) → (r >>= f) at ≡ got b next →
      (a : A) × (p : ℕ) × (r at ≡ got a p) × (f a p ≡ got b next)
  unfolding ◌>>=◌ read_on
  then_got r f at b next e = go (r at) refl e
    where
      go : (x : Read A) → r at ≡ x → read_on x f ≡ got b next → (a : A) × (p : ℕ) × (r at ≡ got a p) × (f a p ≡ got b next)
      go (got a p) h k = (a, p, h, k)
      go (fault number offset) h k = absurd (let z : ◌≡◌ {A = ℕ} 0 1 = cc in omega arith)

-- a value that is made of what was read
module _ {A B : Type 0} (r : Reader A) (f : A → B) where
  pub passed_made : (at : ℕ) → passed ((r >>= λ a. done (f a)) at) ≡ passed (r at)
  unfolding ◌>>=◌ read_on done
  passed_made at = go (r at)
    where
      go : (x : Read A) → passed (read_on x (λ a. done (f a))) ≡ passed x
      go (got a p) = refl
      go (fault number offset) = refl

  pub made_got : (at : ℕ) (b : B) (next : ℕ) → (r >>= λ a. done (f a)) at ≡ got b next → (a : A) × (r at ≡ got a next) × (f a ≡ b)
  unfolding ◌>>=◌ read_on done
  made_got at b next e = go (r at) refl e
    where
      go : (x : Read A) → r at ≡ x → read_on x (λ a. done (f a)) ≡ got b next → (a : A) × (r at ≡ got a next) × (f a ≡ b)
      go (got a q) h k = let d : q ≡ next = cc in let g : f a ≡ b = cc in (a, h ∙ ap {B = Read A} (got a) d, g)
      go (fault number offset) h k = absurd (let z : ◌≡◌ {A = ℕ} 0 1 = cc in omega arith)

-- so many items in a row, by how far each comes: i of n are behind, and the rest begins at `at`
module _ (r : ℕ → Next) (i n at : ℕ) where
  pub repeated_step : (next : ℕ) → i < n → r at ≡ At next → repeated (n - i) r at ≡ repeated (n - (i + 1)) r next
  repeated_step next h e = let m : n - i ≡ suc (n - (i + 1)) = omega arith in rw (m, e)

  pub repeated_fault : (number offset : ℕ) → i < n → r at ≡ Fault number offset → repeated (n - i) r at ≡ Fault number offset
  repeated_fault number offset h e = let m : n - i ≡ suc (n - (i + 1)) = omega arith in rw (m, e)

  pub repeated_end : n ≤ i → repeated (n - i) r at ≡ At at
  repeated_end h = let m : n - i ≡ 0 = omega arith in rw m

-- the first of k items, and the others
pub record Split {A : Type 0} (r : Reader A) (k at : ℕ) (l : List A) (next : ℕ) : Type 0 where
  pub head : A
  pub behind : ℕ
  pub tail : List A
  pub first : r at ≡ got head behind
  pub others : times k r behind ≡ got tail next
  pub whole : head ∷ tail ≡ l

-- k items in a row
module _ {A : Type 0} (r : Reader A) where
  pub times_next : (k at : ℕ) → passed (times (suc k) r at) ≡ chain (passed (r at)) (λ p. passed (times k r p))
  unfolding times
  times_next k at = passed_then r _ _ at (λ a p e. passed_made (times k r) (λ l. a ∷ l) p)

  pub times_split : (k at : ℕ) (l : List A) (next : ℕ) → times (suc k) r at ≡ got l next → Split r k at l next
  unfolding times
  times_split k at l next e =
      let s = then_got r _ at l next e in
      let t = made_got (times k r) (λ l. s.0 ∷ l) s.1 l next s.3 in
      record { head = s.0; behind = s.1; tail = t.0; first = s.2; others = t.1; whole = t.2 }

  pub times_none : (at : ℕ) → times 0 r at ≡ got [] at
  unfolding times done
  times_none at = refl

  -- how far all come goes by how far each comes
  pub times_repeated : (k at : ℕ) → repeated k (λ p. passed (r p)) at ≡ passed (times k r at)
  times_repeated zero at = rw times_none
  times_repeated (suc k) at = rw times_next (go (passed (r at)) (times_repeated k))
    where
      go :
          (x : Next) → ((p : ℕ) → repeated k (λ p. passed (r p)) p ≡ passed (times k r p)) →
          chain x (repeated k (λ p. passed (r p))) ≡ chain x (λ p. passed (times k r p))
      go (At p) h = h p
      go (Fault number offset) h = refl

  -- the last item after all the others
  pub times_last : (k at : ℕ) → passed (times (suc k) r at) ≡ chain (passed (times k r at)) (λ p. passed (r p))
  times_last zero at = times_next 0 at ∙ rw (times_none at) (none_left (passed (r at)))
    where
      none_left : (x : Next) → chain x (λ p. passed (times 0 r p)) ≡ x
      none_left (At p) = rw (times_none p)
      none_left (Fault number offset) = refl
  times_last (suc k) at = rw (times_next (suc k) at, times_next k at) (go (passed (r at)) (times_last k))
    where
      go :
          (x : Next) → ((p : ℕ) → passed (times (suc k) r p) ≡ chain (passed (times k r p)) (λ q. passed (r q))) →
          chain x (λ p. passed (times (suc k) r p)) ≡ chain (chain x (λ p. passed (times k r p))) (λ p. passed (r p))
      go (At p) h = h p
      go (Fault number offset) h = refl

  pub times_length : (k at : ℕ) (l : List A) (next : ℕ) → times k r at ≡ got l next → length l ≡ k
  times_length zero at l next e = let d : ◌≡◌ {A = Read (List A)} (got [] at) (got l next) = sym (times_none at) ∙ e in let f : [] ≡ l = cc in sym (ap length f)
  times_length (suc k) at l next e =
      let s = times_split k at l next e in
      sym (ap length s.whole) ∙ ap suc (times_length k s.behind s.tail next s.others)

  -- what stands at place i was read where i items had passed
  pub times_item : (k at : ℕ) (l : List A) (next : ℕ) → times k r at ≡ got l next →
      (i : ℕ) (x : A) → get_elem? l i ≡ some x → (p : ℕ) × (q : ℕ) × (passed (times i r at) ≡ At p) × (r p ≡ got x q)
  times_item zero at l next e i x h = absurd (at_in [] i x (rw (← empty) at h))
    where
      empty : [] ≡ l
      empty = let d : ◌≡◌ {A = Read (List A)} (got [] at) (got l next) = sym (times_none at) ∙ e in cc
  times_item (suc k) at l next e zero x h =
      let s = times_split k at l next e in
      let d : get_elem? (s.head ∷ s.tail) 0 ≡ some x = ap (λ m. get_elem? m 0) s.whole ∙ h in
      let f : s.head ≡ x = cc in
      (at, s.behind, rw (times_none at), s.first ∙ ap {B = Read A} (λ y. got y s.behind) f)
  times_item (suc k) at l next e (suc i) x h =
      let s = times_split k at l next e in
      let d : get_elem? (s.head ∷ s.tail) (suc i) ≡ some x = ap (λ m. get_elem? m (suc i)) s.whole ∙ h in
      let t = times_item k s.behind s.tail next s.others i x d in
      (t.0, t.1, rw (times_next i at, s.first) t.2, t.3)

  -- items of one size
  module _ (size : ℕ) (sized : (at : ℕ) (a : A) (next : ℕ) → r at ≡ got a next → next ≡ at + size) where
    pub times_sized : (k at p : ℕ) → passed (times k r at) ≡ At p → p ≡ at + size * k
    times_sized zero at p e = let d : At at ≡ At p = sym (ap passed (times_none at)) ∙ e in let f : at ≡ p = cc in omega arith
    times_sized (suc k) at p e =
        let g = got_of_passed (times (suc k) r at) p e in
        let s = times_split k at g.0 p g.1 in
        let d = times_sized k s.behind p (ap passed s.others) in
        omega (arith, sized at s.head s.behind s.first)

  -- items that end within the bytes
  module _ (bound : ℕ) (within : (at : ℕ) (a : A) (next : ℕ) → r at ≡ got a next → next ≤ bound) where
    pub times_within : (k at p : ℕ) → at ≤ bound → passed (times k r at) ≡ At p → p ≤ bound
    times_within zero at p h e = let d : At at ≡ At p = sym (ap passed (times_none at)) ∙ e in let f : at ≡ p = cc in omega arith
    times_within (suc k) at p h e =
        let g = got_of_passed (times (suc k) r at) p e in
        let s = times_split k at g.0 p g.1 in
        times_within k s.behind p (within at s.head s.behind s.first) (ap passed s.others)

-- k items of one size, wholly there, and each of them read where it stands
pub record ItemsLaid {A : Type 0} (bytes : List ℕ) (size : ℕ) (value : ℕ → Option A) (k at : ℕ) (l : List A) (next : ℕ) : Type 0 where
  pub number : length l ≡ k
  pub behind : next ≡ at + size * k
  pub inside : at ≤ length bytes → next ≤ length bytes
  pub values : (i : ℕ) → i < k → value (at + size * i) ≡ get_elem? l i

module _ {A : Type 0} (bytes : List ℕ) (size number : ℕ) (value : ℕ → Option A) where
  sized : (at : ℕ) (a : A) (next : ℕ) → item bytes size number value at ≡ got a next → next ≡ at + size
  sized at a next e = (item_got bytes size number value at a next e).1

  within : (at : ℕ) (a : A) (next : ℕ) → item bytes size number value at ≡ got a next → next ≤ length bytes
  within at a next e = let g = item_got bytes size number value at a next e in omega (arith, g.0, g.1)

  pub items_laid : (k at : ℕ) (l : List A) (next : ℕ) → times k (item bytes size number value) at ≡ got l next →
      ItemsLaid bytes size value k at l next
  items_laid k at l next e =
      let r = item bytes size number value in
      let n = times_length r k at l next e in
      record {
        number = n;
        behind = times_sized r size sized k at next (ap passed e);
        inside = λ h. times_within r (length bytes) within k at next h (ap passed e);
        values = λ i h.
            let x = below_at l i (omega (arith, n)) in
            let t = times_item r k at l next e i x.0 x.1 in
            let p = times_sized r size sized i at t.0 t.2 in
            rw (x.1, ← p) (item_got bytes size number value t.0 x.0 t.1 t.3).2;
      }
