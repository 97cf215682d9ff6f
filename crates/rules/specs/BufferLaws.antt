-- A thread's buffer stays in order: a store joins in its place, a flush takes one out and groups are counted anew.
use Rattle.std.specs.Prelude.{◌≡◌, refl, Bool, true, false, cond, ◌&&◌, ◌||◌, ℕ, suc, ◌+◌, ◌-◌, ◌≤◌, ◌<◌, eqb, ltb, leb, length}
use Rattle.std.proofs.Common.{sym, ap, ap₂, subst, ◌∙◌, arith, ltb-true, ltb-false, leb-true, leb-false, eqb-true}
use Rattle.std.proofs.lemmas.Bool.{false≢true, eqb-false}
use mathlib.Core.List.{List, [], ◌∷◌, ◌++◌}
use Rattle.reach.specs.Lists.{All, Pairwise}
use Rattle.reach.specs.ListLaws.{all_imp}
use Rattle.rules.specs.State.{Pending, Buffer}
use Rattle.rules.specs.Step.{stands_before, in_its_place, newest_group, joined_group, oldest_to, without_oldest_to, lowered, counted, is_pending_to, is_in_oldest_group}
use Rattle.rules.specs.Sound.{StandsBefore, NoGap}

pub of_cond : {A : Type 0} (P : A → Type 0) (c : Bool) {a b : A} → (c ≡ true → P a) → (c ≡ false → P b) → P (cond c a b)
of_cond P true h k = h refl
of_cond P false h k = k refl

-- A store that joins is put in somewhere, and a flush takes one out from somewhere: `Inserted q b c`, c is b and q besides.

pub data Inserted (q : Pending) : List Pending → List Pending → Type 0 where
  here : {b : List Pending} → Inserted q b (q ∷ b)
  later : {p : Pending} {b c : List Pending} → Inserted q b c → Inserted q (p ∷ b) (p ∷ c)

module _ {q : Pending} where
  pub inserted_length : {b c : List Pending} → Inserted q b c → length c ≡ suc (length b)
  inserted_length here = refl
  inserted_length (later i) = ap suc (inserted_length i)

  pub inserted_all : (P : Pending → Type 0) {b c : List Pending} → Inserted q b c → P q → All P b → All P c
  inserted_all P here h k = (h, k)
  inserted_all P (later i) h k = (k.0, inserted_all P i h k.1)

  pub removed_all : (P : Pending → Type 0) {b c : List Pending} → Inserted q b c → All P c → P q × All P b
  removed_all P here h = h
  removed_all P (later i) h = let r = removed_all P i h.1 in (r.0, (h.0, r.1))

  pub removed_pairwise : (R : Pending → Pending → Type 0) {b c : List Pending} → Inserted q b c → Pairwise R c → Pairwise R b
  removed_pairwise R here h = h.1
  removed_pairwise R (later {p = p} i) h = ((removed_all (R p) i h.0).1, removed_pairwise R i h.1)

pub at_end : (q : Pending) (b : List Pending) → Inserted q b (b ++ (q ∷ []))
at_end q [] = here
at_end q (p ∷ b) = later (at_end q b)

pub in_its_place_inserted : (q : Pending) (b : List Pending) → Inserted q b (in_its_place q b)
unfolding in_its_place
in_its_place_inserted q [] = here
in_its_place_inserted q (p ∷ b) =
    of_cond (Inserted q (p ∷ b)) (stands_before p q) (λ h. later (in_its_place_inserted q b)) (λ h. here)

-- what a flush takes was pending to its variable, and the rest is left
pub oldest_taken : (v : ℕ) (b : List Pending)
    → is_pending_to v b ≡ true → (g : ℕ) × Inserted (record { group = g; variable = v; value = oldest_to v b }) (without_oldest_to v b) b
unfolding is_pending_to oldest_to without_oldest_to
oldest_taken v [] h = absurd (false≢true h)
oldest_taken v (p ∷ b) h = which (eqb p.variable v) refl h (oldest_taken v b)
  where
    which :
        (c : Bool) → eqb p.variable v ≡ c → (c || is_pending_to v b) ≡ true →
        (is_pending_to v b ≡ true → (g : ℕ) × Inserted (record { group = g; variable = v; value = oldest_to v b }) (without_oldest_to v b) b) →
        (g : ℕ) × Inserted (record { group = g; variable = v; value = cond c p.value (oldest_to v b) }) (cond c b (p ∷ without_oldest_to v b)) (p ∷ b)
    which true e h behind =
        (p.group, subst (λ u. Inserted (record { group = p.group; variable = u; value = p.value }) b (p ∷ b)) (eqb-true _ _ e) here)
    which false e h behind = let r = behind h in (r.0, later r.1)

-- The order of PSO, as its test has it.

pub before_is : (p q : Pending) → stands_before p q ≡ true → StandsBefore p q
unfolding stands_before
before_is p q e = which (ltb p.group q.group) (eqb p.group q.group) (leb p.variable q.variable) refl refl refl e
  where
    which :
        (a b c : Bool) → ltb p.group q.group ≡ a → eqb p.group q.group ≡ b → leb p.variable q.variable ≡ c →
        (a || (b && c)) ≡ true → StandsBefore p q
    which true b c l s v e =
        let h : p.group < q.group = ltb-true _ _ l in
        (omega arith, λ d. absurd (omega arith))
    which false true true l s v e =
        let h : p.group ≡ q.group = eqb-true _ _ s in
        (omega arith, λ d. leb-true _ _ v)
    which false true false l s v e = absurd (false≢true e)
    which false false c l s v e = absurd (false≢true e)

pub not_before_is : (p q : Pending) → stands_before p q ≡ false → StandsBefore q p
unfolding stands_before
not_before_is p q e = which (ltb p.group q.group) (eqb p.group q.group) (leb p.variable q.variable) refl refl refl e
  where
    which :
        (a b c : Bool) → ltb p.group q.group ≡ a → eqb p.group q.group ≡ b → leb p.variable q.variable ≡ c →
        (a || (b && c)) ≡ false → StandsBefore q p
    which true b c l s v e = absurd (false≢true (sym e))
    which false true true l s v e = absurd (false≢true (sym e))
    which false true false l s v e =
        let h : p.group ≡ q.group = eqb-true _ _ s in
        let k : q.variable < p.variable = leb-false _ _ v in
        (omega arith, λ d. omega arith)
    which false false c l s v e =
        let h : q.group ≤ p.group = ltb-false _ _ l in
        (h, λ d. absurd (eqb-false _ _ s (sym d)))

pub before_trans : (p q r : Pending) → StandsBefore p q → StandsBefore q r → StandsBefore p r
before_trans p q r h k = (
  omega (arith, h.0, k.0),
  λ e.
      let a = h.1 (omega (arith, h.0, k.0)) in
      let b = k.1 (omega (arith, h.0, k.0)) in
      omega arith,
)

-- A store joins the newest group or the next, so no gap comes of it.

newest_from : (g : ℕ) (b : List Pending) → Pairwise StandsBefore b → All (λ p. g ≤ p.group) b → g ≤ newest_group g b
unfolding newest_group
newest_from g [] h k = omega arith
newest_from g (p ∷ b) h k =
    let l = newest_from p.group b h.1 (all_imp (StandsBefore p) _ (λ q e. e.0) b h.0) in omega (arith, l, k.0)

-- no store is of a later group than the newest
pub newest_most : (g : ℕ) (b : List Pending) → Pairwise StandsBefore b → All (λ p. p.group ≤ newest_group g b) b
unfolding newest_group
newest_most g [] h = tt
newest_most g (p ∷ b) h =
    (newest_from p.group b h.1 (all_imp (StandsBefore p) _ (λ q e. e.0) b h.0), newest_most p.group b h.1)

pub joined_most : (b : Buffer) → (newest_group 0 b.pending ≤ joined_group b) × (joined_group b ≤ suc (newest_group 0 b.pending))
unfolding joined_group
joined_most b =
    of_cond (λ g. (newest_group 0 b.pending ≤ g) × (g ≤ suc (newest_group 0 b.pending))) b.marked
    (λ e. (omega arith, omega arith)) (λ e. (omega arith, omega arith))

-- the first store of a buffer is of group 0
pub joined_empty : (b : Buffer) → (b.pending ≡ [] → b.marked ≡ false) → b.pending ≡ [] → joined_group b ≡ 0
unfolding joined_group newest_group
joined_empty b h e = rw (h e, e)

abbrev pub joining : Buffer → (v k : ℕ) → Pending
joining b v k = record { group = joined_group b; variable = v; value = k }

-- Groups counted anew.

abbrev pub lower : ℕ → Pending → Pending
lower g p = record { group = p.group - g; variable = p.variable; value = p.value }

lowered_all : (P Q : Pending → Type 0) (g : ℕ) → ((p : Pending) → P p → Q (lower g p)) → (b : List Pending) → All P b → All Q (lowered g b)
unfolding lowered
lowered_all P Q g f [] h = tt
lowered_all P Q g f (p ∷ b) h = (f p h.0, lowered_all P Q g f b h.1)

-- what lowering keeps of every store, counting keeps
pub counted_all : (P : Pending → Type 0) → ((g : ℕ) (p : Pending) → P p → P (lower g p)) → (b : List Pending) → All P b → All P (counted b)
unfolding counted
counted_all P f [] h = tt
counted_all P f (p ∷ b) h = lowered_all P P p.group (f p.group) (p ∷ b) h

pub lowered_length : (g : ℕ) (b : List Pending) → length (lowered g b) ≡ length b
unfolding lowered
lowered_length g [] = refl
lowered_length g (p ∷ b) = ap suc (lowered_length g b)

pub counted_length : (b : List Pending) → length (counted b) ≡ length b
unfolding counted
counted_length [] = refl
counted_length (p ∷ b) = lowered_length p.group (p ∷ b)

-- lowered by nothing
pub lowered_none : (b : List Pending) → lowered 0 b ≡ b
unfolding lowered
lowered_none [] = refl
lowered_none (p ∷ b) =
    let same : p.group - 0 ≡ p.group = omega arith in
    ap₂ {C = List Pending} (λ g l. record { group = g; variable = p.variable; value = p.value } ∷ l) same (lowered_none b)

-- with one group there is nothing to count anew
pub counted_level : (b : List Pending) → All (λ p. p.group ≡ 0) b → counted b ≡ b
unfolding counted
counted_level [] h = refl
counted_level (p ∷ b) h = ap (λ g. lowered g (p ∷ b)) h.0 ∙ lowered_none (p ∷ b)

lowered_ordered : (g : ℕ) (b : List Pending) → All (λ p. g ≤ p.group) b → Pairwise StandsBefore b → Pairwise StandsBefore (lowered g b)
unfolding lowered
lowered_ordered g [] low h = tt
lowered_ordered g (p ∷ b) low h = (
  lowered_all (StandsBefore p) (StandsBefore (lower g p)) g (λ q k. (omega (arith, k.0), λ e. k.1 (omega (arith, low.0, k.0)))) b h.0,
  lowered_ordered g b low.1 h.1,
)

lowered_no_gap : (g n : ℕ) (b : List Pending) → g ≤ n → All (λ p. g ≤ p.group) b → NoGap n b → NoGap (n - g) (lowered g b)
unfolding lowered
lowered_no_gap g n [] low from h = tt
lowered_no_gap g n (p ∷ b) low from h =
    let up : suc p.group - g ≡ suc (p.group - g) = omega (arith, from.0) in
    (omega (arith, h.0), subst (λ m. NoGap m (lowered g b)) up (lowered_no_gap g (suc p.group) b (omega (arith, from.0)) from.1 h.1))

-- the first is of the oldest group, so counted from it the groups begin at 0
pub counted_in_order : (n : ℕ) (b : List Pending) → Pairwise StandsBefore b → NoGap n b → Pairwise StandsBefore (counted b) × NoGap 0 (counted b)
unfolding counted
counted_in_order n [] h k = (tt, tt)
counted_in_order n (p ∷ b) h k =
    let from : All (λ q. p.group ≤ q.group) (p ∷ b) = (omega arith, all_imp (StandsBefore p) _ (λ q e. e.0) b h.0) in
    let none : p.group - p.group ≡ 0 = omega arith in (
      lowered_ordered p.group (p ∷ b) from h,
      subst (λ m. NoGap m (lowered p.group (p ∷ b))) none (lowered_no_gap p.group p.group (p ∷ b) (omega arith) from (omega arith, k.1)),
    )

-- where a store of group 0 is pending, no store before it is of a later one
from_zero : (g v : ℕ) (b : List Pending) → All (λ p. g ≤ p.group) b → is_in_oldest_group v b ≡ true → g ≡ 0
unfolding is_in_oldest_group
from_zero g v [] low h = absurd (false≢true h)
from_zero g v (p ∷ b) low h = which (eqb p.group 0) (eqb p.variable v) refl h (from_zero g v b low.1)
  where
    which : (c d : Bool) → eqb p.group 0 ≡ c → ((c && d) || is_in_oldest_group v b) ≡ true → (is_in_oldest_group v b ≡ true → g ≡ 0) → g ≡ 0
    which true d e h behind = let z : p.group ≡ 0 = eqb-true _ _ e in omega (arith, low.0, z)
    which false d e h behind = behind h

-- a flush takes from the oldest group: what is left has no gap, but group 0 may be gone
pub flush_leaves : (v : ℕ) (b : List Pending) (n : ℕ) → Pairwise StandsBefore b → is_in_oldest_group v b ≡ true → NoGap n b → NoGap 1 (without_oldest_to v b)
unfolding is_in_oldest_group without_oldest_to
flush_leaves v [] n o h k = absurd (false≢true h)
flush_leaves v (p ∷ b) n o h k = which (eqb p.variable v) refl h (λ e. flush_leaves v b (suc p.group) o.1 e k.1)
  where
    zero_first : p.group ≡ 0
    zero_first = from_zero p.group v (p ∷ b) (omega arith, all_imp (StandsBefore p) _ (λ q e. e.0) b o.0) h

    one : suc p.group ≡ 1
    one = omega (arith, zero_first)

    behind : (d : Bool) → ((d && false) || is_in_oldest_group v b) ≡ true → is_in_oldest_group v b ≡ true
    behind true h = h
    behind false h = h

    which : (c : Bool) → eqb p.variable v ≡ c → ((eqb p.group 0 && c) || is_in_oldest_group v b) ≡ true
        → (is_in_oldest_group v b ≡ true → NoGap 1 (without_oldest_to v b)) → NoGap 1 (cond c b (p ∷ without_oldest_to v b))
    which true e h rest = subst (λ m. NoGap m b) one k.1
    which false e h rest = (omega (arith, zero_first), subst (λ m. NoGap m (without_oldest_to v b)) (sym one) (rest (behind (eqb p.group 0) h)))

-- a group's number is below the number of stores
pub groups_most : (g : ℕ) (b : List Pending) → NoGap g b → All (λ p. p.group < g + length b) b
groups_most g [] h = tt
groups_most g (p ∷ b) h =
    (omega (arith, h.0), all_imp _ _ (λ q k. omega (arith, k, h.0)) b (groups_most (suc p.group) b h.1))
