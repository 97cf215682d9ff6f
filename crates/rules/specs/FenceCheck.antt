-- A fence check on lists that has the meaning: the places that a walk reaches are a search of their own.
use Rattle.std.specs.Prelude.{◌≡◌, ◌⊎◌, ◌↔◌, Bool, true, false, cond, not, ◌&&◌, eqb, length, get_or}
use Rattle.std.proofs.Math.Path.{refl, ap, subst}
use Rattle.std.proofs.Common.{sym, ◌∙◌, inr, eqb→eq}
use Rattle.std.proofs.Math.Logic.{inl}
use mathlib.Core.List.{List, [], ◌∷◌, ◌++◌}
use Rattle.std.proofs.Math.Option.{Option, none, some}
use Prim.Native.Nat.{ℕ, zero, suc, ◌≤◌, ◌<◌}
use native.Mathlib.Omega.{arith}
use Rattle.std.proofs.Math.Decide.{dec_lt}
use Rattle.std.proofs.Math.Dec.{T, eqb_refl}
use Rattle.std.proofs.Math.ListN.{get_elem?}
use Rattle.reach.specs.Lists.{◌∈◌}
use Rattle.reach.specs.ListLaws.{in_left, in_right, at_in, in_at, at_below, no_longer, at_past}
use Rattle.reach.specs.System.{System, and_then, run}
use Rattle.reach.specs.Order.{Earlier}
use Rattle.reach.specs.OrderLaws.{earlier_total}
use Rattle.reach.specs.RunLaws.{none_is_not_some, andThen_some}
use Rattle.reach.specs.Meaning.{Answer, reachable, unreachable, unknown, Outcome, MeansAt, Outnumber}
use Rattle.reach.specs.Searchable.{Searchable}
use Rattle.reach.specs.Rows.{find}
use Rattle.reach.proofs.Found.{find_means}
use Rattle.reach.specs.Promise.{never}
use Rattle.reach.proofs.Promise.{unknown_exactly}
use Rattle.rules.specs.Kinds.{control_of, role_of}
use Rattle.rules.specs.Step.{given}
use Rattle.rules.specs.Tests.{both, of_both, given_some, given_none}
use Rattle.rules.specs.Fences.{onward, onward_at, successors, role_at, Move, Passes, Walk, Leads, Unfenced, Live, OpenIn, Open, Checked, fenced, open_at, ChecksTo}
use Rattle.rules.specs.Onward.{few_onward}
use Rattle.rules.specs.declared.Instr.{Instr}
use Rattle.rules.specs.declared.Role.{Role}
use Rattle.rules.specs.declared.Role.TheVariants.{Stores, Loads, Fences, Other}
use Rattle.rules.specs.declared.Passing.{Passing}
use Rattle.rules.specs.declared.Passing.TheVariants.{Anything, NoFence}

-- any two answers that the meaning allows are equal
pub one_fence_answer : (threads : List (List Instr)) (a b : Checked) → ChecksTo threads a → ChecksTo threads b → a ≡ b
one_fence_answer threads fenced fenced h k = refl
one_fence_answer threads fenced (open_at t s l) h k = absurd (h t s l k.0)
one_fence_answer threads (open_at t s l) fenced h k = absurd (k t s l h.0)
one_fence_answer threads (open_at t s l) (open_at t' s' l') h k = which (earlier_total (t ∷ s ∷ l ∷ []) (t' ∷ s' ∷ l' ∷ []) refl)
  where
    which :
        Earlier (t ∷ s ∷ l ∷ []) (t' ∷ s' ∷ l' ∷ [])
        ⊎ (((t ∷ s ∷ l ∷ []) ≡ (t' ∷ s' ∷ l' ∷ [])) ⊎ Earlier (t' ∷ s' ∷ l' ∷ []) (t ∷ s ∷ l ∷ [])) →
        open_at t s l ≡ open_at t' s' l'
    which (inl e) = absurd (k.1 t s l h.0 e)
    which (inr (inl e)) = cc
    which (inr (inr e)) = absurd (h.1 t' s' l' k.0 e)

-- where an instruction goes on is a move
pub move_by : (code : List Instr) (p q : ℕ) (i : Instr) → get_elem? code p ≡ some i → q ∈ onward p (control_of i) → Move code p q
unfolding successors onward_at
move_by code p q i e h = rw e h

-- Walks with one move more.

walk_on : (by : Passing) (code : List Instr) (p : ℕ) (between : List ℕ) (q r : ℕ) →
    Walk by code p between q → Passes by (role_at code q) → Move code q r → Walk by code p (between ++ q ∷ []) r
walk_on by code p [] q r w h m = (w, h, m)
walk_on by code p (x ∷ between) q r w h m = (w.0, w.1, walk_on by code x between q r w.2 h m)

pub leads_on : (by : Passing) (code : List Instr) (p q r : ℕ) → Leads by code p q → Passes by (role_at code q) → Move code q r → Leads by code p r
leads_on by code p q r w h m = (w.0 ++ q ∷ [], walk_on by code p w.0 q r w.1 h m)

-- from a live place every move leads to a live one
pub live_on : (code : List Instr) (p q : ℕ) → Live code p → Move code p q → Live code q
live_on code p q (inl e) m = inr ([], subst (λ z. Move code z q) e m)
live_on code p q (inr w) m = inr (leads_on Anything code 0 p q w (λ e. refl) m)

-- Walks as runs: the state is a place, the steps are its successors by number, and none leads on from what a walk may not pass.

-- a test for roles, by a number for each
unfoldable pub role_number : Role → ℕ
role_number Stores = 0
role_number Loads = 1
role_number Fences = 2
role_number Other = 3

unfoldable pub same_role : Role → Role → Bool
same_role r q = eqb (role_number r) (role_number q)

role_numbered : ℕ → Role
role_numbered k = get_or (Stores ∷ Loads ∷ Fences ∷ []) k Other

role_back : (r : Role) → role_numbered (role_number r) ≡ r
unfolding role_number role_numbered
role_back Stores = refl
role_back Loads = refl
role_back Fences = refl
role_back Other = refl

pub same_role_equal : (r q : Role) → T (same_role r q) → r ≡ q
unfolding same_role
same_role_equal r q h = sym (role_back r) ∙ ap role_numbered (eqb→eq _ _ h) ∙ role_back q

pub equal_same_role : (r q : Role) → r ≡ q → T (same_role r q)
unfolding same_role
equal_same_role r q e = subst (λ z. T (same_role r z)) e (eqb_refl (role_number r))

-- a test for what a walk may pass
unfoldable pub passes : Passing → Role → Bool
passes Anything r = true
passes NoFence r = not (same_role r Fences)

-- a walk that may pass no fence passes none
pub passes_no_fence : {r : Role} → Passes NoFence r → ¬ (r ≡ Fences)
passes_no_fence h e = let d = h e in let z : ◌≡◌ {A = ℕ} 0 1 = cc in omega arith

passes_right : (by : Passing) (r : Role) → T (passes by r) ↔ Passes by r
unfolding passes
passes_right Anything r = (λ h e. refl, λ h. tt)
passes_right NoFence r = which (same_role r Fences) (same_role_equal r Fences) (equal_same_role r Fences)
  where
    which : (b : Bool) → (T b → r ≡ Fences) → (r ≡ Fences → T b) → T (not b) ↔ Passes NoFence r
    which true f g = (λ h. absurd h, λ n. passes_no_fence n (f tt))
    which false f g = (λ h e. absurd (g e), λ n. tt)

unfoldable pub move : Passing → List Instr → ℕ → ℕ → Option ℕ
move by code k p = cond (passes by (role_at code p)) (get_elem? (successors code p) k) none

few_at : (p : ℕ) (o : Option Instr) → length (onward_at p o) ≤ 2
unfolding onward_at
few_at p none = omega arith
few_at p (some i) = few_onward p (control_of i)

pub move_beyond : (by : Passing) (code : List Instr) (k p : ℕ) → 2 ≤ k → move by code k p ≡ none
unfolding move successors
move_beyond by code k p h = which (passes by (role_at code p))
  where
    which : (b : Bool) → cond b (get_elem? (onward_at p (get_elem? code p)) k) none ≡ none
    which true = at_past (onward_at p (get_elem? code p)) k (omega (arith, few_at p (get_elem? code p)))
    which false = refl

-- a move that can be made: from a place that may be passed, and to a successor
move_some : (by : Passing) (code : List Instr) (k p q : ℕ) → move by code k p ≡ some q → Passes by (role_at code p) × Move code p q
unfolding move
move_some by code k p q e = which (passes by (role_at code p)) (passes_right by (role_at code p)).0 e
  where
    which :
        (b : Bool) → (T b → Passes by (role_at code p)) → cond b (get_elem? (successors code p) k) none ≡ some q →
        Passes by (role_at code p) × Move code p q
    which true f e = (f tt, at_in (successors code p) k q e)
    which false f e = absurd (none_is_not_some e)

some_move : (by : Passing) (code : List Instr) (p q : ℕ) → Passes by (role_at code p) → Move code p q → (k : ℕ) × (move by code k p ≡ some q)
unfolding move
some_move by code p q h m = which (passes by (role_at code p)) ((passes_right by (role_at code p)).1 h)
  where
    which : (b : Bool) → T b → (k : ℕ) × (cond b (get_elem? (successors code p) k) none ≡ some q)
    which true t = in_at (successors code p) q m
    which false t = absurd t

abbrev pub walks : Passing → List Instr → (s l : ℕ) → System
walks by code s l = record { State = ℕ; start = s; next = move by code; goal = λ p. eqb p l }

abbrev searched : Passing → List Instr → (s l : ℕ) → Searchable
searched by code s l =
    record { system = walks by code s l; same = eqb; same_equal = eqb→eq; same_refl = eqb_refl; bound = 2; beyond = move_beyond by code }

module _ (by : Passing) (code : List Instr) (s l : ℕ) where
  walk_run : (between : List ℕ) (p q : ℕ) → Passes by (role_at code p) → Walk by code p between q → (w : List ℕ) × (run (walks by code s l) w p ≡ some q)
  walk_run [] p q n h = let k = some_move by code p q n h in (k.0 ∷ [], rw k.1)
  walk_run (m ∷ between) p q n h =
      let k = some_move by code p m n h.0 in
      let w = walk_run between m q h.1 h.2 in
      (k.0 ∷ w.0, rw k.1 w.1)

  run_walk : (k : ℕ) (w : List ℕ) (p q : ℕ) → run (walks by code s l) (k ∷ w) p ≡ some q → Leads by code p q
  run_walk k [] p q e =
      let r = andThen_some (move by code k p) (run (walks by code s l) []) q e in
      let d : r.0 ≡ q = (let f : some r.0 ≡ some q = r.2 in cc) in
      ([], subst (Move code p) d (move_some by code k p r.0 r.1).1)
  run_walk k (i ∷ w) p q e =
      let r = andThen_some (move by code k p) (run (walks by code s l) (i ∷ w)) q e in
      let m = andThen_some (move by code i r.0) (run (walks by code s l) w) q r.2 in
      let b = run_walk i w r.0 q r.2 in
      (r.0 ∷ b.0, ((move_some by code k p r.0 r.1).1, (move_some by code i r.0 m.0 m.1).0, b.1))

-- all places that any move leads to
unfoldable pub targets_below : List Instr → ℕ → List ℕ
targets_below code zero = []
targets_below code (suc p) = targets_below code p ++ successors code p

targets_has : (code : List Instr) (n p q : ℕ) → p < n → Move code p q → q ∈ targets_below code n
unfolding targets_below
targets_has code zero p q h m = absurd (omega arith)
targets_has code (suc n) p q h m = which (dec_lt p n) (λ k. targets_has code n p q k m)
  where
    which : Dec (p < n) → (p < n → q ∈ targets_below code n) → q ∈ (targets_below code n ++ successors code n)
    which (yes k) again = in_left q (targets_below code n) (successors code n) (again k)
    which (no k) again =
        let e : p ≡ n = omega arith in
        in_right q (targets_below code n) (successors code n) (subst (λ i. Move code i q) e m)

pub move_inside : (code : List Instr) (p q : ℕ) → Move code p q → p < length code
unfolding successors onward_at
move_inside code p q h = which (get_elem? code p) refl h
  where
    which : (o : Option Instr) → get_elem? code p ≡ o → q ∈ onward_at p o → p < length code
    which none e m = absurd m
    which (some i) e m = at_below code p i e

module _ (by : Passing) (code : List Instr) (s l : ℕ) where
  unfoldable pub landings : List ℕ
  landings = s ∷ targets_below code (length code)

  stays : (w : List ℕ) (p q : ℕ) → p ∈ landings → run (walks by code s l) w p ≡ some q → q ∈ landings
  unfolding landings
  stays [] p q h e = let d : p ≡ q = (let f : some p ≡ some q = e in cc) in subst (λ z. z ∈ landings) d h
  stays (k ∷ w) p q h e =
      let r = andThen_some (move by code k p) (run (walks by code s l) w) q e in
      let m = (move_some by code k p r.0 r.1).1 in
      stays w r.0 q (inr (targets_has code (length code) p r.0 (move_inside code p r.0 m) m)) r.2

  unfoldable pub found : Answer → Bool
  found (reachable d n) = true
  found (unreachable n) = false
  found (unknown n) = false

  -- is there a walk from s to l? As many slots as landings are enough.
  unfoldable pub leads : Bool
  leads = found (find (searched by code s l) (length landings)).answer

  some_landing : 1 ≤ length landings
  unfolding landings
  some_landing = omega arith

  leads_run : T leads → (w : List ℕ) × (run (walks by code s l) w s ≡ some l)
  unfolding leads found
  leads_run h =
      which (find (searched by code s l) (length landings)).answer (find (searched by code s l) (length landings))
      (find_means (searched by code s l) (length landings) some_landing) h
    where
      which : (a : Answer) (o : Outcome ℕ) → MeansAt (walks by code s l) (length landings) a o → T (found a) → (w : List ℕ) × (run (walks by code s l) w s ≡ some l)
      which (reachable d n) o m h =
          let g = m.first.has in
          (o.schedule, subst (λ z. run (walks by code s l) o.schedule s ≡ some z) (eqb→eq g.goal l g.holds) g.leads)
      which (unreachable n) o m h = absurd h
      which (unknown n) o m h = absurd h

  -- no more places can be reached than there are landings
  enough : Outnumber (walks by code s l) (length landings) → ⊥
  unfolding landings
  enough h =
      let all = no_longer h.states landings h.distinct (λ q m. let r = h.reached q m in stays r.way s q at_start r.leads) in
      omega (arith, h.number)
    where
      at_start : s ∈ landings
      at_start = inl refl

  run_leads : (w : List ℕ) → run (walks by code s l) w s ≡ some l → T leads
  unfolding leads found
  run_leads w e =
      which (find (searched by code s l) (length landings)).answer refl (find_means (searched by code s l) (length landings) some_landing)
    where
      which :
          (a : Answer) → (find (searched by code s l) (length landings)).answer ≡ a →
          MeansAt (walks by code s l) (length landings) a (find (searched by code s l) (length landings)) → T (found a)
      which (reachable d n) f m = tt
      which (unreachable n) f m =
          absurd (never (walks by code s l) (length landings) n (find (searched by code s l) (length landings)) m w l e (eqb_refl l))
      which (unknown n) f m =
          absurd
          (enough
          ((unknown_exactly (searched by code s l) (length landings) (find (searched by code s l) (length landings))
          (find_means (searched by code s l) (length landings) some_landing)).0 (f ∙ ap {B = Answer} unknown m.gives)))

-- The least below a bound: the first number that gives something.

unfoldable pub or_else : {A : Type 0} → Option A → Option A → Option A
or_else (some a) o = some a
or_else none o = o

unfoldable pub first_below : {A : Type 0} → ℕ → (ℕ → Option A) → Option A
first_below zero f = none
first_below (suc k) f = or_else (first_below k f) (f k)

module _ {A : Type 0} (f : ℕ → Option A) where
  first_none : (k : ℕ) → first_below k f ≡ none → (i : ℕ) → i < k → f i ≡ none
  unfolding first_below or_else
  first_none zero e i h = absurd (omega arith)
  first_none (suc k) e i h = which (first_below k f) refl e (first_none k)
    where
      which : (o : Option A) → first_below k f ≡ o → or_else o (f k) ≡ none → (first_below k f ≡ none → (i : ℕ) → i < k → f i ≡ none) → f i ≡ none
      which (some a) d e again = absurd (none_is_not_some (sym e))
      which none d e again = last (dec_lt i k)
        where
          last : Dec (i < k) → f i ≡ none
          last (yes m) = again d i m
          last (no n) = let p : i ≡ k = omega arith in ap f p ∙ e

  first_some : (k : ℕ) (a : A) → first_below k f ≡ some a → (i : ℕ) × (i < k) × (f i ≡ some a) × ((n : ℕ) → n < i → f n ≡ none)
  unfolding first_below or_else
  first_some zero a e = absurd (none_is_not_some e)
  first_some (suc k) a e = which (first_below k f) refl e (first_some k a)
    where
      which :
          (o : Option A) → first_below k f ≡ o → or_else o (f k) ≡ some a →
          (first_below k f ≡ some a → (i : ℕ) × (i < k) × (f i ≡ some a) × ((n : ℕ) → n < i → f n ≡ none)) →
          (i : ℕ) × (i < suc k) × (f i ≡ some a) × ((n : ℕ) → n < i → f n ≡ none)
      which (some b) d e again = let r = again (d ∙ e) in (r.0, omega (arith, r.1), r.2, r.3)
      which none d e again = (k, omega arith, e, first_none k d)

-- the test of a store that counts, and of a load that is open with it
unfoldable pub store_test : List Instr → (s : ℕ) → Bool
store_test code s = same_role (role_at code s) Stores && leads Anything code 0 s

unfoldable pub load_test : List Instr → (s l : ℕ) → Bool
load_test code s l = same_role (role_at code l) Loads && leads NoFence code s l

-- the least open load of a store, that of a store if it counts, the least open store of a thread, the least thread that has one
unfoldable pub open_loads : List Instr → (t s : ℕ) → Option Checked
open_loads code t s = first_below (length code) λ l. given (load_test code s l) (open_at t s l)

abbrev pub open_with : List Instr → (t s : ℕ) → Option Checked
open_with code t s = and_then (given (store_test code s) s) (open_loads code t)

unfoldable pub open_stores : ℕ → List Instr → Option Checked
open_stores t code = first_below (length code) (open_with code t)

unfoldable pub open_threads : List (List Instr) → Option Checked
open_threads threads = first_below (length threads) λ t. and_then (get_elem? threads t) (open_stores t)

unfoldable pub fence_answer : Option Checked → Checked
fence_answer none = fenced
fence_answer (some a) = a

unfoldable pub fence_check : List (List Instr) → Checked
fence_check threads = fence_answer (open_threads threads)

-- The test is right.

pub store_is_no_fence : {r : Role} → r ≡ Stores → ¬ (r ≡ Fences)
store_is_no_fence e f = let z : ◌≡◌ {A = ℕ} 0 1 = cc in omega arith

store_is_no_load : {r : Role} → r ≡ Stores → ¬ (r ≡ Loads)
store_is_no_load e f = let z : ◌≡◌ {A = ℕ} 0 1 = cc in omega arith

pub role_there : (code : List Instr) (p : ℕ) (i : Instr) → get_elem? code p ≡ some i → role_at code p ≡ role_of i
unfolding role_at
role_there code p i e = rw (e, role_at)

-- past the end of a thread nothing plays a role
pub role_inside : (code : List Instr) (p : ℕ) → ¬ (role_at code p ≡ Other) → p < length code
unfolding role_at
role_inside code p n = which (get_elem? code p) refl n
  where
    which : (o : Option Instr) → get_elem? code p ≡ o → ¬ (elim o [ none ↦ Other | some i ↦ role_of i ] ≡ Other) → p < length code
    which none e n = absurd (n refl)
    which (some i) e n = at_below code p i e

module _ {code : List Instr} {s l : ℕ} (o : Unfenced code s l) where
  pub store_inside : s < length code
  store_inside = role_inside code s (λ e. let d = o.store in let z : ◌≡◌ {A = ℕ} 0 1 = cc in omega arith)

  pub load_inside : l < length code
  load_inside = role_inside code l (λ e. let d = o.load in let z : ◌≡◌ {A = ℕ} 0 1 = cc in omega arith)

-- an open pair, said of its thread's instructions
pub open_in : (threads : List (List Instr)) (t : ℕ) (code : List Instr) → get_elem? threads t ≡ some code
    → (s l : ℕ) → Open threads t s l → OpenIn code s l
open_in threads t code is s l o =
    let e : o.code ≡ code = (let f : some o.code ≡ some code = sym o.thread_is ∙ is in cc) in
    subst (λ c. OpenIn c s l) e o.is_open

-- a walk of no move stays where it is
no_move : (by : Passing) (code : List Instr) (s l p q : ℕ) → run (walks by code s l) [] p ≡ some q → p ≡ q
no_move by code s l p q e = let f : some p ≡ some q = e in cc

module _ (code : List Instr) (s : ℕ) where
  live_run : (w : List ℕ) → run (walks Anything code 0 s) w 0 ≡ some s → Live code s
  live_run [] e = inl (sym (no_move Anything code 0 s 0 s e))
  live_run (k ∷ w) e = inr (run_walk Anything code 0 s k w 0 s e)

  live_leads : Live code s → T (leads Anything code 0 s)
  live_leads (inl e) = run_leads Anything code 0 s [] (rw e)
  live_leads (inr b) = let w = walk_run Anything code 0 s b.0 0 s (λ e. refl) b.1 in run_leads Anything code 0 s w.0 w.1

  -- a store that counts
  test_store : store_test code s ≡ true → (role_at code s ≡ Stores) × Live code s
  unfolding store_test
  test_store h =
      let p = both (same_role (role_at code s) Stores) (leads Anything code 0 s) (rw h tt) in
      let r = leads_run Anything code 0 s p.1 in
      (same_role_equal (role_at code s) Stores p.0, live_run r.0 r.1)

  store_tests : role_at code s ≡ Stores → Live code s → T (store_test code s)
  unfolding store_test
  store_tests e h = of_both (same_role (role_at code s) Stores) (leads Anything code 0 s) (equal_same_role _ _ e) (live_leads h)

module _ (code : List Instr) (s l : ℕ) where
  test_load : role_at code s ≡ Stores → load_test code s l ≡ true → Unfenced code s l
  unfolding load_test
  test_load st h =
      let p = both (same_role (role_at code l) Loads) (leads NoFence code s l) (rw h tt) in
      let ld = same_role_equal (role_at code l) Loads p.0 in
      let r = leads_run NoFence code s l p.1 in
      let w = walk ld r.0 r.1 in
      record { store = st; load = ld; between = w.0; walk = w.1 }
    where
      -- a walk of no move would end at its own store
      walk : role_at code l ≡ Loads → (w : List ℕ) → run (walks NoFence code s l) w s ≡ some l → Leads NoFence code s l
      walk ld [] e = absurd (store_is_no_load st (ap (role_at code) (no_move NoFence code s l s l e) ∙ ld))
      walk ld (k ∷ w) e = run_walk NoFence code s l k w s l e

  load_tests : Unfenced code s l → T (load_test code s l)
  unfolding load_test
  load_tests o =
      let w = walk_run NoFence code s l o.between s l (λ e. absurd (store_is_no_fence o.store e)) o.walk in
      of_both (same_role (role_at code l) Loads) (leads NoFence code s l) (equal_same_role _ _ o.load) (run_leads NoFence code s l w.0 w.1)

  no_load : (t : ℕ) → given (load_test code s l) (open_at t s l) ≡ none → ¬ (Unfenced code s l)
  no_load t e o = subst T (given_none (load_test code s l) (open_at t s l) e) (load_tests o)

-- no open load, store or thread is missed
module _ (code : List Instr) (t : ℕ) where
  no_loads : (s : ℕ) → open_loads code t s ≡ none → (l : ℕ) → ¬ (Unfenced code s l)
  unfolding open_loads
  no_loads s e l o =
      no_load code s l t (first_none (λ l. given (load_test code s l) (open_at t s l)) (length code) e l (load_inside o)) o

  no_store : (s : ℕ) → open_with code t s ≡ none → (l : ℕ) → ¬ (OpenIn code s l)
  no_store s e l o = which (store_test code s) (store_tests code s o.pair.store o.live) e
    where
      which : (b : Bool) → T b → and_then (given b s) (open_loads code t) ≡ none → ⊥
      which true h e = no_loads s e l o.pair
      which false h e = h

  no_stores : open_stores t code ≡ none → (s l : ℕ) → ¬ (OpenIn code s l)
  unfolding open_stores
  no_stores e s l o = no_store s (first_none (open_with code t) (length code) e s (store_inside o.pair)) l o

module _ (threads : List (List Instr)) where
  abbrev in_thread : ℕ → Option Checked
  in_thread t = and_then (get_elem? threads t) (open_stores t)

  no_threads : (t : ℕ) → in_thread t ≡ none → (s l : ℕ) → ¬ (Open threads t s l)
  no_threads t e s l o =
      no_stores o.code t (sym (ap (λ z. and_then z (open_stores t)) o.thread_is) ∙ e) s l o.is_open

  -- a pair is the least if no thread before has one, no store before in its thread, and no load before of its store
  pub least_open :
      (t s l : ℕ) → ((n : ℕ) → n < t → (s' l' : ℕ) → ¬ (Open threads n s' l')) →
      ((n : ℕ) → n < s → (l' : ℕ) → ¬ (Open threads t n l')) →
      ((n : ℕ) → n < l → ¬ (Open threads t s n)) →
      (t' s' l' : ℕ) → Open threads t' s' l' → ¬ (Earlier (t' ∷ s' ∷ l' ∷ []) (t ∷ s ∷ l ∷ []))
  least_open t s l f g h t' s' l' o (inl k) = f t' k s' l' o
  least_open t s l f g h t' s' l' o (inr (p, inl k)) = g s' k l' (subst (λ z. Open threads z s' l') p o)
  least_open t s l f g h t' s' l' o (inr (p, inr (q, inl k))) =
      h l' k (subst (λ z. Open threads t z l') q (subst (λ z. Open threads z s' l') p o))
  least_open t s l f g h t' s' l' o (inr (p, inr (q, inr k))) = absurd k.1

  pub fence_check_means : ChecksTo threads (fence_check threads)
  unfolding fence_check open_threads fence_answer open_stores open_loads
  fence_check_means = which (first_below (length threads) in_thread) refl
    where
      which : (o : Option Checked) → first_below (length threads) in_thread ≡ o → ChecksTo threads (fence_answer o)
      which none e =
          λ t s l o. no_threads t (first_none in_thread (length threads) e t (at_below threads t o.code o.thread_is)) s l o
      which (some a) e =
          let r = first_some in_thread (length threads) a e in
          let c = andThen_some (get_elem? threads r.0) (open_stores r.0) a r.2 in
          let p = first_some (open_with c.0 r.0) (length c.0) a c.2 in
          let i = andThen_some (given (store_test c.0 p.0) p.0) (open_loads c.0 r.0) a p.2 in
          let k = given_some (store_test c.0 p.0) p.0 i.0 i.1 in
          let st = test_store c.0 p.0 k.0 in
          let is : open_loads c.0 r.0 p.0 ≡ some a = ap (open_loads c.0 r.0) k.1 ∙ i.2 in
          let q = first_some (λ l. given (load_test c.0 p.0 l) (open_at r.0 p.0 l)) (length c.0) a is in
          let g = given_some (load_test c.0 p.0 q.0) (open_at r.0 p.0 q.0) a q.2 in
          let said = open_in threads r.0 c.0 c.1 in
          subst (ChecksTo threads) g.1 (
            record {
              code = c.0;
              thread_is = c.1;
              is_open = record { pair = test_load c.0 p.0 q.0 st.0 g.0; live = st.1 };
            },
            least_open r.0 p.0 q.0 (λ n m. no_threads n (r.3 n m))
                (λ n m l o. no_store c.0 r.0 n (p.3 n m) l (said n l o))
                (λ n m o. no_load c.0 p.0 n r.0 (q.3 n m) (said p.0 n o).pair),
          )
