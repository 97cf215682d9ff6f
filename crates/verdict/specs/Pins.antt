-- Worked verdicts: RELEASE or HOLD on jobs of 01's list and some beyond it.
use Rattle.std.specs.Prelude.{◌≡◌, refl, Bool, true, false, List, [], ◌∷◌, ℕ, T, get_or, set}
use Rattle.std.proofs.Common.{sym, ◌∙◌, ap, subst, arith}
use Rattle.std.proofs.Math.Option.{some}
use Rattle.std.proofs.Math.ListN.{get_elem?}
use Rattle.reach.specs.Lists.{All}
use Rattle.reach.specs.ListLaws.{all_nth}
use Rattle.rules.specs.File.{read_on, ◌>>=◌, done, times, judged, byte, item, field, model_of, in_range, capacity_of, register_ok, zero_ok}
use Rattle.rules.specs.File.{instruction_of, instruction, thread, value, initial_value, flag_of, clause_of, clause, ended, fields, length_ok}
use Rattle.rules.specs.File.{accepted, refused, decoded, decode, held_job, job_of}
use Rattle.rules.specs.Fences.{fenced, open_at}
use Rattle.rules.specs.declared.Model.TheVariants.{Sc, Tso, Pso}
use Rattle.rules.specs.Jobs.{p1, p2, p4, p6, p7, p9, p12, p9_sc, p9_sc_drained, p2_drained, parked_store}
use Rattle.rules.specs.Claims.{Case, case, CaseHolds, search_reaches, search_never, search_unknown, fences_say, row_refuses, row_accepts}
use Rattle.rules.specs.Pins.{pins}
use Rattle.rules.specs.Worked.{table}
use Rattle.rules.proofs.Worked.{worked, pinned}
use Rattle.lent.specs.Meaning.{Lent}
use Rattle.search.specs.Meaning as search
use Rattle.search.specs.Pins.{none_lent}
use Rattle.fences.specs.Meaning as fences
use Rattle.together.specs.Answered.{unreachable_words}
use Rattle.together.specs.Listed.{CaseFixed, listed, pins_listed}
use Rattle.verdict.specs.declared.Verdict.{Verdict}
use Rattle.verdict.specs.Meaning.{ScAsks, MayRelease, VerdictPromise}
use Rattle.verdict.specs.Deciding.{not_fenced, not_unreachable, no_job, tso_is_not_sc, pso_is_not_sc}

abbrev release : Bool
release = true

abbrev hold : Bool
hold = false

-- slots, job, and the verdict
pub record Row : Type 0 where
  pub slots : ℕ
  pub bytes : List ℕ
  pub says : Bool

abbrev row : ℕ → List ℕ → Bool → Row
row n b v = record { slots = n; bytes = b; says = v }

-- every verdict that the promise allows, whatever lent memory makes up the slots
abbrev pub Judged : Row → Type 0
Judged r = (m m' : Lent) (v : Verdict) → search.slots_of m ≡ r.slots → VerdictPromise r.bytes m v m' → v.release ≡ r.says

unfoldable pub verdicts : List Row
verdicts =
    -- P1: the goal can be reached
    row 640 p1 hold
    -- P2: not under SC, but flag 0, and OPEN
    ∷ row 640 p2 hold
    -- P9: not under TSO
    ∷ row 640 p9 release
    -- SC, FENCED, flag 1
    ∷ row 640 p9_sc_drained release
    -- likewise, with a store and a load that a JMP leads past: OPEN and HOLD before request 4
    ∷ row 640 parked_store release
    -- SC, FENCED, flag 0
    ∷ row 640 p9_sc hold
    -- SC, OPEN, flag 1
    ∷ row 640 p2_drained hold
    -- TSO and OPEN, P4: the search has decided
    ∷ row 640 p4 release
    -- TSO and OPEN with flag 1: likewise
    ∷ row 640 (set p4 17 0x01) release
    -- PSO and OPEN: likewise
    ∷ row 640 (set p4 3 0x02) release
    -- PSO and FENCED, P7
    ∷ row 640 p7 release
    -- an operation that nobody has handled: refused
    ∷ row 640 (set p1 10 0x0A) hold
    -- nothing was sent: refused
    ∷ row 640 [] hold
    -- a blank goal: refused
    ∷ row 640 p12 hold
    -- no slot lent: refused
    ∷ row 0 p9 hold
    -- P9 with a slot too few: unknown
    ∷ row 30 p9 hold
    -- SC, FENCED, flag 1, with a slot too few: unknown
    ∷ row 21 p9_sc_drained hold
    ∷ []

not_true : (b : Bool) → ¬ (b ≡ true) → b ≡ false
not_true true n = absurd (n refl)
not_true false n = refl

module _ (r : Row) where
  -- what the search and the fence check may then have answered
  abbrev Answers : (List ℕ → List ℕ → Type 0) → Type 0
  Answers P =
      (m m' : Lent) (ws cs : List ℕ) → search.slots_of m ≡ r.slots → search.SearchPromise r.bytes m ws m' → fences.FencePromise r.bytes cs → P ws cs

  held_back : r.says ≡ hold → Answers (λ ws cs. ¬ (MayRelease r.bytes ws cs)) → Judged r
  held_back says none m m' v slots h =
      not_true v.release (λ e. none m m' (search.words v.search) (fences.words v.fences) slots h.searched h.checked (h.releases.0 e)) ∙ sym says

  let_go : r.says ≡ release → Answers (λ ws cs. MayRelease r.bytes ws cs) → Judged r
  let_go says may m m' v slots h =
      h.releases.1 (may m m' (search.words v.search) (fences.words v.fences) slots h.searched h.checked) ∙ sym says

-- the model and the flag of each
heads_are :
    ((job_of p2).model ≡ Sc)
    × ((job_of p2).all_empty ≡ false)
    × ((job_of p9).model ≡ Tso)
    × ((job_of p9_sc_drained).all_empty ≡ true)
    × ((job_of p9_sc).model ≡ Sc)
    × ((job_of p9_sc).all_empty ≡ false)
    × ((job_of p2_drained).model ≡ Sc)
    × ((job_of p4).model ≡ Tso)
    × ((job_of p7).model ≡ Pso)
    × ((job_of (set p4 17 0x01)).model ≡ Tso)
    × ((job_of (set p4 3 0x02)).model ≡ Pso)
    × ((job_of parked_store).all_empty ≡ true)
unfolding p1 p2 p4 p6 p7 p9 p9_sc p9_sc_drained p2_drained parked_store job_of held_job decode read_on ◌>>=◌ done times judged byte item field model_of in_range capacity_of register_ok zero_ok instruction_of instruction thread value initial_value flag_of clause_of clause ended fields length_ok decoded
heads_are = (refl, refl, refl, refl, refl, refl, refl, refl, refl, refl, refl, refl)

-- The ways to HOLD: an answer that is not "unreachable"; under SC flag 0, or OPEN; a refusal.
module _ (r : Row) (says : r.says ≡ hold) where
  found_otherwise :
      (first : ℕ) → ¬ (first ≡ 2) →
      ((m m' : Lent) (ws : List ℕ) → search.slots_of m ≡ r.slots → search.SearchPromise r.bytes m ws m' → get_or ws 0 0 ≡ first) → Judged r
  found_otherwise first other fixed =
      held_back r says (λ m m' ws cs slots s f. not_unreachable r.bytes ws cs (λ e. other (sym (fixed m m' ws slots s) ∙ e)))

  flag_unset : (job_of r.bytes).model ≡ Sc → (job_of r.bytes).all_empty ≡ false → Judged r
  flag_unset sc unset = held_back r says (λ m m' ws cs slots s f may. subst T (sym (may.under_sc sc).0 ∙ unset) tt)

  open_under_sc :
      (job_of r.bytes).model ≡ Sc → (a b c : ℕ) → ((cs : List ℕ) → fences.FencePromise r.bytes cs → cs ≡ fences.checked_words (open_at a b c)) → Judged r
  open_under_sc sc a b c fixed =
      held_back r says
      (λ m m' ws cs slots s f may.
      not_fenced cs (λ e. (let first : get_or cs 0 0 ≡ 2 = ap (λ z. get_or z 0 0) (fixed cs f) in omega (arith, first, e))) (may.under_sc sc).1)

  refused_job : (number offset : ℕ) → decode r.bytes ≡ refused number offset → Judged r
  refused_job number offset is = held_back r says (λ m m' ws cs slots s f. no_job r.bytes ws cs number offset is)

-- The way to RELEASE: unreachable, and what SC asks.
never_released :
    (r : Row) (n : ℕ) → r.says ≡ release → decode r.bytes ≡ accepted (job_of r.bytes) →
    ((m m' : Lent) (ws : List ℕ) → search.slots_of m ≡ r.slots → search.SearchPromise r.bytes m ws m' → ws ≡ unreachable_words n) →
    ((cs : List ℕ) → fences.FencePromise r.bytes cs → ScAsks (job_of r.bytes) cs) → Judged r
never_released r n says is found asked =
    let_go r says
    (λ m m' ws cs slots s f. record { decoded = is; states = n; unreachable_only = found m m' ws slots s; under_sc = asked cs f })

-- an unreachable job of a list, by its row
module _ (l : List Case) (holds : All CaseHolds l) (bytes : List ℕ) (n i : ℕ) (at : get_elem? l i ≡ some (case 640 bytes (search_never n))) where
  is_accepted : decode bytes ≡ accepted (job_of bytes)
  is_accepted = row_accepts l holds i 640 bytes (search_never n) refl at

  is_never :
      All CaseFixed l →
      (m m' : Lent) (ws : List ℕ) → search.slots_of m ≡ 640 → search.SearchPromise bytes m ws m' → ws ≡ unreachable_words n
  is_never fixed m m' ws slots h = (all_nth CaseFixed l fixed i (case 640 bytes (search_never n)) at (omega arith) m m' ws slots h).0

-- Each row.

p1_held : Judged (row 640 p1 hold)
unfolding table
p1_held =
    found_otherwise (row 640 p1 hold) refl 1 (λ e. omega (arith, e))
    (λ m m' ws slots s.
    ap (λ z. get_or z 0 0)
    (all_nth CaseFixed table listed 0 (case 640 p1 (search_reaches 22 (0x00 ∷ 0x00 ∷ 0x01 ∷ 0x01 ∷ []))) refl (omega arith) m m' ws slots s).0)

p2_held : Judged (row 640 p2 hold)
p2_held = flag_unset (row 640 p2 hold) refl heads_are.0 heads_are.1

p9_released : Judged (row 640 p9 release)
unfolding table
p9_released =
    never_released (row 640 p9 release) 31 refl (is_accepted table worked p9 31 12 refl) (is_never table worked p9 31 12 refl listed)
    (λ cs f sc. absurd (tso_is_not_sc (sym heads_are.2 ∙ sc)))

p9_sc_drained_released : Judged (row 640 p9_sc_drained release)
unfolding pins
p9_sc_drained_released =
    never_released (row 640 p9_sc_drained release) 22 refl (is_accepted pins pinned p9_sc_drained 22 2 refl)
    (is_never pins pinned p9_sc_drained 22 2 refl pins_listed)
    (λ cs f sc. (heads_are.3, all_nth CaseFixed pins pins_listed 3 (case 640 p9_sc_drained (fences_say fenced)) refl (omega arith) cs f))

parked_store_released : Judged (row 640 parked_store release)
unfolding pins
parked_store_released =
    never_released (row 640 parked_store release) 63 refl (is_accepted pins pinned parked_store 63 12 refl)
    (is_never pins pinned parked_store 63 12 refl pins_listed)
    (λ cs f sc. (heads_are.11, all_nth CaseFixed pins pins_listed 13 (case 640 parked_store (fences_say fenced)) refl (omega arith) cs f))

p9_sc_held : Judged (row 640 p9_sc hold)
p9_sc_held = flag_unset (row 640 p9_sc hold) refl heads_are.4 heads_are.5

p2_drained_held : Judged (row 640 p2_drained hold)
unfolding pins
p2_drained_held =
    open_under_sc (row 640 p2_drained hold) refl heads_are.6 0 0 1
    (all_nth CaseFixed pins pins_listed 5 (case 640 p2_drained (fences_say (open_at 0 0 1))) refl (omega arith))

p4_released : Judged (row 640 p4 release)
unfolding table
p4_released =
    never_released (row 640 p4 release) 5 refl (is_accepted table worked p4 5 6 refl) (is_never table worked p4 5 6 refl listed)
    (λ cs f sc. absurd (tso_is_not_sc (sym heads_are.7 ∙ sc)))

p4_drained_released : Judged (row 640 (set p4 17 0x01) release)
unfolding pins
p4_drained_released =
    never_released (row 640 (set p4 17 0x01) release) 5 refl (is_accepted pins pinned (set p4 17 0x01) 5 8 refl)
    (is_never pins pinned (set p4 17 0x01) 5 8 refl pins_listed)
    (λ cs f sc. absurd (tso_is_not_sc (sym heads_are.9 ∙ sc)))

p4_pso_released : Judged (row 640 (set p4 3 0x02) release)
unfolding pins
p4_pso_released =
    never_released (row 640 (set p4 3 0x02) release) 5 refl (is_accepted pins pinned (set p4 3 0x02) 5 7 refl)
    (is_never pins pinned (set p4 3 0x02) 5 7 refl pins_listed)
    (λ cs f sc. absurd (pso_is_not_sc (sym heads_are.10 ∙ sc)))

p7_released : Judged (row 640 p7 release)
unfolding table
p7_released =
    never_released (row 640 p7 release) 20 refl (is_accepted table worked p7 20 9 refl) (is_never table worked p7 20 9 refl listed)
    (λ cs f sc. absurd (pso_is_not_sc (sym heads_are.8 ∙ sc)))

refused_held : Judged (row 640 (set p1 10 0x0A) hold)
unfolding table
refused_held = refused_job (row 640 (set p1 10 0x0A) hold) refl 4 10 (row_refuses table worked 20 640 (set p1 10 0x0A) 4 10 refl)

empty_held : Judged (row 640 [] hold)
unfolding table
empty_held = refused_job (row 640 [] hold) refl 1 0 (row_refuses table worked 17 640 [] 1 0 refl)

blank_held : Judged (row 640 p12 hold)
unfolding table
blank_held = refused_job (row 640 p12 hold) refl 5 28 (row_refuses table worked 15 640 p12 5 28 refl)

no_slot_held : Judged (row 0 p9 hold)
unfolding table
no_slot_held =
    found_otherwise (row 0 p9 hold) refl 0 (λ e. omega (arith, e))
    (λ m m' ws slots s. ap (λ z. get_or z 0 0) (none_lent p9 (is_accepted table worked p9 31 12 refl) (search.slots_of m) m m' ws slots s).0)

unknown_held : Judged (row 30 p9 hold)
unfolding pins
unknown_held =
    found_otherwise (row 30 p9 hold) refl 3 (λ e. omega (arith, e))
    (λ m m' ws slots s. ap (λ z. get_or z 0 0) (all_nth CaseFixed pins pins_listed 6 (case 30 p9 search_unknown) refl (omega arith) m m' ws slots s).0)

sc_unknown_held : Judged (row 21 p9_sc_drained hold)
unfolding pins
sc_unknown_held =
    found_otherwise (row 21 p9_sc_drained hold) refl 3 (λ e. omega (arith, e))
    (λ m m' ws slots s. ap (λ z. get_or z 0 0) (all_nth CaseFixed pins pins_listed 9 (case 21 p9_sc_drained search_unknown) refl (omega arith) m m' ws slots s).0)

pub verdicts_are : All Judged verdicts
unfolding verdicts
verdicts_are =
    (p1_held, (p2_held, (p9_released, (p9_sc_drained_released, (parked_store_released, (p9_sc_held, (p2_drained_held, (p4_released, (p4_drained_released, (p4_pso_released, (p7_released, (refused_held, (empty_held, (blank_held, (no_slot_held, (unknown_held, (sc_unknown_held, tt)))))))))))))))))
