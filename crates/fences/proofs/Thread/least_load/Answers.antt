-- `fences::Thread::least_load` meets its contract: the first place of the thread where a load that was met stands.
use Rattle.std.proofs.Common.{◌≡◌, refl, ℕ, ◌≤◌, ◌<◌, Option, None, Some, MatchOption, rules, tests, arith}
use Rattle.std.proofs.lemmas.Iterator.{first_from_Range}
use Rattle.fences.specs.Places.{code, LeastBelow, MetLoad}
use Rattle.fences.proofs.Thread.least_load.Goals as goal

-- what `find` says of a range from 0
least_from_first :
    (P : ℕ → Type 0) (n s e : ℕ) → s ≡ 0 → e ≡ n → (r : Option ℕ) →
    MatchOption r ((k : ℕ) → s ≤ k → k < e → ¬ (P k)) (λ i. (s ≤ i) × (i < e) × P i × ((k : ℕ) → s ≤ k → k < i → ¬ (P k))) →
    LeastBelow P n r
least_from_first P n s e is_start is_end None none_holds = λ i l. none_holds i (omega arith) (omega arith)
least_from_first P n s e is_start is_end (Some r) first =
    record { within = omega (arith, first.1); holds = first.2; before = λ i l. first.3 i (omega arith) l }

pub returns : goal.returns
returns c =
    let Yes : ℕ → Type 0 = MetLoad (code c.args.self.now) c.args.met in
    least_from_first _ _ _ _ refl c.length.ensures _
    (first_from_Range _ _ _ c.find.result Yes (λ p. ¬ (Yes p)) c.find.ensures.ran (λ x q k. search (rules, tests)) (λ x q k. search (rules, tests)))
