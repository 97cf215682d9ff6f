-- The first goal from a slot on, looked for slot by slot.
use Rattle.std.specs.Prelude.{◌≡◌, true, false, List, ℕ, ◌+◌, ◌≤◌, ◌<◌}
use Rattle.std.proofs.Common.{subst, arith}
use Rattle.std.proofs.Math.Decide.{dec_lt}
use Rattle.lent.specs.Coding.{Coding, system}
use Rattle.lent.specs.Parts.{Stands, FirstGoal}

module _ (C : Coding) (table : List ℕ) (lo count : ℕ) where
  -- none of the slots before i holds a goal
  pub record Looking (i : ℕ) : Type 0 where
    pub low : lo ≤ i
    pub within : i ≤ count
    pub none_before : (k : ℕ) → lo ≤ k → k < i → (at : Stands C table k) → (system C).goal at.state ≡ false

  pub looking_start : lo ≤ count → Looking lo
  looking_start h = record { low = omega arith; within = h; none_before = λ k a b. absurd (omega arith) }

  module _ (i : ℕ) (w : Looking i) where
    pub looking_on : i < count → ((at : Stands C table i) → (system C).goal at.state ≡ false) → Looking (i + 1)
    looking_on inside off = record { low = omega (arith, w.low); within = omega arith; none_before = λ k a b. which k a b (dec_lt k i) }
      where
        which : (k : ℕ) → lo ≤ k → k < i + 1 → Dec (k < i) → (at : Stands C table k) → (system C).goal at.state ≡ false
        which k a b (yes h) = w.none_before k a h
        which k a b (no h) =
            let same : i ≡ k = omega arith in
            subst (λ n. (at : Stands C table n) → (system C).goal at.state ≡ false) same off

    pub looking_found : ((at : Stands C table i) → (system C).goal at.state ≡ true) → FirstGoal C table lo count i
    looking_found on = record { low = w.low; within = w.within; none_before = w.none_before; here = λ h. on }

    pub looking_end : count ≤ i → FirstGoal C table lo count i
    looking_end h = record { low = w.low; within = w.within; none_before = w.none_before; here = λ k. absurd (omega arith) }
