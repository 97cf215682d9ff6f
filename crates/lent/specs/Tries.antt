-- The steps of one state, tried from the lowest upward: those that may not be taken can be passed over, and so can all once a state was left out.
use Rattle.std.specs.Prelude.{◌≡◌, true}
use Rattle.std.proofs.Math.Path.{refl, subst}
use Rattle.std.proofs.Common.{sym}
use Rattle.std.proofs.Math.Option.{Option, none, some}
use Prim.Native.Nat.{ℕ, zero, suc, ◌≤◌, ◌<◌}
use native.Mathlib.Omega.{arith}
use Rattle.std.proofs.Math.Decide.{dec_le}
use Rattle.lent.specs.Coding.{Coding, system}
use Rattle.lent.specs.Parts.{Memory, was_full, Offered, Tried}

module _ (C : Coding) (N q : ℕ) (x : (system C).State) where
  pub tried_start : (e : Memory) → Tried C N q x 0 e e
  unfolding Tried
  tried_start e = refl

  -- one step more
  pub tried_step :
      (s : ℕ) (e e' e'' : Memory) → Tried C N q x s e e' → Offered C N q x s ((system C).next s x) e' e'' → Tried C N q x (suc s) e e''
  unfolding Tried
  tried_step s e e' e'' tried offered = (e', tried, offered)

  -- steps that change nothing can be passed over
  tried_on :
      (k n : ℕ) (e e' : Memory) → k ≤ n → ((s : ℕ) → k ≤ s → s < n → Offered C N q x s ((system C).next s x) e' e') →
      Tried C N q x k e e' → Tried C N q x n e e'
  unfolding Tried
  tried_on k zero e e' low nothing tried = let same : k ≡ 0 = omega arith in rw same at tried
  tried_on k (suc n) e e' low nothing tried = which (dec_le k n) (λ l. tried_on k n e e' l (λ s a b. nothing s a (omega arith)) tried)
    where
      which : Dec (k ≤ n) → (k ≤ n → Tried C N q x n e e') → Tried C N q x (suc n) e e'
      which (yes l) again = (e', again l, nothing n l (omega arith))
      which (no l) again = let same : k ≡ suc n = omega arith in rw same at tried

  -- those that may not be taken
  pub tried_skip :
      (k n : ℕ) (e e' : Memory) → k ≤ n → ((s : ℕ) → k ≤ s → s < n → (system C).next s x ≡ none) → Tried C N q x k e e' → Tried C N q x n e e'
  tried_skip k n e e' low nowhere =
      tried_on k n e e' low (λ s a b. subst (λ o. Offered C N q x s o e' e') (sym (nowhere s a b)) refl)

  -- all of them, once a state was left out
  pub tried_full : (k n : ℕ) (e e' : Memory) → k ≤ n → e'.full ≡ true → Tried C N q x k e e' → Tried C N q x n e e'
  tried_full k n e e' low full = tried_on k n e e' low (λ s a b. nothing s ((system C).next s x))
    where
      nothing : (s : ℕ) (o : Option (system C).State) → Offered C N q x s o e' e'
      nothing s none = refl
      nothing s (some y) = was_full full refl
