-- Any two outcomes that the promise of a verdict allows are equal: verdict and all three buffers.
use Rattle.std.specs.Prelude.{◌≡◌, refl, Bool, true, false, ◌↔◌, List, ℕ}
use Rattle.std.proofs.Common.{sym, ◌∙◌, ap}
use Rattle.lent.specs.Meaning.{Lent}
use Rattle.search.specs.Meaning as search
use Rattle.search.specs.Unique as search_unique
use Rattle.fences.specs.Meaning as fences
use Rattle.verdict.specs.declared.Verdict.{Verdict}
use Rattle.verdict.specs.Meaning.{MayRelease, VerdictPromise}

-- what says the same is the same
same_bool : {P : Type 0} (a b : Bool) → (a ≡ true) ↔ P → (b ≡ true) ↔ P → a ≡ b
same_bool true b h k = sym (k.1 (h.0 refl))
same_bool false true h k = h.1 (k.0 refl)
same_bool false false h k = refl

same_parts : (v w : Verdict) → v.search ≡ w.search → v.fences ≡ w.fences → v.release ≡ w.release → v ≡ w
same_parts v w s f r =
    ap {B = Verdict} (λ x. record { search = x; fences = v.fences; release = v.release }) s
    ∙ ap {B = Verdict} (λ x. record { search = w.search; fences = x; release = v.release }) f
    ∙ ap {B = Verdict} (λ x. record { search = w.search; fences = w.fences; release = x }) r

pub record Same (v w : Verdict) (m n : Lent) : Type 0 where
  pub verdict : v ≡ w
  pub buffers : m ≡ n

pub verdict_once : (bytes : List ℕ) (m : Lent) (v w : Verdict) (m' n' : Lent)
    → VerdictPromise bytes m v m' → VerdictPromise bytes m w n' → Same v w m' n'
verdict_once bytes m v w m' n' h k =
    let found = search_unique.search_once m (search.words v.search) (search.words w.search) m' n' bytes h.searched k.searched in
    let fences_same = fences.fences_once bytes (fences.words v.fences) (fences.words w.fences) h.checked k.checked in
    let may_alike : (v.release ≡ true) ↔ MayRelease bytes (search.words w.search) (fences.words w.fences) =
    rw (← found.answer, ← fences_same) h.releases in
    record {
      verdict =
          same_parts v w (search.same_answer v.search w.search found.answer) (fences.same_answer v.fences w.fences fences_same)
          (same_bool v.release w.release may_alike k.releases);
      buffers = found.buffers;
    }
