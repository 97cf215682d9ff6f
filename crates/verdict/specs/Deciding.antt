-- The decision, by cases of the two answers and of the job's model.
use Rattle.std.specs.Prelude.{◌≡◌, refl, Bool, true, false, ◌↔◌, List, ℕ, T, get_or}
use Rattle.std.proofs.Common.{sym, ◌∙◌, ap, subst}
use Rattle.reach.specs.Meaning.{unreachable}
use Rattle.rules.specs.File.{Decoded, accepted, refused, decode, job_of}
use Rattle.rules.specs.Fences.{fenced}
use Rattle.rules.specs.declared.Model.{Model}
use Rattle.rules.specs.declared.Model.TheVariants.{Sc, Tso, Pso}
use Rattle.job.specs.Laid.{IsAccepted}
use Rattle.job.specs.declared.Layout.{Layout}
use Rattle.reach.specs.Words.{answer_words}
use Rattle.fences.specs.Meaning as fences
use Rattle.verdict.specs.Meaning.{ScAsks, MayRelease}

-- what holds is said, and what doesn't is not
pub said : {P : Type 0} → P → (true ≡ true) ↔ P
said p = (λ e. p, λ h. refl)

pub unsaid : {P : Type 0} → ¬ P → (false ≡ true) ↔ P
unsaid n = (λ e. absurd (subst T (sym e) tt), λ h. absurd (n h))

-- the first of the words tells the cases apart
unfoldable pub first_word : List ℕ → ℕ
first_word ws = get_or ws 0 0

pub not_fenced : (checked : List ℕ) → ¬ (get_or checked 0 0 ≡ 1) → ¬ (checked ≡ fences.checked_words fenced)
unfolding first_word
not_fenced checked n e = n (ap first_word e)

pub not_unreachable : (bytes found checked : List ℕ) → ¬ (get_or found 0 0 ≡ 2) → ¬ (MayRelease bytes found checked)
unfolding first_word
not_unreachable bytes found checked n h = n (ap first_word h.unreachable_only)

is_job : Decoded → Bool
is_job (accepted j) = true
is_job (refused number offset) = false

pub no_job : (bytes found checked : List ℕ) (number offset : ℕ) → decode bytes ≡ refused number offset → ¬ (MayRelease bytes found checked)
unfolding is_job
no_job bytes found checked number offset e h = subst T (ap is_job (sym h.decoded ∙ e)) tt

says_sc : Model → Bool
says_sc Sc = true
says_sc Tso = false
says_sc Pso = false

pub tso_is_not_sc : ¬ (Tso ≡ Sc)
unfolding says_sc
tso_is_not_sc e = subst T (sym (ap says_sc e)) tt

pub pso_is_not_sc : ¬ (Pso ≡ Sc)
unfolding says_sc
pso_is_not_sc e = subst T (sym (ap says_sc e)) tt

module _ (bytes : List ℕ) (l : Layout) (a : IsAccepted bytes l) (checked : List ℕ) where
  pub not_sc : (m : Model) → l.model ≡ m → ¬ (m ≡ Sc) → ScAsks (job_of bytes) checked
  not_sc m e n s = absurd (n (sym e ∙ a.laid.model ∙ s))

  module _ (is_sc : l.model ≡ Sc) (flag : Bool) (is_flag : flag ≡ (job_of bytes).all_empty) where
    pub flag_set : flag ≡ true → (r : Bool) → (r ≡ true) ↔ (checked ≡ fences.checked_words fenced) → (r ≡ true) ↔ ScAsks (job_of bytes) checked
    flag_set e r h = (λ t s. (sym is_flag ∙ e, h.0 t), λ asks. h.1 (asks (sym a.laid.model ∙ is_sc)).1)

    pub flag_unset : flag ≡ false → ¬ (ScAsks (job_of bytes) checked)
    flag_unset e asks = subst T (sym (asks (sym a.laid.model ∙ is_sc)).0 ∙ sym is_flag ∙ e) tt

  -- unreachable: what SC asks decides
  pub sc_decides :
      (found : List ℕ) (n : ℕ) → found ≡ answer_words (unreachable n) → (r : Bool) → (r ≡ true) ↔ ScAsks (job_of bytes) checked →
      (r ≡ true) ↔ MayRelease bytes found checked
  sc_decides found n e r h = (
    λ t. record { decoded = a.decoded; states = n; unreachable_only = e; under_sc = h.0 t },
    λ may. h.1 may.under_sc,
  )
