-- Request 7: a job has one verdict, in whichever of the two versions its file is written (`together/specs/Versions` for the three others), be it accepted or refused.
use Rattle.std.specs.Prelude.{◌≡◌, refl, ◌↔◌, List, ℕ}
use Rattle.std.proofs.Common.{sym, ap, subst, ◌∙◌}
use Rattle.rules.specs.Limits.{second_version}
use Rattle.rules.specs.Job.{Job}
use Rattle.rules.specs.File.{Decoded, accepted, refused, decode}
use Rattle.rules.specs.Accepted.{job_of_accepted}
use Rattle.rules.specs.Versions.{in_version, re_versioned, not_both}
use Rattle.lent.specs.Meaning.{Lent}
use Rattle.together.specs.Versions.{same_answers}
use Rattle.verdict.specs.Meaning.{ScAsks, MayRelease, VerdictPromise}
use Rattle.verdict.specs.declared.Verdict.{Verdict}

-- what a release asks of one file, it asks of another of the same model and flag
released_alike : (one two : List ℕ) (i j : Job) → decode one ≡ accepted i → decode two ≡ accepted j → i.model ≡ j.model → i.all_empty ≡ j.all_empty
    → (found checked : List ℕ) → MayRelease one found checked → MayRelease two found checked
released_alike one two i j first second model flag found checked h =
    let asks_i : ScAsks i checked = subst (λ k. ScAsks k checked) (job_of_accepted one i first) h.under_sc in
    let asks_j : ScAsks j checked = λ sc. let k = asks_i (model ∙ sc) in (sym flag ∙ k.0, k.1) in
    record {
      decoded = second ∙ ap accepted (sym (job_of_accepted two j second));
      states = h.states;
      unreachable_only = h.unreachable_only;
      under_sc = subst (λ k. ScAsks k checked) (sym (job_of_accepted two j second)) asks_j;
    }

-- a file that holds no job releases nothing
never_released : (bytes : List ℕ) (number offset : ℕ) → decode bytes ≡ refused number offset
    → (found checked : List ℕ) {A : Type 0} → MayRelease bytes found checked → A
never_released bytes number offset e found checked h = not_both (sym e ∙ h.decoded)

module _ (one two : List ℕ) (alike : decode two ≡ re_versioned second_version (decode one)) where
  released_both : (found checked : List ℕ) → MayRelease one found checked ↔ MayRelease two found checked
  released_both found checked = which (decode one) refl
    where
      which : (d : Decoded) → decode one ≡ d → MayRelease one found checked ↔ MayRelease two found checked
      which (accepted j) e =
          let second : decode two ≡ accepted (in_version second_version j) = alike ∙ ap (re_versioned second_version) e in (
            released_alike one two j (in_version second_version j) e second refl refl found checked,
            released_alike two one (in_version second_version j) j second e refl refl found checked,
          )
      which (refused number offset) e =
          let second : decode two ≡ refused number offset = alike ∙ ap (re_versioned second_version) e in
          (λ h. never_released one number offset e found checked h, λ h. never_released two number offset second found checked h)

  pub same_verdict : (m : Lent) (v : Verdict) (m' : Lent) → VerdictPromise one m v m' ↔ VerdictPromise two m v m'
  same_verdict m v m' =
      let same = same_answers one two alike in
      let both = released_both _ _ in (
        λ h.
            record {
              searched = (same.search _ m _ m').0 h.searched;
              checked = (same.check _).0 h.checked;
              releases = (λ r. both.0 (h.releases.0 r), λ k. h.releases.1 (both.1 k));
            },
        λ h.
            record {
              searched = (same.search _ m _ m').1 h.searched;
              checked = (same.check _).1 h.checked;
              releases = (λ r. both.1 (h.releases.0 r), λ k. h.releases.1 (both.0 k));
            },
      )
