-- Laws of tests: those joined by `&&`, and what is given if a test holds.
use Rattle.std.specs.Prelude.{◌≡◌, refl, ◌↔◌, Bool, true, false, ◌&&◌, T}
use Rattle.std.proofs.Common.{sym}
use Rattle.std.proofs.lemmas.Bool.{false≢true}
use Rattle.std.proofs.Math.Option.{none, some, none-ne-some}
use Rattle.rules.specs.Step.{given}

pub both_iff : (a b : Bool) → T (a && b) ↔ (T a × T b)
both_iff true b = (λ h. (tt, h), λ h. h.1)
both_iff false b = (λ h. absurd h, λ h. h.0)

pub both : (a b : Bool) → T (a && b) → T a × T b
both a b = (both_iff a b).0

pub of_both : (a b : Bool) → T a → T b → T (a && b)
of_both a b h k = (both_iff a b).1 (h, k)

pub three : (a b c : Bool) → T (a && b && c) → T a × T b × T c
three a b c h = let p = both (a && b) c h in let q = both a b p.0 in (q.0, q.1, p.1)

pub of_three : (a b c : Bool) → T a → T b → T c → T (a && b && c)
of_three a b c h k m = of_both (a && b) c (of_both a b h k) m

pub four : (a b c d : Bool) → T (a && b && c && d) → T a × T b × T c × T d
four a b c d h = let p = both (a && b && c) d h in let q = three a b c p.0 in (q.0, q.1, q.2, p.1)

pub of_four : (a b c d : Bool) → T a → T b → T c → T d → T (a && b && c && d)
of_four a b c d h k m n = of_both (a && b && c) d (of_three a b c h k m) n

pub both_true : (a b : Bool) → (a && b) ≡ true → (a ≡ true) × (b ≡ true)
both_true true b h = (refl, h)
both_true false b h = absurd (false≢true h)

-- what was given is the value, and the test holds
pub given_some : {A : Type 0} (b : Bool) (a c : A) → given b a ≡ some c → (b ≡ true) × (a ≡ c)
given_some true a c e = (refl, cc)
given_some false a c e = absurd (none-ne-some c e)

pub given_none : {A : Type 0} (b : Bool) (a : A) → given b a ≡ none → b ≡ false
given_none true a e = absurd (none-ne-some a (sym e))
given_none false a e = refl
