-- Laws of the file's fields of one byte.
use mathlib.Core.Path.{◌≡◌, refl, sym, ap, subst, ◌∙◌}
use mathlib.Core.Bool.{Bool, true, false, cond, ◌&&◌}
use mathlib.Core.List.{List}
use mathlib.Core.Option.{Option, none, some}
use Prim.Native.Nat.{ℕ, zero, suc, ◌+◌, ◌≤◌, ◌<◌}
use native.Mathlib.Omega.{arith}
use borrow.Author.Tests.{lt-leb, le-leb}
use lib.Dec.{T, eqb, leb, leb→le}
use lib.ListN.{length, get_or}
use Rattle.rules.specs.Limits.{longest_thread}
use Rattle.rules.specs.Step.{given}
use Rattle.rules.specs.Tests.{both}
use Rattle.rules.specs.File.{Reader, got, fault, ◌>>=◌, judged, byte, item, field, in_range, model_of, flag_of, thread, instruction, times}
use Rattle.readers.specs.Passed.{At, Fault, passed, chain}
use Rattle.readers.proofs.Readers.{item_missing, item_there, item_got, got_of_passed, passed_then, then_got}

-- whether there is a value
abbrev has : {A : Type 0} → Option A → Bool
has none = false
has (some a) = true

-- how far a field's reader comes goes by whether its byte has a value
judged_has : {A : Type 0} (number at next : ℕ) (o : Option A) → passed (judged number at next o) ≡ cond (has o) (At next) (Fault number at)
unfolding judged
judged_has number at next none = refl
judged_has number at next (some a) = refl

pub same_field :
    {A B : Type 0} (v : ℕ → Option A) (w : ℕ → Option B) → ((k : ℕ) → has (v k) ≡ has (w k)) →
    (bytes : List ℕ) (number at : ℕ) → passed (field bytes number v at) ≡ passed (field bytes number w at)
unfolding field item
same_field v w h bytes number at = there (leb (at + 1) (length bytes))
  where
    there :
        (b : Bool) → passed (cond b (judged number at (at + 1) (v (byte bytes at))) (fault 6 at))
        ≡ passed (cond b (judged number at (at + 1) (w (byte bytes at))) (fault 6 at))
    there true = rw (judged_has number at (at + 1) (v (byte bytes at)), judged_has number at (at + 1) (w (byte bytes at)), h)
    there false = refl

-- "model" is 0 to 2, the flag 0 or 1
pub model_has : (k : ℕ) → has (model_of k) ≡ has (in_range 0 2 k)
unfolding model_of in_range
model_has zero = refl
model_has (suc zero) = refl
model_has (suc (suc zero)) = refl
model_has (suc (suc (suc k))) = rw (lt-leb (suc (suc (suc k))) 2 (omega arith), le-leb 0 (suc (suc (suc k))) (omega arith))

pub flag_has : (k : ℕ) → has (flag_of k) ≡ has (in_range 0 1 k)
unfolding flag_of in_range
flag_has zero = refl
flag_has (suc zero) = refl
flag_has (suc (suc k)) = rw (lt-leb (suc (suc k)) 1 (omega arith), le-leb 0 (suc (suc k)) (omega arith))

pub flag_is : (k : ℕ) (b : Bool) → flag_of k ≡ some b → eqb k 1 ≡ b
unfolding flag_of
flag_is zero b e = cc
flag_is (suc zero) b e = cc
flag_is (suc (suc k)) b e = absurd (let z : ◌≡◌ {A = ℕ} 0 1 = cc in omega arith)

pub field_missing : {A : Type 0} (bytes : List ℕ) (number : ℕ) (value : ℕ → Option A) (at : ℕ) → length bytes ≤ at →
    passed (field bytes number value at) ≡ Fault 6 at
unfolding field
field_missing bytes number value at h = ap passed (item_missing bytes 1 number _ at (omega arith))

-- no number from 3 up is a model
pub model_none : (k : ℕ) → 3 ≤ k → model_of k ≡ none
unfolding model_of
model_none zero h = absurd (omega arith)
model_none (suc zero) h = absurd (omega arith)
model_none (suc (suc zero)) h = absurd (omega arith)
model_none (suc (suc (suc k))) h = refl

module _ (bytes : List ℕ) (number low high at : ℕ) where
  pub field_there : at < length bytes →
      passed (field bytes number (in_range low high) at) ≡ cond (leb low (get_or bytes at 0) && leb (get_or bytes at 0) high) (At (at + 1)) (Fault number at)
  unfolding field in_range judged byte
  field_there h = ap passed (item_there bytes 1 number _ at (omega arith)) ∙ go (leb low (get_or bytes at 0) && leb (get_or bytes at 0) high)
    where
      go : (b : Bool) → passed (judged number at (at + 1) (given b (get_or bytes at 0))) ≡ cond b (At (at + 1)) (Fault number at)
      go true = refl
      go false = refl

-- a field that was read
pub record FieldGot {A : Type 0} (bytes : List ℕ) (value : ℕ → Option A) (at next : ℕ) (a : A) : Type 0 where
  pub there : at < length bytes
  pub behind : next ≡ at + 1
  pub holds : value (get_or bytes at 0) ≡ some a

pub field_got : {A : Type 0} (bytes : List ℕ) (number : ℕ) (value : ℕ → Option A) (at : ℕ) (a : A) (next : ℕ) →
    field bytes number value at ≡ got a next → FieldGot bytes value at next a
unfolding field byte
field_got bytes number value at a next e =
    let g = item_got bytes 1 number _ at a next e in
    record { there = omega (arith, g.0); behind = g.1; holds = g.2 }

-- a field, and what is read behind it
pub record FieldThen {A B : Type 0} (bytes : List ℕ) (value : ℕ → Option A) (f : A → Reader B) (at : ℕ) (b : B) (next : ℕ) : Type 0 where
  pub held : A
  pub there : at < length bytes
  pub holds : value (get_or bytes at 0) ≡ some held
  pub rest : f held (at + 1) ≡ got b next

pub field_then : {A B : Type 0} (bytes : List ℕ) (number : ℕ) (value : ℕ → Option A) (f : A → Reader B) (at : ℕ) (b : B) (next : ℕ) →
    (field bytes number value >>= f) at ≡ got b next → FieldThen bytes value f at b next
field_then bytes number value f at b next e =
    let t = then_got (field bytes number value) f at b next e in
    let g = field_got bytes number value at t.0 t.1 t.2 in
    record { held = t.0; there = g.there; holds = g.holds; rest = rw (← g.behind) t.3 }

pub field_passed : {A : Type 0} (bytes : List ℕ) (number : ℕ) (value : ℕ → Option A) (at next : ℕ) →
    passed (field bytes number value at) ≡ At next → at < length bytes
field_passed bytes number value at next e =
    let g = got_of_passed (field bytes number value at) next e in (field_got bytes number value at g.0 next g.1).there

-- a number in its range
pub record RangeGot (low high k a : ℕ) : Type 0 where
  pub least : low ≤ a
  pub most : a ≤ high
  pub is : a ≡ k

pub range_got : (low high k a : ℕ) → in_range low high k ≡ some a → RangeGot low high k a
unfolding in_range
range_got low high k a e = go (leb low k && leb k high) refl e
  where
    go : (b : Bool) → leb low k && leb k high ≡ b → given b k ≡ some a → RangeGot low high k a
    go true h e =
        let d : k ≡ a = cc in
        let t = both (leb low k) (leb k high) (subst T (sym h) tt) in
        record { least = omega (arith, leb→le low k t.0); most = omega (arith, leb→le k high t.1); is = sym d }
    go false h e = absurd (let z : ◌≡◌ {A = ℕ} 0 1 = cc in omega arith)

-- a field that is a number in its range, and what is read behind it
pub record RangeThen {B : Type 0} (bytes : List ℕ) (low high : ℕ) (f : ℕ → Reader B) (at : ℕ) (b : B) (next : ℕ) : Type 0 where
  pub there : at < length bytes
  pub least : low ≤ get_or bytes at 0
  pub most : get_or bytes at 0 ≤ high
  pub rest : f (get_or bytes at 0) (at + 1) ≡ got b next

pub range_then : {B : Type 0} (bytes : List ℕ) (number low high : ℕ) (f : ℕ → Reader B) (at : ℕ) (b : B) (next : ℕ) →
    (field bytes number (in_range low high) >>= f) at ≡ got b next → RangeThen bytes low high f at b next
range_then bytes number low high f at b next e =
    let t = field_then bytes number (in_range low high) f at b next e in
    let n = range_got low high _ t.held t.holds in
    record { there = t.there; least = omega (arith, n.is, n.least); most = omega (arith, n.is, n.most); rest = subst (λ k. f k (at + 1) ≡ got b next) n.is t.rest }

-- n, and then as many instructions
pub thread_passed : (bytes : List ℕ) (version vars at : ℕ) →
    passed (thread bytes version vars at)
    ≡ chain (passed (field bytes 4 (in_range 0 longest_thread) at)) (λ p. passed (times (get_or bytes at 0) (instruction bytes version vars (get_or bytes at 0)) p))
unfolding thread
thread_passed bytes version vars at =
    passed_then (field bytes 4 (in_range 0 longest_thread)) _ _ at
    (λ n p e. ap (λ k. passed (times k (instruction bytes version vars k) p)) (range_got 0 longest_thread _ n (field_got bytes 4 _ at n p e).holds).is)
