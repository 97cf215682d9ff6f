-- The tries are the set's numbers: where none is left the set is empty, and a call takes one of both.
use mathlib.Core.Path.{◌≡◌, refl, ap, subst}
use Prim.Native.Nat.{ℕ, zero, suc, ◌-◌, ◌^◌, ◌<◌}
use native.Mathlib.Omega.{arith}
use Rattle.bits.specs.Bits.{width, count_of, Counted}
use Rattle.bits.proofs.BitLaws.{count_law}
use Rattle.bits.proofs.MembersIterator.next.Goals as goal

-- a set that has numbers is none of 0
some_of : (m n : ℕ) → (m ≡ 0 → n ≡ 0) → ¬ (n ≡ 0) → 0 < m
some_of zero n empty some = absurd (some (empty refl))
some_of (suc m) n empty some = omega arith

pub invariant_of-self : goal.invariant_of-self
invariant_of-self c =
    let members = c.args.self.now in
    let left = c.without_lowest-self.result in
    let some : 0 < members.left = some_of _ _ members.counted.empty c.if-self-eq0.false in
    let one_less : count_of left ≡ members.tries - 1 = omega (arith, members.counted.one_less some, ap count_of c.without_lowest-self.ensures.is) in
    record { counted = subst (Counted left) one_less (count_law left (omega arith)) }
