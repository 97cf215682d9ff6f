-- `buffer::Buf::with_last` meets its contract: behind the last is at the count.
use mathlib.Core.Path.{◌≡◌, sym, ap, subst, ◌∙◌}
use mathlib.Core.List.{[], ◌∷◌, ◌++◌}
use Prim.Native.Nat.{ℕ, ◌/◌, ◌%◌, ◌<◌}
use native.Mathlib.Omega.{arith}
use Rattle.rules.specs.Limits.{group_unit}
use Rattle.rules.specs.State.{Pending}
use Rattle.buffer.specs.Held.{entry, held_pending}
use Rattle.buffer.specs.HeldLaws.{held_number}
use Rattle.buffer.specs.Posts.{Joined}
use Rattle.buffer.proofs.PlaceLaws.{last_place}
use Rattle.buffer.proofs.Buf.with_last.Goals as goal

-- a variable is the byte of a store of group 0
one-group : (v k : ℕ) → v < group_unit → entry v k ≡ record { group = 0; variable = v; value = k }
one-group v k h =
    let zero : v / group_unit ≡ 0 = omega arith in
    let same : v % group_unit ≡ v = omega arith in
    λ i. record { group = zero i; variable = same i; value = k }

pub returns : goal.returns
returns c =
    let b = c.args.self in
    subst (Joined c.put_in.result)
    (last_place _ (held_pending b) c.number-n.result (held_number b c.requires.has_room.ok ∙ sym c.number-n.ensures)
    ∙ ap (λ (q : Pending). held_pending b ++ (q ∷ [])) (one-group c.args.v c.args.k c.requires.is_variable))
    c.put_in.ensures
