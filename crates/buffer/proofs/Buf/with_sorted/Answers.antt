-- `buffer::Buf::with_sorted` meets its contract: the store goes in before the first that stands behind its place.
use mathlib.Core.Path.{◌≡◌, refl, sym, ap, subst, ◌∙◌}
use Prim.Native.Nat.{ℕ, ◌+◌, ◌*◌, ◌/◌, ◌%◌, ◌≤◌, ◌<◌}
use native.Mathlib.Omega.{arith}
use lib.ListN.{length}
use Rattle.rules.specs.Limits.{group_unit}
use Rattle.rules.specs.State.{Pending}
use Rattle.rules.specs.Step.{in_its_place}
use Rattle.buffer.specs.Held.{entry, held_pending}
use Rattle.buffer.specs.HeldLaws.{held_number}
use Rattle.buffer.specs.Posts.{Joined}
use Rattle.buffer.proofs.PlaceLaws.{first_within, sorted_place}
use Rattle.buffer.proofs.ReadLaws.{found_or}
use Rattle.buffer.proofs.Buf.with_sorted.Goals as goal

-- group and variable make one byte
entry_of : (byte g v k h : ℕ) → byte ≡ group_unit * g + v → g ≡ h → v < group_unit → entry byte k ≡ record { group = h; variable = v; value = k }
entry_of byte g v k h e same low =
    let group : byte / group_unit ≡ h = omega arith in
    let variable : byte % group_unit ≡ v = omega arith in
    λ i. record { group = group i; variable = variable i; value = k }

pub put_in-requires : goal.put_in-requires
put_in-requires c =
    let l = held_pending c.args.self in
    let number = held_number c.args.self c.requires.room.ok in
    let at = c.unwrap_or-at.ensures ∙ found_or _ l _ _ c.first_after.ensures (number ∙ sym c.number.ensures) in
    let within : c.unwrap_or-at.result ≤ length l = rw at (first_within _ _) in
    record { room = c.requires.room; within = omega arith }

pub returns : goal.returns
returns c =
    let a = c.args in
    let low : a.v < group_unit = omega (arith, c.requires.variable) in
    let l = held_pending a.self in
    let number = held_number a.self c.requires.room.ok in
    let at = c.unwrap_or-at.ensures ∙ found_or _ l _ _ c.first_after.ensures (number ∙ sym c.number.ensures) in
    let same = entry_of _ c.joined_group.result a.v a.k _ refl c.joined_group.ensures low in
    subst (Joined c.put_in.result)
    (sorted_place _ l _ at ∙ ap (λ (q : Pending). in_its_place q l) same)
    c.put_in.ensures
