-- `buffer::Buf::newest_group` meets its contract: the last entry has the newest group.
use Rattle.std.proofs.Common.{◌≡◌, refl, sym, ap, ◌∙◌, List, [], ◌∷◌, ◌-◌, ◌≤◌, length, get_or, arith}
use Rattle.rules.specs.State.{Pending}
use Rattle.rules.specs.Step.{newest_group}
use Rattle.buffer.specs.Held.{number, held_pending}
use Rattle.buffer.specs.HeldLaws.{held_number, held_at}
use Rattle.buffer.specs.Places.{no_entry}
use Rattle.buffer.proofs.PlaceLaws.{newest_last}
use Rattle.buffer.proofs.Buf.newest_group.Goals as goal

none-newest : (l : List Pending) → length l ≡ 0 → 0 ≡ newest_group 0 l
unfolding newest_group
none-newest [] h = refl
none-newest (p ∷ l) h = absurd (omega arith)

pub returns-then-n-eq0 : goal.returns-then-n-eq0
returns-then-n-eq0 c =
    let none = held_number c.args.self c.requires in
    (none-newest (held_pending c.args.self) (omega arith), omega arith)

pub returns : goal.returns
returns c =
    let b = c.args.self in
    let n = held_number b c.requires in
    let some : 1 ≤ length (held_pending b) = omega (arith, n, c.if-n-eq0.false, c.number-n.ensures) in (
      rw (c.group.ensures.is, c.entry.ensures, c.number-n.ensures)
          (sym (newest_last 0 (held_pending b) some
          ∙ ap (λ k. (get_or (held_pending b) (k - 1) no_entry).group) n
          ∙ ap (λ (p : Pending). p.group) (held_at b c.requires (number b - 1) (omega (arith, n, some))))),
      c.group.ensures.fits,
    )
