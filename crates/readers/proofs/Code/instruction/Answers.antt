-- `readers::Code::instruction` meets its contract: the bytes of an item are there or not, and then the table decides.
use mathlib.Core.Path.{◌≡◌, sym, ap, ◌∙◌}
use mathlib.Core.Option.{some, none}
use Prim.Native.Nat.{◌+◌, ◌≤◌}
use borrow.Author.Tests.{leb-true, leb-false}
use lib.ListN.{length}
use Rattle.rules.specs.Limits.{width_of, item_size}
use Rattle.rules.specs.File.{instruction, byte, judged}
use Rattle.tables.specs.Told.{told}
use Rattle.readers.specs.Passed.{passed}
use Rattle.readers.proofs.Readers.{item_judged, item_missing}
use Rattle.readers.proofs.Code.instruction.Goals as goal
use Rattle.readers.proofs.Code.instruction.Goals.{After-is_there, Else-not-is_there}

-- the bytes asked for are those of an item
asked : (c : After-is_there) → c.item_size-size.result ≡ item_size (width_of c.args.self.now.version)
asked c = c.item_size-size.ensures ∙ ap item_size c.width.ensures

there :
    (c : Else-not-is_there) → c.args.at + item_size (width_of c.args.self.now.version) ≤ length c.args.self.now.bytes.now
there c = rw (← (c.item_size-size.ensures ∙ ap item_size c.width.ensures)) (leb-true _ _ (sym c.is_there.ensures ∙ c.if-not-is_there.false))

pub returns-in-Some : goal.returns-in-Some
unfolding instruction byte judged
returns-in-Some c =
    rw (asked (goal.at.returns-in-Some c).After-is_there)
    (item_judged _ _ 4 _ _ (some _) (there (goal.at.returns-in-Some c).Else-not-is_there)
    (sym (ap told c.in-Some.is) ∙ c.instruction_from.ensures))

pub returns-in-None : goal.returns-in-None
unfolding instruction byte judged
returns-in-None c =
    rw c.at-in-None.ensures
    (item_judged _ _ 4 _ _ none (there (goal.at.returns-in-None c).Else-not-is_there)
    (sym (ap told c.in-None.is) ∙ c.instruction_from.ensures))

pub returns-then-not-is_there : goal.returns-then-not-is_there
unfolding instruction
returns-then-not-is_there c =
    rw c.at.ensures
    (sym (ap passed (item_missing _ _ 4 _ _ (rw (← (asked (goal.at.returns-then-not-is_there c).After-is_there)) (leb-false _ _ (sym c.is_there.ensures ∙ c.if-not-is_there.true))))))
