-- `search::put_next` meets its contract: what is put is the slot of the state after the step, with an index or without.
use Rattle.search.specs.Whole.{laid_out, put_laid, put_alone}
use Rattle.search.proofs.put_next.Goals as goal

pub returns-then-width-eq0 : goal.returns-then-width-eq0
returns-then-width-eq0 c =
    put_alone _ _ _ _ _ _ _ _ _ _ _ (put_laid _ _ _ _ _ _ _ (laid_out _ _ c.take-y.ensures _ c.bytes_of-bytes.ensures) _ _ _ _ _ (rw c.from.ensures at c.put.ensures)) c.if-width-eq0.true

pub returns : goal.returns
returns c = put_laid _ _ _ _ _ _ _ (laid_out _ _ c.take-y.ensures _ c.bytes_of-bytes-2.ensures) _ _ _ _ _ (rw c.from.ensures at c.put-2.ensures)
