-- `shelf::put` meets its contract: where no case before it applies, one slot more.
use Rattle.shelf.specs.Front.{put_new}
use Rattle.shelf.proofs.put.Goals as goal

pub returns : goal.returns
returns c =
    put_new _ _ _ _ _ _ _ _ _ _ _ c.requires c.if-front.false (c.looked_up.ensures.miss c.if-looked_up.false) c.if-count-slots.false c.put_bytes.ensures.is
    c.chain_of-chain.ensures c.enter.ensures c.enter.auto.index
