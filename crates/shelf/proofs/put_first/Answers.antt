-- `shelf::put_first` meets its contract: one slot more, since no slot holds the bytes where none is counted.
use Rattle.std.proofs.Common.{◌≡◌, arith}
use Rattle.shelf.specs.Front.{put_new}
use Rattle.shelf.proofs.put_first.Goals as goal

pub returns : goal.returns
returns c =
    let left : ¬ (c.args.nothing.count ≡ c.args.slots) = omega arith in
    put_new _ _ _ _ _ _ _ _ _ _ _ c.requires.fits c.requires.none_left_out (λ known. omega (arith, known.1, c.requires.none_counted)) left c.put_bytes.ensures.is
    c.chain_of-chain.ensures c.enter.ensures c.enter.auto.index
