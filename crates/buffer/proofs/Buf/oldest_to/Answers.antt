-- `buffer::Buf::oldest_to` meets its contract: the closure tests what `is_to` says.
use Rattle.std.proofs.Common.{rules}
use Rattle.buffer.specs.Places.{is_to}
use Rattle.buffer.proofs.ReadLaws.{found, found_pending}
use Rattle.buffer.proofs.Buf.oldest_to.Goals as goal

pub returns : goal.returns
returns c =
    record {
      is = found c.args.self c.requires (is_to c.args.v) _ _ c.position.ensures (λ e t h. search rules);
      within = found_pending c.args.self _ _ c.position.ensures;
    }
