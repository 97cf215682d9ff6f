-- `buffer::Buf::oldest_next_to` meets its contract: the closure tests what `is_next_to` says.
use Rattle.std.proofs.Common.{rules}
use Rattle.buffer.specs.Places.{is_next_to}
use Rattle.buffer.proofs.ReadLaws.{found}
use Rattle.buffer.proofs.Buf.oldest_next_to.Goals as goal

pub returns : goal.returns
returns c = found c.args.self c.requires (is_next_to c.args.v) _ _ c.position.ensures (λ e t h. search rules)
