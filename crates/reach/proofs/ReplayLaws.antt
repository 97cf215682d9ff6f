-- Every schedule replays to one answer, the one that `replay` gives.
use Rattle.std.specs.Prelude.{◌≡◌}
use Rattle.std.proofs.Math.Path.{sym}
use Rattle.std.proofs.Common.{◌∙◌}
use mathlib.Core.List.{List}
use Prim.Native.Nat.{ℕ}
use Rattle.reach.specs.Explained.{Explained}
use Rattle.reach.specs.Replay.{Replayed, ReplaysTo}
use Rattle.reach.specs.ReplayLaws.{replay_is}

module _ (M : Explained) where
  -- Any two answers that the meaning allows are equal: each is the one that `replay` gives.

  pub one_replay : (w : List ℕ) (a b : Replayed M.Reason) → ReplaysTo M w a → ReplaysTo M w b → a ≡ b
  one_replay w a b h k = replay_is M w a h ∙ sym (replay_is M w b k)
