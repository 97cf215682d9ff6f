-- Worked values of N, of refusal 7 and of the words: 01, "Search" and "Refusal numbers and their order"; the slot in pieces: request 3.
use Rattle.std.specs.Prelude.{refl, [], ◌∷◌, set}
use Rattle.rules.specs.Jobs.{p1, p12}
use Rattle.rules.specs.Claims.{row_refuses}
use Rattle.rules.specs.Pins.{pins}
use Rattle.rules.specs.Worked.{table}
use Rattle.rules.proofs.Worked.{worked, pinned}
use Rattle.search.specs.Pins.{RefusedWithNoSlot, refused_first}

-- of each number one, and a blank goal, by their rows in 01's list or beyond it
pub seven_is_last :
    RefusedWithNoSlot [] 1 0
    × RefusedWithNoSlot (set p1 2 0x00) 2 2
    × RefusedWithNoSlot (set p1 5 0x05) 3 5
    × RefusedWithNoSlot (set p1 10 0x0A) 4 10
    × RefusedWithNoSlot (set p1 27 0x02) 5 27
    × RefusedWithNoSlot p12 5 28
    × RefusedWithNoSlot (0x00 ∷ 0x01 ∷ 0x01 ∷ []) 6 3
unfolding table pins
seven_is_last = (
  refused_first [] 1 0 (row_refuses table worked 17 640 [] 1 0 refl),
  refused_first (set p1 2 0x00) 2 2 (row_refuses pins pinned 14 640 (set p1 2 0x00) 2 2 refl),
  refused_first (set p1 5 0x05) 3 5 (row_refuses pins pinned 10 640 (set p1 5 0x05) 3 5 refl),
  refused_first (set p1 10 0x0A) 4 10 (row_refuses table worked 20 640 (set p1 10 0x0A) 4 10 refl),
  refused_first (set p1 27 0x02) 5 27 (row_refuses pins pinned 11 640 (set p1 27 0x02) 5 27 refl),
  refused_first p12 5 28 (row_refuses table worked 15 640 p12 5 28 refl),
  refused_first (0x00 ∷ 0x01 ∷ 0x01 ∷ []) 6 3 (row_refuses table worked 19 640 (0x00 ∷ 0x01 ∷ 0x01 ∷ []) 6 3 refl),
)
