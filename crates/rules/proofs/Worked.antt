-- The worked cases of 01's bench list as one table under one statement about the definitions, P10 and P11 with request 5's reasons and P12 as
-- request 8 has it; and that the rows of `Pins` hold too.
use Rattle.reach.specs.Lists.{All}
use Rattle.rules.specs.Claims.{CaseHolds, all_right}
use Rattle.rules.specs.Pins.{pins}
use Rattle.rules.specs.Worked.{table, computed}

-- every case of the list holds
pub worked : All CaseHolds table
worked = all_right table computed.0

-- and every row beyond it
pub pinned : All CaseHolds pins
pinned = all_right pins computed.1
