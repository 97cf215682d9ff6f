-- `readers::value` meets its contract: the bytes of each width are there, and each arm joins its own.
use native.Mathlib.Omega.{arith}
use Rattle.rules.specs.File.{value, byte}
use Rattle.readers.proofs.value.Goals as goal

pub returns-in-One : goal.returns-in-One
unfolding value byte
returns-in-One c = rw c.in-One.is (omega (arith, c.word.ensures))

pub returns-in-Two : goal.returns-in-Two
unfolding value byte
returns-in-Two c = rw c.in-Two.is c.word-in-Two.ensures
