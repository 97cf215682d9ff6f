-- `readers::model` meets its contract: each number is its model; a number above 2 names none.
use mathlib.Core.Path.{sym, ap}
use native.Mathlib.Omega.{arith}
use Rattle.rules.specs.File.{model_of}
use Rattle.readers.proofs.Fields.{model_none}
use Rattle.readers.proofs.model.Goals as goal

pub returns-in-0 : goal.returns-in-0
unfolding model_of
returns-in-0 c = ap model_of (sym c.in-0.is)

pub returns-in-1 : goal.returns-in-1
unfolding model_of
returns-in-1 c = ap model_of (sym c.in-1.is)

pub returns-in-2 : goal.returns-in-2
unfolding model_of
returns-in-2 c = ap model_of (sym c.in-2.is)

pub returns-in-3-to-255 : goal.returns-in-3-to-255
returns-in-3-to-255 c = sym (model_none c.args.k (omega (arith, c.in-3-to-255.in-3-to-255-own.rest)))
