use native.Mathlib.Omega.{arith}
use Rattle.fences.specs.Places.{short, sound_none, all_met}
use Rattle.fences.proofs.Thread.places_met.Goals as goal

pub looks-init : goal.looks-init
looks-init c = record { fits = omega arith; sound = sound_none _ _ _; grown = c.look-met.ensures }

pub returns : goal.returns
returns c = all_met _ _ _ (short _ _ c.args.self.now.job.now.in_range) _ _ c.looks.invariant.sound c.looks.invariant.grown (omega arith)
