use Rattle.std.proofs.Common.{refl, arith, below_more}
use Rattle.rules.specs.Fences.{fenced, open_at}
use Rattle.fences.specs.Places.{thread_of, NoneIn, least_of_all, none_at_all}
use Rattle.fences.proofs.check_accepted.Goals as goal

pub returns-in-Some : goal.returns-in-Some
returns-in-Some c =
    record {
      checked = open_at _ _ _;
      means =
          least_of_all _ _ _ _ (omega (arith, c.args.job.now.laid.threads, c.loop-number-test.true)) c.loop-number.invariant c.in-Some.ensures;
      answer = refl;
    }

pub loop-number-preserved : goal.loop-number-preserved
loop-number-preserved c = below_more (λ n. NoneIn (thread_of _ n)) _ c.loop-number.invariant c.in_default.ensures

pub returns : goal.returns
returns c =
    record {
      checked = fenced;
      means = none_at_all _ (λ n l. c.loop-number.invariant n (omega (arith, c.args.job.now.laid.threads, c.loop-number-test.false)));
      answer = refl;
    }
