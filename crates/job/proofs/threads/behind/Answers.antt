-- `job::threads::behind` meets its contract: n instructions have few bytes.
use Prim.Native.Nat.{◌*◌, ◌≤◌}
use native.Mathlib.Omega.{arith}
use Rattle.rules.specs.Limits.{byte_values, item_size}
use Rattle.rules.specs.declared.Width.TheVariants.{Two}
use Rattle.readers.proofs.Widths.{few_bytes}
use Rattle.job.proofs.threads.behind.Goals.{After-from}

few : (c : After-from) → c.item_size.result * c.from.result ≤ item_size Two * byte_values
few c = few_bytes c.args.w _ _ (omega (arith, c.item_size.ensures)) (omega (arith, c.from.ensures, (c.type_inv.job c.args.at).fits))
