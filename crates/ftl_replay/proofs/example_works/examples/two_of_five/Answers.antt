use Rattle.std.proofs.Common.{arith}
use Rattle.ftl_cells.specs.shared.Count.{at_zero, counts_it, skips_it}
use Rattle.ftl_replay.proofs.example_works.examples.two_of_five.Goals as goal

pub returns : goal.returns
returns c = record {
  two =
      skips_it (λ h. omega arith) (skips_it (λ h. omega arith) (skips_it (λ h. omega arith)
      (counts_it (omega arith) (counts_it (omega arith) at_zero))));
}
