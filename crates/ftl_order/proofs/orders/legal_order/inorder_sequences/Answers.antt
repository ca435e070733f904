use Rattle.ftl_model.specs.layout.Path.{top}
use Rattle.ftl_model.proofs.lists.Rising.{before_once}
use Rattle.ftl_order.specs.orders.LegalOrder.{address, turn_of}
use Rattle.ftl_order.specs.orders.Schedule.{placing_of}
use Rattle.ftl_order.specs.orders.Sequence.{sequence_at}
use Rattle.ftl_order.proofs.orders.SequenceAddresses.{EarlierAddress}
use Rattle.ftl_order.proofs.orders.SequenceOnly.{rising_distinct, sequence_only}
use Rattle.ftl_order.specs.orders.Sequence.{sequence}
use Rattle.ftl_order.proofs.orders.Kids.{root_there}
use Rattle.ftl_order.proofs.orders.SequenceOrder.{precede_stands, sequence_rises, stands_precede, step_there, top_above}
use Rattle.ftl_order.proofs.orders.legal_order.inorder_sequences.Goals as goal

pub returns : goal.returns
returns c = record {
  sequence = λ g s t law ordered fits i j step_i step_j pass kind.
      let root = root_there g t fits in
      let above_i = top_above (turn_of g i).visit in
      let above_j = top_above (turn_of g j).visit in (
        precede_stands g law s ordered.once t fits top root i j step_i step_j above_i above_j pass kind,
        stands_precede g law s ordered.once t fits top root i j step_i step_j above_i above_j pass kind,
      );
  steps = λ g s t law ordered fits p x there. (
    rising_distinct (EarlierAddress g (placing_of s)) (λ i h. before_once (address (placing_of s) (turn_of g i)) (address (placing_of s) (turn_of g i)) h h)
        (sequence_at g (placing_of s) x t p) (sequence_rises g law s ordered.once t fits x p there),
    (λ i. (sequence_only g (placing_of s) x t p there i, (λ h. step_there g law s ordered.once t fits x p there i h.0 h.2 h.1))),
  );
  below = λ g s t law ordered fits p i j there step_i step_j above_i above_j pass kind. (
    precede_stands g law s ordered.once t fits p there i j step_i step_j above_i above_j pass kind,
    stands_precede g law s ordered.once t fits p there i j step_i step_j above_i above_j pass kind,
  );
}
