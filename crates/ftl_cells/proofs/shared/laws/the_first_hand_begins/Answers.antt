use Rattle.ftl_cells.proofs.shared.Names.{none_made}
use Rattle.ftl_cells.proofs.shared.laws.the_first_hand_begins.Goals as goal

pub returns : goal.returns
returns c = record {
  words = λ m ws hs h r e. (none_made m ws hs h r e).0;
  alone = λ m ws hs h r e. (none_made m ws hs h r e).1;
}
