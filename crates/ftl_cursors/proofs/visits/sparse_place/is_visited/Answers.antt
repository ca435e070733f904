use Rattle.std.proofs.Common.{◌/◌, ◌==◌, bit_and, eqb-true, get_or}
use Rattle.std.proofs.lemmas.Bool.{not-false}
use Rattle.ftl_cursors.proofs.visits.PartLemmas.{no_steps_in}
use Rattle.ftl_cursors.proofs.visits.sparse_place.is_visited.Goals as goal

pub returns : goal.returns
returns c =
    let x = c.args.tables in
    let both = bit_and (get_or x.blocks.now (c.args.part.first / 64) 0) x.visited in
    record {
      none = λ passed.
          no_steps_in x c.requires.tables c.args.part c.requires.nodes c.requires.block
          (eqb-true both 0 (not-false (both == 0) passed));
    }
