use Rattle.ftl_cells.proofs.shared.Driven.{can_fill_there}
use Rattle.ftl_replay.proofs.example_works.LentLaws.{lent_can_fill}
use Rattle.ftl_replay.proofs.example_works.lent.LentWork.run_item.Goals as goal

pub fill-requires-clause-working : goal.fill-requires-clause-working
fill-requires-clause-working g c = can_fill_there _ _ _ _ c.value_of_byte.result c.requires.of c.requires.working
    (lent_can_fill c.args.self.now.numbers.now c.args.item c.value_of_byte.result c.requires.item
    c.value_of_byte.ensures.value)
