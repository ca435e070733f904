use Rattle.std.proofs.Common.{subst}
use Rattle.std.specs.Option.{option_to_list}
use Rattle.std.specs.List.{All}
use Rattle.ftl_steal.specs.Workers.{IsEndedMember}
use Rattle.ftl_steal.proofs.Rounds.{all_front}
use Rattle.ftl_steal.proofs.stage.next_member.Goals as goal

pub returns-clause-rest : goal.returns-clause-rest
returns-clause-rest g c =
    let P = IsEndedMember (g.W.Meant.meaning c.args._cells.now.1) c.args._cells.now.0 in
    all_front P c.pop.new.self.items (option_to_list c.pop.result) (subst (All P) c.pop.ensures.items c.requires.ended)
