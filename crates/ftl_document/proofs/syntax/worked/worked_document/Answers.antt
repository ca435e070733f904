use Rattle.std.proofs.Common.{refl}
use Rattle.ftl_document.specs.syntax.Spelling.{node_of, single_and, list_and, number_and, node_more, none, no_more, negative}
use Rattle.ftl_document.proofs.syntax.worked.worked_document.Goals as goal

pub returns-clause-spelled : goal.returns-clause-spelled
returns-clause-spelled c =
    node_of (single_and (list_and (node_more no_more (node_more no_more none)) no_more) (number_and negative no_more))

pub returns-clause-rows : goal.returns-clause-rows
returns-clause-rows c = refl

pub returns-clause-nodes : goal.returns-clause-nodes
returns-clause-nodes c = refl

pub returns-clause-levels : goal.returns-clause-levels
returns-clause-levels c = refl
