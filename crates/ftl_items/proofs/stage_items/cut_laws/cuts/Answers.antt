use Rattle.ftl_items.proofs.stage_items.CutLaws.{held_there, one_item, one_node, smallest, two_sorts, whole_tree}
use Rattle.ftl_items.specs.stage_items.Cut.{is_small}
use Rattle.ftl_items.proofs.stage_items.CutItems.{distinct-tops_by}
use Rattle.ftl_items.proofs.stage_items.Subtrees.{in_subtree, subtree_has}
use Rattle.ftl_items.proofs.stage_items.cut_laws.cuts.Goals as goal

pub returns : goal.returns
returns c = record {
  subtrees = λ t p q h. ((λ inside. in_subtree t p q h inside), (λ below. subtree_has t p q below.1 below.0));
  one_item = λ kind t grain some is. one_item t grain kind some is;
  nodes = λ kind t grain some is. held_there t grain kind some is;
  once = λ kind t grain some is. distinct-tops_by (is_small t grain) t kind;
  sorts = λ kind t grain some is. two_sorts t grain kind some is;
  whole = λ t grain p. (whole_tree t grain p, one_node t grain p);
  smallest = λ kind t grain some is. smallest t grain kind some is;
}
