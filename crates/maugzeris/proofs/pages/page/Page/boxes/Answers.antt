use Rattle.std.proofs.Common.{◌∙◌, ap, sym, List, length, map}
use Rattle.ftl_answer.specs.answers.Answers.{boxes_of}
use Rattle.ftl_deps.specs.reads.Meant.{meant}
use Rattle.ftl_model.specs.layout.Table.{instance_count}
use Rattle.ftl_model.specs.layout.Values.{Value}
use Rattle.ftl_tree.specs.boxes.WordValues.{value_of_word}
use Rattle.ftl_tree.specs.trees.CheckedTree.{CheckedTree}
use Rattle.maugzeris.proofs.pages.page.Page.boxes.Goals as goal

pub print_boxes-requires : goal.print_boxes-requires
print_boxes-requires c = record {
  words =
      ap length c.as_slice.ensures.value
      ∙ (c.in_ok-words.ensures.count
      ∙ ap (λ (t : CheckedTree). instance_count (meant t.checked) t.tree) (sym c.tree.ensures.tree));
}

pub returns : goal.returns
returns c =
    let p = c.args.self.now in
    let ws = c.as_slice.result.now in
    record {
      text =
          c.in_ok-text.ensures.text
          ∙ (ap (λ (t : CheckedTree). boxes_of t.checked t.tree (map value_of_word ws)) c.tree.ensures.tree
          ∙ ap (λ (vs : List Value). boxes_of p.checked p.tree vs)
          (ap (map value_of_word) c.as_slice.ensures.value ∙ c.in_ok-words.ensures.words));
    }
