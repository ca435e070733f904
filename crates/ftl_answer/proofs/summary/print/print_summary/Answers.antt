use Rattle.std.proofs.Common.{◌≡◌, ℕ, List, IfOk, subst}
use Rattle.ftl_deps.specs.reads.Meant.{meant}
use Rattle.ftl_meaning.specs.grammars.GrammarOf.{names_of}
use Rattle.ftl_tree.specs.boxes.WordValues.{table_of_words}
use Rattle.ftl_answer.proofs.summary.Joined.{line_is}
use Rattle.ftl_answer.proofs.summary.print.print_summary.Goals as goal

pub returns : goal.returns
returns c =
    let t = c.args.tree.now in
    record {
      text =
          subst (λ (text : List ℕ). IfOk c.print_line.result (λ v. v.items ≡ text))
          (line_is c.args.name.now (meant t.checked) (names_of t.checked.grammar) t.tree
          (table_of_words t c.args.words.now) c.node_count.result c.instance_count.result c.in_ok-sums.sums
          c.node_count.ensures.count c.instance_count.ensures.count c.in_ok-sums.ensures.sums)
          c.print_line.ensures.line;
    }
