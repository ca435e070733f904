use Rattle.std.proofs.Common.{sym, subst, List}
use Rattle.ftl_deps.specs.reads.Meant.{meant}
use Rattle.ftl_model.specs.layout.Table.{SolvesList}
use Rattle.ftl_model.specs.layout.Values.{Value}
use Rattle.ftl_run.proofs.calls.Changed.{if_ok, values_solve}
use Rattle.maugzeris.proofs.pages.laying.solving_values.Goals as goal

pub returns : goal.returns
returns c =
    let t = c.args.tree.now in
    record {
      solve =
          if_ok c.values_of.result
          (λ v is. subst (λ (values : List Value). SolvesList (meant t.checked) t.tree values) (sym is)
          (values_solve c.words_are_undone.ensures.undone t c.args.words.now c.requires.solved))
          c.values_of.ensures.values;
    }
