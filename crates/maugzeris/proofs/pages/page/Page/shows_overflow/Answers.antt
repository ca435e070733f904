use Rattle.std.proofs.Common.{◌∙◌, ap, sym, Bool, List, length, map}
use Rattle.ftl_meaning.specs.grammars.GrammarOf.{names_of}
use Rattle.ftl_model.specs.layout.Boxes.{shows_overflow}
use Rattle.ftl_model.specs.layout.Table.{value_in}
use Rattle.ftl_model.specs.layout.Tree.{Forest}
use Rattle.ftl_deps.specs.reads.Meant.{meant}
use Rattle.ftl_meaning.specs.faults.Checked.{CheckedGrammar}
use Rattle.ftl_model.specs.layout.Table.{instance_count}
use Rattle.ftl_model.specs.layout.Values.{Value}
use Rattle.ftl_run.proofs.calls.Changed.{if_ok}
use Rattle.ftl_tree.specs.boxes.WordValues.{value_of_word}
use Rattle.ftl_tree.specs.trees.CheckedTree.{CheckedTree}
use Rattle.maugzeris.proofs.pages.page.Page.shows_overflow.Goals as goal

-- whether a shown value of these is Overflow
abbrev overflows_of : CheckedGrammar → Forest → List Value → Bool
overflows_of k t values = shows_overflow (names_of k.grammar) t (value_in (meant k) t values)

pub shows_overflow-requires : goal.shows_overflow-requires
shows_overflow-requires c = record {
  words =
      ap length c.as_slice.ensures.value
      ∙ (c.in_ok-words.ensures.count
      ∙ ap (λ (t : CheckedTree). instance_count (meant t.checked) t.tree) (sym c.tree.ensures.tree));
}

pub returns : goal.returns
returns c =
    let p = c.args.self.now in
    let ws = c.as_slice.result.now in
    record {
      shown =
          if_ok c.shows_overflow.result
          (λ x is.
          is
          ∙ (ap (λ (t : CheckedTree). overflows_of t.checked t.tree (map value_of_word ws)) c.tree.ensures.tree
          ∙ ap (λ (vs : List Value). overflows_of p.checked p.tree vs)
          (ap (map value_of_word) c.as_slice.ensures.value ∙ c.in_ok-words.ensures.words)))
          c.shows_overflow.ensures.shown;
    }
