use Rattle.std.proofs.Common.{◌∙◌, ap}
use Rattle.ftl_deps.specs.reads.Meant.{meant}
use Rattle.ftl_meaning.specs.faults.Checked.{CheckedGrammar}
use Rattle.ftl_model.specs.layout.AttributeGrammar.{attributes_of}
use Rattle.maugzeris.proofs.pages.NodeAttributes.{class_within, listed_all}
use Rattle.maugzeris.proofs.pages.page.Page.attributes.Goals as goal

pub attributes-requires : goal.attributes-requires
attributes-requires c =
    let p = c.args.self.now in
    record {
      class =
          class_within p.checked c.tree-known.ensures.lawful p.tree c.tree-known.ensures.is_tree c.args.node
          c.requires.node c.grammar.result.now c.class-class.result c.grammar.ensures.grammar
          c.class-class.ensures.class;
    }

pub returns : goal.returns
returns c =
    let k = c.args.self.now.checked in
    let are =
    c.attributes.ensures.attributes
    ∙ (ap (λ (x : CheckedGrammar). attributes_of (meant x) c.class-class.result) c.grammar.ensures.grammar
    ∙ ap (λ n. attributes_of (meant k) n) c.class-class.ensures.class) in
    record {
      attributes = are;
      known = listed_all c.args.self.now c.args.node c.attributes.result.now are;
    }
