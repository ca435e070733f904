use Rattle.std.proofs.Common.{◌<◌, ◌∙◌, ap, sym, subst}
use Rattle.ftl_deps.specs.reads.Meant.{meant}
use Rattle.ftl_step_value.proofs.limits.reads.Entries.{entry}
use Rattle.ftl_meaning.specs.faults.Checked.{CheckedGrammar}
use Rattle.ftl_model.specs.layout.AttributeGrammar.{attributes_of}
use Rattle.maugzeris.proofs.rules.grammar.Grammar.attributes.Goals as goal

pub bounds-as_slice-class : goal.bounds-as_slice-class
bounds-as_slice-class c =
    let k = c.self.inside.checked in
    let below : c.args.class < (meant k).class_count =
    subst (λ (x : CheckedGrammar). c.args.class < (meant x).class_count) (sym c.self.view_is) c.requires.class in
    (entry (attributes_of (meant k)) (meant k).class_count c.as_slice.result.now c.args.class
    (c.as_slice.ensures ∙ c.self.invariant.attributes) below).within

pub returns : goal.returns
returns c =
    let k = c.self.inside.checked in
    let below : c.args.class < (meant k).class_count =
    subst (λ (x : CheckedGrammar). c.args.class < (meant x).class_count) (sym c.self.view_is) c.requires.class in
    let row =
    entry (attributes_of (meant k)) (meant k).class_count c.as_slice.result.now c.args.class
    (c.as_slice.ensures ∙ c.self.invariant.attributes) below in
    record {
      attributes =
          c.as_slice-2.ensures
          ∙ (c.index-as_slice-class.is
          ∙ (row.is c.index-as_slice-class.result
          ∙ ap (λ (x : CheckedGrammar). attributes_of (meant x) c.args.class) c.self.view_is));
    }
