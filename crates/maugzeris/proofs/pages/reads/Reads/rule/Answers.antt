use Rattle.std.proofs.Common.{◌≡◌, ◌∙◌, ◌<◌, length, ap, sym, subst}
use Rattle.ftl_meaning.specs.faults.Checked.{all_rules}
use Rattle.maugzeris.specs.pages.Instances.{IsInstanceOn, rule_on}
use Rattle.maugzeris.specs.pages.PageState.{HasAttribute, PageState}
use Rattle.maugzeris.proofs.pages.Rules.{rule_is, rule_known}
use Rattle.maugzeris.proofs.pages.reads.Reads.rule.Goals as goal

pub node_of-node-requires : goal.node_of-node-requires
node_of-node-requires c = record {
  instance = subst (λ (p : PageState). IsInstanceOn p c.args.instance) (sym c.self.view_is) c.requires.instance;
}

pub attribute_of-attr-requires : goal.attribute_of-attr-requires
attribute_of-attr-requires c = record {
  instance = subst (λ (p : PageState). IsInstanceOn p c.args.instance) (sym c.self.view_is) c.requires.instance;
}

pub step_of-requires-clause-attribute : goal.step_of-requires-clause-attribute
step_of-requires-clause-attribute c =
    subst (λ n. HasAttribute c.self.inside.page.now n c.attribute_of-attr.result) (sym c.node_of-node.ensures.node)
    c.attribute_of-attr.ensures.known

pub returns-in-Some : goal.returns-in-Some
returns-in-Some c =
    let p = c.self.inside.page.now in
    record {
      rule =
          sym c.in-Some.ensures.step.rule
          ∙ (rule_is p c.tree-known.ensures.lawful c.tree-known.ensures.is_tree c.args.instance c.node_of-node.result
          c.attribute_of-attr.result
          (subst (λ (q : PageState). IsInstanceOn q c.args.instance) (sym c.self.view_is) c.requires.instance)
          c.node_of-node.ensures.node c.attribute_of-attr.ensures.attribute
          ∙ ap (λ (q : PageState). rule_on q c.args.instance) c.self.view_is);
      known =
          subst (λ (q : PageState). c.in-Some.step.rule < length (all_rules q.checked.grammar)) c.self.view_is
          (rule_known c.checked.result.now p.checked (c.checked.ensures.checked ∙ c.grammar.ensures.grammar)
          c.grammar-lawful.ensures.lawful c.in-Some.step.rule c.in-Some.ensures.step.step.rule);
    }

pub returns-in-None : goal.returns-in-None
returns-in-None c =
    let p = c.self.inside.page.now in
    record {
      rule =
          sym c.in-None.ensures.step
          ∙ (rule_is p c.tree-known.ensures.lawful c.tree-known.ensures.is_tree c.args.instance c.node_of-node.result
          c.attribute_of-attr.result
          (subst (λ (q : PageState). IsInstanceOn q c.args.instance) (sym c.self.view_is) c.requires.instance)
          c.node_of-node.ensures.node c.attribute_of-attr.ensures.attribute
          ∙ ap (λ (q : PageState). rule_on q c.args.instance) c.self.view_is);
      known = tt;
    }
