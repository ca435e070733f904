use Rattle.std.proofs.Common.{◌≡◌, ◌∙◌, ap, sym, subst, List, ℕ}
use Rattle.std.specs.List.{All}
use Rattle.ftl_deps.specs.reads.Meant.{meant}
use Rattle.ftl_model.specs.layout.Path.{top}
use Rattle.ftl_model.specs.layout.Solves.{instance_of}
use Rattle.maugzeris.specs.pages.Instances.{IsInstanceOn, reads_on}
use Rattle.maugzeris.specs.pages.PageState.{HasAttribute, PageState}
use Rattle.maugzeris.proofs.pages.InstanceNumbers.{reads_within}
use Rattle.maugzeris.proofs.pages.Rules.{none_read, reads_are}
use Rattle.maugzeris.proofs.pages.reads.Reads.of.Goals as goal

-- what is read are instances of the page
are_instances : (p q : PageState) (i : ℕ) (read : List ℕ) → p ≡ q → All (IsInstanceOn p) (reads_on p i)
    → read ≡ reads_on q i → All (IsInstanceOn q) read
are_instances p q i read same known are =
    subst (λ (x : PageState). read ≡ reads_on x i → All (IsInstanceOn x) read) same
    (λ is. subst (All (IsInstanceOn p)) (sym is) known) are

pub node_of-node-requires : goal.node_of-node-requires
node_of-node-requires c = record {
  instance = subst (λ (p : PageState). IsInstanceOn p c.args.instance) (sym c.self.view_is) c.requires.instance;
}

pub attribute_of-attr-requires : goal.attribute_of-attr-requires
attribute_of-attr-requires c = record {
  instance = subst (λ (p : PageState). IsInstanceOn p c.args.instance) (sym c.self.view_is) c.requires.instance;
}

pub step_of-requires-clause-attribute : goal.step_of-requires-clause-attribute
step_of-requires-clause-attribute c =
    subst (λ n. HasAttribute c.self.inside.page.now n c.attribute_of-attr.result) (sym c.node_of-node.ensures.node)
    c.attribute_of-attr.ensures.known

pub returns-in_ok-reads_of_step-in-Some : goal.returns-in_ok-reads_of_step-in-Some
returns-in_ok-reads_of_step-in-Some c =
    let p = c.self.inside.page.now in
    let below = subst (λ (q : PageState). IsInstanceOn q c.args.instance) (sym c.self.view_is) c.requires.instance in
    let law = c.tree-known.ensures.lawful in
    let fits = c.tree-known.ensures.is_tree in
    let are =
    c.in_ok-reads_of_step-in-Some.ensures.reads
    ∙ (reads_are p law fits c.args.instance c.node_of-node.result c.attribute_of-attr.result below
    c.node_of-node.ensures.node c.attribute_of-attr.ensures.attribute c.in-Some.step c.in-Some.ensures.step
    ∙ ap (λ (q : PageState). reads_on q c.args.instance) c.self.view_is) in
    record {
      reads = are;
      known =
          are_instances p c.args.self.now c.args.instance c.in_ok-reads_of_step-in-Some.field-0.items c.self.view_is
          (reads_within (meant p.checked) law p.tree fits c.args.instance (instance_of top 0) below) are;
    }

pub returns-in-None : goal.returns-in-None
returns-in-None c =
    let p = c.self.inside.page.now in
    let below = subst (λ (q : PageState). IsInstanceOn q c.args.instance) (sym c.self.view_is) c.requires.instance in
    let law = c.tree-known.ensures.lawful in
    let fits = c.tree-known.ensures.is_tree in
    let are =
    c.new.ensures.items
    ∙ (none_read p law fits c.args.instance c.node_of-node.result c.attribute_of-attr.result below
    c.node_of-node.ensures.node c.attribute_of-attr.ensures.attribute c.in-None.ensures.step
    ∙ ap (λ (q : PageState). reads_on q c.args.instance) c.self.view_is) in
    record {
      reads = are;
      known =
          are_instances p c.args.self.now c.args.instance c.new.result.items c.self.view_is
          (reads_within (meant p.checked) law p.tree fits c.args.instance (instance_of top 0) below) are;
    }
