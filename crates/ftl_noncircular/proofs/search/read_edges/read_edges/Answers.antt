use Rattle.std.proofs.Common.{◌∙◌, arith}
use Rattle.ftl_noncircular.proofs.search.ReadLaws.{all_entered, lawful_meant, none_entered, rule_more, rules_counted}
use Rattle.ftl_noncircular.proofs.search.read_edges.read_edges.Goals as goal

pub loop-rule-init : goal.loop-rule-init
loop-rule-init g c = record {
  size = c.in_ok-edges.ensures.size ∙ c.size.ensures.size;
  edges = none_entered c.in_ok-edges.edges g.g c.args.shape.now.places c.args.prevs c.args.class
      c.in_ok-edges.ensures.none;
  entered = λ r below. absurd (omega (arith, below));
}

pub add_rule-requires : goal.add_rule-requires
add_rule-requires g c = (
  c.requires.0,
  (
    c.requires.1.0,
    (
      c.requires.1.1.0,
      (
        c.requires.1.1.1,
        (
          omega (arith, c.loop-rule-test.true, c.rule_count-rule-end.ensures.count),
          (
            c.loop-rule.invariant.size,
            c.loop-rule.invariant.edges,
          ),
        ),
      ),
    ),
  ),
)

pub loop-rule-preserved : goal.loop-rule-preserved
loop-rule-preserved g c = record {
  size = c.add_rule.ensures.size ∙ c.loop-rule.invariant.size;
  edges = c.add_rule.ensures.edges;
  entered =
      rule_more g.g c.args.shape.now.places c.args.prevs c.args.class c.loop-rule.edges c.add_rule.new.edges
      c.loop-rule.rule
      c.add_rule.ensures.kept c.loop-rule.invariant.entered c.add_rule.ensures.entered;
}

pub returns : goal.returns
returns g c = record {
  reads =
      all_entered g.g
      (lawful_meant g.g c.args.checked.now c.requires.0 c.grammar-lawful.ensures.lawful c.grammar-lawful.ensures.kinds)
      c.args.shape.now.places c.args.prevs c.args.class c.rule_count-rule-end.result c.loop-rule.edges
      (c.rule_count-rule-end.ensures.count
      ∙ rules_counted g.g c.args.checked.now c.requires.0 c.grammar-lawful.ensures.lawful)
      c.loop-rule.invariant.size c.loop-rule.invariant.edges
      (λ r below. c.loop-rule.invariant.entered r (omega (arith, below, c.loop-rule-test.false)));
}
