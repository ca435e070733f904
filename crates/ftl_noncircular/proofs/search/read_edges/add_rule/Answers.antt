use Rattle.std.proofs.Common.{◌∙◌, arith, sym}
use Rattle.ftl_noncircular.specs.search.Circles.{vertex_at}
use Rattle.ftl_noncircular.specs.search.RuleEdges.{rule_at}
use Rattle.ftl_noncircular.proofs.search.ReadLaws.{entered_all, lawful_meant, read_edge, read_more, row_is}
use Rattle.ftl_noncircular.proofs.search.ReadLaws.{row_within, rule_class, rule_known, rule_target}
use Rattle.ftl_noncircular.proofs.search.read_edges.add_rule.Goals as goal

pub returns-then-info-class-clause-entered : goal.returns-then-info-class-clause-entered
returns-then-info-class-clause-entered g c same =
    absurd
    (c.if-info-class.true
    (sym (rule_class g.g c.args.checked.now c.requires.0 c.grammar-lawful.ensures.lawful c.args.rule
    c.requires.1.1.1.1.0
    c.rule-info.result c.rule-info.ensures.info)
    ∙ same))

pub reads-read-items-requires : goal.reads-read-items-requires
reads-read-items-requires g c = record {
  within =
      row_within g.g c.args.checked.now c.requires.0 c.grammar-lawful.ensures.lawful c.args.rule c.requires.1.1.1.1.0
      c.args.deps.now c.requires.1.0;
}

pub add_read-requires : goal.add_read-requires
add_read-requires g c =
    let k = c.args.checked.now in
    let none = c.grammar-lawful.ensures.lawful in
    let within = c.requires.1.1.1.1.0 in
    let law = lawful_meant g.g k c.requires.0 none c.grammar-lawful.ensures.kinds in
    let w = rule_at g.g c.args.rule in (
      c.requires.1.1.0,
      (
        c.requires.1.1.1.0,
        (
          read_edge g.g law c.args.prevs c.args.class w (rule_known g.g k c.requires.0 none c.args.rule within)
              (rule_class g.g k c.requires.0 none c.args.rule within c.rule-info.result c.rule-info.ensures.info
              ∙ c.if-info-class.false)
              c.reads-read-items.result.now
              (c.reads-read-items.ensures.reads
              ∙ row_is g.g k c.requires.0 none c.args.rule within c.args.deps.now c.requires.1.0)
              c.loop-read.read-index c.loop-read-test.true (vertex_at c.rule-info.result.child c.rule-info.result.attr)
              (rule_target g.g k c.requires.0 none c.args.rule within c.rule-info.result c.rule-info.ensures.info),
          (
            c.loop-read.invariant.size ∙ c.requires.1.1.1.1.1.0,
            c.loop-read.invariant.edges,
          ),
        ),
      ),
    )

pub loop-read-preserved : goal.loop-read-preserved
loop-read-preserved g c = record {
  size = c.add_read.ensures.size ∙ c.loop-read.invariant.size;
  kept = λ a b e. c.add_read.ensures.kept a b (c.loop-read.invariant.kept a b e);
  edges = c.add_read.ensures.edges;
  entered =
      read_more c.args.shape.now.places c.args.prevs c.loop-read.edges c.add_read.new.edges
      c.reads-read-items.result.now
      c.loop-read.read-index (vertex_at c.rule-info.result.child c.rule-info.result.attr) c.add_read.ensures.kept
      c.loop-read.invariant.entered c.add_read.ensures.entered;
}

pub returns-clause-entered : goal.returns-clause-entered
returns-clause-entered g c same =
    let k = c.args.checked.now in
    let none = c.grammar-lawful.ensures.lawful in
    let within = c.requires.1.1.1.1.0 in
    entered_all g.g c.args.shape.now.places c.args.prevs c.loop-read.edges (rule_at g.g c.args.rule)
    c.reads-read-items.result.now
    (c.reads-read-items.ensures.reads
    ∙ row_is g.g k c.requires.0 none c.args.rule within c.args.deps.now c.requires.1.0)
    (vertex_at c.rule-info.result.child c.rule-info.result.attr)
    (rule_target g.g k c.requires.0 none c.args.rule within c.rule-info.result c.rule-info.ensures.info)
    (λ m below. c.loop-read.invariant.entered m (omega (arith, below, c.loop-read-test.false)))
