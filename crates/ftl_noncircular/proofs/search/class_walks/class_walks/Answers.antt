use Rattle.std.proofs.Common.{◌<◌, arith}
use Rattle.ftl_noncircular.specs.search.Pairs.{AreWalksOf, no_walks}
use Rattle.ftl_noncircular.proofs.search.StartLaws.{ends_low, starts_low, walks_by}
use Rattle.ftl_noncircular.proofs.search.TableLaws.{table_more}
use Rattle.ftl_noncircular.proofs.search.class_walks.class_walks.Goals as goal

pub new-requires-clause-ends : goal.new-requires-clause-ends
new-requires-clause-ends g c =
    let known : c.loop-class.class < g.g.class_count =
    omega (arith, c.loop-class-test.true, c.len-class-end.ensures, c.requires.1.1.classes.kids_count) in
    ends_low g.g c.args.shape.now c.requires.1.1 c.loop-class.class known c.in_ok-edges.edges
    c.in_ok-edges.ensures.reads

pub new-requires-clause-starts : goal.new-requires-clause-starts
new-requires-clause-starts g c =
    let known : c.loop-class.class < g.g.class_count =
    omega (arith, c.loop-class-test.true, c.len-class-end.ensures, c.requires.1.1.classes.kids_count) in
    starts_low g.g c.args.shape.now c.requires.1.1 c.loop-class.class known c.in_ok-starts.starts.items
    c.in_ok-edges.edges
    c.in_ok-starts.ensures.starts c.in_ok-edges.ensures.reads.size

pub loop-class-preserved : goal.loop-class-preserved
loop-class-preserved g c =
    table_more (AreWalksOf g.g c.args.shape.now) no_walks c.loop-class.class c.loop-class.classes.items
    c.push.new.self.items
    c.in_ok-new.field-0 c.loop-class.invariant c.in_ok-push.ensures.items
    (walks_by g.g c.args.shape.now c.loop-class.class c.in_ok-edges.edges c.in_ok-starts.starts.items
    c.in_ok-new.field-0
    c.in_ok-new.ensures.edges c.in_ok-new.ensures.starts c.in_ok-edges.ensures.reads c.in_ok-starts.ensures.starts)
