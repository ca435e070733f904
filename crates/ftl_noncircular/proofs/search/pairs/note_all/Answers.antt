use Rattle.std.proofs.Common.{◌∙◌, arith}
use Rattle.std.proofs.lemmas.List.{get_or_default}
use Rattle.ftl_noncircular.specs.search.Pairs.{no_walks}
use Rattle.ftl_noncircular.proofs.search.StateLaws.{noted_more}
use Rattle.ftl_noncircular.proofs.search.pairs.note_all.Goals as goal

pub loop-class-preserved : goal.loop-class-preserved
loop-class-preserved g c = record {
  list = c.in_ok-note.ensures.list;
  noted =
      noted_more g.g c.args.shape.now c.loop-class.list c.note.new.list c.args.classes.now c.loop-class.class
      c.index-classes-class.result
      (c.index-classes-class.is
      ∙ get_or_default c.args.classes.now c.loop-class.class c.index-classes-class.result no_walks
      c.loop-class-test.true)
      c.in_ok-note.ensures.longer c.loop-class.invariant.noted c.in_ok-note.ensures.noted;
}

pub returns : goal.returns
returns g c = record {
  searched = record {
    count = c.requires.1.0.count;
    each = λ k known. record {
      walks = c.requires.1.0.each k known;
      noted = c.loop-class.invariant.noted k (omega (arith, known, c.requires.1.0.count, c.loop-class-test.false));
    };
    found = c.loop-class.invariant.list;
    within = omega arith;
    put = λ j before. absurd (omega (arith, before));
  };
}
