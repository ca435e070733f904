use Rattle.std.proofs.Common.{◌∙◌, ◌<◌, sym, subst, arith, length}
use Rattle.std.proofs.lemmas.List.{get_or_default}
use Rattle.ftl_noncircular.specs.declared.search.pair_list.Pair.{Pair}
use Rattle.ftl_noncircular.specs.search.Pairs.{AreSearched, IsPair, KeepsEntries, no_walks}
use Rattle.ftl_noncircular.specs.walks.WalkTables.{WalkTable}
use Rattle.ftl_noncircular.proofs.search.PairLaws.{longer_on}
use Rattle.ftl_noncircular.proofs.search.StateLaws.{put_more, state_more}
use Rattle.ftl_noncircular.proofs.search.pairs.put_everywhere.Goals as goal

pub put_pair-requires : goal.put_pair-requires
put_pair-requires g c =
    let state = c.requires.1.0 in
    let now = c.loop-class.invariant.searched in
    let under = c.loop-class-test.true in
    let known : c.loop-class.class < g.g.class_count = omega (arith, under, state.count) in
    let within : c.loop-class.class < length c.loop-class.classes = omega (arith, under, c.loop-class.auto.classes) in
    let pairs = c.args.list.now.pairs.items in
    let none : Pair = record { interface = 0; from = 0; to = 0 } in
    let pair = c.index-pair.ensures ∙ get_or_default pairs c.args.next c.index-pair.result.now none c.requires.1.1 in
    let walks = get_or_default c.loop-class.classes c.loop-class.class c.index-classes-class.result no_walks within in (
      c.requires.0,
      (
        known,
        (
          subst (IsPair g.g) (sym pair) (state.found.pairs c.args.next c.requires.1.1),
          (
            subst (AreSearched g.g c.args.shape.now c.loop-class.list.has c.loop-class.class) (sym walks)
                (now.each c.loop-class.class known),
            now.found,
          ),
        ),
      ),
    )

pub loop-class-preserved : goal.loop-class-preserved
loop-class-preserved g c =
    let s = c.args.shape.now in
    let k = c.loop-class.class in
    let classes = c.loop-class.classes in
    let now = c.loop-class.invariant.searched in
    let within : k < length classes = omega (arith, c.loop-class-test.true, c.loop-class.auto.classes) in
    let walks = get_or_default classes k c.index-classes-class.result no_walks within in
    let kept = subst (λ (x : WalkTable). KeepsEntries x.edges c.put_pair.new.walks.edges) walks
    c.put_pair.ensures.kept in
    record {
      searched =
          state_more g.g s classes c.loop-class.list c.put_pair.new.list c.args.next k c.put_pair.new.walks now within
          c.in_ok-put_pair.ensures.searched c.in_ok-put_pair.ensures.list c.in_ok-put_pair.ensures.longer kept;
      longer =
          longer_on c.args.list.now c.loop-class.list c.put_pair.new.list c.loop-class.invariant.longer
          c.in_ok-put_pair.ensures.longer;
      put =
          put_more g.g s classes c.loop-class.list c.put_pair.new.list c.args.next k c.put_pair.new.walks now within
          c.in_ok-put_pair.ensures.searched c.in_ok-put_pair.ensures.list c.in_ok-put_pair.ensures.longer kept
          c.index-pair.result.now c.loop-class.invariant.put c.put_pair.ensures.put;
    }
