use Rattle.std.proofs.Common.{◌∙◌, arith, ap, get_or, length, List}
use Rattle.ftl_noncircular.specs.declared.search.pair_list.Pair.{Pair}
use Rattle.ftl_noncircular.proofs.search.CircleLaws.{all_put, put_one_more}
use Rattle.ftl_noncircular.proofs.search.pair_edges.add_pairs.Goals as goal

pub loop-pair-preserved : goal.loop-pair-preserved
loop-pair-preserved g c =
    let none : Pair = record { interface = 0; from = 0; to = 0 } in
    record {
      size = c.add_pair.ensures.size ∙ c.loop-pair.invariant.size;
      put =
          put_one_more g.g c.args.shape.now c.loop-pair.edges c.add_pair.new.edges c.args.class
          c.args.list.now.pairs.items
          c.loop-pair.pair-index (get_or c.as_slice-pair-items.result.now c.loop-pair.pair-index none)
          (ap (λ (xs : List Pair). get_or xs c.loop-pair.pair-index none) c.as_slice-pair-items.ensures.value)
          c.add_pair.ensures.kept c.loop-pair.invariant.put c.add_pair.ensures.put;
      reads = λ prevs has. c.add_pair.ensures.reads prevs (c.loop-pair.invariant.reads prevs has);
    }

pub returns : goal.returns
returns g c = record {
  edges = λ prevs has.
      all_put g.g c.args.shape.now c.requires.0 c.args.class c.requires.1.0 c.args.list.now c.requires.1.1.0
      c.requires.1.1.1.0 c.loop-pair.edges
      (λ j under. c.loop-pair.invariant.put j
      (omega (arith, under, c.loop-pair-test.false, ap length c.as_slice-pair-items.ensures.value))) prevs
      (c.loop-pair.invariant.reads prevs has);
}
