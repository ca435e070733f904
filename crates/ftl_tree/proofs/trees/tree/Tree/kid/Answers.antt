use Rattle.std.proofs.Common.{ap, arith, get_or, length, ◌∙◌}
use Rattle.std.proofs.lemmas.List.FromFn.{get_or-map-range_with_len, length-map-range_with_len}
use Rattle.ftl_model.specs.layout.Path.{down, kids_at, node_at, number_of}
use Rattle.ftl_tree.proofs.trees.tree.Tree.kid.Goals as goal

pub bounds-kids-k : goal.bounds-kids-k
bounds-kids-k c =
    let t = c.args.self.now.tree in
    let p = node_at t c.args.node in
    omega (
      arith,
      c.requires.k,
      ap length c.kids.ensures.kids,
      length-map-range_with_len (λ k. number_of t (down c.args.child k p)) 0 (kids_at t p c.args.child),
    )

pub returns : goal.returns
returns c =
    let t = c.args.self.now.tree in
    let p = node_at t c.args.node in
    record {
      kid =
          ap (λ xs. get_or xs c.args.k 0) c.kids.ensures.kids
          ∙ get_or-map-range_with_len (λ k. number_of t (down c.args.child k p)) 0 (kids_at t p c.args.child) c.args.k c.args.k 0 c.requires.k (omega arith);
    }
