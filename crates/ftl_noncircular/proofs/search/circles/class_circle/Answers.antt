use Rattle.std.proofs.Common.{◌∙◌, true, false}
use Rattle.ftl_noncircular.proofs.search.CircleLaws.{tells_closed}
use Rattle.ftl_noncircular.proofs.search.circles.class_circle.Goals as goal

pub first_circle-requires : goal.first_circle-requires
first_circle-requires g c =
    let s = c.args.shape.now in
    let shape = c.requires.0 in
    let known = c.requires.1.0 in
    let all = c.add_pairs.ensures.edges true c.requires.1.1.1.1.0 in
    let without = c.add_pairs-2.ensures.edges false c.requires.1.1.1.1.1 in (
      shape,
      (
        known,
        (
          c.close.ensures.size ∙ all.size,
          (
            tells_closed g.g s shape c.args.class known true c.add_pairs.new.edges c.close.new.self all
                c.close.ensures.closed,
            (
              c.close-2.ensures.size ∙ without.size,
              tells_closed g.g s shape c.args.class known false c.add_pairs-2.new.edges c.close-2.new.self without
                  c.close-2.ensures.closed,
            ),
          ),
        ),
      ),
    )
