use Rattle.ftl_noncircular.proofs.search.StateLaws.{closed_at_end}
use Rattle.ftl_noncircular.proofs.search.pairs.find_pairs.Goals as goal

pub returns-clause-closed : goal.returns-clause-closed
returns-clause-closed g c =
    closed_at_end g.g c.args.shape.now c.requires.0 c.put_all.new.classes c.put_all.new.list
    c.in_ok-put_all.ensures.searched
