use Rattle.ftl_relayout.proofs.readers.Targets.{reader_at}
use Rattle.ftl_relayout.proofs.readers.add.add_by_kids.Goals as goal

pub reader_kids-kids-requires-clause-reader : goal.reader_kids-kids-requires-clause-reader
reader_kids-kids-requires-clause-reader c =
    reader_at c.args.site.now.tree.now c.requires.site.law c.args.node c.requires.node c.args.reader.now c.requires.reader
    c.requires.class
