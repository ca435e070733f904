-- The kids for which the rule reads it are those of the reader.
use Rattle.ftl_step_value.proofs.limits.reads.Entries.{there}
use Rattle.ftl_model.specs.layout.Path.{node_at}
use Rattle.ftl_relayout.specs.readers.Readers.{attribute_read, seen_as}
use Rattle.ftl_relayout.specs.readers.Sites.{IsKeyOfKid, IsReaderKeyAt, site_grammar, site_placing}
use Rattle.ftl_relayout.proofs.queue.Trails.{on_ok}
use Rattle.ftl_relayout.proofs.readers.Inserts.{adds_into}
use Rattle.ftl_relayout.proofs.readers.ReaderKeys.{reader_key}
use Rattle.ftl_relayout.proofs.readers.add.add_reading.Goals as goal

pub add_kids-requires-clause-kids : goal.add_kids-requires-clause-kids
add_kids-requires-clause-kids c = λ n from to. (c.requires.kids.only n from to).0

pub returns-clause-adds : goal.returns-clause-adds
returns-clause-adds c =
    let x = c.args.site.now in
    let t = x.tree.now in
    let g = site_grammar x in
    let law = c.requires.site.law in
    let fits = c.node_count-nodes.ensures.is_tree in
    let e = c.args.reader.now in
    let v = node_at t.tree c.args.node in
    let o = seen_as c.args.place (attribute_read e.read) in
    adds_into c.args.waiting.now.keys c.add_kids.new.waiting.keys (IsReaderKeyAt x c.args.node o)
    (IsKeyOfKid x c.args.node e c.args.kids)
    (λ k h.
    let there_for = c.requires.kids.only h.number h.least h.below in
    reader_key g law (site_placing x) t.tree fits v o e k (there g law t.tree fits c.args.node c.requires.node)
    c.requires.reader c.requires.class
    (record { number = h.number; below = there_for.0; hit = there_for.1; key_is = h.key_is }))
    c.add_kids.ensures.adds

pub returns-clause-all : goal.returns-clause-all
returns-clause-all c =
    on_ok c.add_kids.result
    (λ all k by.
    let within = c.requires.kids.has by.number by.below by.hit in
    all k (record { number = by.number; least = within.0; below = within.1; key_is = by.key_is }))
    c.add_kids.ensures.all
