-- Its list is in the table.
use Rattle.std.proofs.Common.{ap, ◌∙◌, length}
use Rattle.ftl_meaning.specs.faults.Checked.{CheckedGrammar}
use Rattle.ftl_relayout.specs.readers.Readers.{list_at}
use Rattle.ftl_relayout.specs.readers.Sites.{site_grammar}
use Rattle.ftl_relayout.proofs.readers.Listed.{list_is, list_there}
use Rattle.ftl_relayout.proofs.readers.add.readers_at.Goals as goal

pub bounds-site-list : goal.bounds-site-list
bounds-site-list c =
    let x = c.args.site.now in
    let count =
    c.class_count.ensures.count ∙ ap (λ (k : CheckedGrammar). length k.grammar.classes) c.checked-checked.ensures.grammar in
    list_there (site_grammar x) x.readers.now c.requires.site.readers c.args.attr c.args.class c.args.whose c.requires.class
    c.list_at-list.result c.requires.attr
    (c.list_at-list.ensures.place ∙ ap (λ n. list_at n c.args.attr c.args.class c.args.whose) count)

pub returns : goal.returns
returns c =
    let x = c.args.site.now in
    let count =
    c.class_count.ensures.count ∙ ap (λ (k : CheckedGrammar). length k.grammar.classes) c.checked-checked.ensures.grammar in
    record {
      readers =
          list_is (site_grammar x) x.readers.now c.requires.site.readers c.args.attr c.args.class c.args.whose c.requires.class
          c.list_at-list.result c.as_slice.result.now c.index-site-list.result c.requires.attr
          (c.list_at-list.ensures.place ∙ ap (λ n. list_at n c.args.attr c.args.class c.args.whose) count) c.as_slice.ensures;
    }
