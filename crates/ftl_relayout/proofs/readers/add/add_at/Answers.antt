-- The readers of the attribute are those of its list for the class of the node.
use Rattle.std.proofs.Common.{◌≡◌, ◌⊎◌, ℕ, ◌+◌, ◌<◌, Contains, None, ap, ap₂, get_or, sym, ◌∙◌, subst, inl, inr, ⊎_elim, arith}
use Rattle.std.proofs.lemmas.Bool.{cases_lt}
use Rattle.std.proofs.lemmas.List.{get_or_default}
use Rattle.ftl_deps.specs.declared.parts.part_read.PartRead.TheVariants as reads
use Rattle.ftl_model.specs.layout.Path.{node_at}
use Rattle.ftl_relayout.specs.declared.readers.reader.Reader.{Reader}
use Rattle.ftl_relayout.specs.declared.readers.reader.When.TheVariants as when
use Rattle.ftl_relayout.specs.readers.Readers.{IsKeyBy, readers_for, seen_as}
use Rattle.ftl_relayout.specs.readers.Sites.{Adds, IsReaderKeyAt, site_grammar, site_placing}
use Rattle.ftl_relayout.proofs.readers.Inserts.{adds_both}
use Rattle.ftl_relayout.proofs.readers.Listed.{class_here, listed_reader}
use Rattle.ftl_relayout.proofs.readers.ReaderKeys.{listed_key}
use Rattle.ftl_relayout.proofs.readers.add.add_at.Goals as goal

none : Reader
none = record { info = record { class = 0; child = None; attr = 0 }; when = when.Always; read = reads.Own 0 }

at_most : (m n : ℕ) → m < n + 1 → (m < n) ⊎ (m ≡ n)
at_most m n h = ⊎_elim (λ less. inl less) (λ more. inr (let e : m ≡ n = omega (arith, h, more) in e)) (cases_lt m n)

pub readers_at-list-requires-clause-class : goal.readers_at-list-requires-clause-class
readers_at-list-requires-clause-class c =
    class_here c.args.site.now c.requires.site.law c.node_count-nodes.ensures.is_tree c.args.node c.class-class.result
    c.requires.node c.class-class.ensures.class

pub add_by-requires-clause-reader : goal.add_by-requires-clause-reader
unfolding none
add_by-requires-clause-reader c =
    let x = c.args.site.now in
    (listed_reader (site_grammar x) x.readers.now c.requires.site.readers c.args.attr c.class-class.result
    c.whose_at-whose.result (class_here x c.requires.site.law c.node_count-nodes.ensures.is_tree c.args.node c.class-class.result c.requires.node c.class-class.ensures.class) c.readers_at-list.result.now c.readers_at-list.ensures.readers
    c.loop-reader.reader-index none c.loop-reader-test.true).0

pub add_by-requires-clause-class : goal.add_by-requires-clause-class
unfolding none
add_by-requires-clause-class c =
    let x = c.args.site.now in
    (listed_reader (site_grammar x) x.readers.now c.requires.site.readers c.args.attr c.class-class.result
    c.whose_at-whose.result (class_here x c.requires.site.law c.node_count-nodes.ensures.is_tree c.args.node c.class-class.result c.requires.node c.class-class.ensures.class) c.readers_at-list.result.now c.readers_at-list.ensures.readers
    c.loop-reader.reader-index none c.loop-reader-test.true).2
    ∙ c.class-class.ensures.class

pub returns-in_err-add_by-clause-adds : goal.returns-in_err-add_by-clause-adds
unfolding none
returns-in_err-add_by-clause-adds c =
    let x = c.args.site.now in
    let names =
    (listed_reader (site_grammar x) x.readers.now c.requires.site.readers c.args.attr c.class-class.result
    c.whose_at-whose.result (class_here x c.requires.site.law c.node_count-nodes.ensures.is_tree c.args.node c.class-class.result c.requires.node c.class-class.ensures.class) c.readers_at-list.result.now c.readers_at-list.ensures.readers
    c.loop-reader.reader-index none c.loop-reader-test.true).1 in
    let P = IsReaderKeyAt x c.args.node (seen_as c.args.place c.args.attr) in
    adds_both c.args.waiting.now.keys c.loop-reader.waiting.keys c.add_by.new.waiting.keys P P c.loop-reader.invariant.adds
    (λ k h. h)
    (subst
    (λ a. Adds c.loop-reader.waiting.keys c.add_by.new.waiting.keys (IsReaderKeyAt x c.args.node (seen_as c.args.place a)))
    names c.add_by.ensures.adds)

pub loop-reader-preserved : goal.loop-reader-preserved
unfolding none
loop-reader-preserved c =
    let x = c.args.site.now in
    let list = c.readers_at-list.result.now in
    let j = c.loop-reader.reader-index in
    let e = get_or list j none in
    let v = node_at x.tree.now.tree c.args.node in
    let names =
    (listed_reader (site_grammar x) x.readers.now c.requires.site.readers c.args.attr c.class-class.result
    c.whose_at-whose.result (class_here x c.requires.site.law c.node_count-nodes.ensures.is_tree c.args.node c.class-class.result c.requires.node c.class-class.ensures.class) list c.readers_at-list.ensures.readers j none
    c.loop-reader-test.true).1 in
    let P = IsReaderKeyAt x c.args.node (seen_as c.args.place c.args.attr) in
    let came : Adds c.loop-reader.waiting.keys c.add_by.new.waiting.keys P =
    subst
    (λ a. Adds c.loop-reader.waiting.keys c.add_by.new.waiting.keys (IsReaderKeyAt x c.args.node (seen_as c.args.place a)))
    names c.add_by.ensures.adds in
    record {
      adds =
          adds_both c.args.waiting.now.keys c.loop-reader.waiting.keys c.add_by.new.waiting.keys P P
          c.loop-reader.invariant.adds (λ k h. h) came;
      all = λ m d below k by.
          ⊎_elim (λ less. came.kept k (c.loop-reader.invariant.all m d less k by))
          (λ same.
          let one : get_or list m d ≡ e =
          ap (λ i. get_or list i d) same ∙ get_or_default list j d none c.loop-reader-test.true in
          c.in_ok-add_by.ensures.all k
          (subst (λ a. IsKeyBy (site_grammar x) (site_placing x) x.tree.now.tree v (seen_as c.args.place a) e k) (sym names)
          (subst
          (λ (r : Reader). IsKeyBy (site_grammar x) (site_placing x) x.tree.now.tree v (seen_as c.args.place c.args.attr) r k)
          one by)))
          (at_most m j below);
    }

pub returns-clause-all : goal.returns-clause-all
returns-clause-all c = λ k h.
    let x = c.args.site.now in
    let list = c.readers_at-list.result.now in
    let v = node_at x.tree.now.tree c.args.node in
    let g = site_grammar x in
    let at = site_placing x in
    let m =
    listed_key g c.requires.site.law at x.tree.now.tree c.node_count-nodes.ensures.is_tree x.readers.now
    c.requires.site.readers v c.args.place c.args.attr k c.requires.attr h in
    let is =
    c.readers_at-list.ensures.readers
    ∙ ap₂ (λ l o. readers_for g x.readers.now c.args.attr l o) c.class-class.ensures.class c.whose_at-whose.ensures.whose in
    let here = subst (λ l. Contains l m.reader) (sym is) m.listed in
    let within = here.1 in
    let past = c.loop-reader-test.false in
    c.loop-reader.invariant.all here.0 m.reader (omega (arith, within, past)) k
    (subst (λ (r : Reader). IsKeyBy g at x.tree.now.tree v (seen_as c.args.place c.args.attr) r k) (sym here.2) m.by)
