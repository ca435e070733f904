use Rattle.std.proofs.Common.{◌<◌, List, get_or, length, map, ap, sym, subst, ◌∙◌, arith}
use Rattle.std.proofs.lemmas.List.{length-map}
use Rattle.ftl_model.specs.layout.Path.{Path, number_of, top}
use Rattle.ftl_items.specs.stage_items.Items.{pass_in}
use Rattle.ftl_deps.specs.reads.Meant.{meant}
use Rattle.ftl_schedule.specs.stages.Stages.{pass_of}
use Rattle.ftl_tree.specs.trees.CheckedTree.{CheckedTree}
use Rattle.ftl_cursors.specs.items.StageItems.{cuts_in, passes_in, start_in, tops_of}
use Rattle.ftl_cursors.proofs.items.RowsByHost.{tops_are}
use Rattle.ftl_cursors.proofs.items.Starts.{few_items, found_at, length-pass_starts, pass_kind, start_is}
use Rattle.ftl_cursors.proofs.items.view.StageItems.find.Goals as goal

pub bounds-self-place-2 : goal.bounds-self-place-2
bounds-self-place-2 c =
    let s = c.args.self.now in
    let rows = s.rows.now in
    let len = length-pass_starts (length (passes_in s)) (cuts_in s) rows.tree.now.tree s.starts.now s.fit in
    let count = length-map s.passes.now pass_of in
    let known = c.place-place.ensures.place.known in
    omega (arith, len, count, known)

pub rows_of-requires : goal.rows_of-requires
rows_of-requires c = record { known = c.place-place.ensures.place.known }

pub first-requires : goal.first-requires
first-requires c =
    let s = c.args.self.now in
    let m = c.place-place.result.pass in
    let within = c.place-place.ensures.place.within in
    let kind = pass_kind s.passes.now m c.index-self-place.result c.place-place.ensures.place.known in
    let tops = tops_are s.rows.now (cuts_in s m) c.rows_of.result.now c.rows_of.ensures.rows (get_or s.passes.now m c.index-self-place.result).kind kind in
    record { item = subst (λ ps. c.place-place.result.item < length ps) (sym tops) within }

pub returns : goal.returns
returns c =
    let s = c.args.self.now in
    let rows = s.rows.now in
    let t = rows.tree.now in
    let ps = map pass_of s.passes.now in
    let m = c.place-place.result.pass in
    let j = c.place-place.result.item in
    let count = length-map s.passes.now pass_of in
    let fits = c.node_count-nodes.ensures.is_tree in
    let known = c.place-place.ensures.place.known in
    let within = c.place-place.ensures.place.within in
    let kind = pass_kind s.passes.now m c.index-self-place.result known in
    let at =
    found_at (length ps) (cuts_in s) t.tree (meant t.checked) fits m j c.args.item c.first.result (omega (arith, known, count))
    within c.place-place.ensures.place.start
    (c.first.ensures.first
    ∙ ap (λ (u : CheckedTree). number_of u.tree (get_or (tops_of c.rows_of.result.now (get_or s.passes.now m c.index-self-place.result).kind) j top))
    c.rows_of.ensures.rows.tree
    ∙ ap (λ (ps : List Path). number_of t.tree (get_or ps j top))
    (tops_are s.rows.now (cuts_in s m) c.rows_of.result.now c.rows_of.ensures.rows (get_or s.passes.now m c.index-self-place.result).kind kind)) in
    record {
      found = record {
        is_tree = fits;
        few =
            few_items (meant t.checked) t.tree fits
            (let n = c.node_count-nodes.ensures.count in
            let b = c.node_count-nodes.ensures.bound in
            omega (arith, n, b))
            (cuts_in s) (length ps) s.fit.few;
        pass_known = known;
        pass_is = sym at.pass_is;
        kind_is = sym kind ∙ ap (λ n. (pass_in ps n).kind) (sym at.pass_is);
        start_is =
            start_is (length ps) (cuts_in s) t.tree s.starts.now s.fit m (omega (arith, known, count))
            ∙ ap (start_in s) (sym at.pass_is);
        known = at.known;
        node_is = at.first_is;
      };
    }
