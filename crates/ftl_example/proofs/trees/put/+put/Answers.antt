use Rattle.std.proofs.Common.{◌≡◌, ◌≤◌, ◌+◌, ◌++◌, length, suc, ◌-◌, List, [], ◌∷◌, refl, sym, ap, ap₂, subst, ◌∙◌, arith}
use Rattle.std.proofs.lemmas.List.{length-append}
use Rattle.ftl_deps.specs.reads.Meant.{meant}
use Rattle.ftl_tree.specs.declared.rows.row.NodeRow.{NodeRow}
use Rattle.ftl_example.specs.pairs.PairMeant.{pair_meant}
use Rattle.ftl_example.specs.trees.BuiltRows.{children_rows, kid_rows, node_rows, site_rows}
use Rattle.ftl_example.specs.trees.WantsMeant.{built, choices_of, want_meant, wants_meant}
use Rattle.ftl_example.proofs.trees.BuiltRows.{Makes, all_made, first_fits, kids_fit, kids_made, next_fits, total_is}
use Rattle.ftl_example.proofs.trees.put.+put.Goals as goal

pub put_kids-put_tree-requires : goal.put_kids-put_tree-requires
put_kids-put_tree-requires t c =
    let pick = built (meant c.args.checked.now) (pair_meant c.args.pair) c.args.tables.now c.args.steps in
    let n = c.args.kids.parent in
    let i = c.args.kids.interface in
    let child = c.args.kids.place.child in
    let rows = c.args.rows.now.items in
    let fits =
    subst (λ ws. length rows + length (kid_rows pick n (length rows) i child 0 (wants_meant ws)) ≤ 1048576) c.in-One.is
    c.requires.fits in (
      omega arith,
      (
        c.requires.pair,
        (
          subst (λ x. length rows + length (site_rows pick x (length rows)) ≤ 1048576) (sym c.kid_site-site.ensures.site)
              (first_fits pick n i child 0 (length rows) (want_meant c.in-One.want) [] fits),
          c.requires.steps,
        ),
      ),
    )

pub put_kids-put_tree-requires-in-Two : goal.put_kids-put_tree-requires-in-Two
put_kids-put_tree-requires-in-Two t c =
    let pick = built (meant c.args.checked.now) (pair_meant c.args.pair) c.args.tables.now c.args.steps in
    let n = c.args.kids.parent in
    let i = c.args.kids.interface in
    let child = c.args.kids.place.child in
    let rows = c.args.rows.now.items in
    let fits =
    subst (λ ws. length rows + length (kid_rows pick n (length rows) i child 0 (wants_meant ws)) ≤ 1048576) c.in-Two.is
    c.requires.fits in (
      omega arith,
      (
        c.requires.pair,
        (
          subst (λ x. length rows + length (site_rows pick x (length rows)) ≤ 1048576) (sym c.kid_site-first.ensures.site)
              (first_fits pick n i child 0 (length rows) (want_meant c.in-Two.want) (want_meant c.in-Two.later ∷ []) fits),
          c.requires.steps,
        ),
      ),
    )

pub put_kids-put_tree-requires-in-Two-2 : goal.put_kids-put_tree-requires-in-Two-2
put_kids-put_tree-requires-in-Two-2 t c =
    let pick = built (meant c.args.checked.now) (pair_meant c.args.pair) c.args.tables.now c.args.steps in
    let n = c.args.kids.parent in
    let i = c.args.kids.interface in
    let child = c.args.kids.place.child in
    let rows = c.args.rows.now.items in
    let after = c.put_tree-in-Two.new.rows.items in
    let own : List NodeRow = node_rows n (record { child = child; kid = 0 }) (length rows) (pick (want_meant c.in-Two.want) i) in
    let put : after ≡ rows ++ own =
    c.in_ok-put_tree-in-Two.ensures.rows ∙ ap (λ x. rows ++ site_rows pick x (length rows)) c.kid_site-first.ensures.site in
    let long : length after ≡ length rows + length own = ap length put ∙ length-append rows own in
    let fits =
    subst (λ ws. length rows + length (kid_rows pick n (length rows) i child 0 (wants_meant ws)) ≤ 1048576) c.in-Two.is
    c.requires.fits in
    let next = next_fits pick n i child 0 (length rows) (want_meant c.in-Two.want) (want_meant c.in-Two.later ∷ []) fits in (
      omega arith,
      (
        c.requires.pair,
        (
          subst (λ x. length after + length (site_rows pick x (length after)) ≤ 1048576) (sym c.kid_site-second.ensures.site)
              (subst
              (λ m. m + length (node_rows n (record { child = child; kid = 1 }) m (pick (want_meant c.in-Two.later) i)) ≤ 1048576)
              (sym long)
              (first_fits pick n i child 1 (length rows + length own) (want_meant c.in-Two.later) [] next)),
          c.requires.steps,
        ),
      ),
    )

pub put_tree-loop-child-init : goal.put_tree-loop-child-init
put_tree-loop-child-init t c =
    let g = meant c.args.checked.now in
    let pair = pair_meant c.args.pair in
    let ch = choices_of g pair c.args.tables.now in
    let f = c.args.steps - 1 in
    let pick = built g pair c.args.tables.now f in
    let wants = ch.kids_for (want_meant c.args.site.want) c.args.site.interface in
    let n = c.child_count-child-end.result in
    let k = c.class_for-class.result in
    let node = c.len-node.result in
    let pushed = c.push-2.new.self.items in
    let old = c.args.rows.now.items in
    let some = c.if-steps-eq0.false in
    let e : n ≡ n - 0 = omega arith in
    let total = pushed ++ children_rows g pick wants node (length pushed) k 0 n in
    let is = total_is g ch f c.args.steps k n c.args.site old pushed c.row_of-2.result node
    (let z : suc (c.args.steps - 1) ≡ c.args.steps = omega (arith, some) in z) c.class_for-class.ensures.class
    c.child_count-child-end.ensures.count c.in_ok-push-2.ensures.items c.row_of-2.ensures.row
    (c.len-node.ensures ∙ c.args.rows.now.ok.0) in
    let long = ap length is ∙ length-append old (site_rows (built g pair c.args.tables.now c.args.steps) c.args.site (length old)) in
    let fits = c.requires.fits in (
      subst (λ m. Makes g pick wants node k 0 m pushed total) e refl,
      (let z : length total ≤ 1048576 = omega (arith, long, fits) in z),
    )

pub put_tree-put_kids-requires : goal.put_tree-put_kids-requires
put_tree-put_kids-requires t c =
    let g = meant c.args.checked.now in
    let pair = pair_meant c.args.pair in
    let ch = choices_of g pair c.args.tables.now in
    let f = c.args.steps - 1 in
    let pick = built g pair c.args.tables.now f in
    let wants = ch.kids_for (want_meant c.args.site.want) c.args.site.interface in
    let n = c.child_count-child-end.result in
    let k = c.class_for-class.result in
    let node = c.len-node.result in
    let pushed = c.push-2.new.self.items in
    let old = c.args.rows.now.items in
    let some = c.if-steps-eq0.false in
    let total = pushed ++ children_rows g pick wants node (length pushed) k 0 n in
    let d = c.loop-child.child in
    let less = c.loop-child-test.true in
    let e : n - d ≡ suc (n - (d + 1)) = omega (arith, less) in
    let rows = c.loop-child.rows.items in
    let makes = subst (λ m. Makes g pick wants node k d m rows total) e c.loop-child.invariant.0 in
    let interface = ap (λ x. x.interface) c.child.ensures.info in
    let kids = c.kids_for-wants.ensures.kids in
    let fits = kids_fit g pick wants node k d (n - (d + 1)) rows total makes c.loop-child.invariant.1 in (
      omega (arith, some),
      (
        c.requires.pair,
        (
          subst (λ i. length rows + length (kid_rows pick node (length rows) i d 0 (wants_meant c.kids_for-wants.result)) ≤ 1048576)
              (sym interface)
              (subst (λ xs. length rows + length (kid_rows pick node (length rows) (g.child_interface k d) d 0 xs) ≤ 1048576)
              (sym kids) fits),
          (let s = c.requires.steps in omega (arith, s)),
        ),
      ),
    )

pub put_tree-loop-child-preserved : goal.put_tree-loop-child-preserved
put_tree-loop-child-preserved t c =
    let g = meant c.args.checked.now in
    let pair = pair_meant c.args.pair in
    let ch = choices_of g pair c.args.tables.now in
    let f = c.args.steps - 1 in
    let pick = built g pair c.args.tables.now f in
    let wants = ch.kids_for (want_meant c.args.site.want) c.args.site.interface in
    let n = c.child_count-child-end.result in
    let k = c.class_for-class.result in
    let node = c.len-node.result in
    let pushed = c.push-2.new.self.items in
    let old = c.args.rows.now.items in
    let some = c.if-steps-eq0.false in
    let total = pushed ++ children_rows g pick wants node (length pushed) k 0 n in
    let d = c.loop-child.child in
    let less = c.loop-child-test.true in
    let e : n - d ≡ suc (n - (d + 1)) = omega (arith, less) in
    let rows = c.loop-child.rows.items in
    let makes = subst (λ m. Makes g pick wants node k d m rows total) e c.loop-child.invariant.0 in
    let interface = ap (λ x. x.interface) c.child.ensures.info in
    let kids = c.kids_for-wants.ensures.kids in
    let put =
    c.in_ok-put_kids.ensures.rows
    ∙ ap₂ (λ i xs. rows ++ kid_rows pick node (length rows) i d 0 xs) interface kids in (
      subst (λ x. Makes g pick wants node k x (n - (d + 1)) c.put_kids.new.rows.items total) (let s : suc d ≡ d + 1 = omega arith in s)
          (kids_made g pick wants node k d (n - (d + 1)) rows c.put_kids.new.rows.items total put makes),
      c.loop-child.invariant.1,
    )

pub put_tree-returns : goal.put_tree-returns
put_tree-returns t c =
    let g = meant c.args.checked.now in
    let pair = pair_meant c.args.pair in
    let ch = choices_of g pair c.args.tables.now in
    let f = c.args.steps - 1 in
    let pick = built g pair c.args.tables.now f in
    let wants = ch.kids_for (want_meant c.args.site.want) c.args.site.interface in
    let n = c.child_count-child-end.result in
    let k = c.class_for-class.result in
    let node = c.len-node.result in
    let pushed = c.push-2.new.self.items in
    let old = c.args.rows.now.items in
    let some = c.if-steps-eq0.false in
    let total = pushed ++ children_rows g pick wants node (length pushed) k 0 n in
    let d = c.loop-child.child in
    let past = c.loop-child-test.false in
    let within = c.loop-child.auto.child-end in
    let rows = c.loop-child.rows.items in
    record {
      rows =
          all_made g pick wants node k d rows total
          (subst (λ m. Makes g pick wants node k d m rows total) (let z : n - d ≡ 0 = omega (arith, past) in z)
          c.loop-child.invariant.0)
          ∙ total_is g ch f c.args.steps k n c.args.site old pushed c.row_of-2.result node
          (let z : suc (c.args.steps - 1) ≡ c.args.steps = omega (arith, some) in z) c.class_for-class.ensures.class
          c.child_count-child-end.ensures.count c.in_ok-push-2.ensures.items c.row_of-2.ensures.row
          (c.len-node.ensures ∙ c.args.rows.now.ok.0);
    }
