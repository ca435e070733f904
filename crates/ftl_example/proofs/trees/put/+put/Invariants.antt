use Rattle.std.proofs.Common.{◌≤◌, ◌++◌, length, ◌+◌, ◌-◌}
use Rattle.ftl_deps.specs.reads.Meant.{meant}
use Rattle.ftl_example.specs.pairs.PairMeant.{pair_meant}
use Rattle.ftl_example.specs.trees.BuiltRows.{children_rows}
use Rattle.ftl_example.specs.trees.WantsMeant.{built, choices_of, want_meant}
use Rattle.ftl_example.proofs.trees.BuiltRows.{Makes}
use Rattle.ftl_example.proofs.trees.put.+put.Given as goal

abbrev pub decreases-put_kids : goal.decreases-put_kids
decreases-put_kids l = l.steps + l.steps + 1

abbrev pub decreases-put_tree : goal.decreases-put_tree
decreases-put_tree l = l.steps + l.steps

-- what is put and what is left make up all, and that is not too much
abbrev pub invariant-put_tree-loop-child : goal.invariant-put_tree-loop-child
invariant-put_tree-loop-child l =
    let g = meant l.checked in
    let pair = pair_meant l.pair in
    let pick = built g pair l.tables (l.steps - 1) in
    let wants = (choices_of g pair l.tables).kids_for (want_meant l.site.want) l.site.interface in
    let first = l.initial.rows.items in
    let total = first ++ children_rows g pick wants l.node (length first) l.class 0 l.child-end in
    Makes g pick wants l.node l.class l.child (l.child-end - l.child) l.rows.items total × (length total ≤ 1048576)
