use Rattle.std.proofs.Common.{◌≡◌, ◌≤◌, ◌+◌, ◌++◌, IfOk, ℕ, List, length, ap, subst, sym, ◌∙◌, arith}
use Rattle.ftl_meaning.specs.faults.Checked.{CheckedGrammar}
use Rattle.ftl_meaning.proofs.lawful.Lawfulness.{faultless_lawful}
use Rattle.ftl_deps.specs.reads.Meant.{meant}
use Rattle.ftl_tree.specs.declared.rows.row.NodeRow.{NodeRow}
use Rattle.ftl_tree.specs.trees.Bare.{AreBareRows}
use Rattle.ftl_example.specs.declared.pairs.refused_pair.RefusedPair.{RefusedPair}
use Rattle.ftl_example.specs.declared.trees.tables.Tables.{Tables}
use Rattle.ftl_example.specs.pairs.PairMeant.{pair_meant}
use Rattle.ftl_example.specs.trees.BuiltRows.{node_rows}
use Rattle.ftl_example.specs.trees.CountedLaws.{example_tree}
use Rattle.ftl_example.specs.trees.ExampleTree.{way_tree}
use Rattle.ftl_example.specs.trees.WantsMeant.{built}
use Rattle.ftl_example.proofs.trees.ExampleRows.{are_rows, is_bare, rows_long}
use Rattle.ftl_example.proofs.trees.building.example_tree.Goals as goal

abbrev rows_at : CheckedGrammar → RefusedPair → Tables → (n before root : ℕ) → List NodeRow
rows_at c p t n m i = node_rows 0 (record { child = 0; kid = 0 }) m (built (meant c) (pair_meant p) t n way_tree i)

pub put_tree-requires-clause-fits : goal.put_tree-requires-clause-fits
put_tree-requires-clause-fits c =
    let checked = c.args.checked.now in
    let g = meant checked in
    let pair = pair_meant c.args.pair in
    let none = c.grammar.ensures.lawful in
    let law = faultless_lawful checked.grammar checked.width (record { faults = none; kinds = c.grammar.ensures.kinds }) in
    let n = c.args.nodes in
    let long =
    rows_long checked none law pair c.requires.pair c.args.tables.now c.requires.tables n c.requires.size c.requires.few in
    let few = c.requires.few in
    subst (λ xs. length xs + length (rows_at checked c.args.pair c.args.tables.now n (length xs) c.root.result) ≤ 1048576)
    (sym c.in_ok-rows.ensures.items)
    (subst (λ i. 0 + length (rows_at checked c.args.pair c.args.tables.now n 0 i) ≤ 1048576) (sym c.root.ensures.root)
    (omega (arith, long, few)))

pub bare_tree-requires : goal.bare_tree-requires
bare_tree-requires c =
    let checked = c.args.checked.now in
    let g = meant checked in
    let pair = pair_meant c.args.pair in
    let none = c.grammar.ensures.lawful in
    let law = faultless_lawful checked.grammar checked.width (record { faults = none; kinds = c.grammar.ensures.kinds }) in
    let n = c.args.nodes in
    let put =
    c.deref.ensures.value
    ∙ c.in_ok-put_tree.ensures.rows
    ∙ ap (λ xs. xs ++ rows_at checked c.args.pair c.args.tables.now n (length xs) c.root.result) c.in_ok-rows.ensures.items
    ∙ ap (rows_at checked c.args.pair c.args.tables.now n 0) c.root.ensures.root in
    let are =
    subst (AreBareRows g (example_tree g pair n)) (sym put)
    (are_rows checked none law pair c.requires.pair c.args.tables.now c.requires.tables n c.requires.size c.requires.few) in
    record { rows = (example_tree g pair n, are) }

pub returns : goal.returns
returns c =
    let checked = c.args.checked.now in
    let g = meant checked in
    let pair = pair_meant c.args.pair in
    let none = c.grammar.ensures.lawful in
    let law = faultless_lawful checked.grammar checked.width (record { faults = none; kinds = c.grammar.ensures.kinds }) in
    let n = c.args.nodes in
    let put =
    c.deref.ensures.value
    ∙ c.in_ok-put_tree.ensures.rows
    ∙ ap (λ xs. xs ++ rows_at checked c.args.pair c.args.tables.now n (length xs) c.root.result) c.in_ok-rows.ensures.items
    ∙ ap (rows_at checked c.args.pair c.args.tables.now n 0) c.root.ensures.root in
    let are =
    subst (AreBareRows g (example_tree g pair n)) (sym put)
    (are_rows checked none law pair c.requires.pair c.args.tables.now c.requires.tables n c.requires.size c.requires.few) in
    record {
      tree =
          subst (λ x. IfOk c.bare_tree.result (λ r. r ≡ record { checked = checked; tree = x }))
          (is_bare checked none law pair c.requires.pair c.args.tables.now c.requires.tables n c.requires.size c.requires.few)
          (c.bare_tree.ensures.tree (example_tree g pair n) are);
    }
