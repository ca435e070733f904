use Rattle.std.proofs.Common.{◌≡◌, ℕ, Option, None, Some, ap, ap₂, subst, sym, ◌∙◌}
use Rattle.ftl_meaning.proofs.lawful.Lawfulness.{faultless_lawful}
use Rattle.ftl_deps.specs.reads.Meant.{meant}
use Rattle.ftl_example.specs.pairs.PairMeant.{pair_meant}
use Rattle.ftl_example.specs.sizes.SizeTable.{by_table}
use Rattle.ftl_example.specs.trees.LeastShown.{IsLeastShown}
use Rattle.ftl_example.proofs.trees.LeastTree.{all_larger, exact_size, least_shown, none_shows}
use Rattle.ftl_example.proofs.trees.shown.least_tree.Goals as goal

pub returns-in-None-clause-no_tree : goal.returns-in-None-clause-no_tree
returns-in-None-clause-no_tree c same =
    let checked = c.args.checked.now in
    let g = meant checked in
    let pair = pair_meant c.args.pair in
    let law =
    faultless_lawful checked.grammar checked.width
    (record { faults = c.grammar.ensures.lawful; kinds = c.grammar.ensures.kinds }) in
    let last = c.in_ok-tables.ensures.tables in
    let size = λ (o : Option ℕ) (e : o ≡ by_table c.deref.result.now c.root.result).
    sym (e ∙ ap₂ (λ xs i. by_table xs i) c.deref.ensures.value c.root.ensures.root) in
    none_shows g law pair c.requires.pair c.in_ok-tables.tables last (size None c.in-None.ensures.size)

pub returns-in-Some-clause-too_large : goal.returns-in-Some-clause-too_large
returns-in-Some-clause-too_large c same =
    let checked = c.args.checked.now in
    let g = meant checked in
    let pair = pair_meant c.args.pair in
    let law =
    faultless_lawful checked.grammar checked.width
    (record { faults = c.grammar.ensures.lawful; kinds = c.grammar.ensures.kinds }) in
    let last = c.in_ok-tables.ensures.tables in
    let size = λ (o : Option ℕ) (e : o ≡ by_table c.deref.result.now c.root.result).
    sym (e ∙ ap₂ (λ xs i. by_table xs i) c.deref.ensures.value c.root.ensures.root) in
    all_larger g law pair c.requires.pair c.in_ok-tables.tables last c.in-Some.nodes
    (size (Some c.in-Some.nodes) c.in-Some.ensures.size) c.if-nodes-gt512.true

pub example_tree-requires-clause-size : goal.example_tree-requires-clause-size
example_tree-requires-clause-size c =
    let checked = c.args.checked.now in
    let g = meant checked in
    let pair = pair_meant c.args.pair in
    let law =
    faultless_lawful checked.grammar checked.width
    (record { faults = c.grammar.ensures.lawful; kinds = c.grammar.ensures.kinds }) in
    let last = c.in_ok-tables.ensures.tables in
    let size = λ (o : Option ℕ) (e : o ≡ by_table c.deref.result.now c.root.result).
    sym (e ∙ ap₂ (λ xs i. by_table xs i) c.deref.ensures.value c.root.ensures.root) in
    exact_size g law pair c.requires.pair c.in_ok-tables.tables last c.in-Some.nodes
    (size (Some c.in-Some.nodes) c.in-Some.ensures.size) c.if-nodes-gt512.false

pub returns-clause-tree : goal.returns-clause-tree
returns-clause-tree c =
    let checked = c.args.checked.now in
    let g = meant checked in
    let pair = pair_meant c.args.pair in
    let law =
    faultless_lawful checked.grammar checked.width
    (record { faults = c.grammar.ensures.lawful; kinds = c.grammar.ensures.kinds }) in
    let last = c.in_ok-tables.ensures.tables in
    let size = λ (o : Option ℕ) (e : o ≡ by_table c.deref.result.now c.root.result).
    sym (e ∙ ap₂ (λ xs i. by_table xs i) c.deref.ensures.value c.root.ensures.root) in
    let exact =
    exact_size g law pair c.requires.pair c.in_ok-tables.tables last c.in-Some.nodes
    (size (Some c.in-Some.nodes) c.in-Some.ensures.size) c.if-nodes-gt512.false in
    subst (IsLeastShown g pair 512) (sym (ap (λ r. r.tree) c.in_ok-example_tree-in-Some-2.ensures.tree))
    (least_shown g law pair c.requires.pair c.in_ok-tables.tables last c.in-Some.nodes exact c.if-nodes-gt512.false)
