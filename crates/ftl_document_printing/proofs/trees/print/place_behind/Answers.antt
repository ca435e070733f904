use Rattle.std.proofs.Common.{◌<◌, ◌≡◌, ◌+◌, suc, true, false, arith, ap, ap₂, sym, subst, length}
use Rattle.std.proofs.lemmas.Grind.{common_steps}
use Rattle.ftl_meaning.specs.faults.Numbering.{class_at}
use Rattle.ftl_model.specs.layout.Path.{child_at, kid_at}
use Rattle.ftl_document_printing.specs.trees.Left.{IsBehind, class_in, from_child, from_kid_on, is_many, node_of}
use Rattle.ftl_document_printing.proofs.trees.WriterPlaces.{class_within}
use Rattle.ftl_document_printing.proofs.trees.Turns.{facts, parent_within}
use Rattle.ftl_document_printing.proofs.trees.print.place_behind.Goals as goal

pub row-class-requires-2 : goal.row-class-requires-2
row-class-requires-2 c =
    let within = parent_within c.args.tree.now c.tree_is_lawful.ensures.is_tree c.args.node c.args.parent
    c.requires.node c.requires.parent in
    grind (arith, common_steps)

pub child-requires-clause-within : goal.child-requires-clause-within
child-requires-clause-within c =
    let within = parent_within c.args.tree.now c.tree_is_lawful.ensures.is_tree c.args.node c.args.parent
    c.requires.node c.requires.parent in
    let class = class_within c.args.tree.now c.tree_is_lawful.ensures.is_tree c.args.parent within in
    grind (arith, common_steps)

pub child-requires-clause-child : goal.child-requires-clause-child
child-requires-clause-child c =
    let known = (facts c.args.tree.now c.tree_is_lawful.ensures.is_tree c.args.node c.args.parent c.requires.node
    c.requires.parent).known in
    grind (arith, common_steps)

pub kid_count-requires : goal.kid_count-requires
kid_count-requires c =
    record {
      at = record {
        known = parent_within c.args.tree.now c.tree_is_lawful.ensures.is_tree c.args.node
            c.args.parent c.requires.node c.requires.parent;
        declared = subst (λ x. x < length
            (class_at c.args.tree.now.checked.grammar (class_in c.args.tree.now
            (node_of c.args.tree.now c.args.parent))).children) (sym (ap (λ r. r.place.child) c.row-class.ensures.row))
            (facts c.args.tree.now c.tree_is_lawful.ensures.is_tree c.args.node c.args.parent c.requires.node
            c.requires.parent).known;
      };
    }

pub child_count-requires : goal.child_count-requires
child_count-requires c =
    let within = parent_within c.args.tree.now c.tree_is_lawful.ensures.is_tree c.args.node c.args.parent
    c.requires.node c.requires.parent in
    grind (arith, common_steps)

pub returns-else-child-clause-writer_place : goal.returns-else-child-clause-writer_place
returns-else-child-clause-writer_place c =
    parent_within c.args.tree.now c.tree_is_lawful.ensures.is_tree c.args.node c.args.parent c.requires.node
    c.requires.parent

pub overflow_add-result : goal.overflow_add-result
overflow_add-result c =
    let few = (facts c.args.tree.now c.tree_is_lawful.ensures.is_tree c.args.node c.args.parent c.requires.node
    c.requires.parent).few in
    let kid = ap (λ r. r.place.kid) c.row-class.ensures.row in
    let child = ap (λ r. r.place.child) c.row-class.ensures.row in
    grind (arith, few, kid, child, c.kid_count.ensures.count)

pub overflow_add-result-else-child : goal.overflow_add-result-else-child
overflow_add-result-else-child c =
    let known = (facts c.args.tree.now c.tree_is_lawful.ensures.is_tree c.args.node c.args.parent c.requires.node
    c.requires.parent).known in
    let child = ap (λ r. r.place.child) c.row-class.ensures.row in
    grind (arith, known, child, c.child_count.ensures.count)

pub returns-then-child-clause-left : goal.returns-then-child-clause-left
returns-then-child-clause-left c =
    let t = c.args.tree.now in
    let q = node_of t c.args.parent in
    let p = node_of t c.args.node in
    let f = facts t c.tree_is_lawful.ensures.is_tree c.args.node c.args.parent c.requires.node c.requires.parent in
    let kid = ap (λ r. r.place.kid) c.row-class.ensures.row in
    let child = ap (λ r. r.place.child) c.row-class.ensures.row in
    let many : is_many t q (child_at p) ≡ true = grind (arith, common_steps) in
    subst (λ l. IsBehind t p l)
    (ap₂ (from_kid_on t q) (sym child) (let z : suc (kid_at p)
    ≡ c.row-class.result.place.kid + 1 = omega (arith, kid) in z))
    (f.many many)

pub returns-then-child-clause-writer_place : goal.returns-then-child-clause-writer_place
returns-then-child-clause-writer_place c =
    let t = c.args.tree.now in
    let q = node_of t c.args.parent in
    let p = node_of t c.args.node in
    let is = c.tree_is_lawful.ensures.is_tree in
    let f = facts t is c.args.node c.args.parent c.requires.node c.requires.parent in
    let child = ap (λ r. r.place.child) c.row-class.ensures.row in
    let many : is_many t q (child_at p) ≡ true = grind (arith, common_steps) in (
      record {
        known = parent_within t is c.args.node c.args.parent c.requires.node c.requires.parent;
        declared = subst (λ x. x < length (class_at t.checked.grammar (class_in t q)).children) (sym child) f.known;
      },
      subst (λ x. is_many t q x ≡ true) (sym child) many,
    )

pub returns-else-child-clause-left : goal.returns-else-child-clause-left
returns-else-child-clause-left c =
    let t = c.args.tree.now in
    let q = node_of t c.args.parent in
    let p = node_of t c.args.node in
    let f = facts t c.tree_is_lawful.ensures.is_tree c.args.node c.args.parent c.requires.node c.requires.parent in
    let child = ap (λ r. r.place.child) c.row-class.ensures.row in
    let single : is_many t q (child_at p) ≡ false = grind (arith, common_steps) in
    subst (λ l. IsBehind t p l)
    (ap (from_child t q) (let z : suc (child_at p) ≡ c.row-class.result.place.child + 1 = omega (arith, child) in z))
    (f.single single)
