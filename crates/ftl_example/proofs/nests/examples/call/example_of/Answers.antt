use Rattle.std.proofs.Common.{sym, ap, subst, Err}
use Rattle.ftl_deps.specs.reads.Meant.{meant}
use Rattle.ftl_meaning.specs.faults.Checked.{CheckedGrammar}
use Rattle.ftl_example.specs.declared.trees.fault.ExampleFault.{ExampleFault}
use Rattle.ftl_example.specs.declared.trees.fault.ExampleFault.TheVariants as fault
use Rattle.ftl_example.specs.pairs.PairMeant.{pair_meant}
use Rattle.ftl_example.specs.shows.Shows.{Shows}
use Rattle.ftl_model.specs.layout.Solves.{Instance}
use Rattle.ftl_example.specs.nests.pairs.NestPair.{IsNestOrderedPair}
use Rattle.ftl_order.specs.orders.Pairs.{IsPair}
use Rattle.ftl_order.specs.orders.Schedule.{EachStandsOnce}
use Rattle.ftl_nests.specs.Nests.{AreSidesKept, nest_placing_of, outer_schedule}
use Rattle.ftl_nest_check.specs.stages.Nested.{nests_of}
use Rattle.ftl_example.proofs.examples.OptionHas.{err_is}
use Rattle.ftl_example.proofs.nests.examples.call.example_of.Goals as goal

pub returns-in_err-tree-clause-no_tree : goal.returns-in_err-tree-clause-no_tree
returns-in_err-tree-clause-no_tree c = λ e.
    c.in_err-tree.ensures.no_tree
    (ap (λ (f : ExampleFault). Err f)
    (err_is c.from_residual.result c.in_err-tree.field-0.0 fault.NoTree c.from_residual.ensures.1 e))

pub numbered_order-requires-clause-once : goal.numbered_order-requires-clause-once
numbered_order-requires-clause-once c =
    subst (λ (k : CheckedGrammar). EachStandsOnce (meant k) (outer_schedule (nests_of c.args.placed.now)))
    (sym c.in_ok-tree.ensures.grammar) c.requires.once

pub numbered_order-requires-clause-sides : goal.numbered_order-requires-clause-sides
numbered_order-requires-clause-sides c =
    subst (λ (k : CheckedGrammar). AreSidesKept (meant k) (nests_of c.args.placed.now)) (sym c.in_ok-tree.ensures.grammar)
    c.requires.sides

pub numbered_order-requires-clause-pair : goal.numbered_order-requires-clause-pair
numbered_order-requires-clause-pair c =
    subst (λ (k : CheckedGrammar). IsPair (meant k) (pair_meant c.args.pair)) (sym c.in_ok-tree.ensures.grammar)
    c.requires.pair

pub numbered_order-requires-clause-unordered : goal.numbered_order-requires-clause-unordered
numbered_order-requires-clause-unordered c =
    subst
    (λ (k : CheckedGrammar).
    IsNestOrderedPair (meant k) (nest_placing_of (nests_of c.args.placed.now)) (pair_meant c.args.pair) → ⊥)
    (sym c.in_ok-tree.ensures.grammar)
    c.requires.unordered

pub numbered_order-requires-clause-shows : goal.numbered_order-requires-clause-shows
numbered_order-requires-clause-shows c =
    subst (λ (k : CheckedGrammar). (r w : Instance) × Shows (meant k) c.in_ok-tree.tree.tree (pair_meant c.args.pair) r w)
    (sym c.in_ok-tree.ensures.grammar)
    c.in_ok-tree.ensures.tree.shows
