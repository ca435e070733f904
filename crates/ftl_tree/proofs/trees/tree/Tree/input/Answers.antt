use Rattle.std.proofs.Common.{ap, arith, pos, rules, slice_index_or, subst, sym, ◌≡◌, ◌∙◌, ℕ, Contains, SFits, w64}
use Rattle.std.proofs.lemmas.Int.{ints}
use Rattle.ftl_model.specs.lists.Lists.{place_in}
use Rattle.ftl_model.proofs.lists.Places.{place_within}
use Rattle.ftl_model.specs.layout.AttributeGrammar.{class_inputs}
use Rattle.ftl_model.specs.layout.Path.{class_at, inputs_at, node_at}
use Rattle.ftl_model.specs.layout.Values.{number}
use Rattle.ftl_model.proofs.layout.Fits.{fits_at}
use Rattle.ftl_order.proofs.orders.Kids.{class_known}
use Rattle.ftl_deps.specs.reads.Meant.{meant}
use Rattle.ftl_tree.proofs.rows.Access.{has_at}
use Rattle.ftl_tree.proofs.trees.tree.Tree.input.Goals as goal

pub input_place-requires-clause-class : goal.input_place-requires-clause-class
input_place-requires-clause-class c =
    let t = c.args.self.now in
    let g = meant t.checked in
    let is_tree = c.node_count-nodes.ensures.is_tree in
    let known = class_known g t.tree is_tree (node_at t.tree c.args.node) (has_at g t.tree c.args.node is_tree c.requires.node) in
    omega (arith, c.class.ensures.class, known)

pub input_place-requires-clause-attr : goal.input_place-requires-clause-attr
input_place-requires-clause-attr c =
    subst (λ (m : ℕ). Contains (class_inputs (meant c.args.self.now.checked) m) c.args.attr) (sym c.class.ensures.class)
    c.requires.attr

pub input_at-requires-clause-place : goal.input_at-requires-clause-place
input_at-requires-clause-place c =
    let t = c.args.self.now in
    let g = meant t.checked in
    let is_tree = c.node_count-nodes.ensures.is_tree in
    let p = node_at t.tree c.args.node in
    let fits = fits_at g t.tree p is_tree (has_at g t.tree c.args.node is_tree c.requires.node) in
    let place = c.input_place.ensures.place ∙ ap (λ m. place_in (class_inputs g m) c.args.attr) c.class.ensures.class in
    omega (arith, place, place_within (class_inputs g (class_at t.tree p)) c.args.attr c.requires.attr, fits.class.count)

pub returns : goal.returns
returns c =
    let t = c.args.self.now in
    let g = meant t.checked in
    let place = c.input_place.ensures.place ∙ ap (λ m. place_in (class_inputs g m) c.args.attr) c.class.ensures.class in
    record {
      input =
          ap (λ k. number (slice_index_or (inputs_at t.tree (node_at t.tree c.args.node)) k (pos 0))) (sym place)
          ∙ c.input_at.ensures.input
          ∙ ap number (let fits : SFits w64 c.input_at.result = search rules in omega (arith, ints));
    }
