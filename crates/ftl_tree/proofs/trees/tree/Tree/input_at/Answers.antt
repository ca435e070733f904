use Rattle.std.proofs.Common.{ap, arith, get_or, length, pos, rules, subst, sym, ◌≡◌, ◌<◌, ◌+◌, ◌∙◌, ℕ, SFits, w64}
use Rattle.std.proofs.lemmas.Int.{ints}
use Rattle.std.proofs.lemmas.List.{get_or_default}
use Rattle.ftl_model.specs.layout.AttributeGrammar.{attributes_of, is_input}
use Rattle.ftl_model.specs.layout.Path.{class_at, inputs_at, node_at}
use Rattle.ftl_model.specs.layout.Tree.{size}
use Rattle.ftl_model.specs.layout.Values.{number}
use Rattle.ftl_model.proofs.layout.Fits.{fits_at}
use Rattle.ftl_deps.specs.reads.Meant.{meant}
use Rattle.ftl_tree.proofs.rows.Access.{has_at}
use Rattle.ftl_tree.proofs.rows.AttributePlaces.{fewer}
use Rattle.ftl_tree.proofs.rows.Inputs.{InputStands, input_stands}
use Rattle.ftl_tree.specs.trees.CheckedTree.{CheckedTree}
use Rattle.ftl_tree.specs.declared.trees.tree.Tree.TheInside.{Inside}
use Rattle.ftl_tree.proofs.trees.Known.{Known, first_room, known, length_first_inputs}
use Rattle.ftl_tree.proofs.trees.tree.Tree.input_at.Goals as goal

-- the input that stands where the node's begin, at its place
stands : (i : Inside) (t : CheckedTree) (k : Known i t) (n first place : ℕ) → n < size t.tree
    → place < length (inputs_at t.tree (node_at t.tree n)) → first ≡ get_or i.first_inputs.items n first
    → InputStands t.tree i.inputs.items n place (first + place) (pos 0)
stands i t k n first place h within is =
    subst (λ (m : ℕ). InputStands t.tree i.inputs.items n place (m + place) (pos 0)) (sym is)
    (input_stands (meant t.checked) t.tree i.rows.items i.sizes.items i.inputs.items i.first_inputs.items n place first
    (pos 0) k.rows k.first_inputs h within)

pub index-first-requires : goal.index-first-requires
index-first-requires c =
    let k = known c.self.inside c.args.self.now c.self.invariant c.self.view_is in
    omega (arith, length_first_inputs c.self.inside c.args.self.now k, c.requires.node)

pub overflow_add-first : goal.overflow_add-first
overflow_add-first c =
    let i = c.self.inside in
    let t = c.args.self.now in
    let g = meant t.checked in
    let k = known i t c.self.invariant c.self.view_is in
    let p = node_at t.tree c.args.node in
    let fits = fits_at g t.tree p k.rows.is_tree (has_at g t.tree c.args.node k.rows.is_tree c.requires.node) in
    omega (
      arith,
      c.requires.place,
      fits.class.count,
      fewer (λ a. is_input (g.sort a)) (attributes_of g (class_at t.tree p)),
      first_room i t k c.args.node c.requires.node,
      c.type_inv.first.fits,
    )

pub index-requires : goal.index-requires
index-requires c =
    let i = c.self.inside in
    let t = c.args.self.now in
    let k = known i t c.self.invariant c.self.view_is in
    let stand = stands i t k c.args.node c.index-first.result.now c.args.place c.requires.node c.requires.place
    c.index-first.ensures in
    omega (arith, stand.within)

pub returns : goal.returns
returns c =
    let i = c.self.inside in
    let t = c.args.self.now in
    let k = known i t c.self.invariant c.self.view_is in
    let stand = stands i t k c.args.node c.index-first.result.now c.args.place c.requires.node c.requires.place
    c.index-first.ensures in
    let same =
    sym stand.value
    ∙ get_or_default i.inputs.items (c.index-first.result.now + c.args.place) (pos 0) c.index.result.now stand.within
    ∙ sym c.index.ensures in
    record {
      input = ap number (same ∙ (let fits : SFits w64 c.index.result.now = search rules in omega (arith, ints)));
    }
