use Rattle.std.proofs.Common.{◌≡◌, ℕ, ◌+◌, ◌-◌, false, Option, Some, None, get_or, refl, sym, ◌∙◌, ap}
use Rattle.std.specs.Option.{is_some}
use Rattle.ftl_model.specs.layout.Path.{class_at}
use Rattle.ftl_visit.specs.visits.Visits.{inherited_rules}
use Rattle.ftl_visit.specs.declared.visits.visit_op.VisitOp.TheVariants.{Begin}
use Rattle.ftl_cursors.specs.sequence.Places.{grammar_of, node_of, rule_first, tree_of}
use Rattle.ftl_cursors.proofs.sequence.BlockLemmas.{behind_is, drop_within, nowhere}
use Rattle.ftl_cursors.proofs.sequence.RulelessVisits.{none_before_visit}
use Rattle.ftl_cursors.proofs.sequence.TableLemmas.{block_there, has_places, has_visit}
use Rattle.ftl_cursors.proofs.sequence.VisitShape.{block_of, blocks_from, inherited_are}
use Rattle.ftl_cursors.proofs.sequence.ruleless_kids.has_kid_rules.Goals as goal

pub visit-visit-requires : goal.visit-visit-requires
visit-visit-requires c =
    record {
      class =
          has_visit c.args.tables c.requires.tables c.node_count-nodes.ensures.is_tree c.args.node
          c.requires.at.known c.class-class.result c.class-class.ensures.class;
    }

pub blocks-requires : goal.blocks-requires
blocks-requires c =
    record {
      class =
          has_places c.args.tables c.requires.tables c.node_count-nodes.ensures.is_tree c.args.node
          c.requires.at.known c.class-class.result c.class-class.ensures.class;
    }

pub bounds-blocks-child : goal.bounds-blocks-child
bounds-blocks-child c =
    let x = c.args.tables in
    let has =
    block_there x c.requires.tables c.node_count-nodes.ensures.is_tree c.args.node c.requires.at.known
    c.class-class.result c.class-class.ensures.class c.visit-visit.result.now c.blocks-2.result.now
    c.visit-visit.ensures.visit c.blocks-2.ensures.blocks c.args.child c.requires.at.declared in
    has.known

pub behind-requires : goal.behind-requires
behind-requires c =
    let x = c.args.tables in
    let has =
    block_there x c.requires.tables c.node_count-nodes.ensures.is_tree c.args.node c.requires.at.known
    c.class-class.result c.class-class.ensures.class c.visit-visit.result.now c.blocks-2.result.now
    c.visit-visit.ensures.visit c.blocks-2.ensures.blocks c.args.child c.requires.at.declared in
    record { place = drop_within _ _ _ _ has.is.begin }

-- no rule comes first
none_first : (first : Option ℕ) → is_some first ≡ false → first ≡ None
none_first None none = refl
none_first (Some r) none = absurd (let z : ⊥ = cc in z)

pub returns : goal.returns
returns c =
    let x = c.args.tables in
    let g = grammar_of x in
    let class = class_at (tree_of x) (node_of x c.args.node) in
    let a = x.attrs.now in
    let child = c.args.child in
    let later = g.child_count class - (child + 1) in
    let has =
    block_there x c.requires.tables c.node_count-nodes.ensures.is_tree c.args.node c.requires.at.known
    c.class-class.result c.class-class.ensures.class c.visit-visit.result.now c.blocks-2.result.now
    c.visit-visit.ensures.visit c.blocks-2.ensures.blocks child c.requires.at.declared in
    let is =
    c.behind.ensures.rest
    ∙ behind_is (get_or c.blocks-2.result.now child nowhere).begin c.visit-visit.result.now (Begin child)
    (block_of g class a child later) has.is.begin in
    record {
      rules = λ without.
          none_before_visit (inherited_rules g class child a) (blocks_from g class a (child + 1) later) child
          (inherited_are g class a child)
          (sym (ap rule_first is) ∙ sym c.first_rule.ensures.rule
          ∙ none_first c.first_rule.result (sym c.is_some.ensures ∙ without));
    }
