use Rattle.std.proofs.Common.{◌≡◌, ◌<◌, List, ℕ, get_or, length, sym, ◌∙◌, ap, arith}
use Rattle.std.proofs.lemmas.List.FromFn.{length-map-range_with_len}
use Rattle.ftl_model.specs.layout.Path.{down, kids_at, number_of}
use Rattle.ftl_cursors.specs.sequence.Places.{node_of, tree_of}
use Rattle.ftl_cursors.proofs.sequence.KidOrder.{kid_numbered}
use Rattle.ftl_cursors.proofs.sequence.RulelessNodes.{kids_have_none, none_passed}
use Rattle.ftl_cursors.proofs.sequence.ruleless_kids.next_kid.Goals as goal

pub bounds-kids-kid : goal.bounds-kids-kid
bounds-kids-kid c =
    let x = c.args.tables in
    let t = tree_of x.all in
    let p = node_of x.all c.args.node in
    let child = c.args.child in
    let all =
    ap length c.kids-kids.ensures.kids
    ∙ length-map-range_with_len (λ k. number_of t (down child k p)) 0 (kids_at t p child) in
    omega (arith, all, c.kid_count-kid_count.ensures.count)

pub last_up_to-requires-clause-count : goal.last_up_to-requires-clause-count
last_up_to-requires-clause-count c =
    let x = c.args.tables in
    let t = tree_of x.all in
    let p = node_of x.all c.args.node in
    let child = c.args.child in
    c.kid_count-kid_count.ensures.count
    ∙ sym
    (ap length c.kids-kids.ensures.kids
    ∙ length-map-range_with_len (λ k. number_of t (down child k p)) 0 (kids_at t p child))

pub returns-then-kid_count-kid-clause-steps : goal.returns-then-kid_count-kid-clause-steps
returns-then-kid_count-kid-clause-steps c = none_passed c.args.tables c.args.node c.args.child c.args.kid

pub returns-then-has_kid_rules-clause-steps : goal.returns-then-has_kid_rules-clause-steps
returns-then-has_kid_rules-clause-steps c = none_passed c.args.tables c.args.node c.args.child c.args.kid

pub returns-clause-steps : goal.returns-clause-steps
returns-clause-steps c = none_passed c.args.tables c.args.node c.args.child c.args.kid

pub returns-then-reach-clause-steps : goal.returns-then-reach-clause-steps
returns-then-reach-clause-steps c =
    let x = c.args.tables in
    let t = tree_of x.all in
    let p = node_of x.all c.args.node in
    let child = c.args.child in
    let number : (k : ℕ) → k < kids_at t p child → get_or c.kids-kids.result.now k 0 ≡ number_of t (down child k p) =
    λ k known. ap (λ (ns : List ℕ). get_or ns k 0) c.kids-kids.ensures.kids ∙ kid_numbered t p child k known in
    let count = c.kid_count-kid_count.ensures.count in
    let kid_known : c.args.kid < kids_at t p child = omega (arith, count) in
    let last_known : c.last_up_to.result < kids_at t p child = omega (arith, count, c.last_up_to.ensures.within) in
    let first = number c.args.kid kid_known in
    let last = number c.last_up_to.result last_known in
    let low = c.reach.ensures.first c.if-reach.true in
    let high = c.last_up_to.ensures.number in
    kids_have_none x c.requires.tables c.node_count-nodes.ensures.is_tree c.look_on.new.nodes c.look_on.ensures.nodes
    c.args.node child c.args.kid c.last_up_to.result (c.has_kid_rules.ensures.rules c.if-has_kid_rules.false) last_known
    (omega (arith, first, low)) (omega (arith, last, high))
