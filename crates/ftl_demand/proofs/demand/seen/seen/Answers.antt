-- What the read is of is there.
use Rattle.std.proofs.Common.{[], subst, sym}
use Rattle.ftl_model.proofs.lists.Elements.{here_in}
use Rattle.ftl_model.specs.layout.AttributeGrammar.{kid, kid_before, own}
use Rattle.ftl_deps.specs.parts.RuleParts.{read_meant}
use Rattle.ftl_deps.specs.declared.parts.part_read.PartRead.{PartRead}
use Rattle.ftl_step_value.specs.cells.Seen.{EachIsSeen, IsThere}
use Rattle.ftl_demand.proofs.demand.seen.seen.Goals as goal

pub returns-in-Own-clause-known : goal.returns-in-Own-clause-known
returns-in-Own-clause-known c =
    let there = subst (λ (r : PartRead). IsThere c.args.tree.now c.args.node c.args.at_hand (read_meant r)) c.in-Own.is
    c.requires.there in
    record { node = c.requires.node; attr = (there.seen (own c.in-Own.attr) (here_in (own c.in-Own.attr) [])).1 }

pub kid_seen-requires-clause-there : goal.kid_seen-requires-clause-there
kid_seen-requires-clause-there c =
    let there = subst (λ (r : PartRead). IsThere c.args.tree.now c.args.node c.args.at_hand (read_meant r))
    c.in-Single.is c.requires.there in
    let o = kid c.in-Single.child 0 c.in-Single.attr in
    there.seen o (here_in o [])

pub kid_seen-requires-in-Each-clause-there : goal.kid_seen-requires-in-Each-clause-there
kid_seen-requires-in-Each-clause-there c =
    let there = subst (λ (r : PartRead). IsThere c.args.tree.now c.args.node c.args.at_hand (read_meant r))
    c.in-Each.is c.requires.there in
    let o = kid c.in-Each.child c.args.at_hand c.in-Each.attr in
    there.seen o (here_in o [])

pub kid_seen-requires-in-This-clause-there : goal.kid_seen-requires-in-This-clause-there
kid_seen-requires-in-This-clause-there c =
    let there = subst (λ (r : PartRead). IsThere c.args.tree.now c.args.node c.args.at_hand (read_meant r))
    c.in-This.is c.requires.there in
    let o = kid c.in-This.child c.args.at_hand c.in-This.attr in
    there.seen o (here_in o [])

pub seen_before-requires-clause-there : goal.seen_before-requires-clause-there
seen_before-requires-clause-there c =
    let there = subst (λ (r : PartRead). IsThere c.args.tree.now c.args.node c.args.at_hand (read_meant r))
    c.in-Prev.is c.requires.there in
    there.seen

pub seen_before-requires-in-Last-clause-there : goal.seen_before-requires-in-Last-clause-there
seen_before-requires-in-Last-clause-there c =
    let there = subst (λ (r : PartRead). IsThere c.args.tree.now c.args.node c.args.at_hand (read_meant r))
    c.in-Last.is c.requires.there in
    subst (λ n. EachIsSeen c.args.tree.now c.args.node (kid_before c.in-Last.child c.in-Last.attr n))
    (sym c.kid_count.ensures.count) there.seen
