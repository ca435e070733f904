-- What lacks nothing never waits.
use Rattle.std.proofs.Common.{Option, subst}
use Rattle.std.specs.Option.{IfSome}
use Rattle.ftl_model.specs.layout.Values.{Value}
use Rattle.ftl_demand.specs.demand.Outcomes.{IsValueOf}
use Rattle.ftl_demand.proofs.demand.Stacks.{first_there, first_within, none_waits}
use Rattle.ftl_demand.proofs.demand.evaluate.evaluate.Goals as goal

pub ready_value-requires-clause-step : goal.ready_value-requires-clause-step
ready_value-requires-clause-step c = c.waiting_step-first.ensures.waiting.step

pub bounds-words-first : goal.bounds-words-first
bounds-words-first c =
    first_within c.args.site.now.tree.now c.requires.site.sound.law c.node_count-nodes.ensures.is_tree c.requires.ends
    c.args.wanted c.args.words.now c.waiting_step-first.result c.requires.words c.waiting_step-first.ensures.waiting
    c.waiting_step-first.ensures.target c.requires.lacking

pub returns-clause-there : goal.returns-clause-there
returns-clause-there c =
    let first = c.waiting_step-first.result in
    let is : IsValueOf c.args.site.now.tree.now first.step c.in-Some.value =
    subst (λ (o : Option Value). IfSome o (IsValueOf c.args.site.now.tree.now first.step)) c.in-Some.is
    c.in_ok-value.ensures.value in
    first_there c.args.site.now.tree.now c.requires.site.sound.law c.node_count-nodes.ensures.is_tree c.requires.ends
    c.args.wanted c.args.words.now c.waiting_step-first.result c.requires.words c.waiting_step-first.ensures.waiting
    c.waiting_step-first.ensures.target c.requires.lacking c.in-Some.value c.word_of.result c.word_of.ensures.not_empty
    c.word_of.ensures.word is

pub returns-clause-stays : goal.returns-clause-stays
returns-clause-stays c =
    let first = c.waiting_step-first.result in
    let is : IsValueOf c.args.site.now.tree.now first.step c.in-Some.value =
    subst (λ (o : Option Value). IfSome o (IsValueOf c.args.site.now.tree.now first.step)) c.in-Some.is
    c.in_ok-value.ensures.value in
    (none_waits c.args.site.now.tree.now c.requires.site.sound.law c.node_count-nodes.ensures.is_tree c.requires.ends
    c.args.wanted c.args.words.now c.waiting_step-first.result c.requires.words c.waiting_step-first.ensures.waiting
    c.waiting_step-first.ensures.target c.requires.lacking c.in-Some.value c.word_of.result c.word_of.ensures.not_empty
    c.word_of.ensures.word is).stays

pub returns-clause-words : goal.returns-clause-words
returns-clause-words c =
    let first = c.waiting_step-first.result in
    let is : IsValueOf c.args.site.now.tree.now first.step c.in-Some.value =
    subst (λ (o : Option Value). IfSome o (IsValueOf c.args.site.now.tree.now first.step)) c.in-Some.is
    c.in_ok-value.ensures.value in
    (none_waits c.args.site.now.tree.now c.requires.site.sound.law c.node_count-nodes.ensures.is_tree c.requires.ends
    c.args.wanted c.args.words.now c.waiting_step-first.result c.requires.words c.waiting_step-first.ensures.waiting
    c.waiting_step-first.ensures.target c.requires.lacking c.in-Some.value c.word_of.result c.word_of.ensures.not_empty
    c.word_of.ensures.word is).so_far
