-- The stack stays one, and less is left to do.
use Rattle.std.proofs.Common.{◌≡◌, ◌++◌, ◌∷◌, [], List, ap, arith, refl, subst, sym, ◌∙◌}
use Rattle.ftl_demand.specs.declared.demand.waiting.Waiting.{Waiting}
use Rattle.ftl_demand.specs.demand.Outcomes.{IsStepOutcome}
use Rattle.ftl_demand.proofs.demand.Stacks.{IsStack, alone, less_when_computed, less_when_pushed, next_computed, next_is, next_pushed, next_within}
use Rattle.ftl_demand.proofs.demand.evaluate.evaluate_first.Goals as goal

pub loop-next-init : goal.loop-next-init
loop-next-init c =
    let t = c.args.site.now.tree.now in
    let items : c.push.new.self.items ≡ c.args.first ∷ [] =
    c.in_ok-push.ensures.items ∙ ap (λ (xs : List Waiting). xs ++ c.args.first ∷ []) c.requires.empty in
    record {
      stack =
          subst (IsStack t c.args.wanted c.args.words.now c.args.words.now) (sym items)
          (alone t c.requires.site.sound.law c.node_count-nodes.ensures.is_tree c.requires.ends c.args.wanted
          c.args.words.now c.args.first c.requires.words c.requires.first c.requires.target c.requires.lacking);
      room = refl;
    }

pub advance-requires-clause-top : goal.advance-requires-clause-top
advance-requires-clause-top c =
    next_is c.args.site.now.tree.now c.requires.site.sound.law c.node_count-nodes.ensures.is_tree c.requires.ends
    c.args.wanted c.args.words.now c.loop-next.words c.loop-next.waiting.items c.pop.new.self.items c.in-Some.next
    c.in-Some.ensures.items c.loop-next.invariant.stack

pub bounds-words-top : goal.bounds-words-top
bounds-words-top c =
    let within = next_within c.args.site.now.tree.now c.requires.site.sound.law c.node_count-nodes.ensures.is_tree
    c.requires.ends c.args.wanted c.args.words.now c.loop-next.words c.loop-next.waiting.items c.pop.new.self.items
    c.in-Some.next c.in-Some.ensures.items c.loop-next.invariant.stack in
    let same = c.in_ok-value.ensures.cell in
    omega (arith, within, same)

pub loop-next-smaller-in-Done : goal.loop-next-smaller-in-Done
loop-next-smaller-in-Done c =
    less_when_computed c.args.site.now.tree.now c.requires.site.sound.law c.node_count-nodes.ensures.is_tree
    c.requires.ends c.args.wanted c.args.words.now c.loop-next.words c.loop-next.waiting.items c.pop.new.self.items
    c.in-Some.next c.in-Some.ensures.items c.loop-next.invariant.stack c.in-Done.value c.advance.new.top.cell
    c.word_of.result c.in_ok-value.ensures.cell c.word_of.ensures.not_empty c.word_of.ensures.word
    (subst (IsStepOutcome c.args.site.now.tree.now c.loop-next.words c.in-Some.next.step) c.in-Done.is
    c.in_ok-value.ensures.outcome)

pub loop-next-preserved-in-Done : goal.loop-next-preserved-in-Done
loop-next-preserved-in-Done c = record {
  stack =
      next_computed c.args.site.now.tree.now c.requires.site.sound.law c.node_count-nodes.ensures.is_tree
      c.requires.ends c.args.wanted c.args.words.now c.loop-next.words c.loop-next.waiting.items c.pop.new.self.items
      c.in-Some.next c.in-Some.ensures.items c.loop-next.invariant.stack c.in-Done.value c.advance.new.top.cell
      c.word_of.result c.in_ok-value.ensures.cell c.word_of.ensures.not_empty c.word_of.ensures.word
      (subst (IsStepOutcome c.args.site.now.tree.now c.loop-next.words c.in-Some.next.step) c.in-Done.is
      c.in_ok-value.ensures.outcome);
  room = c.in_ok-value.ensures.room ∙ c.loop-next.invariant.room;
}

pub loop-next-smaller : goal.loop-next-smaller
loop-next-smaller c =
    let items : c.push-in-Lacks-2.new.self.items
    ≡ (c.pop.new.self.items ++ c.advance.new.top ∷ []) ++ c.waiting_step.result ∷ [] =
    c.in_ok-push-in-Lacks-2.ensures.items
    ∙ ap (λ (xs : List Waiting). xs ++ c.waiting_step.result ∷ []) c.in_ok-push-in-Lacks.ensures.items in
    less_when_pushed c.args.site.now.tree.now c.requires.site.sound.law c.node_count-nodes.ensures.is_tree
    c.requires.ends c.args.wanted c.args.words.now c.loop-next.words c.loop-next.waiting.items c.pop.new.self.items
    c.in-Some.next c.in-Some.ensures.items c.loop-next.invariant.stack c.advance.new.top c.waiting_step.result
    c.push-in-Lacks-2.new.self.items c.in_ok-value.ensures.step c.in_ok-value.ensures.cell items

pub loop-next-preserved : goal.loop-next-preserved
loop-next-preserved c =
    let items : c.push-in-Lacks-2.new.self.items
    ≡ (c.pop.new.self.items ++ c.advance.new.top ∷ []) ++ c.waiting_step.result ∷ [] =
    c.in_ok-push-in-Lacks-2.ensures.items
    ∙ ap (λ (xs : List Waiting). xs ++ c.waiting_step.result ∷ []) c.in_ok-push-in-Lacks.ensures.items in
    record {
      stack =
          next_pushed c.args.site.now.tree.now c.requires.site.sound.law c.node_count-nodes.ensures.is_tree
          c.requires.ends c.args.wanted c.args.words.now c.loop-next.words c.loop-next.waiting.items
          c.pop.new.self.items c.in-Some.next c.in-Some.ensures.items c.loop-next.invariant.stack c.advance.new.top
          c.waiting_step.result c.push-in-Lacks-2.new.self.items c.in_ok-value.ensures.step
          c.in_ok-value.ensures.cell items c.in-Lacks.lacking c.in_ok-value.ensures.top
          c.waiting_step.ensures.waiting c.waiting_step.ensures.target
          (subst (IsStepOutcome c.args.site.now.tree.now c.loop-next.words c.in-Some.next.step) c.in-Lacks.is
          c.in_ok-value.ensures.outcome);
      room = c.in_ok-value.ensures.room ∙ c.loop-next.invariant.room;
    }
