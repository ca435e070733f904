use Rattle.ftl_cells.specs.shared.Kept.{IsKeptBy}
use Rattle.std.proofs.Common.{◌++◌, subst, sym, ap, ◌∙◌, arith, rules, [], ◌∷◌, take, get_or}
use Rattle.ftl_cells.specs.shared.State.{opening_words}
use Rattle.ftl_cells.specs.declared.shared.place.HandPlace.TheVariants.{Idle}
use Rattle.ftl_replay.specs.declared.interleavings.event.Event.TheVariants.{Look}
use Rattle.ftl_replay.specs.declared.interleavings.place.ReplayPlace.TheVariants.{Live}
use Rattle.ftl_replay.specs.interleavings.Replays.{LeadTo}
use Rattle.ftl_replay.proofs.interleavings.Places.{there}
use Rattle.ftl_replay.proofs.interleavings.Leads.{lead_keeps, state_of, leads_on, leads_nowhere, take_more}
use Rattle.ftl_replay.proofs.interleavings.interleaving.replay.Goals as goal

pub loop-at-init : goal.loop-at-init
loop-at-init g c = record {
  lead = subst (λ ws. LeadTo (g.W.Meant.meaning c.args.work.now) c.args.words.items [] ws c.push.new.self.items)
      (sym c.in_ok-open_row.ensures.row)
      (subst (λ ps. LeadTo (g.W.Meant.meaning c.args.work.now) c.args.words.items [] (opening_words
      (g.W.Meant.meaning c.args.work.now) c.args.words.items) ps)
      (sym (c.in_ok-push.ensures.items ∙ ap (λ xs. xs ++ Live Idle ∷ []) c.new-hands.ensures.items))
      (leads_nowhere (g.W.Meant.meaning c.args.work.now) c.args.words.items));
  reads = c.in_ok-scratch.ensures.reads;
  room = c.in_ok-scratch.ensures.room;
}

pub make_step-requires-clause-state : goal.make_step-requires-clause-state
make_step-requires-clause-state g c = λ l o. state_of (g.W.Meant.meaning c.args.work.now) c.open_row.ensures.lawful
    c.args.words.items c.requires.words (take c.loop-at.at c.args.events.now) c.loop-at.row.items
    c.loop-at.hands.items c.loop-at.invariant.lead

pub returns-then-not-branch-clause-no_step : goal.returns-then-not-branch-clause-no_step
returns-then-not-branch-clause-no_step g c = record {
  event = get_or c.args.events.now c.loop-at.at (Look 0 0);
  there = there c.args.events.now c.loop-at.at (Look 0 0) (omega arith);
  words = c.loop-at.row.items;
  places = c.loop-at.hands.items;
  before = c.loop-at.invariant.lead;
  no_step = c.in_ok-make_step.ensures.none (search rules);
}

pub loop-at-preserved : goal.loop-at-preserved
loop-at-preserved g c = record {
  lead = subst (λ es. LeadTo (g.W.Meant.meaning c.args.work.now) c.args.words.items es c.make_step.new.row.items
      c.make_step.new.hands.items)
      (sym (take_more c.args.events.now c.loop-at.at (Look 0 0) (omega arith)))
      (leads_on (g.W.Meant.meaning c.args.work.now) c.open_row.ensures.lawful c.args.words.items c.requires.words
      (take c.loop-at.at c.args.events.now) (get_or c.args.events.now c.loop-at.at (Look 0 0))
      c.loop-at.row.items c.make_step.new.row.items c.loop-at.hands.items c.make_step.new.hands.items
      c.loop-at.invariant.lead (c.in_ok-make_step.ensures.step (search rules)));
  reads = omega (arith, c.make_step.ensures.reads, c.loop-at.invariant.reads);
  room = omega (arith, c.make_step.ensures.room, c.loop-at.invariant.room);
}

pub cut-requires-clause-words : goal.cut-requires-clause-words
cut-requires-clause-words g c =
    let l = c.loop-at.invariant.lead in
    let k : IsKeptBy (g.W.Meant.meaning c.args.work.now) c.loop-at.row.items l.hands =
    lead_keeps (g.W.Meant.meaning c.args.work.now) c.open_row.ensures.lawful c.args.words.items
    c.requires.words
    (take c.loop-at.at c.args.events.now) c.loop-at.row.items l.hands l.lead in
    λ κ o. k.count

pub returns-clause-kept : goal.returns-clause-kept
returns-clause-kept g c = λ hands l. lead_keeps (g.W.Meant.meaning c.args.work.now)
    c.open_row.ensures.lawful c.args.words.items c.requires.words
    c.args.events.now _ hands l
