use Rattle.ftl_replay.proofs.interleavings.Leads.{lead_reaches, lead_keeps}
use Rattle.ftl_replay.proofs.interleavings.laws.events_keep_the_rule.Goals as goal

pub returns : goal.returns
returns c = record {
  reached = λ m words last hands more events r l. lead_reaches m words hands events last more r l;
  kept = lead_keeps;
}
