use Rattle.ftl_run.proofs.calls.solving.plan_of.Goals as goal

pub new-requires-clause-may : goal.new-requires-clause-may
new-requires-clause-may c = record {
  rules = c.requires.rules;
  width = c.requires.width;
  some_nodes = c.in_range-grain.ensures.some;
  most_nodes = c.in_range-grain.ensures.most;
}
