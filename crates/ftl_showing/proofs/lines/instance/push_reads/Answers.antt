use Rattle.ftl_showing.proofs.lines.instance.push_reads.Goals as goal

pub push_instance-requires-clause-instance : goal.push_instance-requires-clause-instance
push_instance-requires-clause-instance c = c.requires.known c.loop-instance.instance-index 0 c.loop-instance-test.true
