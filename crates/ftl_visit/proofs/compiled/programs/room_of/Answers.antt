use Rattle.ftl_visit.proofs.compiled.Laying.{room_enough}
use Rattle.ftl_visit.proofs.compiled.programs.room_of.Goals as goal

pub returns-clause-enough : goal.returns-clause-enough
returns-clause-enough c = λ greatest is_built rule part.
    room_enough greatest c.args.built.now.instructions.items c.args.built.now.max_stack c.args.built.now.rules.items rule
    part is_built
