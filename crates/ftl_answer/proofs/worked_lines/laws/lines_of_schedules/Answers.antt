-- The lines compute, digits included.
use Rattle.std.proofs.Common.{refl}
use Rattle.ftl_answer.proofs.worked_lines.laws.lines_of_schedules.Goals as goal

pub returns-clause-twice : goal.returns-clause-twice
returns-clause-twice c = refl

pub returns-clause-missing : goal.returns-clause-missing
returns-clause-missing c = refl

pub returns-clause-itself : goal.returns-clause-itself
returns-clause-itself c = refl

pub returns-clause-later : goal.returns-clause-later
returns-clause-later c = refl

pub returns-clause-stuck : goal.returns-clause-stuck
returns-clause-stuck c = refl
