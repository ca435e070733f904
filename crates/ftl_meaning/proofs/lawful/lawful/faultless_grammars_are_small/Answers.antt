use Rattle.ftl_base.specs.Widths.{greatest_of_width}
use Rattle.ftl_meaning.proofs.lawful.WithinLimits.{within_limits}
use Rattle.ftl_meaning.proofs.lawful.lawful.faultless_grammars_are_small.Goals as goal

pub returns : goal.returns
returns c = record { limits = λ g width h. within_limits g h.faults (greatest_of_width width) }
