use Rattle.std.proofs.Common.{rules, refl}
use Rattle.ftl_model.specs.layout.Stack.{stack}
use Rattle.ftl_model.specs.layout.Table.{value_in}
use Rattle.ftl_model.specs.layout.Worked.{two_words, two_words_values}
use Rattle.ftl_order.specs.worked.Chain.{chain, three_kids, three_kids_values}
use Rattle.ftl_order.proofs.worked.WorkedTables.{solves_by_each}
use Rattle.ftl_order.proofs.worked.worked.worked_tables_solve.Goals as goal

pub returns-clause-two_words : goal.returns-clause-two_words
returns-clause-two_words c =
    record { count = refl; solves = solves_by_each stack two_words (value_in stack two_words two_words_values) (search rules) }

pub returns-clause-three_kids : goal.returns-clause-three_kids
returns-clause-three_kids c =
    record { count = refl; solves = solves_by_each chain three_kids (value_in chain three_kids three_kids_values) (search rules) }
