use Rattle.ftl_answer.proofs.headline.Tables.{one_table_of}
use Rattle.ftl_answer.proofs.headline.laws.one_table.Goals as goal

pub returns : goal.returns
returns c = record { one = one_table_of c.one_list_where_noncircular.ensures.one_list }
