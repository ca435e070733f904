use Rattle.ftl_order.proofs.worked.WorkedOrders.{two_words_legal}
use Rattle.ftl_order.proofs.worked.WorkedReads.{column_reads_heights, y_reads_before}
use Rattle.ftl_order.proofs.worked.worked.steps_of_two_words.Goals as goal

pub returns-clause-fold_reads : goal.returns-clause-fold_reads
returns-clause-fold_reads c = column_reads_heights

pub returns-clause-prev_reads : goal.returns-clause-prev_reads
returns-clause-prev_reads c = y_reads_before

pub returns-clause-legal : goal.returns-clause-legal
returns-clause-legal c = two_words_legal
