use Rattle.ftl_grammar.proofs.reading.PrintedLemmas.{printed_is_scanned, printed_is_read, text_is_read}
use Rattle.ftl_grammar.proofs.reading.laws.printed_grammars_are_read.Goals as goal

pub returns : goal.returns
returns c = record { scanned = printed_is_scanned; read = printed_is_read; texts = text_is_read }
