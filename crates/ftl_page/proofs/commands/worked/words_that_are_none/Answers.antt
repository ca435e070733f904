use Rattle.ftl_page.proofs.commands.WorkedWords as worked
use Rattle.ftl_page.proofs.commands.worked.words_that_are_none.Goals as goal

pub returns : goal.returns
returns c = record {
  nothing = worked.not_nothing;
  empty_word = worked.not_empty_word;
  unknown = worked.not_unknown;
  help = worked.not_help;
  positional = worked.not_positional;
  twice = worked.not_twice;
  negative = worked.not_negative;
  no_value = worked.not_no_value;
  no_text = worked.not_no_text;
  prefix = worked.not_prefix;
  no_worker = worked.not_no_worker;
  many_workers = worked.not_many_workers;
  large_grain = worked.not_large_grain;
  eight_digits = worked.not_eight_digits;
  plus = worked.not_plus;
  grammar = worked.not_grammar;
  options_of_check = worked.not_options_of_check;
  options_of_schedule = worked.not_options_of_schedule;
  options_of_explain = worked.not_options_of_explain;
  words_of_explain = worked.not_words_of_explain;
  options_of_demand = worked.not_options_of_demand;
  words_of_demand = worked.not_words_of_demand;
  no_worker_of_edit = worked.not_no_worker_of_edit;
  grammar_of_edit = worked.not_grammar_of_edit;
  words_of_edit = worked.not_words_of_edit;
  no_size = worked.not_no_size;
  no_piece = worked.not_no_piece;
  many_pieces = worked.not_many_pieces;
  size_as_option = worked.not_size_as_option;
  unknown_grammar = worked.not_unknown_grammar;
  two_sizes = worked.not_two_sizes;
}
