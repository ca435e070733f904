use Rattle.ftl_answer.proofs.headline.Alone.{none_but_long_pages_are_refused, none_but_words_are_refused}
use Rattle.ftl_answer.proofs.headline.Overflows.{summaries_count_overflow}
use Rattle.ftl_answer.proofs.headline.Shown.{accepted_is_shown, long_pages_are_refused, or_refused, overflow_has_a_status}
use Rattle.ftl_answer.proofs.headline.Shown.{words_are_refused}
use Rattle.ftl_answer.proofs.headline.promises.accepted_or_refused.Goals as goal

pub returns : goal.returns
returns c = record {
  shown = accepted_is_shown;
  refused = or_refused;
  words = words_are_refused;
  words_alone = none_but_words_are_refused;
  long = long_pages_are_refused;
  long_alone = none_but_long_pages_are_refused;
  overflow = overflow_has_a_status;
  counted = summaries_count_overflow;
}
