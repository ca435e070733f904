use Rattle.ftl_items.proofs.stage_items.EndWords.{no_stages, words_first, words_last}
use Rattle.ftl_items.proofs.stage_items.word_laws.words_at_the_ends.Goals as goal

pub returns : goal.returns
returns c = record {
  first = λ g s t law ordered fits solution solves grain. words_first g s t law ordered fits solution solves grain;
  last = λ g s t law ordered fits solution solves grain. words_last g s t law ordered fits solution solves grain;
  no_stages = λ g s t law ordered fits solution solves grain. no_stages g s t law ordered fits solution solves grain;
}
