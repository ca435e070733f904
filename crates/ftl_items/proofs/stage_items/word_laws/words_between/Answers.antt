use Rattle.ftl_items.proofs.stage_items.WordLaws.{words_fit}
use Rattle.ftl_items.proofs.stage_items.word_laws.words_between.Goals as goal

pub returns : goal.returns
returns c = record {
  next = λ g s t law ordered fits grain stage. words_fit g s t grain stage;
}
