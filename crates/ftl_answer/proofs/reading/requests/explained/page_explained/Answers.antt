use Rattle.ftl_answer.specs.answers.Answers.{explained_page}
use Rattle.ftl_answer.proofs.reading.requests.Endings.{if_ended}
use Rattle.ftl_answer.proofs.reading.requests.explained.page_explained.Goals as goal

pub returns : goal.returns
returns c = record {
  outcome =
      if_ended (explained_page c.args.bytes.now) c.explained_of_bytes.result c.ended.result
      c.explained_of_bytes.ensures.outcome c.ended.ensures.end;
}
