use Rattle.ftl_answer.proofs.headline.Written.{leaves_the_source, reads_the_page, reads_within_limits}
use Rattle.ftl_answer.proofs.headline.promises.what_is_read.Goals as goal

pub returns : goal.returns
returns c = record {
  page = reads_the_page;
  alone = leaves_the_source;
  limits = reads_within_limits;
}
