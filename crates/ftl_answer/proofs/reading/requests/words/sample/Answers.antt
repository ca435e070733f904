use Rattle.std.proofs.Common.{refl, ap, rules}
use Rattle.ftl_answer.proofs.reading.requests.ReadBytes.{no_sample_comes, sample_comes}
use Rattle.ftl_answer.proofs.reading.requests.words.sample.Goals as goal

pub returns-in-Ok : goal.returns-in-Ok
returns-in-Ok c = record {
  comes =
      λ bytes.
      sample_comes c.args.pieces c.args.grammar c.text.result.now c.args.how bytes _ _ c.in-Ok.ensures.text
      c.text.ensures.text (ap (λ v. v.items) c.into_bytes.ensures.value) refl refl;
}

pub returns : goal.returns
returns c = record {
  comes =
      λ bytes.
      no_sample_comes c.args.pieces c.args.grammar c.text.result.now c.args.how bytes c.in-Err.field-0 _
      (c.in-Err.ensures.fault (search rules)) c.text.ensures.text c.in_ok-refused-in-Err.ensures.answer;
}
