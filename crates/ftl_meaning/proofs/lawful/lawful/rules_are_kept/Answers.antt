use Rattle.ftl_meaning.proofs.lawful.KeptRules.{rule_kept}
use Rattle.ftl_meaning.proofs.lawful.RequiredRules.{rule_written}
use Rattle.ftl_meaning.proofs.lawful.TextReads.{in_text_order}
use Rattle.ftl_meaning.proofs.lawful.lawful.rules_are_kept.Goals as goal

pub returns : goal.returns
returns c = record {
  kept = λ g none k n r known at. rule_kept g none k known n r at;
  written = λ g greatest none w rule. rule_written g none greatest w rule;
  text_order = λ g greatest none k n r known at kept. in_text_order g k greatest n r kept;
}
