use Rattle.std.proofs.Common.{subst}
use Rattle.ftl_meaning.specs.lawful.Faultless.{IsFaultless}
use Rattle.ftl_visit.specs.compiled.Compilable.{HasCode}
use Rattle.ftl_step_value.proofs.limits.reads.sound.is_sound.Goals as goal

pub returns : goal.returns
returns c =
    let k = c.args.checked.now in
    let fine : IsFaultless k.grammar = record { faults = c.grammar.ensures.lawful; kinds = c.grammar.ensures.kinds } in
    record {
      sound = record {
        law = c.faultless_grammars_are_lawful.ensures.lawful k.grammar k.width fine;
        limits = c.faultless_grammars_are_small.ensures.limits k.grammar k.width fine;
      };
      code = subst HasCode c.grammar.ensures.grammar c.has_code.ensures.code;
    }
