use Rattle.std.proofs.Common.{◌≡◌, map}
use Rattle.std.specs.List.{range_with_len}
use Rattle.ftl_deps.specs.reads.Meant.{meant}
use Rattle.ftl_model.specs.layout.AttributeGrammar.{class_inputs}
use Rattle.ftl_plan.proofs.plans.words.inputs_of_classes.Given as goal

abbrev pub invariant-loop-attrs : goal.invariant-loop-attrs
invariant-loop-attrs l = l.inputs ≡ map (class_inputs (meant l.checked)) (range_with_len 0 l.attrs-index)
