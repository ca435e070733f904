use Rattle.std.proofs.Common.{◌≡◌, filter, take}
use Rattle.ftl_deps.specs.reads.Meant.{meant}
use Rattle.ftl_model.specs.layout.AttributeGrammar.{is_input}
use Rattle.ftl_plan.proofs.plans.words.inputs_among.Given as goal

abbrev pub invariant-loop-attr : goal.invariant-loop-attr
invariant-loop-attr l = l.inputs ≡ filter (λ a. is_input ((meant l.checked).sort a)) (take l.attr-index l.attrs)
