use Rattle.ftl_visit.proofs.rule_code.AnyReads.{computes_of_any}
use Rattle.ftl_visit.proofs.rule_code.RunLemmas.{formula_computes}
use Rattle.ftl_visit.proofs.rule_code.StandLemmas.{formula_stands}
use Rattle.ftl_visit.proofs.rule_code.laws.code_computes_the_formula.Goals as goal

pub returns : goal.returns
returns c = record { value = formula_computes; stands = formula_stands; any = λ a f h g acc. computes_of_any g acc a f h }
