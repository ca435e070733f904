use Rattle.ftl_meaning.proofs.formulas.Equations as equations
use Rattle.ftl_meaning.proofs.formulas.forms.formulas_of_forms.Goals as goal

pub returns-clause-number : goal.returns-clause-number
returns-clause-number c = equations.of-Number

pub returns-clause-acc : goal.returns-clause-acc
returns-clause-acc c = equations.of-Acc

pub returns-clause-reads : goal.returns-clause-reads
returns-clause-reads c = equations.of-Read

pub returns-clause-group : goal.returns-clause-group
returns-clause-group c = equations.of-Group

pub returns-clause-min : goal.returns-clause-min
returns-clause-min c = equations.of-Least

pub returns-clause-max : goal.returns-clause-max
returns-clause-max c = equations.of-Greatest

pub returns-clause-last : goal.returns-clause-last
returns-clause-last c = equations.of-LastOr

pub returns-clause-choices : goal.returns-clause-choices
returns-clause-choices c = equations.of-If

pub returns-clause-sums : goal.returns-clause-sums
returns-clause-sums c = equations.of-Sum

pub returns-clause-times : goal.returns-clause-times
returns-clause-times c = equations.of-Times

pub returns-clause-over : goal.returns-clause-over
returns-clause-over c = equations.of-Over

pub returns-clause-bracketed : goal.returns-clause-bracketed
returns-clause-bracketed c = equations.of-bracketed

pub returns-clause-compare : goal.returns-clause-compare
returns-clause-compare c = equations.of-Compare

pub returns-clause-any_of : goal.returns-clause-any_of
returns-clause-any_of c = equations.of-cond

pub returns-clause-every_of : goal.returns-clause-every_of
returns-clause-every_of c = equations.of-conj

pub returns-clause-signed : goal.returns-clause-signed
returns-clause-signed c = equations.of-signed

pub returns-clause-terms : goal.returns-clause-terms
returns-clause-terms c = equations.of-sum

pub returns-clause-factors : goal.returns-clause-factors
returns-clause-factors c = equations.of-term

pub returns-clause-sign : goal.returns-clause-sign
returns-clause-sign c = equations.of-unary
