use Rattle.std.proofs.Common.{arith, ◌≡◌, ℕ, ◌<◌, None, Err, drop, length, sym, subst, ◌∙◌}
use Rattle.ftl_checked.specs.declarations.NameFaults.{classes_fault}
use Rattle.ftl_checked.proofs.declarations.NameLists.{err_is, once_ends, once_stops}
use Rattle.ftl_checked.proofs.declarations.names.classes_once.Goals as goal

pub returns-in_err-class_once : goal.returns-in_err-class_once
returns-in_err-class_once c =
    let g = c.args.grammar.now in
    let i = c.loop-number.number in
    let within : i < length g.classes = omega arith in
    let is : c.from_residual.result ≡ Err c.in_err-class_once.field-0.0 = err_is c.from_residual.result c.in_err-class_once.field-0.0 c.from_residual.ensures.1 in
    record { finds = rw is (λ h. c.loop-number.invariant ∙ once_stops g i c.in_err-class_once.field-0.0 within (c.in_err-class_once.ensures.finds h)) }

pub returns : goal.returns
returns c =
    let g = c.args.grammar.now in
    let end : c.loop-number.number ≡ length g.classes = omega arith in
    let P : ℕ → Type 0 = λ n. classes_fault g n (drop n g.classes) ≡ None in
    record { finds = c.loop-number.invariant ∙ subst P (sym end) (once_ends g (length g.classes)) }
