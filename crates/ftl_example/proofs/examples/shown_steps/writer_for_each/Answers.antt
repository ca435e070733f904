use Rattle.std.proofs.Common.{◌≡◌, sym, ◌∙◌, subst, ⊎_elim, arith, [], ◌∷◌, Contains}
use Rattle.std.proofs.lemmas.Bool.{cases_lt}
use Rattle.std.specs.List.{range_with_len}
use Rattle.ftl_model.proofs.lists.Elements.{range_has}
use Rattle.ftl_deps.specs.reads.Meant.{meant}
use Rattle.ftl_example.specs.examples.ShownSteps.{IsFoundFor}
use Rattle.ftl_example.specs.pairs.PairMeant.{pair_meant}
use Rattle.ftl_example.proofs.examples.FoundFor.{found_wider, none_for_each}
use Rattle.ftl_example.proofs.examples.OptionHas.{not_some, some_has}
use Rattle.ftl_example.proofs.examples.shown_steps.writer_for_each.Goals as goal

pub writer_for-found-requires-clause-hand : goal.writer_for-found-requires-clause-hand
writer_for-found-requires-clause-hand c =
    let less = c.loop-kid-test.true in
    subst (λ ns. Contains ns c.loop-kid.kid) c.requires.hand
    (range_has 0 c.args.count c.loop-kid.kid (omega arith) (omega (arith, less)))

pub returns-then-is_some-clause-found : goal.returns-then-is_some-clause-found
returns-then-is_some-clause-found c =
    let less = c.loop-kid-test.true in
    some_has c.writer_for-found.result c.writer_for-found.ensures.found
    (found_wider (meant c.args.tree.now.checked) c.args.tree.now.tree (pair_meant c.args.pair) c.args.reader
    c.args.steps.now c.loop-kid.kid (range_with_len 0 c.args.count)
    (range_has 0 c.args.count c.loop-kid.kid (omega arith) (omega (arith, less))))

pub returns-clause-none : goal.returns-clause-none
returns-clause-none c = λ e.
    let done = c.loop-kid-test.false in
    none_for_each (meant c.args.tree.now.checked) c.args.tree.now.tree (pair_meant c.args.pair) c.args.reader
    c.args.steps.now c.args.count (λ n less. c.loop-kid.invariant n (omega (arith, done, less)))

pub loop-kid-preserved : goal.loop-kid-preserved
loop-kid-preserved c = λ n less w found.
    let g = meant c.args.tree.now.checked in
    let t = c.args.tree.now.tree in
    let none = not_some c.writer_for-found.result (sym c.is_some.ensures ∙ c.if-is_some.false) in
    ⊎_elim (λ low. c.loop-kid.invariant n low w found)
    (λ high.
    let same : n ≡ c.loop-kid.kid = omega (arith, less, high) in
    c.writer_for-found.ensures.none none w
    (subst (λ m. IsFoundFor g t (pair_meant c.args.pair) c.args.reader (m ∷ []) c.args.steps.now w) same found))
    (cases_lt n c.loop-kid.kid)
