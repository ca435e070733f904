use Rattle.std.proofs.Common.{◌≡◌, ◌≢◌, true, None, Some, Option, length, sym, ap, ◌∙◌, arith}
use Rattle.std.specs.Option.{is_some}
use Rattle.std.proofs.lemmas.Bool.{false≢true}
use Rattle.ftl_tokens.specs.declared.scanner.kind.Kind.{Kind}
use Rattle.ftl_tokens.specs.reading.Reader.{Tokens, next_kind}
use Rattle.ftl_tokens.proofs.scanner.FrontLemmas.{none-from_is_some}
use Rattle.ftl_document.proofs.plain.Counts.{length-none, length-rest_of, plain_short}
use Rattle.ftl_document.proofs.plain.text_input.plain_count.Goals as goal

some_is : (o : Option Kind) → is_some o ≡ true → o ≢ None
some_is None some none = false≢true some
some_is (Some k) some none = absurd (cc)

pub loop-count-preserved : goal.loop-count-preserved
loop-count-preserved c =
    let kind = c.peek.ensures.kind in
    let some : next_kind c.loop-count.input ≢ None =
    λ (none : next_kind c.loop-count.input ≡ None).
    some_is c.peek.result (sym c.is_some.ensures ∙ c.if-is_some.true) (kind ∙ none) in
    record {
      within = omega (arith, c.loop-count-test.true);
      count =
          omega (
            arith,
            c.loop-count.invariant.count,
            length-rest_of c.loop-count.input some,
            ap (λ (ts : Tokens). length ts) c.skip.ensures.rest,
          );
    }

pub returns-else-is_some-clause-count : goal.returns-else-is_some-clause-count
returns-else-is_some-clause-count c =
    let none = sym c.peek.ensures.kind ∙ none-from_is_some c.peek.result (sym c.is_some.ensures ∙ c.if-is_some.false) in
    omega (arith, c.loop-count.invariant.count, length-none c.loop-count.input none)

pub returns-after-loop-count-clause-count : goal.returns-after-loop-count-clause-count
returns-after-loop-count-clause-count c =
    omega (arith, c.loop-count.invariant.count, c.loop-count-test.false, plain_short c.args.greatest 0 c.args.text.now)
