-- What was read are the reads of the instance.
use Rattle.std.proofs.Common.{◌≡◌, ◌∙◌, subst}
use Rattle.std.proofs.lemmas.List.Elements.{All-same}
use Rattle.maugzeris.specs.pages.Instances.{IsInstanceOn}
use Rattle.ftl_showing.specs.lines.Whys.{AreNumbersOn}
use Rattle.ftl_showing.proofs.lines.why.overflow_read.Goals as goal

pub first_overflow-requires-clause-known : goal.first_overflow-requires-clause-known
first_overflow-requires-clause-known c =
    All-same (IsInstanceOn c.args.page.now) c.as_slice.result.now c.in_ok-read.read.items c.as_slice.ensures.value
    c.in_ok-read.ensures.known

pub returns : goal.returns
returns c = record {
  overflow = c.first_overflow.ensures.overflow;
  none = λ n.
      subst (AreNumbersOn c.args.page.now) (c.as_slice.ensures.value ∙ c.in_ok-read.ensures.reads)
      (c.first_overflow.ensures.none n);
}
