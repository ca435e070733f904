-- The page is that of which the reads are told.
use Rattle.std.proofs.Common.{◌≡◌, List, sym, subst}
use Rattle.std.specs.Prelude.{IfOk}
use Rattle.std.specs.List.{All}
use Rattle.maugzeris.specs.pages.Instances.{IsInstanceOn, reads_on}
use Rattle.maugzeris.specs.pages.PageState.{PageState}
use Rattle.ftl_showing.proofs.lines.instance.read_by.Goals as goal

pub of-requires : goal.of-requires
of-requires c = record {
  instance = subst (λ (p : PageState). IsInstanceOn p c.args.instance) (sym c.requires.same) c.requires.instance;
}

pub returns : goal.returns
returns c = record {
  reads =
      subst (λ (p : PageState). IfOk c.of.result (λ v. v.items ≡ reads_on p c.args.instance)) c.requires.same
      c.of.ensures.reads;
  known =
      subst (λ (p : PageState). IfOk c.of.result (λ v. All (IsInstanceOn p) v.items)) c.requires.same
      c.of.ensures.known;
}
