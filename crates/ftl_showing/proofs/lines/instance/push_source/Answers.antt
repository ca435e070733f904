-- The page is that of which the reads are told.
use Rattle.std.proofs.Common.{◌≡◌, ◌++◌, sym, subst, string_bytes}
use Rattle.std.specs.Result.{OnOk}
use Rattle.maugzeris.specs.pages.Instances.{IsInstanceOn}
use Rattle.maugzeris.specs.pages.PageState.{PageState}
use Rattle.ftl_showing.specs.lines.Details.{source_text}
use Rattle.ftl_showing.proofs.lines.instance.push_source.Goals as goal

pub push_rule-requires : goal.push_rule-requires
push_rule-requires c = record {
  instance = subst (λ (p : PageState). IsInstanceOn p c.args.instance) (sym c.requires.same) c.requires.instance;
}

pub returns : goal.returns
returns c = record {
  text =
      subst
      (λ (p : PageState). OnOk c.push_rule.result
      (string_bytes c.push_rule.new.out ≡ string_bytes c.args.out.now ++ source_text p c.args.instance))
      c.requires.same c.push_rule.ensures.text;
}
