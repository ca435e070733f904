use Rattle.std.proofs.Common.{Option, ℕ, subst, string_bytes}
use Rattle.std.specs.Option.{IfSome}
use Rattle.ftl_showing.specs.lines.Whys.{BeginsOverflow}
use Rattle.ftl_showing.proofs.lines.WhyLemmas.{appended_beginning, no_beginning}
use Rattle.ftl_showing.proofs.lines.why.push_beginning.Goals as goal

pub returns-in-Some : goal.returns-in-Some
returns-in-Some c = record {
  beginning =
      appended_beginning c.args.page.now (string_bytes c.args.out.now) (string_bytes c.push_beginning_line.new.out)
      c.in-Some.first c.push_beginning_line.result
      (subst (λ (o : Option ℕ). IfSome o (BeginsOverflow c.args.page.now)) c.in-Some.is c.in_ok-first.ensures.begins)
      c.push_beginning_line.ensures.text;
}

pub returns-in-None : goal.returns-in-None
returns-in-None c = record { beginning = no_beginning c.args.page.now (string_bytes c.args.out.now) }
