use Rattle.std.proofs.Common.{sym, subst, IfOk}
use Rattle.ftl_answer.specs.answers.Answers.{obeyed}
use Rattle.ftl_page.specs.declared.commands.command.Command.{Command}
use Rattle.ftl_answer.specs.reading.requests.Requests.{MayEndAs}
use Rattle.ftl_answer.specs.declared.reading.requests.request.EditedPage.{EditedPage}
use Rattle.ftl_answer.specs.declared.reading.requests.request.Evaluation.TheVariants.{ByDemand, Scheduled}
use Rattle.ftl_answer.specs.declared.reading.requests.request.Problem.{Problem}
use Rattle.ftl_answer.specs.declared.reading.requests.request.Request.TheVariants.{Edit, Solve}
use Rattle.ftl_answer.specs.declared.reading.requests.shown.Shown.TheVariants.{Boxes}
use Rattle.ftl_answer.proofs.reading.requests.ReadBytes.{edit_comes, page_comes}
use Rattle.ftl_answer.proofs.reading.requests.words.obeyed.Goals as goal

pub returns-in-Run : goal.returns-in-Run
returns-in-Run c =
    let p : Problem = record { shown = Boxes; evaluation = Scheduled c.in-Run.how; bytes = c.args.bytes } in
    record {
      comes =
          subst (λ (k : Command). MayEndAs (obeyed k c.args.bytes.items) (Solve p)) (sym c.in-Run.is) (page_comes p);
    }

pub returns-in-Demand : goal.returns-in-Demand
returns-in-Demand c =
    let p : Problem = record { shown = Boxes; evaluation = ByDemand; bytes = c.args.bytes } in
    record {
      comes =
          subst (λ (k : Command). MayEndAs (obeyed k c.args.bytes.items) (Solve p)) (sym c.in-Demand.is) (page_comes p);
    }

pub returns-in-Edit : goal.returns-in-Edit
returns-in-Edit c =
    let p : EditedPage = record { solving = c.in-Edit.solving; bytes = c.args.bytes } in
    record {
      comes =
          subst (λ (k : Command). MayEndAs (obeyed k c.args.bytes.items) (Edit p)) (sym c.in-Edit.is) (edit_comes p);
    }

pub returns-in-Sample : goal.returns-in-Sample
returns-in-Sample c = record {
  comes =
      subst (λ (k : Command). IfOk c.sample.result (MayEndAs (obeyed k c.args.bytes.items))) (sym c.in-Sample.is)
      (c.sample.ensures.comes c.args.bytes.items);
}
