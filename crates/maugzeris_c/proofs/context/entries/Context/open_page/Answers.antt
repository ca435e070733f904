use Rattle.std.proofs.Common.{◌≡◌, ◌∙◌, Some, List, ap, length, refl, sym}
use Rattle.std.proofs.lemmas.Option.{slice_get_read}
use Rattle.std.specs.List.{slice_get}
use Rattle.ftl_nest_check.specs.check.NestAccepted.{AcceptedNestingSchedule}
use Rattle.maugzeris.specs.pages.PageState.{PageState}
use Rattle.maugzeris_c.proofs.context.Reading.{document_read, document_refused}
use Rattle.maugzeris_c.specs.context.State.{ContextState}
use Rattle.maugzeris_c.proofs.context.entries.Context.open_page.Goals as goal

pub returns-in-Err : goal.returns-in-Err
returns-in-Err c =
    let n = c.args.rules in
    let xs = c.as_slice.result.now in
    let r = c.in-Some.kept.now in
    let item = c.in-Some.ensures.lookup in
    let is : slice_get c.args.self.now.rules n ≡ Some c.get-2.result.now =
    ap (λ (s : ContextState). slice_get s.rules n) (sym c.self.view_is)
    ∙ ap (λ (ys : List AcceptedNestingSchedule). slice_get ys n) (sym c.as_slice.ensures.value)
    ∙ slice_get_read xs (length xs) n r refl item.3.0 item.1
    ∙ ap Some (sym c.get-2.ensures.rules) in
    record {
      opens =
          document_refused (λ (p : PageState). p.tree) c.args.self.now c.refuse.new.self n c.args.bytes.now
          c.get-2.result.now c.in-Err.refusal c.refuse.result is c.in-Err.ensures.outcome c.refuse.ensures.refuses;
    }

pub returns-in-Ok : goal.returns-in-Ok
returns-in-Ok c =
    let n = c.args.rules in
    let xs = c.as_slice.result.now in
    let r = c.in-Some.kept.now in
    let item = c.in-Some.ensures.lookup in
    let is : slice_get c.args.self.now.rules n ≡ Some c.get-2.result.now =
    ap (λ (s : ContextState). slice_get s.rules n) (sym c.self.view_is)
    ∙ ap (λ (ys : List AcceptedNestingSchedule). slice_get ys n) (sym c.as_slice.ensures.value)
    ∙ slice_get_read xs (length xs) n r refl item.3.0 item.1
    ∙ ap Some (sym c.get-2.ensures.rules) in
    record {
      opens =
          document_read c.args.self.now c.add_page.new.self n c.args.bytes.now c.get-2.result.now c.in-Ok.page
          c.add_page.result is c.in-Ok.ensures.outcome c.in-Ok.ensures.read c.add_page.ensures.number
          c.add_page.ensures.added c.add_page.ensures.memory c.add_page.ensures.unchanged;
    }
