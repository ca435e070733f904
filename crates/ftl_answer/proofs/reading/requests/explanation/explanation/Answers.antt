use Rattle.std.proofs.Common.{ap, Err}
use Rattle.ftl_answer.proofs.reading.requests.Explaining.{example_explains, is_printable, larger_explains, none_explains}
use Rattle.ftl_answer.proofs.reading.requests.explanation.explanation.Goals as goal

pub nest_example-requires : goal.nest_example-requires
nest_example-requires c =
    let may = c.requires.may in
    record {
      table = c.requires.table;
      computed = may.computed;
      limits = may.limits;
      kept = may.kept;
      pair = c.requires.pair;
    }

pub print_example-requires : goal.print_example-requires
print_example-requires c =
    let e = c.in-Ok.found in
    record {
      example =
          is_printable c.args.checked.now c.args.placed.now e.tree e.reader e.writer e.order c.as_slice.result.now
          c.in-Ok.ensures.grammar c.as_slice.ensures c.in-Ok.ensures.example;
    }

pub returns-in-Ok : goal.returns-in-Ok
returns-in-Ok c =
    let e = c.in-Ok.found in
    record {
      text =
          example_explains c.args.checked.now c.args.placed.now (λ v. v.items) e.tree e.reader e.writer e.order
          c.as_slice.result.now c.print_example.result c.in-Ok.ensures.grammar c.as_slice.ensures c.in-Ok.ensures.few
          c.in-Ok.ensures.example c.print_example.ensures.text;
    }

pub returns-in-Err-NoTree : goal.returns-in-Err-NoTree
returns-in-Err-NoTree c = record {
  text =
      none_explains c.args.checked.now c.args.placed.now (λ v. v.items) c.from_slice.result
      (c.in-Err-NoTree.ensures.no_tree (ap Err c.in-Err-NoTree.field-0-is)) c.from_slice.ensures.items;
}

pub returns-in-Err-TooLarge : goal.returns-in-Err-TooLarge
returns-in-Err-TooLarge c = record {
  text =
      larger_explains c.args.checked.now c.args.placed.now (λ v. v.items) c.from_slice-in-Err-TooLarge.result
      (c.in-Err-TooLarge.ensures.too_large (ap Err c.in-Err-TooLarge.field-0-is))
      c.from_slice-in-Err-TooLarge.ensures.items;
}
