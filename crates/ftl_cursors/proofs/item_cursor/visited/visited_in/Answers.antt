use Rattle.std.proofs.Common.{◌≡◌, ◌≢◌, ◌<◌, ℕ, List, [], ap, sym, ◌∙◌, below_more, get_or, length, arith}
use Rattle.std.proofs.lemmas.List.{get_or_default, length-map}
use Rattle.std.proofs.lemmas.List.FromFn.{length-map-range_with_len}
use Rattle.ftl_meaning.specs.faults.Checked.{CheckedGrammar}
use Rattle.ftl_visit.specs.declared.visits.visit_op.VisitOp.{VisitOp}
use Rattle.ftl_visit.specs.visits.Visits.{visit_of}
use Rattle.ftl_cursors.specs.classes.ClassSets.{HasVisited}
use Rattle.ftl_cursors.specs.item_cursor.ItemSteps.{grammar_in}
use Rattle.ftl_cursors.specs.stages.PassTables.{pass_visits}
use Rattle.ftl_cursors.proofs.item_cursor.PassesAt.{pass_at, visits_at}
use Rattle.ftl_cursors.proofs.item_cursor.visited.visited_in.Goals as goal

pub visited_classes-requires : goal.visited_classes-requires
visited_classes-requires c =
    let x = c.args.tables in
    let g = grammar_in x in
    let m = c.loop-pass.pass in
    let test = c.loop-pass-test.true in
    let long = ap length c.requires.tables.visits ∙ length-map x.items.passes.now (pass_visits g) in
    let known : m < length x.items.passes.now = omega (arith, test, long) in
    let of_pass = pass_at x m in
    record {
      count =
          c.class_count-class_count.ensures.count
          ∙ ap (λ (k : CheckedGrammar). length k.grammar.classes) c.checked.ensures.grammar
          ∙ sym
          (ap (λ (vs : List (List VisitOp)). length vs)
          (visits_at x m known c.requires.tables c.index-tables-pass.result)
          ∙ length-map-range_with_len (visit_of g of_pass.kind of_pass.attrs) 0 g.class_count);
    }

pub loop-pass-preserved : goal.loop-pass-preserved
loop-pass-preserved c =
    let x = c.args.tables in
    let n = c.loop-pass.pass in
    let set = c.with_all-set.result in
    let visits : (m : ℕ) → List (List VisitOp) = λ m. get_or x.visits.now m [] in
    let here : get_or x.visits.now n c.index-tables-pass.result ≡ visits n =
    get_or_default x.visits.now n c.index-tables-pass.result [] c.loop-pass-test.true in
    below_more (λ m. HasVisited set (visits m)) n
    (λ m low class some. c.with_all-set.ensures.stay class (c.loop-pass.invariant m low class some))
    (λ class some.
    c.with_all-set.ensures.have class
    (c.visited_classes.ensures.visited class
    (λ none. some (sym (ap (λ (vs : List (List VisitOp)). get_or vs class []) here) ∙ none))))

pub returns : goal.returns
returns c =
    let x = c.args.tables in
    let past = c.loop-pass-test.false in
    let long = ap length c.requires.tables.visits ∙ length-map x.items.passes.now (pass_visits (grammar_in x)) in
    record { visited = λ m low. c.loop-pass.invariant m (omega (arith, low, past, long)) }
