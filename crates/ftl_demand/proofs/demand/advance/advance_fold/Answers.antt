-- The parts of a fold are read at the step's node, and the fold goes on from what it has.
use Rattle.std.proofs.Common.{◌≡◌, ◌<◌, None, map, refl, subst, ◌∙◌, arith}
use Rattle.ftl_deps.specs.parts.RuleParts.{read_meant}
use Rattle.ftl_meaning.specs.faults.Checked.{CheckedGrammar}
use Rattle.ftl_meaning.specs.faults.FirstFault.{first_fault}
use Rattle.ftl_visit.specs.step_reads.StepReads.{kids_in}
use Rattle.ftl_visit.specs.declared.compiled.part.Part.TheVariants.{From, With}
use Rattle.ftl_demand.specs.demand.Outcomes.{IsPartOutcome}
use Rattle.ftl_demand.proofs.demand.Folds.{each_lacks, each_reads, each_reads_there, fold_has_start, fold_has_step, fold_is, fold_more, fold_rule, fold_waits, start_lacks, start_reads, start_reads_there}
use Rattle.ftl_demand.proofs.demand.advance.advance_fold.Goals as goal

pub part_outcome-requires-clause-part : goal.part_outcome-requires-clause-part
part_outcome-requires-clause-part c =
    let t = c.args.site.now.tree.now in
    let law = c.requires.site.sound.law in
    let fits = c.node_count-nodes.ensures.is_tree in
    let none : first_fault t.checked.grammar ≡ None =
    subst (λ (k : CheckedGrammar). first_fault k.grammar ≡ None) c.checked.ensures.grammar
    c.grammar-lawful.ensures.lawful in
    let x = c.args.top.now.step in
    let is = c.requires.top.step in
    let start = c.args.start.now in
    let each = c.args.each.now in
    record {
      node = is.node;
      rule = fold_rule t law fits none x is c.args.child start each c.requires.fold;
      has = fold_has_start t law fits none x is c.args.child start each c.requires.fold;
      reads = start_reads t law fits none x is c.args.child start each c.requires.fold;
      there = start_reads_there t law fits none x is c.args.child start each c.requires.fold c.requires.children;
    }

pub returns-in-Lacks-clause-outcome : goal.returns-in-Lacks-clause-outcome
returns-in-Lacks-clause-outcome c =
    let t = c.args.site.now.tree.now in
    let law = c.requires.site.sound.law in
    let fits = c.node_count-nodes.ensures.is_tree in
    let none : first_fault t.checked.grammar ≡ None =
    subst (λ (k : CheckedGrammar). first_fault k.grammar ≡ None) c.checked.ensures.grammar
    c.grammar-lawful.ensures.lawful in
    let x = c.args.top.now.step in
    let is = c.requires.top.step in
    let start = c.args.start.now in
    let each = c.args.each.now in
    start_lacks t law fits none x is c.args.child start each c.requires.fold c.args.words.now c.in-Lacks.wanted
    (subst
    (IsPartOutcome t c.args.words.now
    (record { step = x; part = From; reads = c.args.start; at_hand = x.kid }) c.overflow.result)
    c.in-Lacks.is c.in_ok-value-in-None.ensures.outcome)

pub part_outcome-requires-in-loop-kid-clause-part : goal.part_outcome-requires-in-loop-kid-clause-part
part_outcome-requires-in-loop-kid-clause-part c =
    let t = c.args.site.now.tree.now in
    let law = c.requires.site.sound.law in
    let fits = c.node_count-nodes.ensures.is_tree in
    let none : first_fault t.checked.grammar ≡ None =
    subst (λ (k : CheckedGrammar). first_fault k.grammar ≡ None) c.checked.ensures.grammar
    c.grammar-lawful.ensures.lawful in
    let x = c.args.top.now.step in
    let is = c.requires.top.step in
    let start = c.args.start.now in
    let each = c.args.each.now in
    let test = c.loop-kid-test.true in
    let count = c.kid_count-kid-end.ensures.count in
    let below : c.loop-kid.kid < kids_in t x.node c.args.child = omega (arith, test, count) in
    record {
      node = is.node;
      rule = fold_rule t law fits none x is c.args.child start each c.requires.fold;
      has = fold_has_step t law fits none x is c.args.child start each c.requires.fold;
      reads = each_reads t law fits none x is c.args.child start each c.requires.fold;
      there =
          each_reads_there t law fits none x is c.args.child start each c.requires.fold c.requires.children
          c.loop-kid.kid below;
    }

pub returns-in-Lacks-2-clause-outcome : goal.returns-in-Lacks-2-clause-outcome
returns-in-Lacks-2-clause-outcome c =
    let t = c.args.site.now.tree.now in
    let law = c.requires.site.sound.law in
    let fits = c.node_count-nodes.ensures.is_tree in
    let none : first_fault t.checked.grammar ≡ None =
    subst (λ (k : CheckedGrammar). first_fault k.grammar ≡ None) c.checked.ensures.grammar
    c.grammar-lawful.ensures.lawful in
    let x = c.args.top.now.step in
    let is = c.requires.top.step in
    let start = c.args.start.now in
    let each = c.args.each.now in
    let test = c.loop-kid-test.true in
    let count = c.kid_count-kid-end.ensures.count in
    let below : c.loop-kid.kid < kids_in t x.node c.args.child = omega (arith, test, count) in
    each_lacks t law fits none x is c.args.child start each c.requires.fold c.loop-kid.kid below c.args.words.now
    c.in-Lacks-2.wanted
    (subst
    (IsPartOutcome t c.args.words.now
    (record { step = x; part = With; reads = c.args.each; at_hand = c.loop-kid.kid }) c.loop-kid.so_far)
    c.in-Lacks-2.is c.in_ok-value.ensures.outcome)

pub loop-kid-preserved : goal.loop-kid-preserved
loop-kid-preserved c =
    let t = c.args.site.now.tree.now in
    let x = c.args.top.now.step in
    let test = c.loop-kid-test.true in
    let count = c.kid_count-kid-end.ensures.count in
    record {
      step = c.loop-kid.invariant.step;
      cell = c.loop-kid.invariant.cell;
      taken = refl;
      held = refl;
      so_far_is = λ values solved.
          fold_more t values x c.loop-kid.kid c.loop-kid.so_far c.in-Done-2.value
          (c.loop-kid.invariant.so_far_is values solved)
          (subst
          (IsPartOutcome t c.args.words.now
          (record { step = x; part = With; reads = c.args.each; at_hand = c.loop-kid.kid }) c.loop-kid.so_far)
          c.in-Done-2.is c.in_ok-value.ensures.outcome values solved);
      few = omega (arith, test, count);
      room = c.in_ok-value.ensures.room ∙ c.loop-kid.invariant.room;
    }

pub returns-clause-outcome : goal.returns-clause-outcome
returns-clause-outcome c = λ values solved.
    let t = c.args.site.now.tree.now in
    let law = c.requires.site.sound.law in
    let fits = c.node_count-nodes.ensures.is_tree in
    let none : first_fault t.checked.grammar ≡ None =
    subst (λ (k : CheckedGrammar). first_fault k.grammar ≡ None) c.checked.ensures.grammar
    c.grammar-lawful.ensures.lawful in
    let x = c.args.top.now.step in
    let is = c.requires.top.step in
    let start = c.args.start.now in
    let each = c.args.each.now in
    let past = c.loop-kid-test.false in
    let most = c.loop-kid.invariant.few in
    let count = c.kid_count-kid-end.ensures.count in
    let all : c.loop-kid.kid ≡ kids_in t x.node c.args.child = omega (arith, past, most, count) in
    c.loop-kid.invariant.so_far_is values solved
    ∙ fold_is t law fits none x is c.args.child start each c.requires.fold c.parts_give_the_rule.ensures.value values
    solved c.loop-kid.kid all

pub returns-in_err-value-clause-top : goal.returns-in_err-value-clause-top
returns-in_err-value-clause-top c =
    let i = c.loop-kid.invariant in
    fold_waits c.args.site.now.tree.now c.args.top.now c.loop-kid.top c.args.child (map read_meant c.args.start.now)
    (map read_meant c.args.each.now) c.requires.fold c.requires.top i.step i.cell c.loop-kid.kid c.loop-kid.so_far
    i.taken i.held i.so_far_is i.few

pub returns-in-Lacks-2-clause-top : goal.returns-in-Lacks-2-clause-top
returns-in-Lacks-2-clause-top c =
    let i = c.loop-kid.invariant in
    fold_waits c.args.site.now.tree.now c.args.top.now c.loop-kid.top c.args.child (map read_meant c.args.start.now)
    (map read_meant c.args.each.now) c.requires.fold c.requires.top i.step i.cell c.loop-kid.kid c.loop-kid.so_far
    i.taken i.held i.so_far_is i.few

pub returns-clause-top : goal.returns-clause-top
returns-clause-top c =
    let i = c.loop-kid.invariant in
    fold_waits c.args.site.now.tree.now c.args.top.now c.loop-kid.top c.args.child (map read_meant c.args.start.now)
    (map read_meant c.args.each.now) c.requires.fold c.requires.top i.step i.cell c.loop-kid.kid c.loop-kid.so_far
    i.taken i.held i.so_far_is i.few
