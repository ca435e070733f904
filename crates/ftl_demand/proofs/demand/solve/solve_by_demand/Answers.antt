-- The first words are those of inputs, and in the end all are there.
use Rattle.std.proofs.Common.{◌≡◌, arith, length, subst, sym, ◌∙◌}
use Rattle.ftl_deps.specs.reads.Meant.{meant}
use Rattle.ftl_step_value.specs.limits.reads.ReadTables.{AreTables, IsSound}
use Rattle.ftl_meaning.specs.faults.Checked.{CheckedGrammar}
use Rattle.ftl_plan.proofs.plans.InputRows.{written}
use Rattle.ftl_step_value.specs.neighbours.NeighbourParts.{AreNeighbourParts}
use Rattle.ftl_step_value.specs.value.RuleCopies.{AreCopies}
use Rattle.ftl_step_value.specs.value.StepValue.{IsCodeFor}
use Rattle.ftl_demand.specs.demand.Solved.{IsSolvedBy}
use Rattle.ftl_demand.proofs.demand.Filled.{first_so_far}
use Rattle.ftl_demand.proofs.demand.NoncircularTrees.{chains_end, law, solved, some_values}
use Rattle.ftl_demand.proofs.demand.solve.solve_by_demand.Goals as goal

pub first_words-requires-clause-tables : goal.first_words-requires-clause-tables
first_words-requires-clause-tables c =
    subst (λ (k : CheckedGrammar). AreTables (meant k) c.in_ok-tables.tables) (sym c.requires.tree)
    c.in_ok-tables.ensures.tables

pub evaluate_all-requires-clause-site : goal.evaluate_all-requires-clause-site
evaluate_all-requires-clause-site c =
    let same = sym c.requires.tree in
    record {
      sound = subst (λ (k : CheckedGrammar). IsSound (meant k)) same c.is_sound.ensures.sound;
      tables =
          subst (λ (k : CheckedGrammar). AreTables (meant k) c.in_ok-tables.tables) same c.in_ok-tables.ensures.tables;
      copies =
          subst (λ (k : CheckedGrammar). AreCopies k c.as_slice.result.now) same
          (subst (AreCopies c.args.checked.now) (sym c.as_slice.ensures.value) c.in_ok-copies.ensures.copies);
      neighbours =
          subst (λ (k : CheckedGrammar). AreNeighbourParts k c.as_slice-2.result.now) same
          (subst (AreNeighbourParts c.args.checked.now) (sym c.as_slice-2.ensures.value)
          c.in_ok-neighbours.ensures.parts);
      code =
          subst (λ (k : CheckedGrammar). IsCodeFor k c.args.programs.now) same
          (record {
            rules = c.requires.rules;
            width = c.requires.width;
            compilable = c.is_sound.ensures.code;
          });
    }

pub evaluate_all-requires-clause-room : goal.evaluate_all-requires-clause-room
evaluate_all-requires-clause-room c =
    let made = c.in_ok-new.ensures.room in let room = c.max_stack.ensures.room in omega (arith, made, room)

pub evaluate_all-requires-clause-words : goal.evaluate_all-requires-clause-words
evaluate_all-requires-clause-words c =
    let t = c.args.tree.now in
    let g = meant t.checked in
    let fits = c.node_count-nodes.ensures.is_tree in
    let lawful = c.is_sound.ensures.sound.law in
    let no_circle = c.checked-noncircular.ensures.noncircular in
    let chains = c.chains_of_reads_end.ensures.chains in
    let some = some_values t c.args.checked.now c.args.found.now c.requires.tree c.requires.grammar lawful no_circle
    fits chains c.one_list_where_noncircular.ensures.one_list c.values_are_in_range.ensures.in_range in
    first_so_far g t.tree
    (law t c.args.checked.now c.args.found.now c.requires.tree c.requires.grammar lawful no_circle fits chains) fits
    c.as_mut_slice.result.now (c.as_mut_slice.ensures.value ∙ c.in_ok-words.ensures.words) some.0 some.1

pub evaluate_all-requires-clause-ends : goal.evaluate_all-requires-clause-ends
evaluate_all-requires-clause-ends c =
    chains_end c.args.tree.now c.args.checked.now c.args.found.now c.requires.tree c.requires.grammar
    c.is_sound.ensures.sound.law c.checked-noncircular.ensures.noncircular c.node_count-nodes.ensures.is_tree
    c.chains_of_reads_end.ensures.chains

pub returns : goal.returns
returns c =
    let t = c.args.tree.now in
    let g = meant t.checked in
    let fits = c.node_count-nodes.ensures.is_tree in
    let lawful = c.is_sound.ensures.sound.law in
    let no_circle = c.checked-noncircular.ensures.noncircular in
    let chains = c.chains_of_reads_end.ensures.chains in
    let one = c.one_list_where_noncircular.ensures.one_list in
    let ranges = c.values_are_in_range.ensures.in_range in
    let now = c.evaluate_all.new.words in
    let so_far = c.in_ok-evaluate_all.ensures.words in
    let some = some_values t c.args.checked.now c.args.found.now c.requires.tree c.requires.grammar lawful no_circle
    fits chains one ranges in
    let before = first_so_far g t.tree
    (law t c.args.checked.now c.args.found.now c.requires.tree c.requires.grammar lawful no_circle fits chains) fits
    c.as_mut_slice.result.now (c.as_mut_slice.ensures.value ∙ c.in_ok-words.ensures.words) some.0 some.1 in
    let first = before.count in
    let last = so_far.count in
    let len = c.as_mut_slice.ensures.len in
    let long : c.in_ok-words.words.len ≡ length now = omega (arith, first, last, len) in
    record {
      solution =
          subst (IsSolvedBy t) (sym (written c.in_ok-words.words.len now c.in_ok-words.words.items long))
          (solved t c.args.checked.now c.args.found.now c.requires.tree c.requires.grammar lawful no_circle fits chains
          one ranges now so_far c.in_ok-evaluate_all.ensures.there);
    }
