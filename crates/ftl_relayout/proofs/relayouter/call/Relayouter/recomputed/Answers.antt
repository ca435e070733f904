-- The tables are those of the tree's grammar, and what is laid out in the cells is so in the edited tree.
use Rattle.std.proofs.Common.{◌≡◌, ◌≤◌, ◌+◌, ap, sym, ◌∙◌, subst, refl, arith, length}
use Rattle.ftl_deps.specs.reads.Meant.{meant}
use Rattle.ftl_step_value.specs.limits.reads.ReadTables.{AreTables, IsSound}
use Rattle.ftl_meaning.specs.faults.Checked.{CheckedGrammar}
use Rattle.ftl_model.specs.layout.Tree.{size}
use Rattle.ftl_order.specs.orders.Ordered.{IsOrdered}
use Rattle.ftl_schedule.specs.check.AcceptedSchedule.{AcceptedSchedule, IsAccepted}
use Rattle.ftl_schedule.specs.stages.Stages.{stages_of}
use Rattle.ftl_step_value.specs.value.StepValue.{IsCodeFor}
use Rattle.ftl_visit.specs.rule_values.Runs.{CountedCode}
use Rattle.ftl_relayout.specs.keys.KeyPlaces.{AreKeyPlaces}
use Rattle.ftl_relayout.specs.readers.Readers.{AreReaders}
use Rattle.ftl_relayout.specs.relayouter.TreeRules.{TreeRun, run_net}
use Rattle.ftl_relayout.specs.values.PartSites.{IsRoomFor}
use Rattle.ftl_relayout.proofs.laws.SmallKeys.{small_keys}
use Rattle.ftl_relayout.proofs.relayouter.Computing.{costs_over}
use Rattle.ftl_relayout.proofs.relayouter.call.Relayouter.recomputed.Goals as goal

pub new-rules-requires : goal.new-rules-requires
new-rules-requires c =
    let a = c.self.inside.accepted.now in
    let t = c.args.tree.now in
    let k = t.checked in
    let runner = c.args.runner.now in
    let one : a.checked ≡ k = ap (λ (x : AcceptedSchedule). x.checked) c.self.view_is ∙ c.requires.grammar in
    let sound = subst (λ (x : CheckedGrammar). IsSound (meant x)) one c.self.invariant.sound in
    let o = c.schedule-ordered.ensures in
    let accepted : IsAccepted a.checked a.schedule =
    record { computed = o.computed; limits = o.limits; ordered = o.ordered } in
    let bound = c.node_count-nodes.ensures.bound in
    let count = c.node_count-nodes.ensures.count in
    let few : size t.tree ≤ 1048576 = omega (arith, bound, count) in
    let long : length c.in_ok-from_elem.field-0.items ≡ 256 =
    sym c.in_ok-from_elem.field-0.ok.0 ∙ c.in_ok-from_elem.ensures.len in
    record {
      rules = record {
        sound = sound;
        tables = subst (λ (x : CheckedGrammar). AreTables (meant x) c.self.inside.tables) one c.self.invariant.tables;
        readers = record {
          law = sound.law;
          small =
              small_keys k a.schedule t.tree (subst (λ (x : CheckedGrammar). IsAccepted x a.schedule) one accepted) sound
              few;
          readers =
              subst (AreReaders (meant k)) (sym c.as_slice.ensures.value)
              (subst (λ (x : CheckedGrammar). AreReaders (meant x) c.self.inside.readers.items) one c.self.invariant.readers);
          places =
              subst (AreKeyPlaces k a.schedule) (sym c.as_slice-2.ensures.value)
              (subst (λ (x : CheckedGrammar). AreKeyPlaces x a.schedule c.self.inside.places.items) one
              c.self.invariant.places);
        };
        ordered = subst (λ (x : CheckedGrammar). IsOrdered (meant x) (stages_of a.schedule)) one o.ordered;
        runs = record {
          code = subst (λ (x : CountedCode). IsCodeFor k x.programs) (sym c.copied.ensures.same) c.requires.code;
          room =
              subst (λ (x : CountedCode). IsRoomFor x.programs c.in_ok-new.field-0.room) (sym c.copied.ensures.same)
              (subst (IsRoomFor runner.programs) (sym c.in_ok-new.ensures.room) c.max_stack.ensures.enough);
          reads = let z : 256 ≤ length c.in_ok-from_elem.field-0.items = omega (arith, long) in z;
        };
      };
    }

pub touched-requires-clause-net : goal.touched-requires-clause-net
touched-requires-clause-net c = ap run_net c.new-rules.ensures.run

pub returns-clause-relaid : goal.returns-clause-relaid
returns-clause-relaid c =
    let t = c.args.tree.now in
    let g = meant t.checked in
    let sound =
    subst (λ (x : CheckedGrammar). IsSound (meant x))
    (ap (λ (x : AcceptedSchedule). x.checked) c.self.view_is ∙ c.requires.grammar) c.self.invariant.sound in
    let cells = c.in_ok-touched.touched in
    let all = c.in_ok-touched.ensures.laid_out in
    let begun = ap (λ (x : TreeRun). x.runs) c.new-rules.ensures.run ∙ ap (λ (x : CountedCode). x.runs) c.copied.ensures.same in
    let over =
    costs_over g sound.law t.tree c.node_count-nodes.ensures.is_tree c.args.edits.now c.requires.edits c.args.values.now
    c.requires.solved cells in
    record {
      tree = refl;
      solves = all.solves;
      touched_are = all.touched;
      rising = c.in_ok-touched.ensures.rising;
      programs =
          c.into_runner.ensures.programs ∙ c.touched.ensures.programs
          ∙ ap (λ (x : TreeRun). x.programs) c.new-rules.ensures.run
          ∙ ap (λ (x : CountedCode). x.programs) c.copied.ensures.same;
      grows =
          let grows = c.touched.ensures.grows in
          let ended = c.into_runner.ensures.runs in
          omega (arith, grows, ended, begun);
      runs =
          let spent = c.in_ok-touched.ensures.spent in
          let ended = c.into_runner.ensures.runs in
          subst (λ m. c.into_runner.result.runs ≤ c.args.runner.now.runs + m) over
          (omega (arith, spent, ended, begun));
    }
