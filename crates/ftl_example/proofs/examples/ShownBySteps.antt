-- Steps that show a pair, and instances that do.
use Rattle.std.proofs.Common.{ℕ, sym, ◌∙◌, subst}
use Rattle.ftl_model.specs.layout.AttributeGrammar.{AttributeGrammar}
use Rattle.ftl_model.specs.layout.Path.{Path, node_at}
use Rattle.ftl_model.specs.layout.Solves.{Instance, rule_named}
use Rattle.ftl_model.specs.layout.Tree.{Forest}
use Rattle.ftl_model.specs.layout.TreeOf.{IsTreeOf}
use Rattle.ftl_order.specs.declared.steps.step.Step.{Step}
use Rattle.ftl_order.specs.orders.Lawful.{IsLawful}
use Rattle.ftl_order.specs.orders.LegalOrder.{turn_of}
use Rattle.ftl_order.specs.orders.Pairs.{Pair}
use Rattle.ftl_order.specs.steps.Steps.{IsStepOf, target_of}
use Rattle.ftl_example.specs.examples.ShownSteps.{AreShownBy}
use Rattle.ftl_example.specs.shows.Shows.{ReadIs, Shows}
use Rattle.ftl_example.proofs.examples.StepTurns.{target_kid, target_rule, target_step, target_visit}

module _ (g : AttributeGrammar) (law : IsLawful g) (t : Forest) (fits : IsTreeOf g t) (pair : Pair) where
  -- the read, where a rule runs
  abbrev ReadAt : Path → ℕ → Instance → Type 0
  ReadAt p k w = ReadIs t (rule_named g pair.reader).parts pair.part p k pair.read w

  pub shows_by : (x y : Step) → IsStepOf g t x → IsStepOf g t y → AreShownBy g t pair x y
      → Shows g t pair (target_of g t x) (target_of g t y)
  shows_by x y sx sy are =
      let n = are.writer.1 in
      record {
        reader_there = target_step g law t fits x sx;
        writer_there = target_step g law t fits y sy;
        reader = target_rule g law t fits x sx ∙ are.reader;
        writer = target_rule g law t fits y sy ∙ are.writer.0;
        read =
            subst (λ p. ReadAt p (turn_of g (target_of g t x)).kid (target_of g t y)) (sym (target_visit g law t fits x sx))
            (subst (λ k. ReadAt (node_at t x.node) k (target_of g t y)) (sym (target_kid g law t fits x sx))
            (n.0, n.1, (n.2.0, n.2.1, n.2.2)));
      }

  pub by_shows : (x y : Step) → IsStepOf g t x → IsStepOf g t y → Shows g t pair (target_of g t x) (target_of g t y)
      → AreShownBy g t pair x y
  by_shows x y sx sy shows =
      let read =
      subst (λ k. ReadAt (node_at t x.node) k (target_of g t y)) (target_kid g law t fits x sx)
      (subst (λ p. ReadAt p (turn_of g (target_of g t x)).kid (target_of g t y)) (target_visit g law t fits x sx)
      shows.read) in
      record {
        reader = sym (target_rule g law t fits x sx) ∙ shows.reader;
        writer = (
          sym (target_rule g law t fits y sy) ∙ shows.writer,
          (read.0, read.1, (read.2.0, read.2.1, read.2.2)),
        );
      }
