-- Orders and examples under schedules with nests, by number.
use Rattle.std.proofs.Common.{◌≡◌, ℕ, sym, ◌∙◌, ap, List, map}
use Rattle.std.proofs.lemmas.Simd.{map-map}
use Rattle.ftl_model.specs.layout.AttributeGrammar.{AttributeGrammar}
use Rattle.ftl_model.specs.layout.Solves.{Instance}
use Rattle.ftl_model.specs.layout.Table.{instance_number}
use Rattle.ftl_model.specs.layout.Tree.{Forest}
use Rattle.ftl_order.specs.declared.steps.step.Step.{Step}
use Rattle.ftl_order.specs.orders.Pairs.{Pair}
use Rattle.ftl_order.specs.steps.Steps.{target_of}
use Rattle.ftl_step_value.specs.cells.ReadCells.{filled_cell}
use Rattle.ftl_example.specs.shows.Shows.{Shows}
use Rattle.ftl_example.specs.trees.LeastShown.{IsLeastShown}
use Rattle.ftl_nests.specs.Nests.{NestingSchedule}
use Rattle.ftl_example.specs.nests.examples.NestExamples.{IsNumberedNestExample}
use Rattle.ftl_example.specs.nests.examples.ShownOrders.{ComputeWrongly, IsNumberedOrder}

-- the order by number
pub numbered : (g : AttributeGrammar) (s : NestingSchedule) (pair : Pair) (t : Forest) (r w : Instance) → Shows g t pair r w
    → (steps : List Step) → ComputeWrongly g s t r w steps → (reader writer : ℕ) (numbers : List ℕ)
    → reader ≡ instance_number g t r → writer ≡ instance_number g t w → numbers ≡ map (filled_cell g t) steps
    → IsNumberedOrder g s pair t reader writer numbers
numbered g s pair t r w shows steps (order, are, wrong) reader writer numbers is_r is_w numbers_are =
    record {
      reading = r;
      written = w;
      steps = order;
      shows = shows;
      wrong = wrong;
      reader_is = is_r;
      writer_is = is_w;
      order_is =
          numbers_are ∙ sym (map-map (instance_number g t) (target_of g t) steps)
          ∙ ap (map (instance_number g t)) are.targets;
    }

-- with a least tree, an example by number
pub numbered_example : (g : AttributeGrammar) (s : NestingSchedule) (pair : Pair) (t : Forest) (reader writer : ℕ) (numbers : List ℕ)
    → IsLeastShown g pair 512 t → IsNumberedOrder g s pair t reader writer numbers
    → IsNumberedNestExample g s pair t reader writer numbers
numbered_example g s pair t reader writer numbers least is =
    record {
      reading = is.reading;
      written = is.written;
      steps = is.steps;
      is =
          record {
            tree = least.tree;
            bare = least.bare;
            shows = is.shows;
            fewest = least.fewest;
            legal = is.wrong.0;
            wrong = is.wrong.1;
          };
      reader_is = is.reader_is;
      writer_is = is.writer_is;
      order_is = is.order_is;
    }
