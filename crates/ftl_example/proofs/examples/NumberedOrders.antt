-- Steps that show a pair are found among all steps, and make an order by number.
use Rattle.std.proofs.Common.{◌≡◌, ℕ, ◌<◌, sym, ◌∙◌, ap, subst, arith, List, length, map}
use Rattle.std.proofs.lemmas.List.{length-map}
use Rattle.std.proofs.lemmas.List.Elements.{Contains-get_or}
use Rattle.std.proofs.lemmas.Simd.{map-map}
use Rattle.ftl_cursors.specs.item_cursor.ItemSteps.{AreStepsOf, no_step}
use Rattle.ftl_model.specs.layout.AttributeGrammar.{AttributeGrammar}
use Rattle.ftl_model.specs.layout.Solves.{Instance}
use Rattle.ftl_model.specs.layout.Table.{instance_number}
use Rattle.ftl_model.specs.layout.Tree.{Forest}
use Rattle.ftl_model.specs.layout.TreeOf.{IsTreeOf}
use Rattle.ftl_order.specs.declared.steps.step.Step.{Step}
use Rattle.ftl_order.specs.orders.Lawful.{IsLawful}
use Rattle.ftl_order.specs.orders.LegalOrder.{IsLegalOrder}
use Rattle.ftl_order.specs.orders.Pairs.{Pair}
use Rattle.ftl_order.specs.orders.Schedule.{Schedule}
use Rattle.ftl_order.specs.steps.Steps.{IsStepOf, target_of}
use Rattle.ftl_step_value.specs.cells.ReadCells.{filled_cell}
use Rattle.ftl_example.specs.examples.Numbered.{IsNumberedExample}
use Rattle.ftl_example.specs.examples.ShownOrders.{ComputeWrongly, IsNumberedOrder}
use Rattle.ftl_example.specs.examples.ShownSteps.{AreShownAt, NoneShow, step_in}
use Rattle.ftl_example.specs.shows.Shows.{Shows}
use Rattle.ftl_example.specs.trees.LeastShown.{IsLeastShown}
use Rattle.ftl_example.proofs.examples.ShownBySteps.{by_shows, shows_by}
use Rattle.ftl_example.proofs.examples.ShownOrders.{target_at}

module _ (g : AttributeGrammar) (law : IsLawful g) (t : Forest) (fits : IsTreeOf g t) (s : Schedule) (pair : Pair)
    (order : List Instance) (steps : List Step) (are : AreStepsOf g t order steps) where
  pub step_there : (n : ℕ) → n < length steps → IsStepOf g t (step_in steps n)
  step_there n below = are.steps_are (step_in steps n) (Contains-get_or steps n no_step below)

  -- where two instances show the pair, two of the steps do
  pub some_show : IsLegalOrder g t s order → (r w : Instance) → Shows g t pair r w → NoneShow g t pair steps → ⊥
  some_show legal r w shows none =
      let long = ap length (sym are.targets) ∙ length-map steps (target_of g t) in
      let x = legal.all r shows.reader_there in
      let y = legal.all w shows.writer_there in
      let bx = x.1 in
      let by = y.1 in
      let kx : x.0 < length steps = omega (arith, long, bx) in
      let ky : y.0 < length steps = omega (arith, long, by) in
      let is_r : r ≡ target_of g t (step_in steps x.0) = sym x.2 ∙ target_at g t order steps are x.0 kx r in
      let is_w : w ≡ target_of g t (step_in steps y.0) = sym y.2 ∙ target_at g t order steps are y.0 ky w in
      none x.0 y.0
      (record {
        reader_within = kx;
        writer_within = ky;
        are =
            by_shows g law t fits pair (step_in steps x.0) (step_in steps y.0) (step_there x.0 kx) (step_there y.0 ky)
            (subst (λ i. Shows g t pair i (target_of g t (step_in steps y.0))) is_r
            (subst (λ i. Shows g t pair r i) is_w shows));
      })

  -- those that are found do
  pub found_show : (m n : ℕ) → AreShownAt g t pair steps m n
      → Shows g t pair (target_of g t (step_in steps m)) (target_of g t (step_in steps n))
  found_show m n shown =
      shows_by g law t fits pair (step_in steps m) (step_in steps n) (step_there m shown.reader_within)
      (step_there n shown.writer_within) shown.are

-- the order by number
pub numbered : (g : AttributeGrammar) (s : Schedule) (pair : Pair) (t : Forest) (r w : Instance) → Shows g t pair r w
    → (steps : List Step) → ComputeWrongly g s t r w steps → (reader writer : ℕ) (numbers : List ℕ)
    → reader ≡ instance_number g t r → writer ≡ instance_number g t w → numbers ≡ map (filled_cell g t) steps
    → IsNumberedOrder g s pair t reader writer numbers
numbered g s pair t r w shows steps (order, are, wrong) reader writer numbers is_r is_w numbers_are =
    record {
      reading = r;
      written = w;
      steps = order;
      shows = shows;
      wrong = wrong;
      reader_is = is_r;
      writer_is = is_w;
      order_is =
          numbers_are ∙ sym (map-map (instance_number g t) (target_of g t) steps)
          ∙ ap (map (instance_number g t)) are.targets;
    }

-- with a least tree, an example by number
pub numbered_example : (g : AttributeGrammar) (s : Schedule) (pair : Pair) (t : Forest) (reader writer : ℕ) (numbers : List ℕ)
    → IsLeastShown g pair 512 t → IsNumberedOrder g s pair t reader writer numbers
    → IsNumberedExample g s pair t reader writer numbers
numbered_example g s pair t reader writer numbers least is =
    record {
      reading = is.reading;
      written = is.written;
      steps = is.steps;
      is =
          record {
            tree = least.tree;
            bare = least.bare;
            shows = is.shows;
            fewest = least.fewest;
            legal = is.wrong.0;
            wrong = is.wrong.1;
          };
      reader_is = is.reader_is;
      writer_is = is.writer_is;
      order_is = is.order_is;
    }
