-- The size says whether there is an example under a schedule with nests.
use Rattle.std.proofs.Common.{◌≡◌, ℕ, ◌<◌, ◌≤◌, refl, sym, ◌∙◌, arith, Option, None, Some}
use Rattle.ftl_model.specs.layout.AttributeGrammar.{AttributeGrammar}
use Rattle.ftl_model.specs.layout.Tree.{Forest, size}
use Rattle.ftl_order.specs.orders.Lawful.{IsLawful}
use Rattle.ftl_order.specs.orders.Pairs.{IsPair, Pair}
use Rattle.ftl_order.specs.orders.Schedule.{EachStandsOnce}
use Rattle.ftl_example.specs.shows.Examples.{AllAreLarger, NoneShows, ShowsPair}
use Rattle.ftl_example.specs.sizes.Place.{example_size}
use Rattle.ftl_example.proofs.orders.Parted.{closed_legal}
use Rattle.ftl_example.proofs.sizes.ExampleSize.{none_smaller, some_so}
use Rattle.ftl_nests.specs.Hosted.{MustPrecedeWithNests}
use Rattle.ftl_nests.specs.Nests.{AreSidesKept, NestingSchedule, nest_placing_of, outer_schedule}
use Rattle.ftl_example.specs.nests.examples.NestExamples.{HasNestExample, NestSizeSays}
use Rattle.ftl_example.specs.nests.orders.EarlyWithNests.{early_first_with_nests, is_early_with_nests}
use Rattle.ftl_example.specs.nests.orders.NestOrders.{plain_order_with_nests}
use Rattle.ftl_example.specs.nests.pairs.NestPair.{IsNestOrderedPair}
use Rattle.ftl_example.proofs.nests.examples.ShownOrdered.{shown_nest_ordered}
use Rattle.ftl_example.proofs.nests.orders.EarlySteps.{early_closed}
use Rattle.ftl_example.proofs.nests.orders.ReaderFirst.{plain_legal_with_nests, reader_first}

some_same : (a b : ℕ) → Some a ≡ Some b → a ≡ b
some_same a b e = grind arith

module _ (g : AttributeGrammar) (s : NestingSchedule) (law : IsLawful g) (once : EachStandsOnce g (outer_schedule s))
    (keeps : AreSidesKept g s) (pair : Pair) (most : ℕ) (is : IsPair g pair)
    (unordered : IsNestOrderedPair g (nest_placing_of s) pair → ⊥) where
  none_shows : example_size g pair ≡ None → NoneShows g pair
  none_shows e t shows =
      let l = none_smaller g law pair is t shows in
      let f : None ≡ Some l.0 = sym e ∙ l.1 in let z : ⊥ = grind arith in z

  least_of : (n : ℕ) → example_size g pair ≡ Some n → (u : Forest) → ShowsPair g pair u → n ≤ size u
  least_of n e u shows =
      let l = none_smaller g law pair is u shows in
      let same = some_same n l.0 (sym e ∙ l.1) in let m = l.2 in omega (arith, same, m)

  within : (n : ℕ) → example_size g pair ≡ Some n → n ≤ most → HasNestExample g s pair most
  within n e le =
      let x = some_so g law pair is n e in
      let t = x.0 in
      let r = x.3.0 in
      let w = x.3.1 in
      let shows = x.3.2 in
      let nodes = x.4 in (
        t,
        r,
        w,
        early_first_with_nests g s t r,
        record {
          tree = x.1;
          bare = x.2;
          shows = shows;
          fewest = λ u other. let l = least_of n e u other in omega (arith, l, nodes);
          legal =
              closed_legal g t (MustPrecedeWithNests g t (nest_placing_of s)) (plain_order_with_nests g s t)
              (plain_legal_with_nests g s t law once x.1) (is_early_with_nests g (nest_placing_of s) t r)
              (early_closed g s t law once keeps x.1 r shows.reader_there);
          wrong =
              reader_first g s t law once keeps x.1 r w shows.reader_there shows.writer_there
              (λ must. unordered (shown_nest_ordered g law (nest_placing_of s) t x.1 pair is r w shows must));
        },
        omega (arith, le, nodes),
      )

  beyond : (n : ℕ) → example_size g pair ≡ Some n → most < n → AllAreLarger g pair most
  beyond n e less =
      let x = some_so g law pair is n e in (
        (x.0, (x.1, x.3)),
        (λ t shows. let l = least_of n e t shows in omega (arith, less, l)),
      )

  pub by_size : NestSizeSays g s pair most (example_size g pair)
  by_size = go (example_size g pair) refl
    where
      go : (o : Option ℕ) → example_size g pair ≡ o → NestSizeSays g s pair most o
      go None e = none_shows e
      go (Some n) e = (within n e, beyond n e)
