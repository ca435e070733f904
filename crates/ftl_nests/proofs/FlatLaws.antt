-- The legal orders of the flat schedule are some of the one with nests. An ordered schedule with nests gives an ordered
-- flat one, and what follows from that.
use Rattle.std.proofs.Common.{◌≡◌, ◌≢◌, ℕ, ◌<◌, ◌∙◌, arith, List, length, get_or}
use Rattle.std.proofs.lemmas.List.{get_or_default}
use Rattle.ftl_model.specs.lists.Lists.{StandsBefore}
use Rattle.ftl_model.specs.layout.AttributeGrammar.{AttributeGrammar, input}
use Rattle.ftl_model.specs.layout.Solves.{Instance}
use Rattle.ftl_model.specs.layout.Table.{SolvesList, instance_count}
use Rattle.ftl_model.specs.layout.Tree.{Forest}
use Rattle.ftl_model.specs.layout.TreeOf.{IsTreeOf}
use Rattle.ftl_model.specs.layout.Values.{Value}
use Rattle.ftl_order.specs.automatic.Fitting.{IsComputed}
use Rattle.ftl_order.specs.orders.Lawful.{IsLawful}
use Rattle.ftl_order.specs.orders.LegalOrder.{HoldsInputs, IsLegalBy, IsLegalOrder, IsStep, MustPrecede, run, turn_of}
use Rattle.ftl_order.specs.orders.OneTable.{ExactlyOneTable}
use Rattle.ftl_order.specs.orders.Ordered.{EachPairOrdered, IsOrdered, visit_place}
use Rattle.ftl_order.specs.orders.Reads.{Reads}
use Rattle.ftl_order.specs.orders.Schedule.{EachStandsOnce, placing_of}
use Rattle.ftl_order.proofs.automatic.Targets.{reader_computed, writer_computed}
use Rattle.ftl_order.proofs.orders.LegalOrders.{order_by_number, order_by_number_legal, placing_of-one_kind, writer_before}
use Rattle.ftl_order.proofs.orders.OrderRank.{step_rank, step_rises}
use Rattle.ftl_order.proofs.orders.Runs.{run_solves}
use Rattle.ftl_order.proofs.orders.Scheduled.{one_table_under}
use Rattle.ftl_items.proofs.stage_items.VisitLaws.{attribute_of_step}
use Rattle.ftl_nests.specs.Flat.{flat_schedule}
use Rattle.ftl_nests.specs.Hosted.{MustPrecedeWithNests}
use Rattle.ftl_nests.specs.Nests.{IsNestOrdered, NestingSchedule, nest_placing_of, outer_schedule}
use Rattle.ftl_nests.proofs.FlatCounts.{times_flat}
use Rattle.ftl_nests.proofs.FlatOrder.{precedes_flat, read_flat}
use Rattle.ftl_nests.proofs.Flattened.{StandsOnce, flattens}
use Rattle.ftl_nests.proofs.HostedOrder.{directly_first, writer_directly}

module _ (g : AttributeGrammar) (s : NestingSchedule) (law : IsLawful g) (once : EachStandsOnce g (outer_schedule s)) where
  stands : (a : ℕ) → IsComputed g a → StandsOnce s a
  stands a computed = once a computed.0 computed.1

  pub flat_once : EachStandsOnce g (flat_schedule s)
  flat_once a of computed = times_flat a s ∙ once a of computed

  module _ (t : Forest) (fits : IsTreeOf g t) where
    abbrev pub First : Instance → Instance → Type 0
    First i j = MustPrecedeWithNests g t (nest_placing_of s) i j

    pub step_stands : (i : Instance) → IsStep g t i → StandsOnce s i.attribute
    step_stands i step = stands i.attribute (attribute_of_step g law t fits i step, step.1)

    pub step_precedes_flat : (i j : Instance) → IsStep g t i → IsStep g t j → First i j
        → MustPrecede g t (flat_schedule s) i j
    step_precedes_flat i j step_i step_j first =
        precedes_flat (StandsOnce s) (nest_placing_of s) (placing_of (flat_schedule s)) (flattens s) t (turn_of g i)
        (turn_of g j) (step_stands i step_i) (step_stands j step_j) first

    entry_step : (First : Instance → Instance → Type 0) (order : List Instance) → IsLegalBy g t First order
        → (n : ℕ) (d : Instance) → n < length order → IsStep g t (get_or order n d)
    entry_step First order legal n d below =
        legal.steps (get_or order n d) (n, below, get_or_default order n (get_or order n d) d below)

    pub flat_order_legal : (order : List Instance) → IsLegalOrder g t (flat_schedule s) order
        → IsLegalBy g t First order
    flat_order_legal order legal =
        record {
          steps = legal.steps;
          all = legal.all;
          once = legal.once;
          legal = λ m n d less below first.
              let within : m < length order = omega (arith, less, below) in
              legal.legal m n d less below
              (step_precedes_flat (get_or order n d) (get_or order m d)
              (entry_step (MustPrecede g t (flat_schedule s)) order legal n d below)
              (entry_step (MustPrecede g t (flat_schedule s)) order legal m d within) first);
        }

module _ (g : AttributeGrammar) (s : NestingSchedule) (law : IsLawful g) (ordered : IsNestOrdered g s) where
  pub flat_pairs : EachPairOrdered g (placing_of (flat_schedule s))
  flat_pairs pair is =
      read_flat (StandsOnce s) (nest_placing_of s) (placing_of (flat_schedule s)) (flattens s) pair.runs_at pair.read
      (visit_place g pair.writer) (visit_place g pair.reader)
      (stands g s law ordered.once (visit_place g pair.writer).attribute (writer_computed g law pair is))
      (stands g s law ordered.once (visit_place g pair.reader).attribute (reader_computed g law pair is))
      (ordered.pairs pair is)

  pub flat_ordered : IsOrdered g (flat_schedule s)
  flat_ordered =
      record { once = flat_once g s law ordered.once; pairs = flat_pairs }

  module _ (t : Forest) (fits : IsTreeOf g t) where
    abbrev rank : Instance → ℕ
    rank i = step_rank g (placing_of (flat_schedule s)) t i

    abbrev Must : Instance → Instance → Type 0
    Must i j = MustPrecedeWithNests g t (nest_placing_of s) i j

    -- the first must come before the second, which is a step
    abbrev Firstly : Instance → Instance → Type 0
    Firstly i j = IsStep g t j × Must i j

    rises : (i j : Instance) → IsStep g t i → Firstly i j → rank i < rank j
    rises i j step first =
        step_rises g (placing_of (flat_schedule s)) t (placing_of-one_kind (flat_schedule s)) i j step.0
        (step_precedes_flat g s law ordered.once t fits i j step first.0 first.1)

    with_steps : (order : List Instance) → IsLegalBy g t Must order → IsLegalBy g t Firstly order
    with_steps order legal =
        record {
          steps = legal.steps;
          all = legal.all;
          once = legal.once;
          legal = λ m n d less below first. legal.legal m n d less below first.1;
        }

    pub order_exists : (order : List Instance) × IsLegalBy g t Must order
    order_exists =
        let order = order_by_number g t law fits Firstly rank rises in
        let legal = order_by_number_legal g t law fits Firstly rank rises in (
          order,
          record {
            steps = legal.steps;
            all = legal.all;
            once = legal.once;
            legal = λ m n d less below first.
                let within : m < length order = omega (arith, less, below) in
                legal.legal m n d less below (entry_step g s law ordered.once t fits Firstly order legal m d within, first);
          },
        )

    writer_firstly : (i j : Instance) → IsStep g t i → Reads g t i j → g.sort j.attribute ≢ input → Firstly j i
    writer_firstly i j step reads written =
        (step, directly_first g t (nest_placing_of s) j i (writer_directly g s t law ordered fits i j step reads written))

    pub writer_stands_before : (order : List Instance) → IsLegalBy g t Must order → (i j : Instance) → IsStep g t i
        → Reads g t i j → g.sort j.attribute ≢ input → StandsBefore order j i
    writer_stands_before order legal =
        writer_before g t law fits Firstly rank rises writer_firstly order (with_steps order legal)

    pub one_table : ExactlyOneTable g t
    one_table = one_table_under g (flat_schedule s) t law flat_pairs fits

    pub run_ends : (order : List Instance) → IsLegalBy g t Must order
        → (values : List Value) → length values ≡ instance_count g t → HoldsInputs g t values
        → SolvesList g t (run g t order values)
    run_ends order legal =
        run_solves g t law fits Firstly rank rises writer_firstly one_table.some_solves.0 one_table.some_solves.1 order
        (with_steps order legal)
