-- A run of the queue on a changed tree.
use Rattle.std.proofs.Common.{◌≡◌, ◌≢◌, ℕ, ◌<◌, false, not, refl, sym, ◌∙◌, ap, ap₂, subst, arith, List, length, slice_index_or}
use mathlib.Core.Path.{fun_ext}
use Rattle.ftl_model.specs.layout.AttributeGrammar.{AttributeGrammar, Sort, inherited, input, is_input, local, synthesized}
use Rattle.ftl_model.specs.layout.Inputs.{IsSameButInputs}
use Rattle.ftl_model.specs.layout.Path.{Path, down, top}
use Rattle.ftl_model.specs.layout.Solves.{Instance, IsInstance, Solves, equation_value, seen_from}
use Rattle.ftl_model.specs.layout.Table.{SolvesList, instance_count, instance_number, value_in}
use Rattle.ftl_model.specs.layout.Tree.{Forest}
use Rattle.ftl_model.specs.layout.Values.{Value, overflow}
use Rattle.ftl_model.proofs.layout.SameTrees.{same_classes, same_instance_number, same_kids, same_nodes, same_sym}
use Rattle.ftl_order.specs.orders.Lawful.{OfClass}
use Rattle.ftl_order.specs.orders.LegalOrder.{IsStep}
use Rattle.ftl_order.specs.orders.Schedule.{Schedule, placing_of}
use Rattle.ftl_order.proofs.orders.Instances.{number_within}
use Rattle.ftl_order.proofs.orders.LegalOrders.{placing_of-one_kind}
use Rattle.ftl_order.proofs.orders.OneList.{solves_alike}
use Rattle.ftl_order.proofs.orders.Scheduled.{one_table_under}
use Rattle.ftl_order.proofs.orders.TreeEquations.{alone_by, inside_by}
use Rattle.ftl_relayout.specs.queue.Nets.{IsStep as IsStepOfNet, table}
use Rattle.ftl_relayout.specs.queue.Ready.{IsDone, IsReady}
use Rattle.ftl_relayout.specs.laws.Relayout.{IsChanged, IsLaidOut, NetsAreLawful, RunGives, RunsLayOutAnew}
use Rattle.ftl_relayout.specs.laws.TreeNets.{net_of}
use Rattle.ftl_relayout.proofs.laws.TreeNets.{at_cell, cell_number, cell_step, cell_valid, net_lawful, number_cell, read_cell, reads_cell, step_of}

pub nets_are_lawful : NetsAreLawful
nets_are_lawful g s t law ordered fits small =
    net_lawful g law (placing_of s) t fits small (placing_of-one_kind s) ordered.pairs

module _ (t u : Forest) (same : IsSameButInputs t u) (g : AttributeGrammar) where
  step_back : (i : Instance) → IsStep g u i → IsStep g t i
  step_back i h = (
    (
      same_nodes u t (same_sym t u same) i.node h.0.0,
      subst (λ k. OfClass g k i.attribute) (sym (same_classes t u same i.node)) h.0.1,
    ),
    h.1,
  )

  value_back : (values : List Value) → value_in g t values ≡ value_in g u values
  value_back values = fun_ext (λ i. ap (λ n. slice_index_or values n overflow) (same_instance_number t u same g i))

  pub rule_back : (s : Instance → Value) (sort : Sort) (p : Path) (a : ℕ) → sort ≢ input
      → equation_value g t s sort p a ≡ equation_value g u s sort p a
  rule_back s input p a h = absurd (h refl)
  rule_back s inherited top a h =
      ap₂ (λ k n. (g.self_rule k a).value n 0 (λ o. s (seen_from top o))) (same_classes t u same top)
      (same_kids t u same top)
  rule_back s inherited (down c k p) a h =
      ap₂ (λ l n. (g.child_rule l c a).value n k (λ o. s (seen_from p o))) (same_classes t u same p)
      (same_kids t u same p)
  rule_back s synthesized p a h =
      ap₂ (λ k n. (g.self_rule k a).value n 0 (λ o. s (seen_from p o))) (same_classes t u same p) (same_kids t u same p)
  rule_back s local p a h =
      ap₂ (λ k n. (g.self_rule k a).value n 0 (λ o. s (seen_from p o))) (same_classes t u same p) (same_kids t u same p)

  -- a list that solves the one tree solves the other's rules
  pub rules_hold : (old : List Value) → SolvesList g t old → (i : Instance) → IsStep g u i
      → value_in g u old i ≡ equation_value g u (value_in g u old) (g.sort i.attribute) i.node i.attribute
  rules_hold old solves i step =
      ap (λ f. f i) (sym (value_back old))
      ∙ solves.solves i (step_back i step).0
      ∙ rule_back (value_in g t old) (g.sort i.attribute) i.node i.attribute step.1
      ∙ ap (λ f. equation_value g u f (g.sort i.attribute) i.node i.attribute) (value_back old)

is_given : (sort : Sort) → not (is_input sort) ≡ false → sort ≡ input
is_given input e = refl
is_given inherited e = let z : inherited ≡ input = absurd (let x : ⊥ = grind (arith, e) in x) in z
is_given synthesized e = let z : synthesized ≡ input = absurd (let x : ⊥ = grind (arith, e) in x) in z
is_given local e = let z : local ≡ input = absurd (let x : ⊥ = grind (arith, e) in x) in z

module _ (g : AttributeGrammar) (s : Schedule) (t u : Forest) (old values after : List Value) (waiting ran : List ℕ)
    (w : IsChanged g s t u old values waiting) (gives : RunGives g s u values after waiting ran)
    (as_long : length after ≡ length values) where
  abbrev final : Instance → Value
  final = (one_table_under g s u w.lawful w.ordered.pairs w.fits).some_solves.0

  final_solves : Solves g u final
  final_solves = (one_table_under g s u w.lawful w.ordered.pairs w.fits).some_solves.1

  abbrev cell : ℕ → Instance
  cell = at_cell g w.lawful (placing_of s) u w.fits w.small

  numbered : (k : ℕ) → k < instance_count g u → instance_number g u (cell k) ≡ k
  numbered = cell_number g w.lawful (placing_of s) u w.fits w.small

  valid : (k : ℕ) → k < instance_count g u → IsInstance g u (cell k)
  valid = cell_valid g w.lawful (placing_of s) u w.fits w.small

  at_number : (i : Instance) → IsInstance g u i → cell (instance_number g u i) ≡ i
  at_number = number_cell g w.lawful (placing_of s) u w.fits w.small

  step : (k : ℕ) → IsStepOfNet (net_of g (placing_of s) u) k → IsStep g u (cell k)
  step = step_of g w.lawful (placing_of s) u w.fits w.small

  in_list : (vs : List Value) (k : ℕ) → k < instance_count g u → table vs k ≡ value_in g u vs (cell k)
  in_list vs k below = ap (table vs) (sym (numbered k below))

  ready : IsReady (net_of g (placing_of s) u) (table old) (λ k. final (cell k)) values waiting
  ready = record {
    old_holds = λ k sk.
        in_list old k sk.within ∙ rules_hold t u w.alike g old w.solved (cell k) (step k sk);
    final_holds = λ k sk.
        let here = valid k sk.within in
        final_solves (cell k) here
        ∙ alone_by g w.lawful u w.fits final (λ i. final (cell (instance_number g u i))) (g.sort (cell k).attribute)
        (cell k).node (cell k).attribute refl here.0 here.1
        (λ j reads. ap final
        (sym
        (at_number j
        (inside_by g w.lawful u w.fits (g.sort (cell k).attribute) (cell k).node (cell k).attribute refl here.0 here.1 j
        reads))));
    inputs = λ k below given.
        let here = valid k below in
        let e = is_given (g.sort (cell k).attribute) given in
        in_list values k below ∙ w.inputs (cell k) here e
        ∙ sym
        (final_solves (cell k) here ∙ ap (λ x. equation_value g u final x (cell k).node (cell k).attribute) e);
    stays = λ k sk.
        in_list values k sk.within ∙ w.stays (cell k) (step k sk) ∙ sym (in_list old k sk.within);
    due = w.due;
    only = w.only;
  }

  done : IsDone (net_of g (placing_of s) u) (table old) (λ k. final (cell k)) after ran
  done = gives (table old) (λ k. final (cell k)) ready

  after_is : (i : Instance) → IsInstance g u i → value_in g u after i ≡ final i
  after_is i here =
      done.values_are (instance_number g u i) (number_within g u i.node i.attribute here.0 here.1)
      ∙ ap final (at_number i here)

  pub laid_out : IsLaidOut g u old after ran
  laid_out = record {
    solves = record {
      count = as_long ∙ w.count;
      solves = solves_alike g w.lawful u w.fits (value_in g u after) final after_is final_solves;
    };
    touched = record {
      has = λ i h.
          let there = inside_by g w.lawful u w.fits (g.sort i.attribute) i.node i.attribute refl h.0.0.0 h.0.0.1 h.1 h.2 in
          (done.touched (instance_number g u i)).1 (
            cell_step g w.lawful (placing_of s) u w.fits w.small i h.0,
            instance_number g u h.1,
            reads_cell g w.lawful (placing_of s) u w.fits w.small i h.1 h.0.0 h.2,
            (λ e. h.3 (e ∙ ap final (at_number h.1 there) ∙ sym (after_is h.1 there))),
          );
      only = λ n h.
          let d = (done.touched n).0 h in
          let r = read_cell g w.lawful (placing_of s) u w.fits w.small n d.1 d.0.within d.2 in (
            cell n,
            (
              step n d.0,
              r.instance,
              r.reads,
              (λ e. d.3
                  (ap (table old) (sym r.number) ∙ e ∙ after_is r.instance r.valid ∙ ap final (sym r.is))),
            ),
            numbered n d.0.within,
          );
      once = done.once;
    };
  }

pub runs_lay_out_anew : RunsLayOutAnew
runs_lay_out_anew g s t u old values after waiting ran w gives as_long =
    laid_out g s t u old values after waiting ran w gives as_long
