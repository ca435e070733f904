-- What the queue makes of a tree's values, once edits are written.
use Rattle.std.proofs.Common.{◌≡◌, ℕ, sym, ◌∙◌, ap, subst, List, Contains, length}
use mathlib.Core.Path.{fun_ext}
use Rattle.std.specs.List.Sorted.{IsPermutation}
use Rattle.std.specs.Prelude.{IfOk}
use Rattle.std.specs.declared.result.Result.{Result}
use Rattle.std.specs.declared.result.Result.TheVariants.{Ok, Err}
use Rattle.ftl_model.specs.layout.AttributeGrammar.{AttributeGrammar}
use Rattle.ftl_model.specs.layout.Solves.{equation_value}
use Rattle.ftl_model.specs.layout.Table.{SolvesList, value_in}
use Rattle.ftl_model.specs.layout.Tree.{Forest}
use Rattle.ftl_model.specs.layout.TreeOf.{IsTreeOf}
use Rattle.ftl_model.specs.layout.Values.{Value}
use Rattle.ftl_model.proofs.layout.SameTrees.{same_instance_count}
use Rattle.ftl_order.specs.orders.Lawful.{IsLawful}
use Rattle.ftl_order.specs.orders.LegalOrder.{HoldsInputs}
use Rattle.ftl_order.specs.orders.Ordered.{IsOrdered}
use Rattle.ftl_order.specs.orders.Schedule.{Schedule, placing_of}
use Rattle.ftl_edits.specs.declared.meaning.types.Edit.{Edit}
use Rattle.ftl_relayout.specs.laws.Edits.{AreInputEdits, AreWritten, with_edits, written}
use Rattle.ftl_relayout.specs.laws.Relayout.{IsChanged, IsLaidOut, RunGives}
use Rattle.ftl_relayout.specs.laws.TreeNets.{HasSmallKeys, cost_at, instance_at, net_of}
use Rattle.ftl_relayout.specs.queue.Nets.{IsKeyOf, IsLawfulNet, IsStep, Net, table}
use Rattle.ftl_relayout.specs.queue.Ready.{HasChangedRead, IsDue}
use Rattle.ftl_relayout.specs.queue.Trails.{total_cost}
use Rattle.ftl_relayout.specs.relayouter.Due.{AreEditedFrom}
use Rattle.ftl_relayout.proofs.laws.EditsWritten.{edits_written}
use Rattle.ftl_relayout.proofs.laws.Relaid.{nets_are_lawful, runs_lay_out_anew}
use Rattle.ftl_relayout.proofs.laws.SameNets.{AreAlike, alike_sym, changed_over, due_over, nets_alike, runs_over, same_cell_cost, small_over, step_over}
use Rattle.ftl_relayout.proofs.relayouter.Sorting.{had, still_distinct, still_has}

pub laid_sorted : (g : AttributeGrammar) (u : Forest) (old after : List Value) (ran cells : List ℕ)
    → IsPermutation ran cells → IsLaidOut g u old after ran → IsLaidOut g u old after cells
laid_sorted g u old after ran cells moved h = record {
  solves = h.solves;
  touched = record {
    has = λ i t. still_has ran cells moved _ (h.touched.has i t);
    only = λ n c. h.touched.only n (had ran cells moved n c);
    once = still_distinct ran cells moved h.touched.once;
  };
}

pub key_of_due : (n : Net) (old now : ℕ → Value) (k : ℕ) → IsDue n old now k → IsKeyOf n k
key_of_due n old now k h = record { cell = h.cell; step = h.step; key_is = h.key_is }

pub if_ok_both : {X E : Type 0} (P Q R : X → Type 0) (r : Result X E) → ((x : X) → P x → Q x → R x)
    → IfOk r P → IfOk r Q → IfOk r R
if_ok_both P Q R (Ok x) f h k = f x h k
if_ok_both P Q R (Err e) f h k = h

module _ (g : AttributeGrammar) (law : IsLawful g) (t : Forest) (fits : IsTreeOf g t) (es : List Edit)
    (are : AreInputEdits g t es) (old : List Value) (solved : SolvesList g t old) where
  abbrev u : Forest
  u = with_edits g t es

  holds : HoldsInputs g t old
  holds i valid given =
      solved.solves i valid ∙ ap (λ x. equation_value g t (value_in g t old) x i.node i.attribute) given

  all_written : AreWritten g t u old (written g t es old)
  all_written = edits_written g t law fits es are old solved.count holds

  -- what is run costs as much in the edited tree
  pub costs_over : (cells : List ℕ)
      → total_cost (λ k. cost_at g t (instance_at g t k)) cells ≡ total_cost (λ k. cost_at g u (instance_at g u k)) cells
  costs_over cells = ap (λ cost. total_cost cost cells) (fun_ext (same_cell_cost g t u all_written.alike))

  module _ (s : Schedule) (ordered : IsOrdered g s) (small : HasSmallKeys g (placing_of s) t) (now : List Value)
      (is : now ≡ written g t es old) where
    abbrev n : Net
    n = net_of g (placing_of s) t

    w : AreWritten g t u old now
    w = subst (AreWritten g t u old) (sym is) all_written

    pub lawful : IsLawfulNet n
    lawful = nets_are_lawful g s t law ordered fits small

    pub from_old : AreEditedFrom g t es old now
    from_old = record { inputs = holds; count = solved.count; written = is }

    alike : AreAlike n (net_of g (placing_of s) u)
    alike = nets_alike g t u w.alike (placing_of s)

    module _ (waiting : List ℕ)
        (due : (k : ℕ) → IsStep n k → HasChangedRead n (table old) (table now) k → Contains waiting (n.key k))
        (only : (k : ℕ) → Contains waiting k → IsDue n (table old) (table now) k) where
      changed : IsChanged g s t u old now waiting
      changed =
          let m = net_of g (placing_of s) u in
          let back = alike_sym n m alike in
          record {
            lawful = law;
            ordered = ordered;
            fits = w.fits;
            alike = w.alike;
            small = small_over g t u w.alike (placing_of s) small;
            solved = solved;
            count = w.count ∙ solved.count ∙ same_instance_count t u w.alike g;
            inputs = w.inputs;
            stays = w.stays;
            due = λ k step c.
                subst (Contains waiting) (alike.key k)
                (due k (step_over m n back k step) (changed_over m n back (table old) (table now) k c));
            only = λ k c. due_over n m alike (table old) (table now) k (only k c);
          }

      pub known : (k : ℕ) → Contains waiting k → IsKeyOf n k
      known k c = key_of_due n (table old) (table now) k (only k c)

      pub laid : (after : List Value) (ran : List ℕ) → RunGives g s t now after waiting ran → length after ≡ length now
          → IsLaidOut g u old after ran
      laid after ran gives long =
          runs_lay_out_anew g s t u old now after waiting ran changed
          (runs_over g t u w.alike s now after waiting ran gives) long
