-- Values computed anew after a change of inputs: which instances it touches, and what a run of the queue gives.
use Rattle.std.specs.Prelude.{◌≡◌, ◌≢◌, ℕ, List, length, Contains}
use Rattle.ftl_model.specs.lists.Lists.{AreDistinct}
use Rattle.ftl_model.specs.layout.AttributeGrammar.{AttributeGrammar}
use Rattle.ftl_model.specs.layout.Inputs.{IsSameButInputs}
use Rattle.ftl_model.specs.layout.Solves.{Instance}
use Rattle.ftl_model.specs.layout.Table.{SolvesList, instance_count, instance_number, value_in}
use Rattle.ftl_model.specs.layout.Tree.{Forest}
use Rattle.ftl_model.specs.layout.TreeOf.{IsTreeOf}
use Rattle.ftl_model.specs.layout.Values.{Value}
use Rattle.ftl_order.specs.orders.Lawful.{IsLawful}
use Rattle.ftl_order.specs.orders.LegalOrder.{HoldsInputs, IsStep}
use Rattle.ftl_order.specs.orders.Ordered.{IsOrdered}
use Rattle.ftl_order.specs.orders.Reads.{Reads}
use Rattle.ftl_order.specs.orders.Schedule.{Schedule, placing_of}
use Rattle.ftl_relayout.specs.queue.Nets.{IsLawfulNet, table}
use Rattle.ftl_relayout.specs.queue.Ready.{HasChangedRead, IsDone, IsDue, IsReady}
use Rattle.ftl_relayout.specs.queue.Nets.{IsStep as IsStepOfNet}
use Rattle.ftl_relayout.specs.laws.TreeNets.{HasSmallKeys, net_of}

-- a computed instance one of whose reads has different values in two tables
abbrev pub IsTouched : AttributeGrammar → Forest → (Instance → Value) → (Instance → Value) → Instance → Type 0
IsTouched g t s r i = IsStep g t i × (j : Instance) × Reads g t i j × (s j ≢ r j)

-- the list has the numbers of the touched instances, each once, and no other
pub record AreTouched (g : AttributeGrammar) (t : Forest) (s r : Instance → Value) (numbers : List ℕ) : Type 0 where
  pub has : (i : Instance) → IsTouched g t s r i → Contains numbers (instance_number g t i)
  pub only : (n : ℕ) → Contains numbers n → (i : Instance) × IsTouched g t s r i × (instance_number g t i ≡ n)
  pub once : AreDistinct numbers

-- a list that solves tree `t`, but for the inputs, which are those of tree `u`; and the keys of what reads a changed one
pub record IsChanged (g : AttributeGrammar) (s : Schedule) (t u : Forest) (old values : List Value) (waiting : List ℕ) : Type 0 where
  pub lawful : IsLawful g
  pub ordered : IsOrdered g s
  pub fits : IsTreeOf g u
  pub alike : IsSameButInputs t u
  pub small : HasSmallKeys g (placing_of s) u
  pub solved : SolvesList g t old
  pub count : length values ≡ instance_count g u
  pub inputs : HoldsInputs g u values
  pub stays : (i : Instance) → IsStep g u i → value_in g u values i ≡ value_in g u old i
  pub due :
      (k : ℕ) → IsStepOfNet (net_of g (placing_of s) u) k
      → HasChangedRead (net_of g (placing_of s) u) (table old) (table values) k
      → Contains waiting ((net_of g (placing_of s) u).key k)
  pub only : (k : ℕ) → Contains waiting k → IsDue (net_of g (placing_of s) u) (table old) (table values) k

-- what a run of the queue gives of the cells
abbrev pub RunGives : AttributeGrammar → Schedule → Forest → (values after : List Value) → (waiting ran : List ℕ) → Type 0
RunGives g s u values after waiting ran =
    (old final : ℕ → Value) → IsReady (net_of g (placing_of s) u) old final values waiting
    → IsDone (net_of g (placing_of s) u) old final after ran

-- is the list that solves the changed tree, and the touched instances
pub record IsLaidOut (g : AttributeGrammar) (u : Forest) (old after : List Value) (ran : List ℕ) : Type 0 where
  pub solves : SolvesList g u after
  pub touched : AreTouched g u (value_in g u old) (value_in g u after) ran

abbrev pub NetsAreLawful : Type 0
NetsAreLawful =
    (g : AttributeGrammar) (s : Schedule) (t : Forest) → IsLawful g → IsOrdered g s → IsTreeOf g t
    → HasSmallKeys g (placing_of s) t → IsLawfulNet (net_of g (placing_of s) t)

abbrev pub RunsLayOutAnew : Type 0
RunsLayOutAnew =
    (g : AttributeGrammar) (s : Schedule) (t u : Forest) (old values after : List Value) (waiting ran : List ℕ)
    → IsChanged g s t u old values waiting → RunGives g s u values after waiting ran
    → length after ≡ length values → IsLaidOut g u old after ran
