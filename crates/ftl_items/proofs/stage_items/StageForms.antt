-- The passes of a stage of an ordered schedule meet what is asked of forms.
use Rattle.std.proofs.Common.{◌≡◌, ◌≢◌, ◌⊎◌, ℕ, ◌<◌, refl, sym, ◌∙◌, ap₂, subst, inl, inr, ⊎_elim, arith, List, length, Contains}
use Rattle.ftl_cells.specs.declared.shared.kind.CellKind.TheVariants.{Given}
use Rattle.ftl_model.specs.lists.Lists.{AreDistinct, StandsBefore}
use Rattle.ftl_model.proofs.lists.Rising.{before_once}
use Rattle.ftl_model.specs.layout.AttributeGrammar.{AttributeGrammar, Sort, inherited, input, local, synthesized}
use Rattle.ftl_model.specs.layout.Path.{Has, Path, top}
use Rattle.ftl_model.specs.layout.Solves.{Instance}
use Rattle.ftl_model.specs.layout.Tree.{Forest, IsTree}
use Rattle.ftl_model.specs.layout.TreeOf.{IsTreeOf}
use Rattle.ftl_order.specs.orders.Lawful.{IsLawful}
use Rattle.ftl_order.specs.orders.LegalOrder.{DirectlyFirstInPass, IsStep, KeyFirst, address, turn_of}
use Rattle.ftl_order.specs.orders.Ordered.{IsOrdered}
use Rattle.ftl_order.specs.orders.Reads.{Reads}
use Rattle.ftl_order.specs.orders.Schedule.{IsOnePass, PassKind, Schedule, bottomup, inorder, pass_at, placing_of}
use Rattle.ftl_order.specs.orders.Schedule.{topdown}
use Rattle.ftl_order.specs.orders.Sequence.{sequence_at}
use Rattle.ftl_order.proofs.orders.DirectPrecedence.{reads_direct}
use Rattle.ftl_order.proofs.orders.Kids.{root_there}
use Rattle.ftl_order.proofs.orders.SequenceAddresses.{EarlierAddress}
use Rattle.ftl_order.proofs.orders.SequenceOnly.{rising_distinct, sequence_only}
use Rattle.ftl_order.proofs.orders.SequenceOrder.{sequence_rises, stands_by_address, step_there, top_above}
use Rattle.ftl_order.proofs.orders.TreeEquations.{inside_by}
use Rattle.ftl_items.specs.stage_items.FormLaws.{AreForms, IsOfPass, StandsDirectlyBefore, steps_at_node}
use Rattle.ftl_items.specs.stage_items.Items.{PassForm, form_of, passes_of, pass_place}
use Rattle.ftl_items.specs.stage_items.StageWork.{kind_of}
use Rattle.ftl_items.specs.stage_items.Visits.{visit}
use Rattle.ftl_items.proofs.stage_items.Ahead.{ahead_stands}
use Rattle.ftl_items.proofs.stage_items.ByKey.{key_ahead}
use Rattle.ftl_items.proofs.stage_items.CellKinds.{kind_given, kind_target, target_kind_of}
use Rattle.ftl_items.proofs.stage_items.Passes.{listed_at}
use Rattle.ftl_items.proofs.stage_items.PassSteps.{listed_here, many_of, once_at_most, pass_of_step, visit_there}
use Rattle.ftl_items.proofs.stage_items.VisitLaws.{in_visit, visit_has, visit_once}

input_or_computed : (sort : Sort) → (sort ≡ input) ⊎ (sort ≢ input)
input_or_computed input = inl refl
input_or_computed inherited = inr (grind arith)
input_or_computed synthesized = inr (grind arith)
input_or_computed local = inr (grind arith)

-- a step stands at the node of its visit
abbrev pub place : AttributeGrammar → Instance → Path
place g i = (turn_of g i).visit

module _ (g : AttributeGrammar) (s : Schedule) (t : Forest) (law : IsLawful g) (ordered : IsOrdered g s)
    (fits : IsTreeOf g t) (grain stage : ℕ) where
  root : IsTree t
  root = root_there g t fits

  abbrev pub forms : ℕ → PassForm
  forms m = form_of g s stage t grain m

  -- a step that stands at a node in a pass
  abbrev pub Of : ℕ → Instance → Type 0
  Of m i = IsOfPass t (length (passes_of s stage)) forms (place g) m i

  abbrev attributes_at : ℕ → List ℕ
  attributes_at m = (pass_at s stage m).attributes

  has_at : (m : ℕ) (i : Instance) → IsStep g t i → IsOnePass (placing_of s i.attribute) (pass_place stage m)
      → (kind : PassKind)
      → Contains (steps_at_node kind (forms m) (place g i)) i
  has_at m i step pass topdown =
      visit_has g law t fits (attributes_at m) (place g i) i step
      (listed_here g s t law ordered.once fits stage m i step pass) refl
  has_at m i step pass bottomup =
      visit_has g law t fits (attributes_at m) (place g i) i step
      (listed_here g s t law ordered.once fits stage m i step pass) refl
  has_at m i step pass inorder =
      step_there g law s ordered.once t fits (pass_place stage m) top root i step (top_above (place g i)) pass

  -- a step of the tree whose attribute stands in a pass is of the pass
  pub of_step : (m : ℕ) (i : Instance) → IsStep g t i → IsOnePass (placing_of s i.attribute) (pass_place stage m)
      → Of m i
  of_step m i step pass =
      let l = listed_at s i.attribute (many_of g s t law ordered.once fits stage i step) in
      record {
        known =
            subst (λ n. n < length (passes_of s stage)) pass.1
            (subst (λ u. (placing_of s i.attribute).pass < length (passes_of s u)) pass.0 l.known);
        there = visit_there g s t law ordered.once fits stage i step;
        has = has_at m i step pass (pass_at s stage m).kind;
      }

  -- what stands at a node in a pass is a step of the tree, of the pass and of the visit
  pub record OwnStep (kind : PassKind) (m : ℕ) (p : Path) (i : Instance) : Type 0 where
    pub step : IsStep g t i
    pub pass : IsOnePass (placing_of s i.attribute) (pass_place stage m)
    pub here : kind ≢ inorder → place g i ≡ p

  visited : (kind : PassKind) (m : ℕ) (p : Path) (i : Instance) → Has t p
      → Contains (visit g t (attributes_at m) p) i → OwnStep kind m p i
  visited kind m p i there h =
      let v = in_visit g law t fits (attributes_at m) p there i h in
      record { step = v.0; pass = pass_of_step g s t law ordered.once fits stage m i v.0 v.1; here = λ some. v.2 }

  own_step : (kind : PassKind) (m : ℕ) (p : Path) (i : Instance) → Has t p
      → Contains (steps_at_node kind (forms m) p) i → OwnStep kind m p i
  own_step topdown m p i there h = visited topdown m p i there h
  own_step bottomup m p i there h = visited bottomup m p i there h
  own_step inorder m p i there h =
      let o = sequence_only g (placing_of s) (pass_place stage m) t top root i h in
      record { step = o.0; pass = o.1; here = λ some. absurd (some refl) }

  pub step_of : (m : ℕ) (i : Instance) → Of m i → OwnStep (pass_at s stage m).kind m (place g i) i
  step_of m i of = own_step (pass_at s stage m).kind m (place g i) i of.there of.has

  once_at : (kind : PassKind) (m : ℕ) (p : Path) → Has t p → AreDistinct (steps_at_node kind (forms m) p)
  once_at topdown m p there =
      visit_once g law t fits (attributes_at m) p (once_at_most g s t law ordered.once fits stage m) there
  once_at bottomup m p there =
      visit_once g law t fits (attributes_at m) p (once_at_most g s t law ordered.once fits stage m) there
  once_at inorder m p there =
      rising_distinct (EarlierAddress g (placing_of s))
      (λ i h. before_once (address (placing_of s) (turn_of g i)) (address (placing_of s) (turn_of g i)) h h)
      (sequence_at g (placing_of s) (pass_place stage m) t top)
      (sequence_rises g law s ordered.once t fits (pass_place stage m) top root)

  -- ---- two steps of a pass

  module _ (m : ℕ) (i j : Instance) (of_i : Of m i) (of_j : Of m j) where
    own_i : OwnStep (pass_at s stage m).kind m (place g i) i
    own_i = step_of m i of_i

    own_j : OwnStep (pass_at s stage m).kind m (place g j) j
    own_j = step_of m j of_j

    in_one_visit : place g j ≡ place g i → KeyFirst (placing_of s) (turn_of g j) (turn_of g i)
        → StandsBefore (visit g t (attributes_at m) (place g i)) j i
    in_one_visit same first =
        ahead_stands (visit g t (attributes_at m) (place g i)) j i
        (key_ahead g law t fits s ordered.once stage m (place g i) j i of_i.there
        (subst (λ v. Contains (visit g t (attributes_at m) v) j) same (has_at m j own_j.step own_j.pass topdown))
        (has_at m i own_i.step own_i.pass topdown) first)

    directly_before : (kind : PassKind) → DirectlyFirstInPass kind (placing_of s) (turn_of g j) (turn_of g i)
        → StandsDirectlyBefore kind (forms m) (place g) j i
    directly_before topdown first =
        ⊎_elim (λ own. inl (own.0, in_one_visit own.0 own.1)) (λ parent. inr parent) first
    directly_before bottomup first =
        ⊎_elim (λ own. inl (own.0, in_one_visit own.0 own.1)) (λ parent. inr parent) first
    directly_before inorder first =
        stands_by_address g law s ordered.once t fits (pass_place stage m) top root j i
        (has_at m j own_j.step own_j.pass inorder) (has_at m i own_i.step own_i.pass inorder) first

  reads_before : (m : ℕ) (i j : Instance) → Of m i → Reads g t i j
      → (kind_of g s stage j ≡ Given) ⊎ (Of m j × StandsDirectlyBefore (pass_at s stage m).kind (forms m) (place g) j i)
  reads_before m i j of_i reads =
      let own = step_of m i of_i in
      let is_given = kind_given (g.sort j.attribute) (placing_of s j.attribute).stage stage in
      ⊎_elim (λ given. inl (is_given (inl given)))
      (λ computed.
      let step_j : IsStep g t j = (
        inside_by g law t fits (g.sort i.attribute) i.node i.attribute refl own.step.0.0 own.step.0.1 j reads,
        computed,
      ) in
      ⊎_elim (λ given. inl (is_given (inl given)))
      (λ near.
      ⊎_elim
      (λ earlier. inl (is_given (inr (subst (λ n. (placing_of s j.attribute).stage < n) own.pass.0 earlier))))
      (λ one.
      let of_j = of_step m j step_j (one.0.0 ∙ own.pass.0, one.0.1 ∙ own.pass.1) in
      let kind : (placing_of s i.attribute).kind ≡ (pass_at s stage m).kind =
      ap₂ (λ u v. (pass_at s u v).kind) own.pass.0 own.pass.1 in
      inr (
        of_j,
        directly_before m i j of_i of_j (pass_at s stage m).kind
            (subst (λ k. DirectlyFirstInPass k (placing_of s) (turn_of g j) (turn_of g i)) kind one.1),
      )) near)
      (reads_direct g law (placing_of s) t fits ordered.pairs i j own.step.0 reads))
      (input_or_computed (g.sort j.attribute))

  pub stage_forms : AreForms g t (length (passes_of s stage)) forms (kind_of g s stage) (place g)
  stage_forms =
      record {
        step = λ m i of. (step_of m i of).step;
        one = λ m n i of_m of_n. sym (step_of m i of_m).pass.1 ∙ (step_of n i of_n).pass.1;
        target = λ m i of.
            let own = step_of m i of in
            kind_target (g.sort i.attribute) (placing_of s i.attribute).stage stage own.step.1 own.pass.0;
        targets = λ i valid e.
            let kind = target_kind_of (g.sort i.attribute) (placing_of s i.attribute).stage stage e in
            ((placing_of s i.attribute).pass, of_step (placing_of s i.attribute).pass i (valid, kind.0) (kind.1, refl));
        placed = λ m known p there i h.
            let own = own_step (pass_at s stage m).kind m p i there h in
            (visit_there g s t law ordered.once fits stage i own.step, own.here);
        once = λ m known p there. once_at (pass_at s stage m).kind m p there;
        reads = reads_before;
      }
