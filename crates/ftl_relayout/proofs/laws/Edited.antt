-- Edits of inputs, written into a list of values.
use Rattle.std.proofs.Common.{true, ◌≡◌, ◌⊎◌, ℕ, suc, ◌+◌, ℤ, refl, sym, ◌∙◌, ap, ap₂, subst, inl, inr, ⊎_elim, arith, List, [], ◌∷◌, Contains, length, get_or, set, length-set, get_or-set_same, get_or-set_other}
use native.Mathlib.Decide.{ℕ_discrete}
use Rattle.ftl_model.proofs.lists.Elements.{filter_has, in_filter}
use Rattle.ftl_model.specs.layout.AttributeGrammar.{AttributeGrammar, Sort, attributes_of, class_inputs, inherited, input, input_value, is_input, local, synthesized}
use Rattle.ftl_model.specs.layout.Inputs.{IsSameButInputs}
use Rattle.ftl_model.specs.layout.Path.{Has, Path, class_at, inputs_at, node_at, preorder, top}
use Rattle.ftl_model.specs.layout.Solves.{Instance, IsInstance, instance_of}
use Rattle.ftl_model.specs.layout.Table.{instance_count, instance_number, value_in}
use Rattle.ftl_model.specs.layout.Tree.{Forest, none, size, tree}
use Rattle.ftl_model.specs.layout.TreeOf.{IsInput, IsTreeOf}
use Rattle.ftl_model.specs.layout.Values.{Value, number, overflow}
use Rattle.ftl_model.specs.layout.WithInput.{ChangesOneInput, IsChangedThere, IsInputOf, value_at, with_input}
use Rattle.ftl_model.proofs.layout.Numbering.{has-node_at}
use Rattle.ftl_model.proofs.layout.SameTrees.{same_classes, same_instance_count, same_instance_number, same_nodes, same_preorder, same_sym}
use Rattle.ftl_order.specs.orders.Lawful.{IsLawful, OfClass}
use Rattle.ftl_order.specs.orders.LegalOrder.{HoldsInputs, IsStep}
use Rattle.ftl_order.proofs.orders.Instances.{instance_at_number, number_within}
use Rattle.ftl_order.proofs.orders.Kids.{root_there}
use Rattle.ftl_edits.specs.declared.meaning.types.Edit.{Edit}
use Rattle.ftl_relayout.specs.laws.Edits.{AreInputEdits, AreWritten, with_edits, edited_cell, written}
use Rattle.ftl_relayout.proofs.laws.Rising.{tree_size}

pub same_size : (t u : Forest) → IsSameButInputs t u → size t ≡ size u
same_size none none h = refl
same_size none (tree l d j c r) h = absurd h
same_size (tree k c i b s) none h = absurd h
same_size (tree k c i b s) (tree l d j v w) h =
    ap₂ (λ m n. suc (m + n)) (same_size b v h.3) (same_size s w h.4)

same_trans : (t u v : Forest) → IsSameButInputs t u → IsSameButInputs u v → IsSameButInputs t v
same_trans none none none h k = tt
same_trans none none (tree l d j c r) h k = absurd k
same_trans none (tree l d j c r) v h k = absurd h
same_trans (tree k c i b s) none v h l = absurd h
same_trans (tree k c i b s) (tree l d j v w) none h m = absurd m
same_trans (tree k c i b s) (tree l d j v w) (tree o p q x y) h m =
    (h.0 ∙ m.0, h.1 ∙ m.1, h.2 ∙ m.2, same_trans b v x h.3 m.3, same_trans s w y h.4 m.4)

same_self : (t : Forest) → IsSameButInputs t t
same_self none = tt
same_self (tree k c i b s) = (refl, refl, refl, same_self b, same_self s)

pub sort_given : (sort : Sort) → is_input sort ≡ true → sort ≡ input
sort_given input e = refl
sort_given inherited e = absurd (let z : ⊥ = grind (arith, e) in z)
sort_given synthesized e = absurd (let z : ⊥ = grind (arith, e) in z)
sort_given local e = absurd (let z : ⊥ = grind (arith, e) in z)

given_sort : (sort : Sort) → sort ≡ input → is_input sort ≡ true
given_sort sort e = ap is_input e

module _ (g : AttributeGrammar) (law : IsLawful g) (t : Forest) (fits : IsTreeOf g t) (n a : ℕ) (z : ℤ)
    (is : IsInputOf g t n a) (fits' : IsTreeOf g (with_input g t n a z))
    (there : IsChangedThere g t (with_input g t n a z) n a z) where
  abbrev u : Forest
  u = with_input g t n a z

  abbrev node : Path
  node = node_at t n

  abbrev target : Instance
  target = instance_of node a

  has_node : Has t node
  has_node =
      has-node_at t n (root_there g t fits)
      (⊎_elim (λ s. let k = is.known in let w = whole t fits in omega (arith, k, w))
      (λ e. absurd (let r = root_there g t fits in subst (λ f. Rattle.ftl_model.specs.layout.Tree.IsTree f) e r)) (tree_size t))
    where
      whole : (f : Forest) → IsTreeOf g f → size f ≡ suc (size (Rattle.ftl_model.specs.layout.Tree.below_of f))
      whole none h = absurd h
      whole (tree k c i b s) h =
          let e = ap size h.4 in let y : suc (size b + size s) ≡ suc (size b) = omega (arith, e) in y

  in_class : Contains (attributes_of g (class_at t node)) a
  in_class = (in_filter (λ b. is_input (g.sort b)) (attributes_of g (class_at t node)) a is.input).0

  is_given : g.sort a ≡ input
  is_given =
      sort_given (g.sort a) (in_filter (λ b. is_input (g.sort b)) (attributes_of g (class_at t node)) a is.input).1

  target_valid : IsInstance g t target
  target_valid = (has_node, in_class)

  back : (i : Instance) → IsInstance g u i → IsInstance g t i
  back i h = (
    same_nodes u t (same_sym t u there.same) i.node h.0,
    subst (λ k. OfClass g k i.attribute) (sym (same_classes t u there.same i.node)) h.1,
  )

  one_number : (i : Instance) → IsInstance g t i → instance_number g t i ≡ instance_number g t target → i ≡ target
  one_number i valid e =
      sym (instance_at_number g t i.node i.attribute i valid.0 valid.1)
      ∙ ap (λ m. get_or (Rattle.ftl_model.specs.layout.Table.instances g t) m i) e
      ∙ instance_at_number g t node a i target_valid.0 target_valid.1

  path_or_not : (i : Instance) → IsInstance g t i → (i ≡ target) ⊎ (i ≡ target → ⊥)
  path_or_not i valid = go (ℕ_discrete (instance_number g t i) (instance_number g t target))
    where
      go : Dec (instance_number g t i ≡ instance_number g t target) → (i ≡ target) ⊎ (i ≡ target → ⊥)
      go (yes e) = inl (one_number i valid e)
      go (no d) = inr (λ e. d (ap (instance_number g t) e))

  module _ (values : List Value) (count : length values ≡ instance_count g t) where
    abbrev after : List Value
    after = set values (instance_number g t target) (number z)

    at_target : value_in g u after target ≡ number z
    at_target =
        ap (λ m. get_or after m overflow) (sym (same_instance_number t u there.same g target))
        ∙ get_or-set_same values (instance_number g t target) (number z) overflow
        (let w = number_within g t node a target_valid.0 target_valid.1 in omega (arith, w, count))

    at_other : (i : Instance) → IsInstance g t i → (i ≡ target → ⊥) → value_in g u after i ≡ value_in g t values i
    at_other i valid differ =
        ap (λ m. get_or after m overflow) (sym (same_instance_number t u there.same g i))
        ∙ get_or-set_other values (instance_number g t target) (instance_number g t i) (number z) overflow
        (λ e. differ (one_number i valid e))

    same_input : (i : Instance) → IsInstance g t i → g.sort i.attribute ≡ input → (i ≡ target → ⊥)
        → value_at g u i.node i.attribute ≡ value_at g t i.node i.attribute
    same_input i valid given differ = go (node_or_not (λ e. e))
      where
        node_or_not : (Has t i.node → Has t i.node) → (i.node ≡ node) ⊎ (i.node ≡ node → ⊥)
        node_or_not h = by (ℕ_discrete (Rattle.ftl_model.specs.layout.Path.number_of t i.node)
            (Rattle.ftl_model.specs.layout.Path.number_of t node))
          where
            by : Dec (Rattle.ftl_model.specs.layout.Path.number_of t i.node ≡ Rattle.ftl_model.specs.layout.Path.number_of t node)
                → (i.node ≡ node) ⊎ (i.node ≡ node → ⊥)
            by (yes e) =
                inl
                (sym (Rattle.ftl_model.proofs.layout.Standing.node_at-number_of t i.node valid.0) ∙ ap (node_at t) e
                ∙ Rattle.ftl_model.proofs.layout.Standing.node_at-number_of t node has_node)
            by (no d) = inr (λ e. d (ap (Rattle.ftl_model.specs.layout.Path.number_of t) e))

        listed : (p : Path) → i.node ≡ p → Contains (class_inputs g (class_at t p)) i.attribute
        listed p e =
            subst (λ q. Contains (class_inputs g (class_at t q)) i.attribute) e
            (filter_has (λ b. is_input (g.sort b)) (attributes_of g (class_at t i.node)) i.attribute valid.1
            (given_sort (g.sort i.attribute) given))

        go : (i.node ≡ node) ⊎ (i.node ≡ node → ⊥) → value_at g u i.node i.attribute ≡ value_at g t i.node i.attribute
        go (inl e) =
            subst (λ q. value_at g u q i.attribute ≡ value_at g t q i.attribute) (sym e)
            (there.beside i.attribute (listed node e)
            (λ b. differ (ap (λ q. instance_of q i.attribute) e ∙ ap (instance_of node) b)))
        go (inr other) =
            ap₂ (λ k ns. input_value g k i.attribute ns) (sym (same_classes t u there.same i.node))
            (there.elsewhere i.node valid.0 other)

    pub now_holds : HoldsInputs g t values → HoldsInputs g u after
    now_holds holds i valid given =
        ⊎_elim
        (λ e.
        subst (λ x. value_in g u after x ≡ value_at g u x.node x.attribute) (sym e) (at_target ∙ sym there.there))
        (λ other.
        at_other i (back i valid) other ∙ holds i (back i valid) given
        ∙ sym (same_input i (back i valid) given other))
        (path_or_not i (back i valid))

    pub step_stays : (i : Instance) → IsStep g u i → value_in g u after i ≡ value_in g t values i
    step_stays i step =
        at_other i (back i step.0) (λ e. step.1 (ap (λ x. g.sort x.attribute) e ∙ is_given))

  pub input_still : (m b : ℕ) → IsInputOf g t m b → IsInputOf g u m b
  input_still m b h = record {
    is_tree = fits';
    known = let e = same_size t u there.same in let k = h.known in omega (arith, e, k);
    input =
        subst (λ k. Contains (class_inputs g k) b)
        (same_classes t u there.same (node_at t m)
        ∙ ap (λ ps. class_at u (get_or ps m top)) (same_preorder t u there.same)) h.input;
  }

pub still_edits : (g : AttributeGrammar) (t u : Forest) → ((m b : ℕ) → IsInputOf g t m b → IsInputOf g u m b)
    → (es : List Edit) → AreInputEdits g t es → AreInputEdits g u es
still_edits g t u still [] h = tt
still_edits g t u still (e ∷ es) h =
    ((still e.node e.attr h.0.0, h.0.1), still_edits g t u still es h.1)

-- cells have the same numbers in both trees
cell_same : (g : AttributeGrammar) (t u : Forest) → IsSameButInputs t u → (e : Edit)
    → edited_cell g t e ≡ edited_cell g u e
cell_same g t u same e =
    same_instance_number t u same g (instance_of (node_at t e.node) e.attr)
    ∙ ap (λ ps. instance_number g u (instance_of (get_or ps e.node top) e.attr)) (same_preorder t u same)

written_same : (g : AttributeGrammar) (t u : Forest) → IsSameButInputs t u → (es : List Edit) (values : List Value)
    → written g t es values ≡ written g u es values
written_same g t u same [] values = refl
written_same g t u same (e ∷ es) values =
    written_same g t u same es (set values (edited_cell g t e) (number e.value))
    ∙ ap (λ c. written g u es (set values c (number e.value))) (cell_same g t u same e)

-- a tree with another number for an input is a tree of the grammar
abbrev pub StayTrees : Type 0
StayTrees =
    (g : AttributeGrammar) (t : Forest) (node attribute : ℕ) (z : ℤ) → IsInputOf g t node attribute
    → IsInput g.greatest z → IsTreeOf g (with_input g t node attribute z)

-- the law by what is said of one edit
pub edits_are_written : ChangesOneInput → StayTrees → (g : AttributeGrammar) (t : Forest) → IsLawful g
    → IsTreeOf g t → (es : List Edit) → AreInputEdits g t es → (values : List Value)
    → length values ≡ instance_count g t → HoldsInputs g t values
    → AreWritten g t (with_edits g t es) values (written g t es values)
edits_are_written one stay g t law fits [] edits values count holds = record {
  alike = same_self t;
  fits = fits;
  count = refl;
  inputs = holds;
  stays = λ i step. refl;
}
edits_are_written one stay g t law fits (e ∷ es) edits values count holds =
    let u = with_input g t e.node e.attr e.value in
    let there = one g t e.node e.attr e.value edits.0.0 edits.0.1 in
    let fits' = stay g t e.node e.attr e.value edits.0.0 edits.0.1 in
    let after = set values (edited_cell g t e) (number e.value) in
    let rest =
    edits_are_written one stay g u law fits' es
    (still_edits g t u (input_still g law t fits e.node e.attr e.value edits.0.0 fits' there) es edits.1) after
    (length-set values (edited_cell g t e) (number e.value) ∙ count ∙ same_instance_count t u there.same g)
    (now_holds g law t fits e.node e.attr e.value edits.0.0 fits' there values count holds) in
    let moved = written_same g t u there.same es after in
    record {
      alike = same_trans t u (with_edits g u es) there.same rest.alike;
      fits = rest.fits;
      count = ap length moved ∙ rest.count ∙ length-set values (edited_cell g t e) (number e.value);
      inputs = subst (HoldsInputs g (with_edits g u es)) (sym moved) rest.inputs;
      stays = λ i step.
          let last = with_edits g u es in
          let step_u : IsStep g u i = (
            (
              same_nodes last u (same_sym u last rest.alike) i.node step.0.0,
              subst (λ k. OfClass g k i.attribute) (sym (same_classes u last rest.alike i.node)) step.0.1,
            ),
            step.1,
          ) in
          ap (λ vs. value_in g last vs i) moved
          ∙ rest.stays i step
          ∙ ap (λ m. get_or after m overflow) (sym (same_instance_number u last rest.alike g i))
          ∙ step_stays g law t fits e.node e.attr e.value edits.0.0 fits' there values count i step_u
          ∙ ap (λ m. get_or values m overflow)
          (same_instance_number t u there.same g i ∙ same_instance_number u last rest.alike g i);
    }
