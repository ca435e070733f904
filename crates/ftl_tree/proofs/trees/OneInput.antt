-- A tree with another number for an input has it there, and all else as before.
use Rattle.std.proofs.Common.{◌≡◌, ℕ, ℤ, pos, get_or, sym, ap, ap₂, ◌∙◌, Contains, get_or-set_other, get_or-set_same}
use Rattle.std.specs.Prelude.{slice_set}
use Rattle.ftl_model.specs.lists.Lists.{place_in}
use Rattle.ftl_model.proofs.lists.Places.{place_is}
use Rattle.ftl_model.specs.layout.AttributeGrammar.{AttributeGrammar, class_inputs, input_value}
use Rattle.ftl_model.specs.layout.Path.{Has, Path, class_at, inputs_at, node_at, number_of}
use Rattle.ftl_model.specs.layout.Tree.{Forest}
use Rattle.ftl_model.specs.layout.TreeOf.{IsInput}
use Rattle.ftl_model.specs.layout.Values.{number}
use Rattle.ftl_model.proofs.layout.SameTrees.{same_classes}
use Rattle.ftl_model.proofs.layout.Standing.{node_at-number_of}
use Rattle.ftl_tree.proofs.rows.Access.{has_at, number_at}
use Rattle.ftl_model.specs.layout.WithInput.{ChangesOneInput, IsInputOf, changed, value_at, with_input}
use Rattle.ftl_tree.proofs.trees.Changed.{here, inputs_at-changed, keeps_lengths, keeps_width, other, tree-changed}
use Rattle.ftl_tree.proofs.trees.InputSet.{room, same}

module _ (g : AttributeGrammar) (t : Forest) (n a : ℕ) (z : ℤ) (at : IsInputOf g t n a)
    (fits : IsInput g.greatest z) where
  abbrev node : Path
  node = node_at t n

  abbrev class : ℕ
  class = class_at t node

  abbrev place : ℕ
  place = place_in (class_inputs g class) a

  abbrev after : Forest
  after = with_input g t n a z

  inputs_are : (p : Path) → Has t p → inputs_at after p ≡ changed n place z (number_of t p) (inputs_at t p)
  inputs_are p has =
      inputs_at-changed (changed n place z) g t at.is_tree
      (tree-changed (changed n place z) g (keeps_lengths n place z)
      (keeps_width n place z g.greatest fits) t at.is_tree)
      (keeps_lengths n place z) p has

  at_node : inputs_at after node ≡ slice_set (inputs_at t node) place z
  at_node =
      inputs_are node (has_at g t n at.is_tree at.known)
      ∙ here n place z (number_of t node) (inputs_at t node) (number_at g t n at.is_tree at.known)

  read_after : (b : ℕ) → value_at g after node b
      ≡ number (get_or (slice_set (inputs_at t node) place z) (place_in (class_inputs g class) b) (pos 0))
  read_after b =
      ap₂ (λ k xs. input_value g k b xs) (sym (same_classes t after (same g t n a z at) node)) at_node

  pub there : value_at g after node a ≡ number z
  there = read_after a ∙ ap number (get_or-set_same (inputs_at t node) place z (pos 0) (room g t n a z at))

  pub beside : (b : ℕ) → Contains (class_inputs g class) b → (b ≡ a → ⊥) → value_at g after node b ≡ value_at g t node b
  beside b has differ =
      let apart : place_in (class_inputs g class) b ≡ place → ⊥ =
      λ e. differ
      (sym (place_is (class_inputs g class) b 0 has) ∙ ap (λ i. get_or (class_inputs g class) i 0) e
      ∙ place_is (class_inputs g class) a 0 at.input) in
      read_after b ∙ ap number (get_or-set_other (inputs_at t node) place (place_in (class_inputs g class) b) z
      (pos 0) apart)

  pub elsewhere : (p : Path) → Has t p → (p ≡ node → ⊥) → inputs_at after p ≡ inputs_at t p
  elsewhere p has differ =
      inputs_are p has
      ∙ other n place z (number_of t p) (inputs_at t p)
      (λ e. differ (sym (node_at-number_of t p has) ∙ ap (node_at t) e))

pub changes_one : ChangesOneInput
changes_one g t n a z at fits = record {
  same = same g t n a z at;
  there = there g t n a z at fits;
  beside = beside g t n a z at fits;
  elsewhere = elsewhere g t n a z at fits;
}
