-- In a grammar without a fault names stand for something, and each for one thing.
use Rattle.std.proofs.Common.{◌≡◌, ℕ, ◌<◌, not, sym, ◌∙◌, ap, subst, [], ◌∷◌, ◌++◌, length, get_or, Contains, None}
use Rattle.std.specs.Str.{bytes_eq}
use Rattle.std.proofs.lemmas.Bool.{not-false}
use Rattle.std.proofs.lemmas.List.{get_or-map, length-map}
use Rattle.std.proofs.lemmas.List.Sums.{passes_at_first}
use Rattle.std.proofs.lemmas.Option.{get_or_from_slice_get, slice_get-get_or, slice_get_within}
use Rattle.ftl_grammar.specs.syntax.Trees as trees
use Rattle.ftl_grammar.specs.syntax.Trees.{NameText}
use Rattle.ftl_grammar.specs.declared.syntax.rules.Grammar.{Grammar}
use Rattle.ftl_grammar.specs.declared.syntax.rules.Interface.{Interface}
use Rattle.ftl_meaning.specs.faults.FirstFault.{attribute_names, fault_if, first_fault, second_name, twice_among, twice_in_interface, unknown_among}
use Rattle.ftl_meaning.specs.faults.Numbering.{class_names, interface_at, interface_names, interface_number, is_among}
use Rattle.ftl_meaning.specs.declared.faults.fault.GrammarFault.TheVariants as fault
use Rattle.ftl_meaning.proofs.lawful.NoFault.{no_fault, none_in, none_of}
use Rattle.ftl_meaning.specs.names.Places.{IsInterface, IsNamed}
use Rattle.ftl_meaning.proofs.names.NameFaults.{HasNoNameFault, no_name_fault, none_twice}
use Rattle.ftl_meaning.proofs.names.Names.{among_in, once_in_front, one_place, same_name}

module _ (g : Grammar) (none : first_fault g ≡ None) where
  names : HasNoNameFault g
  names = no_name_fault g none

  -- ---- interfaces

  -- the name of the interface at a place
  name_at : (j : ℕ) (x : Interface) → IsInterface g j x
      → (j < length (interface_names g)) × (get_or (interface_names g) j [] ≡ x.name)
  name_at j x at =
      let within = slice_get_within g.interfaces j x at in
      let d = trees.interface [] [] [] in (
        subst (λ n. j < n) (sym (length-map g.interfaces (λ x. x.name))) within,
        get_or-map (λ (x : Interface). x.name) g.interfaces j d [] within
            ∙ ap (λ (x : Interface). x.name) (get_or_from_slice_get g.interfaces j x d at),
      )

  -- a name with a number stands for the one interface that has it
  pub stands_for : (name : NameText) → interface_number g name < length g.interfaces
      → IsNamed g name (interface_number g name)
  stands_for name known =
      let i = interface_number g name in
      let there = slice_get-get_or g.interfaces i (trees.interface [] [] []) known in
      let here = name_at i (interface_at g i) there in
      let is = same_name name (get_or (interface_names g) i []) (passes_at_first (bytes_eq name) (interface_names g) [] here.0) in
      record {
        interface = interface_at g i;
        there = there;
        named = sym here.1 ∙ sym is;
        alone =
            λ j other at same.
            let that = name_at j other at in
            one_place (interface_names g)
            (once_in_front (interface_names g) (class_names g)
            (none_twice (interface_names g ++ class_names g) names.declared_once)) j i that.0 here.0
            (that.1 ∙ same ∙ is);
      }

  -- ---- an interface

  module _ (y : Interface) (there : Contains g.interfaces y) where
    -- a shown name is an attribute's
    pub shown_known : (name : NameText) → Contains y.shown name → Contains (attribute_names y.attrs) name
    shown_known name shown =
        among_in (attribute_names y.attrs) name
        (not-false (is_among (attribute_names y.attrs) name)
        (no_fault (not (is_among (attribute_names y.attrs) name)) (fault.UnknownName name)
        (none_of (λ name. fault_if (not (is_among (attribute_names y.attrs) name)) (fault.UnknownName name)) y.shown
        (none_of (λ x. unknown_among (attribute_names x.attrs) x.shown) g.interfaces names.shown_known y there) name shown)))

    -- no two attributes have one name
    pub attributes_once : second_name [] (attribute_names y.attrs) ≡ None
    attributes_once =
        none_twice (attribute_names y.attrs)
        (none_in (twice_among (attribute_names y.attrs) ∷ twice_among y.shown ∷ [])
        (none_of twice_in_interface g.interfaces names.interface_once y there)).0
