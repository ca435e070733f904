-- The tables of a checked grammar are those of the grammar that it means.
use Rattle.std.proofs.Common.{◌≡◌, ℕ, ◌<◌, true, false, [], length, refl, sym, ap, ◌∙◌, subst, arith, None}
use Rattle.ftl_base.specs.Widths.{greatest_of_width}
use Rattle.ftl_deps.specs.reads.Meant.{meant}
use Rattle.ftl_meaning.specs.faults.Checked.{CheckedGrammar, all_attributes}
use Rattle.ftl_meaning.specs.faults.FirstFault.{first_fault}
use Rattle.ftl_meaning.specs.faults.Kinds.{HasKinds}
use Rattle.ftl_meaning.proofs.lawful.RequiredRules.{child_known, interface_known}
use Rattle.ftl_meaning.proofs.lawful.WithinLimits.{within_limits}
use Rattle.ftl_noncircular.specs.declared.search.shape.Kid.{Kid}
use Rattle.ftl_noncircular.specs.declared.search.shape.Shape.{Shape}
use Rattle.ftl_noncircular.specs.search.Numbers.{ArePlaces}
use Rattle.ftl_noncircular.specs.search.Shapes.{AreAttributes, AreClasses, AreInterfaces, ArePorts, owner_at}
use Rattle.ftl_noncircular.specs.search.Tables.{IsOwnerOf, IsTable, no_kid, no_owner, port_sort}
use Rattle.ftl_noncircular.proofs.search.OwnerLaws.{attribute_count_is, private_known, private_owner, shared_known}
use Rattle.ftl_noncircular.proofs.search.OwnerLaws.{shared_owner}
use Rattle.ftl_noncircular.proofs.search.PlaceLaws.{all_places, are_places, places_count}
use Rattle.ftl_noncircular.proofs.search.ReadLaws.{lawful_meant}

module _ (c : CheckedGrammar) (none : first_fault c.grammar ≡ None) (kinds : HasKinds c.grammar) (s : Shape)
    (places : s.places ≡ all_places c none)
    (owners : IsTable (IsOwnerOf c.grammar) no_owner (length (all_attributes c.grammar)) s.owners) where
  owned : (a : ℕ) → a < (meant c).attribute_count → IsOwnerOf c.grammar a (owner_at s a)
  owned a within = owners.each a (let e = attribute_count_is c in omega (arith, e, within))

  within_all : (a : ℕ) → a < (meant c).attribute_count → a < length (all_attributes c.grammar)
  within_all a within = let e = attribute_count_is c in omega (arith, e, within)

  pub attributes_are : AreAttributes (meant c) s
  attributes_are = record {
    few = (within_limits c.grammar none (greatest_of_width c.width)).attributes;
    places_count = ap length places ∙ places_count c none;
    places = subst (ArePlaces (meant c)) (sym places) (are_places c none);
    owners_count = owners.size ∙ sym (attribute_count_is c);
    shared_known = shared_known (meant c) (lawful_meant (meant c) c refl none kinds);
    private_known = private_known (meant c) (lawful_meant (meant c) c refl none kinds);
    shared = λ i a known within.
        let both = shared_owner c none kinds a (within_all a within) i known in
        let is = owned a within in (
          (λ there. let h = both.0 there in (is.0 ∙ h.0, is.1 ∙ h.1)),
          (λ h. both.1 (sym is.0 ∙ h.0, sym is.1 ∙ h.1)),
        );
    private = λ k a known within.
        let both = private_owner c none kinds a (within_all a within) k known in
        let is = owned a within in (
          (λ there. let h = both.0 there in (is.0 ∙ h.0, is.1 ∙ h.1)),
          (λ h. both.1 (sym is.0 ∙ h.0, sym is.1 ∙ h.1)),
        );
  }

pub ports_are : (c : CheckedGrammar) (s : Shape)
    → IsTable (λ i. ArePorts (meant c) i (port_sort true)) [] (meant c).interface_count s.inherited
    → IsTable (λ i. ArePorts (meant c) i (port_sort false)) [] (meant c).interface_count s.synthesized
    → AreInterfaces (meant c) s
ports_are c s above below = record {
  inherited_count = above.size;
  inherited = above.each;
  synthesized_count = below.size;
  synthesized = below.each;
}

pub classes_are : (c : CheckedGrammar) → first_fault c.grammar ≡ None → (s : Shape)
    → IsTable (λ k i. i ≡ (meant c).interface k) 0 (meant c).class_count s.interfaces
    → IsTable
    (λ k kids. IsTable (λ d (x : Kid). (x.interface ≡ (meant c).child_interface k d)
    × (x.many ≡ (meant c).is_list k d)) no_kid
    ((meant c).child_count k) kids)
    [] (meant c).class_count s.kids
    → AreClasses (meant c) s
classes_are c none s interfaces kids = record {
  few = (within_limits c.grammar none (greatest_of_width c.width)).classes;
  interfaces_count = interfaces.size;
  interfaces = interfaces.each;
  interfaces_known = λ k known. interface_known c.grammar none k known;
  kids_count = kids.size;
  child_count = λ k known. (kids.each k known).size;
  children_few = λ k known. (within_limits c.grammar none (greatest_of_width c.width)).children k known;
  child_interface = λ k d known child. ((kids.each k known).each d child).0;
  many = λ k d known child. ((kids.each k known).each d child).1;
  children_known = λ k d known child. child_known c.grammar none k d known child;
}
