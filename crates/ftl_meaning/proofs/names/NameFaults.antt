-- In a grammar without a fault no name stands twice or for nothing, and the root inherits nothing.
use Rattle.std.proofs.Common.{◌≡◌, ℕ, ◌+◌, ◌<◌, not, refl, sym, subst, arith, List, [], ◌∷◌, ◌++◌, length, Option, Some, None}
use Rattle.std.specs.Option.{option_map}
use Rattle.std.proofs.lemmas.Option.{none-some}
use Rattle.ftl_model.specs.lists.Lists.{AreDistinct}
use Rattle.ftl_grammar.specs.syntax.Trees as trees
use Rattle.ftl_grammar.specs.syntax.Trees.{NameText}
use Rattle.ftl_grammar.specs.declared.syntax.rules.Grammar.{Grammar}
use Rattle.ftl_meaning.specs.faults.FirstFault.{attribute_names, class_fault, fault_if, first_fault, first_of, interfaces_named, limit_fault, name_fault, root_inherits, second_name, twice_among, twice_in_class, twice_in_interface, unknown_among}
use Rattle.ftl_meaning.specs.faults.Numbering.{class_at, class_names, interface_names, is_among, numbered}
use Rattle.ftl_meaning.specs.declared.faults.fault.GrammarFault.{GrammarFault}
use Rattle.ftl_meaning.specs.declared.faults.fault.GrammarFault.TheVariants as fault
use Rattle.ftl_meaning.proofs.lawful.NoFault.{none_in, none_of}
use Rattle.ftl_meaning.proofs.lawful.Numbers.{numbered_has}
use Rattle.ftl_meaning.proofs.names.Names.{distinct_names}

-- a list in which no name stands twice
pub none_twice : (ns : List NameText) → twice_among ns ≡ None → second_name [] ns ≡ None
none_twice ns h = by (second_name [] ns) h
  where
    by : (o : Option NameText) → option_map fault.TwiceNamed o ≡ None → o ≡ None
    by None e = refl
    by (Some x) e = absurd (none-some (fault.TwiceNamed x) (sym e))

pub once : (ns : List NameText) → twice_among ns ≡ None → AreDistinct ns
once ns h = (distinct_names [] ns (none_twice ns h)).0

-- the conditions on names, one by one
pub record HasNoNameFault (g : Grammar) : Type 0 where
  pub declared_once : twice_among (interface_names g ++ class_names g) ≡ None
  pub root_known : fault_if (not (is_among (interface_names g) g.root)) (fault.RootMissing g.root) ≡ None
  pub shown_known : first_of (λ x. unknown_among (attribute_names x.attrs) x.shown) g.interfaces ≡ None
  pub interfaces_known : first_of (λ x. unknown_among (interface_names g) (interfaces_named x)) g.classes ≡ None
  pub interface_once : first_of twice_in_interface g.interfaces ≡ None
  pub class_once : first_of (λ k. twice_in_class g k.0) (numbered 0 g.classes) ≡ None
  pub root_has_none : fault_if (root_inherits g) (fault.RootInherits g.root) ≡ None

module _ (g : Grammar) (none : first_fault g ≡ None) where
  names_right : name_fault g ≡ None
  names_right =
      (none_in (limit_fault g ∷ name_fault g ∷ first_of (λ k. class_fault g k.0) (numbered 0 g.classes) ∷ []) none).1.0

  abbrev name_faults : List (Option GrammarFault)
  name_faults =
      twice_among (interface_names g ++ class_names g)
      ∷ fault_if (not (is_among (interface_names g) g.root)) (fault.RootMissing g.root)
      ∷ first_of (λ x. unknown_among (attribute_names x.attrs) x.shown) g.interfaces
      ∷ first_of (λ x. unknown_among (interface_names g) (interfaces_named x)) g.classes
      ∷ first_of twice_in_interface g.interfaces
      ∷ first_of (λ k. twice_in_class g k.0) (numbered 0 g.classes)
      ∷ fault_if (root_inherits g) (fault.RootInherits g.root)
      ∷ []

  pub no_name_fault : HasNoNameFault g
  no_name_fault =
      let each = none_in name_faults names_right in
      record {
        declared_once = each.0;
        root_known = each.1.0;
        shown_known = each.1.1.0;
        interfaces_known = each.1.1.1.0;
        interface_once = each.1.1.1.1.0;
        class_once = each.1.1.1.1.1.0;
        root_has_none = each.1.1.1.1.1.1.0;
      }

  -- no name stands twice in a class
  pub once_in_class : (k : ℕ) → k < length g.classes → twice_in_class g k ≡ None
  once_in_class k known =
      subst (λ m. twice_in_class g m ≡ None) (let z : 0 + k ≡ k = omega arith in z)
      (none_of (λ p. twice_in_class g p.0) (numbered 0 g.classes) no_name_fault.class_once
      (0 + k, class_at g k) (numbered_has 0 g.classes k (trees.class [] [] [] [] []) known))
