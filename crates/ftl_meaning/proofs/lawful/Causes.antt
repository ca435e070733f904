-- No first fault is want of memory.
use Rattle.std.proofs.Common.{◌≢◌, ℕ, ◌+◌, Bool, true, false, not, nat_lt, List, [], ◌∷◌, ◌++◌, map, flat_map, length, Option, Some, None, subst}
use Rattle.std.specs.List.{list_any}
use Rattle.std.specs.Option.{is_none, option_map, option_to_list}
use Rattle.ftl_grammar.specs.syntax.Trees.{NameText}
use Rattle.ftl_grammar.specs.declared.syntax.expression.Expr.{Expr}
use Rattle.ftl_grammar.specs.declared.syntax.rules.Body.{Body}
use Rattle.ftl_grammar.specs.declared.syntax.rules.Class.{Class}
use Rattle.ftl_grammar.specs.declared.syntax.rules.Grammar.{Grammar}
use Rattle.ftl_grammar.specs.declared.syntax.rules.Interface.{Interface}
use Rattle.ftl_grammar.specs.declared.syntax.rules.Rule.{Rule}
use Rattle.ftl_grammar.specs.declared.syntax.rules.Target.{Target}
use Rattle.ftl_meaning.specs.formulas.Formula.{reads_of}
use Rattle.ftl_meaning.specs.formulas.Expressions.{formula_of}
use Rattle.ftl_meaning.specs.declared.faults.fault.What.TheVariants as what
use Rattle.ftl_meaning.specs.declared.faults.fault.GrammarFault.{GrammarFault}
use Rattle.ftl_meaning.specs.declared.faults.fault.GrammarFault.TheVariants as fault
use Rattle.ftl_meaning.specs.declared.faults.rule_name.RuleName.{RuleName}
use Rattle.ftl_meaning.specs.faults.Allowed.{Position, leaf_of}
use Rattle.ftl_meaning.specs.faults.FirstFault.{attribute_names, bad_read, class_fault, class_limits, fault_if, first_fault, first_of, first_there, form_fault, interfaces_named, is_ruled, kid_required, limit_fault, missing_rule, name_fault, own_required, read_count, read_limits, root_inherits, rule_fault, rule_faults, rule_name, same_slot, second_name, too_many, twice_among, twice_in_class, twice_in_interface, unknown_among}
use Rattle.ftl_meaning.specs.faults.Numbering.{children_of, class_at, class_attributes, class_names, interface_names, is_among, numbered, own_count, shared_count}
use Rattle.ftl_meaning.specs.faults.RuleForms.{Form, Slot, expressions_of, form_of, parts_of, slot_of}

-- a fault of a grammar
abbrev pub IsCause : GrammarFault → Type 0
IsCause (fault.TooMany kind count) = Unit {0}
IsCause (fault.TwiceNamed name) = Unit {0}
IsCause (fault.RootMissing name) = Unit {0}
IsCause (fault.UnknownName name) = Unit {0}
IsCause (fault.RootInherits name) = Unit {0}
IsCause (fault.NotAssignable rule) = Unit {0}
IsCause (fault.BadForm rule) = Unit {0}
IsCause (fault.TwiceRuled rule) = Unit {0}
IsCause (fault.BadRead rule read) = Unit {0}
IsCause (fault.MissingRule rule) = Unit {0}
IsCause fault.OutOfMemory = ⊥

-- there is none, or it is one
abbrev pub MayBe : Option GrammarFault → Type 0
MayBe None = Unit {0}
MayBe (Some x) = IsCause x

-- each of some is so
abbrev AllMay : List (Option GrammarFault) → Type 0
AllMay [] = Unit {0}
AllMay (o ∷ os) = MayBe o × AllMay os

there : (os : List (Option GrammarFault)) → AllMay os → MayBe (first_there os)
there [] h = tt
there (None ∷ os) h = there os h.1
there (Some x ∷ os) h = h.0

both : (os ps : List (Option GrammarFault)) → AllMay os → AllMay ps → AllMay (os ++ ps)
both [] ps h i = i
both (o ∷ os) ps h i = (h.0, both os ps h.1 i)

each : {X : Type 0} (f : X → Option GrammarFault) (xs : List X) → ((x : X) → MayBe (f x)) → AllMay (map f xs)
each f [] may = tt
each f (x ∷ xs) may = (may x, each f xs may)

of_each : {X : Type 0} (f : X → Option GrammarFault) (xs : List X) → ((x : X) → MayBe (f x)) → MayBe (first_of f xs)
of_each f xs may = there (map f xs) (each f xs may)

where_one : (b : Bool) (x : GrammarFault) → IsCause x → MayBe (fault_if b x)
where_one true x h = h
where_one false x h = tt

twice_may : (names : List NameText) → MayBe (twice_among names)
twice_may names = go (second_name [] names)
  where
    go : (o : Option NameText) → MayBe (option_map fault.TwiceNamed o)
    go None = tt
    go (Some name) = tt

reads_may : (r : Rule) → MayBe (read_limits r)
reads_may r =
    of_each (λ e. too_many what.Reads 256 (read_count e)) (expressions_of r.body)
    (λ e. where_one (nat_lt 256 (read_count e)) (fault.TooMany what.Reads (read_count e)) tt)

class_limits_may : (x : Class) → MayBe (class_limits x)
class_limits_may x =
    there (too_many what.Attributes 64 (length x.attrs) ∷ too_many what.Children 16 (length x.children) ∷ []) (
      where_one (nat_lt 64 (length x.attrs)) (fault.TooMany what.Attributes (length x.attrs)) tt,
      (
        where_one (nat_lt 16 (length x.children)) (fault.TooMany what.Children (length x.children)) tt,
        tt,
      ),
    )

limits_may : (g : Grammar) → MayBe (limit_fault g)
limits_may g =
    there
    (too_many what.Interfaces 128 (length g.interfaces)
    ∷ too_many what.Classes 128 (length g.classes)
    ∷ first_of (λ (x : Interface). too_many what.Attributes 64 (length x.attrs)) g.interfaces
    ∷ first_of class_limits g.classes
    ∷ too_many what.AllAttributes 2048 (shared_count g.interfaces + own_count g.classes)
    ∷ first_of (λ (x : Class). first_of read_limits x.rules) g.classes
    ∷ []) (
      where_one (nat_lt 128 (length g.interfaces)) (fault.TooMany what.Interfaces (length g.interfaces)) tt,
      (
        where_one (nat_lt 128 (length g.classes)) (fault.TooMany what.Classes (length g.classes)) tt,
        (
          of_each (λ (x : Interface). too_many what.Attributes 64 (length x.attrs)) g.interfaces
              (λ x. where_one (nat_lt 64 (length x.attrs)) (fault.TooMany what.Attributes (length x.attrs)) tt),
          (
            of_each class_limits g.classes class_limits_may,
            (
              where_one (nat_lt 2048 (shared_count g.interfaces + own_count g.classes))
                  (fault.TooMany what.AllAttributes (shared_count g.interfaces + own_count g.classes)) tt,
              (
                of_each (λ (x : Class). first_of read_limits x.rules) g.classes (λ x. of_each read_limits x.rules reads_may),
                tt,
              ),
            ),
          ),
        ),
      ),
    )

unknown_may : (known names : List NameText) → MayBe (unknown_among known names)
unknown_may known names =
    of_each (λ name. fault_if (not (is_among known name)) (fault.UnknownName name)) names
    (λ name. where_one (not (is_among known name)) (fault.UnknownName name) tt)

interface_may : (x : Interface) → MayBe (twice_in_interface x)
interface_may x =
    there (twice_among (attribute_names x.attrs) ∷ twice_among x.shown ∷ []) (
      twice_may (attribute_names x.attrs),
      (
        twice_may x.shown,
        tt,
      ),
    )

names_may : (g : Grammar) → MayBe (name_fault g)
names_may g =
    there
    (twice_among (interface_names g ++ class_names g)
    ∷ fault_if (not (is_among (interface_names g) g.root)) (fault.RootMissing g.root)
    ∷ first_of (λ (x : Interface). unknown_among (attribute_names x.attrs) x.shown) g.interfaces
    ∷ first_of (λ (x : Class). unknown_among (interface_names g) (interfaces_named x)) g.classes
    ∷ first_of twice_in_interface g.interfaces
    ∷ first_of (λ (k : ℕ × Class). twice_in_class g k.0) (numbered 0 g.classes)
    ∷ fault_if (root_inherits g) (fault.RootInherits g.root)
    ∷ []) (
      twice_may (interface_names g ++ class_names g),
      (
        where_one (not (is_among (interface_names g) g.root)) (fault.RootMissing g.root) tt,
        (
          of_each (λ (x : Interface). unknown_among (attribute_names x.attrs) x.shown) g.interfaces
              (λ x. unknown_may (attribute_names x.attrs) x.shown),
          (
            of_each (λ (x : Class). unknown_among (interface_names g) (interfaces_named x)) g.classes
                (λ x. unknown_may (interface_names g) (interfaces_named x)),
            (
              of_each twice_in_interface g.interfaces interface_may,
              (
                of_each (λ (k : ℕ × Class). twice_in_class g k.0) (numbered 0 g.classes)
                    (λ k. twice_may (map (λ a. a.1.name) (class_attributes g k.0) ++ map (λ c. c.1.name) (children_of g k.0))),
                (
                  where_one (root_inherits g) (fault.RootInherits g.root) tt,
                  tt,
                ),
              ),
            ),
          ),
        ),
      ),
    )

module _ (g : Grammar) (k : ℕ) where
  part_may : (rule : RuleName) (part : Position × Expr) → MayBe (bad_read g k rule part)
  part_may rule part =
      of_each (λ read. fault_if (is_none (leaf_of g k part.0 read)) (fault.BadRead rule read)) (reads_of (formula_of part.1))
      (λ read. where_one (is_none (leaf_of g k part.0 read)) (fault.BadRead rule read) tt)

  form_may : (rule : RuleName) (second : Bool) (o : Option Form) → MayBe (form_fault g k rule second o)
  form_may rule second None = tt
  form_may rule second (Some form) =
      there (fault_if second (fault.TwiceRuled rule) ∷ first_of (bad_read g k rule) (parts_of form) ∷ []) (
        where_one second (fault.TwiceRuled rule) tt,
        (
          of_each (bad_read g k rule) (parts_of form) (part_may rule),
          tt,
        ),
      )

  rule_may : (rule : RuleName) (earlier : List Slot) (body : Body) (o : Option Slot)
      → MayBe (rule_fault g k rule earlier body o)
  rule_may rule earlier body None = tt
  rule_may rule earlier body (Some slot) =
      form_may rule (list_any (same_slot slot) earlier) (form_of g k slot body)

  rules_may : (earlier : List Slot) (rs : List Rule) → AllMay (rule_faults g k earlier rs)
  rules_may earlier [] = tt
  rules_may earlier (r ∷ rs) = (
    rule_may (rule_name (class_at g k) r.target) earlier r.body (slot_of g k r.target),
    rules_may (earlier ++ option_to_list (slot_of g k r.target)) rs,
  )

  missing_may : MayBe (missing_rule g k)
  missing_may =
      of_each (λ (need : Slot × Target). fault_if (not (is_ruled g k need.0)) (fault.MissingRule (rule_name (class_at g k) need.1)))
      (own_required g k ++ flat_map (kid_required g) (children_of g k))
      (λ need. where_one (not (is_ruled g k need.0)) (fault.MissingRule (rule_name (class_at g k) need.1)) tt)

  class_may : MayBe (class_fault g k)
  class_may =
      there (rule_faults g k [] (class_at g k).rules ++ (missing_rule g k ∷ []))
      (both (rule_faults g k [] (class_at g k).rules) (missing_rule g k ∷ []) (rules_may [] (class_at g k).rules)
      (missing_may, tt))

fault_may : (g : Grammar) → MayBe (first_fault g)
fault_may g =
    there (limit_fault g ∷ name_fault g ∷ first_of (λ (k : ℕ × Class). class_fault g k.0) (numbered 0 g.classes) ∷ []) (
      limits_may g,
      (
        names_may g,
        (
          of_each (λ (k : ℕ × Class). class_fault g k.0) (numbered 0 g.classes) (λ k. class_may g k.0),
          tt,
        ),
      ),
    )

-- the first fault is one of the grammar
pub never_memory : (g : Grammar) → first_fault g ≢ Some fault.OutOfMemory
never_memory g is = subst MayBe is (fault_may g)
