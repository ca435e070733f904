-- What follows where no fault is found: node by node, and field by field.
use Rattle.std.proofs.Common.{◌≡◌, ℕ, suc, ◌<◌, ◌==◌, not, Bool, true, false, cond, refl, sym, subst, arith, List, [], ◌∷◌, ◌++◌, length, map, Option, Some, None}
use Rattle.std.specs.List.{AllByRecursion}
use Rattle.std.specs.Str.{bytes_eq}
use Rattle.std.proofs.lemmas.Bool.{eqb-true, not-false}
use Rattle.std.proofs.lemmas.List.{length-map}
use Rattle.std.proofs.lemmas.List.Quantifiers.{position-Some}
use Rattle.std.proofs.lemmas.Option.{none-some, same_Some}
use Rattle.ftl_grammar.specs.declared.syntax.rules.Class.{Class}
use Rattle.ftl_grammar.specs.declared.syntax.rules.Grammar.{Grammar}
use Rattle.ftl_meaning.specs.faults.Checked.{class_named, field_named}
use Rattle.ftl_meaning.specs.faults.Numbering.{class_names, interface_of, is_among, numbered}
use Rattle.ftl_meaning.specs.declared.faults.info.Field.{Field}
use Rattle.ftl_document.specs.faults.FirstFault.{fault_if, field_fault, field_fault_by, field_faults, first_there, has_form, is_late, missing_fault, names_of, node_fault, node_fault_by}
use Rattle.ftl_document.specs.faults.Nodes.{FieldHead, StandingNode, class_number}
use Rattle.ftl_document.specs.declared.faults.fault.DocFault.{DocFault}
use Rattle.ftl_document.specs.declared.faults.fault.DocFault.TheVariants as fault

-- where a list of conditions has no fault, its first has none, and the others have none
pub none_cons : (o : Option DocFault) (os : List (Option DocFault)) → first_there (o ∷ os) ≡ None
    → (o ≡ None) × (first_there os ≡ None)
none_cons None os h = (refl, h)
none_cons (Some x) os h = absurd (none-some x (sym h))

-- a condition that is no fault doesn't hold
no_fault : (b : Bool) (x : DocFault) → fault_if b x ≡ None → b ≡ false
no_fault true x h = absurd (none-some x (sym h))
no_fault false x h = refl

-- ---- nodes

-- nothing is wrong with a node of this class with these fields, of which this interface is wanted
pub record IsRight (g : Grammar) (wanted class : ℕ) (heads : List FieldHead) : Type 0 where
  pub known : class < length g.classes
  pub interface : interface_of g class ≡ wanted
  pub node : ℕ
  pub fields : first_there (field_faults g node class [] heads) ≡ None
  pub missing : missing_fault g node class heads ≡ None

-- nothing is wrong with any of these nodes
abbrev pub AreRight : Grammar → List StandingNode → Type 0
AreRight g = AllByRecursion (λ x. IsRight g x.wanted (class_number g x.class) x.fields)

-- the number that is found
found_number : (b : Bool) (n k : ℕ) → cond b (Some n) None ≡ Some k → n ≡ k
found_number true n k h = same_Some n k h
found_number false n k h = absurd (none-some k h)

-- one node, by what the name of its class stands for
right_by : (g : Grammar) (n : ℕ) (x : StandingNode) (o : Option ℕ) → class_named g x.class ≡ o
    → node_fault_by g n x o ≡ None → IsRight g x.wanted (class_number g x.class) x.fields
right_by g n x None named h = absurd (none-some (fault.UnknownClass n x.class) (sym h))
right_by g n x (Some k) named h =
    let wrong = fault_if (not (interface_of g k == x.wanted)) (fault.WrongInterface n k x.wanted) in
    let each = first_there (field_faults g n k [] x.fields) in
    let missing = missing_fault g n k x.fields in
    let first = none_cons wrong (each ∷ missing ∷ []) h in
    let second = none_cons each (missing ∷ []) first.1 in
    let third = none_cons missing [] second.1 in
    let at = position-Some (bytes_eq x.class) (class_names g) k [] named in
    let below = at.0 in
    let number : class_number g x.class ≡ k = found_number _ (class_number g x.class) k named in
    subst (λ m. IsRight g x.wanted m x.fields) (sym number)
    (record {
      known = omega (arith, below, length-map g.classes (λ (y : Class). y.name));
      interface = eqb-true (interface_of g k) x.wanted (not-false (interface_of g k == x.wanted) (no_fault (not (interface_of g k == x.wanted)) (fault.WrongInterface n k x.wanted) first.0));
      node = n;
      fields = second.0;
      missing = third.0;
    })

-- each node
pub each_right : (g : Grammar) (n : ℕ) (xs : List StandingNode) → first_there (map (node_fault g) (numbered n xs)) ≡ None
    → AreRight g xs
each_right g n [] h = tt
each_right g n (x ∷ xs) h =
    let parts = none_cons (node_fault g (n, x)) (map (node_fault g) (numbered (suc n) xs)) h in
    (right_by g n x (class_named g x.class) refl parts.0, each_right g (suc n) xs parts.1)

-- the front and the back of a list, each entry of which is so
pub all_front : {X : Type 0} (P : X → Type 0) (xs ys : List X) → AllByRecursion P (xs ++ ys) → AllByRecursion P xs
all_front P [] ys h = tt
all_front P (x ∷ xs) ys h = (h.0, all_front P xs ys h.1)

pub all_back : {X : Type 0} (P : X → Type 0) (xs ys : List X) → AllByRecursion P (xs ++ ys) → AllByRecursion P ys
all_back P [] ys h = h
all_back P (x ∷ xs) ys h = all_back P xs ys h.1

-- ---- fields

-- nothing is wrong with a field that stands after these
pub record FieldIsRight (g : Grammar) (class : ℕ) (earlier : List FieldHead) (f : FieldHead) : Type 0 where
  pub stands : Field
  pub named : field_named g class f.name ≡ Some stands
  pub once : is_among (names_of earlier) f.name ≡ false
  pub form : has_form g class stands f.form ≡ true
  pub order : is_late g class earlier stands ≡ false

-- a field, by what its name stands for
field_right_by : (g : Grammar) (n k : ℕ) (earlier : List FieldHead) (f : FieldHead) (o : Option Field)
    → field_named g k f.name ≡ o → field_fault_by g n k earlier f o ≡ None → FieldIsRight g k earlier f
field_right_by g n k earlier f None named h = absurd (none-some (fault.UnknownField n f.name) (sym h))
field_right_by g n k earlier f (Some x) named h =
    let twice = fault_if (is_among (names_of earlier) f.name) (fault.FieldTwice n f.name) in
    let form = fault_if (not (has_form g k x f.form)) (fault.FieldForm n f.name) in
    let order = fault_if (is_late g k earlier x) (fault.FieldOrder n f.name) in
    let first = none_cons twice (form ∷ order ∷ []) h in
    let second = none_cons form (order ∷ []) first.1 in
    let third = none_cons order [] second.1 in
    record {
      stands = x;
      named = named;
      once = no_fault (is_among (names_of earlier) f.name) (fault.FieldTwice n f.name) first.0;
      form = not-false (has_form g k x f.form) (no_fault (not (has_form g k x f.form)) (fault.FieldForm n f.name) second.0);
      order = no_fault (is_late g k earlier x) (fault.FieldOrder n f.name) third.0;
    }

-- the first of some fields
pub field_right : (g : Grammar) (n k : ℕ) (earlier : List FieldHead) (f : FieldHead) (fs : List FieldHead)
    → first_there (field_faults g n k earlier (f ∷ fs)) ≡ None → FieldIsRight g k earlier f
field_right g n k earlier f fs h =
    field_right_by g n k earlier f (field_named g k f.name) refl
    (none_cons (field_fault g n k earlier f) (field_faults g n k (earlier ++ f ∷ []) fs) h).0

-- and the later ones
pub later_right : (g : Grammar) (n k : ℕ) (earlier : List FieldHead) (f : FieldHead) (fs : List FieldHead)
    → first_there (field_faults g n k earlier (f ∷ fs)) ≡ None
    → first_there (field_faults g n k (earlier ++ f ∷ []) fs) ≡ None
later_right g n k earlier f fs h =
    (none_cons (field_fault g n k earlier f) (field_faults g n k (earlier ++ f ∷ []) fs) h).1
