-- What a read by name is, or that it may not stand where it stands.
use Rattle.std.specs.Prelude.{ℕ, Bool, true, false, if◌then◌else◌, List, Option, Some, None}
use Rattle.std.specs.Option.{option_map, option_and_then}
use Rattle.ftl_model.specs.layout.AttributeGrammar.{Read, self_read, single_read, each_read, this_read, prev_read, last_read}
use Rattle.ftl_grammar.specs.syntax.Trees.{NameText}
use Rattle.ftl_grammar.specs.declared.syntax.rules.AttrDecl.{AttrDecl}
use Rattle.ftl_grammar.specs.declared.syntax.rules.Child.{Child}
use Rattle.ftl_grammar.specs.declared.syntax.rules.Grammar.{Grammar}
use Rattle.ftl_meaning.specs.declared.formulas.read_name.ReadName.{ReadName}
use Rattle.ftl_meaning.specs.declared.formulas.read_name.ReadName.TheVariants as names
use Rattle.ftl_meaning.specs.faults.Numbering.{child_at, child_attributes, class_attributes, find_attribute, find_child}

-- Where an expression stands: in a rule for the node itself (the start of a fold too), in a rule for a single child, in
-- one for each kid of a list or for its first, in the part for its later kids, or in the step of a fold over a list.
pub data Position : Type 0 where
  for_self : Position
  for_single : Position
  for_kids : (child : ℕ) → Position
  for_later : (child : ℕ) → Position
  in_step : (child : ℕ) → Position

-- what a name in an expression stands for: what a fold has so far, or a read
pub data Leaf : Type 0 where
  accumulator : Leaf
  of_read : Read → Leaf

-- a read of this form, of the attribute of this name among these; none where there is none
abbrev pub leaf_by : (ℕ → Read) → NameText → List (ℕ × AttrDecl) → Option Leaf
leaf_by form name attributes = option_map (λ a. of_read (form a.0)) (find_attribute name attributes)

-- a read of a single child
abbrev pub single_leaf : Grammar → NameText → ℕ × Child → Option Leaf
single_leaf g name c = if c.1.many then None else leaf_by (single_read c.0) name (child_attributes g c.1)

-- a read of a list's last kid
abbrev pub last_leaf : Grammar → NameText → ℕ × Child → Option Leaf
last_leaf g name c = if c.1.many then leaf_by (last_read c.0) name (child_attributes g c.1) else None

-- the read of the kid at hand, where there is one: of the kid that the rule is for, or that a fold has come to
abbrev pub this_form : Position → Option (ℕ × (ℕ → ℕ → Read))
this_form for_self = None
this_form for_single = None
this_form (for_kids c) = Some (c, this_read)
this_form (for_later c) = Some (c, this_read)
this_form (in_step c) = Some (c, each_read)

-- the read of the kid before: in the part for the later kids, which have one
abbrev pub prev_form : Position → Option (ℕ × (ℕ → ℕ → Read))
prev_form for_self = None
prev_form for_single = None
prev_form (for_kids c) = None
prev_form (for_later c) = Some (c, prev_read)
prev_form (in_step c) = None

-- the last kid may be read in rules for the node itself and for single children
abbrev pub may_read_last : Position → Bool
may_read_last for_self = true
may_read_last for_single = true
may_read_last (for_kids c) = false
may_read_last (for_later c) = false
may_read_last (in_step c) = true

-- what a fold has so far may be read in its step
abbrev pub may_read_acc : Position → Bool
may_read_acc for_self = false
may_read_acc for_single = false
may_read_acc (for_kids c) = false
may_read_acc (for_later c) = false
may_read_acc (in_step c) = true

-- what a name stands for, in an expression of this class in this position; none where it may not stand there, or names
-- nothing
abbrev pub leaf_of : Grammar → (class : ℕ) → Position → ReadName → Option Leaf
leaf_of g k at (names.Own a) = leaf_by self_read a (class_attributes g k)
leaf_of g k at (names.Of c a) = option_and_then (single_leaf g a) (find_child g k c)
leaf_of g k at (names.This a) =
    option_and_then (λ form. leaf_by (form.1 form.0) a (child_attributes g (child_at g k form.0))) (this_form at)
leaf_of g k at (names.Prev a) =
    option_and_then (λ form. leaf_by (form.1 form.0) a (child_attributes g (child_at g k form.0))) (prev_form at)
leaf_of g k at (names.Last c a) =
    if may_read_last at then option_and_then (last_leaf g a) (find_child g k c) else None
leaf_of g k at names.Acc = if may_read_acc at then Some accumulator else None
