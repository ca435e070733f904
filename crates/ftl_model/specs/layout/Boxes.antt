-- The printed boxes of a table: one line for each node, in preorder.
use Rattle.std.specs.Prelude.{ℕ, Bool, true, false, List, ◌++◌, codes}
use Rattle.std.specs.List.{flat_map, list_any}
use Rattle.std.specs.Fmt.{decimal, signed_decimal}
use Rattle.ftl_model.specs.layout.Values.{Value, number, overflow}
use Rattle.ftl_model.specs.layout.Tree.{Forest}
use Rattle.ftl_model.specs.layout.Path.{Path, class_at, preorder, number_of}
use Rattle.ftl_model.specs.layout.Solves.{Instance, instance_of}

-- what is printed of a grammar: the names of its classes and attributes in UTF-8, and the attributes that each class
-- shows, in the order of their declaration
pub record Names : Type 0 where
  pub class_name : ℕ → List ℕ
  pub attribute_name : ℕ → List ℕ
  pub shown : ℕ → List ℕ

-- a number in decimal, or `overflow`
abbrev pub value_text : Value → List ℕ
value_text (number n) = signed_decimal n
value_text overflow = codes "overflow"

-- a space, the attribute's name, `=` and its value
abbrev pub field_text : Names → (Instance → Value) → Path → ℕ → List ℕ
field_text names s p a = codes " " ++ names.attribute_name a ++ codes "=" ++ value_text (s (instance_of p a))

-- the node's number, a space, its class, a field for each shown attribute, and a line feed
abbrev pub node_line : Names → Forest → (Instance → Value) → Path → List ℕ
node_line names t s p =
    decimal (number_of t p) ++ codes " " ++ names.class_name (class_at t p)
    ++ flat_map (field_text names s p) (names.shown (class_at t p)) ++ codes "\n"

-- the lines of all nodes
abbrev pub boxes : Names → Forest → (Instance → Value) → List ℕ
boxes names t s = flat_map (node_line names t s) (preorder t)

-- whether a value is Overflow
abbrev pub is_overflow : Value → Bool
is_overflow (number n) = false
is_overflow overflow = true

-- whether a shown value is Overflow
abbrev pub shows_overflow : Names → Forest → (Instance → Value) → Bool
shows_overflow names t s =
    list_any (λ p. list_any (λ a. is_overflow (s (instance_of p a))) (names.shown (class_at t p))) (preorder t)
