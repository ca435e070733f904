-- The lines that show one node in full, and how an instance is shown.
use Rattle.std.specs.Prelude.{ℕ, zero, suc, ◌-◌, max, List, [], ◌∷◌, ◌++◌, codes, length, map, Option, Some, None}
use Rattle.std.specs.Fmt.{decimal}
use Rattle.std.specs.List.{flat_map}
use Rattle.ftl_deps.specs.reads.Meant.{meant}
use Rattle.ftl_meaning.specs.faults.Checked.{attribute_at}
use Rattle.ftl_model.specs.layout.AttributeGrammar.{attributes_of}
use Rattle.ftl_model.specs.layout.Boxes.{value_text}
use Rattle.maugzeris.specs.pages.Instances.{attribute_of, node_of, number_on, reads_on, rule_on}
use Rattle.maugzeris.specs.pages.PageState.{PageState, class_on, value_on}
use Rattle.maugzeris.specs.rules.Spoken.{rule_class_at, rule_text_at}
use Rattle.ftl_showing.specs.lines.Lines.{field_on, head_text}

-- ---- instances

-- the number of a node, a dot, an attribute of it, `=` and its value
abbrev pub attribute_text : PageState → (node attribute : ℕ) → List ℕ
attribute_text p n a =
    decimal n ++ codes "." ++ (attribute_at p.checked.grammar a).decl.name ++ codes "=" ++ value_text (value_on p n a)

-- so an instance is told, which is an attribute of its node
abbrev pub instance_text : PageState → (instance : ℕ) → List ℕ
instance_text p i = attribute_text p (node_of p i) (attribute_of p i)

-- the number of an instance's node, a dot and its attribute
abbrev pub name_text : PageState → (instance : ℕ) → List ℕ
name_text p i = decimal (node_of p i) ++ codes "." ++ (attribute_at p.checked.grammar (attribute_of p i)).decl.name

-- what an instance is computed by, where that is a rule: the class that has it, and the rule
abbrev pub rule_line : PageState → Option ℕ → List ℕ
rule_line p None = codes "input"
rule_line p (Some r) = rule_class_at p.checked.grammar r ++ codes ": " ++ rule_text_at p.checked.grammar r

-- what computes an instance
abbrev pub source_text : PageState → (instance : ℕ) → List ℕ
source_text p i = rule_line p (rule_on p i)

-- an instance that was read, behind a space
abbrev pub read_text : PageState → (instance : ℕ) → List ℕ
read_text p i = codes " " ++ instance_text p i

-- ---- a node

-- so many spaces
abbrev pub spaces : ℕ → List ℕ
spaces zero = []
spaces (suc n) = spaces n ++ codes " "

-- the greatest of some lengths; 0 of none
abbrev pub greatest : List ℕ → ℕ
greatest [] = 0
greatest (n ∷ ns) = max n (greatest ns)

-- how many bytes the longest field of a node has
abbrev pub widest_field : PageState → (node : ℕ) → ℕ
widest_field p n =
    greatest (map (λ a. length (field_on p n a)) (attributes_of (meant p.checked) (class_on p n)))

-- the line of what was read, in the column of the rules; none where nothing was
abbrev pub read_line : PageState → (width : ℕ) → (instances : List ℕ) → List ℕ
read_line p width [] = []
read_line p width (i ∷ is) = spaces width ++ codes "   read" ++ flat_map (read_text p) (i ∷ is) ++ codes "\n"

-- an attribute of a node, in a column of this width
abbrev pub field_column : PageState → (width node attribute : ℕ) → List ℕ
field_column p width n a =
    codes " " ++ field_on p n a ++ spaces (width - length (field_on p n a)) ++ codes "  "

-- what computes an instance, and what that read, in the column of the rules
abbrev pub computed_lines : PageState → (width instance : ℕ) → List ℕ
computed_lines p width i = source_text p i ++ codes "\n" ++ read_line p width (reads_on p i)

-- an attribute of a node with what computes it, in a column behind fields of this width, and what that read
abbrev pub attribute_lines : PageState → (width node attribute : ℕ) → List ℕ
attribute_lines p width n a = field_column p width n a ++ computed_lines p width (number_on p n a)

-- a node, and its attributes
abbrev pub node_lines : PageState → (node : ℕ) → List ℕ
node_lines p n =
    head_text p n ++ codes "\n"
    ++ flat_map (attribute_lines p (widest_field p n) n) (attributes_of (meant p.checked) (class_on p n))
