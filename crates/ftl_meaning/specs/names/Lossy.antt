-- Grammars without names, each turned in one place from what a text means, so that something is lost.
use Rattle.std.specs.Prelude.{ℕ, true, List, [], ◌∷◌, ◌++◌, take, codes}
use Rattle.ftl_model.specs.layout.AttributeGrammar as model
use Rattle.ftl_model.specs.layout.AttributeGrammar.{AttributeGrammar}
use Rattle.ftl_model.specs.layout.Boxes.{Names}
use Rattle.ftl_model.specs.layout.Values.{narrow}
use Rattle.ftl_meaning.specs.grammars.GrammarOf.{grammar_of, names_of}
use Rattle.ftl_meaning.specs.grammars.Worked.{shown_backwards, two}

-- `two` has the interfaces R { a }, K { x, z, w, i } and M { y, v }, and the classes C : R { p, l; s : M; c : [K]; d :
-- [M] }, L : K and N : M
abbrev pub right : AttributeGrammar
right = grammar_of narrow two

-- without the last attribute of K
abbrev pub attribute_lost : AttributeGrammar
attribute_lost = record right { shared = λ i. take 3 (right.shared i) }

-- each attribute of an interface twice
abbrev pub attributes_doubled : AttributeGrammar
attributes_doubled = record right { shared = λ i. right.shared i ++ right.shared i }

-- z before x
abbrev pub attributes_swapped : AttributeGrammar
attributes_swapped = record right { shared = λ i. 2 ∷ 1 ∷ 3 ∷ 4 ∷ [] }

-- each attribute inherited
abbrev pub sorts_lost : AttributeGrammar
sorts_lost = record right { sort = λ a. model.inherited }

-- the own attributes numbered from 0
abbrev pub own_from_zero : AttributeGrammar
own_from_zero = record right { private = λ k. 0 ∷ 1 ∷ [] }

-- one attribute more than is declared
abbrev pub one_more : AttributeGrammar
one_more = record right { attribute_count = 10 }

-- without the last child of C
abbrev pub child_lost : AttributeGrammar
child_lost = record right { child_count = λ k. 2 }

-- each child of K
abbrev pub children_of_one : AttributeGrammar
children_of_one = record right { child_interface = λ k c. 1 }

-- each child a list
abbrev pub all_lists : AttributeGrammar
all_lists = record right { is_list = λ k c. true }

-- each class of the first interface
abbrev pub classes_of_one : AttributeGrammar
classes_of_one = record right { interface = λ k. 0 }

-- the second interface as root
abbrev pub other_root : AttributeGrammar
other_root = record right { root = 1 }

-- each class by the name of the first
abbrev pub one_name : Names
one_name = record (names_of two) { class_name = λ k. codes "C" }

-- ---- `interface R { syn a, b, c; show c, a; }`

-- these attributes are shown
abbrev pub showing : List ℕ → Names
showing shown = record (names_of shown_backwards) { shown = λ k. shown }
