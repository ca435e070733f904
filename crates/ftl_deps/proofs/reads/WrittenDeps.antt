-- The reads by number are those of the expressions of a rule.
use Rattle.std.proofs.Common.{◌≡◌, ℕ, List, [], ◌∷◌, ◌++◌, map, flat_map, Option, Some, None, refl, sym, ◌∙◌, ap, ap₂}
use Rattle.std.specs.Option.{option_and_then, option_map, option_to_list}
use Rattle.std.proofs.lemmas.List.{map-append}
use Rattle.std.proofs.lemmas.Grind.{flat_map-append}
use Rattle.ftl_model.specs.layout.AttributeGrammar.{AttributeGrammar, Read}
use Rattle.ftl_grammar.specs.declared.syntax.expression.Expr.{Expr}
use Rattle.ftl_grammar.specs.declared.syntax.rules.Grammar.{Grammar}
use Rattle.ftl_meaning.specs.formulas.Expressions.{formula_of}
use Rattle.ftl_meaning.specs.formulas.Formula.{reads_of}
use Rattle.ftl_meaning.specs.declared.formulas.read_name.ReadName.{ReadName}
use Rattle.ftl_meaning.specs.faults.Allowed.{Leaf, Position, leaf_of}
use Rattle.ftl_checked.specs.grammars.ReadNumbers.{leaf_in, leaves_in, part_leaves}
use Rattle.ftl_checked.specs.declared.grammars.numbered_read.NumberedRead.{NumberedRead}
use Rattle.ftl_checked.specs.declared.grammars.numbered_read.PartReads.{PartReads}
use Rattle.ftl_order.specs.dependencies.DepReads.{dep_read}
use Rattle.ftl_meaning.specs.grammars.Meaning.{expression_reads, read_of}
use Rattle.ftl_deps.specs.reads.Meant.{deps_by_leaves, deps_in, part_deps, reads_among}

one_dep : (m : AttributeGrammar) (o : Option Read)
    → option_to_list (option_map (dep_read m) o) ≡ map (dep_read m) (option_to_list o)
one_dep m None = refl
one_dep m (Some r) = refl

deps_are : (m : AttributeGrammar) (rs : List NumberedRead) → deps_in m rs ≡ map (dep_read m) (reads_among (map leaf_in rs))
deps_are m [] = refl
deps_are m (r ∷ rs) =
    ap₂ (λ a b. a ++ b) (one_dep m (read_of (leaf_in r))) (deps_are m rs)
    ∙ sym (map-append (dep_read m) (option_to_list (read_of (leaf_in r))) (reads_among (map leaf_in rs)))

all_parts : (m : AttributeGrammar) (ps : List PartReads)
    → flat_map (part_deps m) ps ≡ map (dep_read m) (flat_map (λ (q : Position × List Leaf). reads_among q.1) (map leaves_in ps))
all_parts m [] = refl
all_parts m (p ∷ ps) =
    ap₂ (λ a b. a ++ b) (deps_are m p.reads) (all_parts m ps)
    ∙ sym (map-append (dep_read m) (reads_among (map leaf_in p.reads)) (flat_map (λ (q : Position × List Leaf). reads_among q.1) (map leaves_in ps)))

one_leaf : (o : Option Leaf) → reads_among (option_to_list o) ≡ option_to_list (option_and_then read_of o)
one_leaf None = refl
one_leaf (Some l) = by_read (read_of l)
  where
    by_read : (o : Option Read) → option_to_list o ++ [] ≡ option_to_list o
    by_read None = refl
    by_read (Some r) = refl

module _ (g : Grammar) (k : ℕ) where
  pub names_are : (at : Position) (names : List ReadName)
      → reads_among (flat_map (λ name. option_to_list (leaf_of g k at name)) names)
      ≡ flat_map (λ name. option_to_list (option_and_then read_of (leaf_of g k at name))) names
  names_are at [] = refl
  names_are at (name ∷ names) =
      flat_map-append (λ leaf. option_to_list (read_of leaf)) (option_to_list (leaf_of g k at name))
      (flat_map (λ name. option_to_list (leaf_of g k at name)) names)
      ∙ ap₂ (λ a b. a ++ b) (one_leaf (leaf_of g k at name)) (names_are at names)

  pub expressions_are : (xs : List (Position × Expr))
      → flat_map (λ (q : Position × List Leaf). reads_among q.1) (map (part_leaves g k) xs)
      ≡ flat_map (λ (part : Position × Expr). expression_reads g k part.0 part.1) xs
  expressions_are [] = refl
  expressions_are (x ∷ xs) = ap₂ (λ a b. a ++ b) (names_are x.0 (reads_of (formula_of x.1))) (expressions_are xs)

-- the reads of the parts, by what these stand for
pub parts_are : (m : AttributeGrammar) (ps : List PartReads) (leaves : List (Position × List Leaf)) → map leaves_in ps ≡ leaves
    → flat_map (part_deps m) ps ≡ deps_by_leaves m leaves
parts_are m ps leaves is = all_parts m ps ∙ ap (deps_by_leaves m) is
