-- The rows of first writers, rule by rule.
use Rattle.std.proofs.Common.{◌≡◌, ℕ, zero, suc, ◌+◌, ◌<◌, List, [], ◌∷◌, ◌++◌, length, map, drop, take, get_or, Contains, Option, Some, None, refl, sym, ◌∙◌, ap, ap₂, subst, add-one, arith}
use Rattle.std.specs.List.{All}
use Rattle.std.proofs.lemmas.List.{get_or-map, length-map}
use Rattle.std.proofs.lemmas.List.Elements.{Contains-get_or}
use Rattle.std.proofs.Math.Seq.{drop-cons, take-length, take-suc}
use Rattle.ftl_model.specs.layout.AttributeGrammar.{AttributeGrammar, RuleName, for_self}
use Rattle.ftl_order.specs.orders.Lawful.{class_of_rule}
use Rattle.ftl_meaning.specs.faults.Checked.{CheckedGrammar, all_rules, rule_info_at}
use Rattle.ftl_meaning.specs.faults.FirstFault.{first_fault}
use Rattle.ftl_order.specs.dependencies.DepReads.{dep_table, rule_reads}
use Rattle.ftl_order.specs.dependencies.Writers.{first_writer}
use Rattle.ftl_order.specs.declared.dependencies.dep_read.DepRead.{DepRead}
use Rattle.ftl_deps.specs.reads.DepRows.{IsAligned, dep_rows, rule_writers, writer_table, writers_at}
use Rattle.ftl_deps.specs.reads.Meant.{HasKnownChild, meant}
use Rattle.ftl_deps.specs.reads.Products.{name_of_child, name_of_info}
use Rattle.ftl_deps.proofs.reads.ReadKids.{reads_known}
use Rattle.ftl_deps.proofs.reads.RuleNumbers.{rules_long, info_is, info_rule}

-- ---- there is a writer, or none, for each read

each_long : (g : AttributeGrammar) (ws : List RuleName) (r : ℕ)
    → length (get_or (map (rule_writers g) ws) r []) ≡ length (get_or (map (rule_reads g) ws) r [])
each_long g [] r = refl
each_long g (w ∷ ws) zero = length-map (rule_reads g w) (first_writer g (class_of_rule w))
each_long g (w ∷ ws) (suc r) = each_long g ws r

pub aligned : (g : AttributeGrammar) → IsAligned (dep_table g) (writer_table g)
aligned g = record {
  rules = length-map g.rules (rule_writers g) ∙ sym (length-map g.rules (rule_reads g));
  each = each_long g g.rules;
}

-- within a list it does not matter what stands past its end
pub other_default : {X : Type 0} (xs : List X) (n : ℕ) (d e : X) → n < length xs → get_or xs n d ≡ get_or xs n e
other_default [] n d e within = absurd (let z : ⊥ = omega (arith, within) in z)
other_default (x ∷ xs) zero d e within = refl
other_default (x ∷ xs) (suc n) d e within = other_default xs n d e (omega (arith, within))

-- ---- of checked grammars

class_of_child : (k a : ℕ) (child : Option ℕ) → class_of_rule (name_of_child k a child) ≡ k
class_of_child k a None = refl
class_of_child k a (Some d) = refl

module _ (c : CheckedGrammar) (none : first_fault c.grammar ≡ None) where
  abbrev m : AttributeGrammar
  m = meant c

  abbrev class : ℕ → ℕ
  class n = (rule_info_at c.grammar n).class

  within_rules : (n : ℕ) → n < length (all_rules c.grammar) → n < length m.rules
  within_rules n within = subst (λ l. n < l) (sym (rules_long c none)) within

  -- what the rule of a number reads
  reads_of_infos : (n : ℕ) → n < length (all_rules c.grammar)
      → get_or (dep_table m) n [] ≡ rule_reads m (name_of_info (rule_info_at c.grammar n))
  reads_of_infos n within =
      get_or-map (rule_reads m) m.rules n (for_self 0 0) [] (within_rules n within)
      ∙ ap (rule_reads m) (info_is c none n within)

  -- the first writers of what it reads
  pub writers_of_infos : (n : ℕ) → n < length (all_rules c.grammar)
      → writers_at (dep_rows m) n ≡ map (first_writer m (class n)) (get_or (dep_table m) n [])
  writers_of_infos n within =
      get_or-map (rule_writers m) m.rules n (for_self 0 0) [] (within_rules n within)
      ∙ ap (rule_writers m) (info_is c none n within)
      ∙ ap₂ (λ k reads. map (first_writer m k) reads)
      (class_of_child (class n) (rule_info_at c.grammar n).attr (rule_info_at c.grammar n).child) (sym (reads_of_infos n within))

  -- the children that it reads are there
  pub kids_of_infos : (n : ℕ) → n < length (all_rules c.grammar)
      → All (HasKnownChild c.grammar (class n)) (get_or (dep_table m) n [])
  kids_of_infos n within place d below =
      subst (λ k. HasKnownChild c.grammar k (get_or (get_or (dep_table m) n []) place d))
      (class_of_child (class n) (rule_info_at c.grammar n).attr (rule_info_at c.grammar n).child)
      (reads_known c (name_of_info (rule_info_at c.grammar n)) (info_rule c none n within) (get_or (get_or (dep_table m) n []) place d)
      (subst (λ ds. Contains ds (get_or (get_or (dep_table m) n []) place d)) (reads_of_infos n within)
      (Contains-get_or (get_or (dep_table m) n []) place d below)))

  -- how many rows there are
  pub reads_long : length (dep_table m) ≡ length (all_rules c.grammar)
  reads_long = length-map m.rules (rule_reads m) ∙ rules_long c none

  table_long : length (writer_table m) ≡ length (all_rules c.grammar)
  table_long = length-map m.rules (rule_writers m) ∙ rules_long c none

  -- a row more
  pub writers_more : (n : ℕ) → n < length (all_rules c.grammar)
      → take (n + 1) (writer_table m) ≡ take n (writer_table m) ++ writers_at (dep_rows m) n ∷ []
  writers_more n within =
      ap (λ l. take l (writer_table m)) (add-one n)
      ∙ take-suc (writer_table m) n [] (subst (λ l. n < l) (sym table_long) within)

  -- all rows
  pub writers_all : take (length (all_rules c.grammar)) (writer_table m) ≡ writer_table m
  writers_all = ap (λ n. take n (writer_table m)) (sym table_long) ∙ take-length (writer_table m)

-- a read more of a row
pub row_step : (f : DepRead → Option ℕ) (xs : List DepRead) (i : ℕ) (d : DepRead) (w : Option ℕ)
    → w ≡ f (get_or xs i d) → i < length xs → w ∷ map f (drop (i + 1) xs) ≡ map f (drop i xs)
row_step f xs i d w is within =
    ap₂ (λ y n. y ∷ map f (drop n xs)) is (add-one i) ∙ ap (map f) (sym (drop-cons xs i d within))
