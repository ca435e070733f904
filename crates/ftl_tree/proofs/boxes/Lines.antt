-- The line of a node, and whether it shows Overflow.
use Rattle.std.proofs.Common.{◌≡◌, ℕ, ◌+◌, ◌<◌, ◌++◌, ◌||◌, Bool, true, false, List, [], ◌∷◌, length, flat_map, take, drop, get_or, Contains, refl, sym, ◌∙◌, ap, ap₂, arith, None}
use Rattle.std.specs.Prelude.{codes}
use Rattle.std.specs.Fmt.{decimal}
use Rattle.std.specs.List.{list_any}
use Rattle.std.proofs.lemmas.List.{at_drop_all, at_drop_more, flat_map_more, get_or-map, take_all, take_more}
use Rattle.std.proofs.lemmas.List.Elements.{Contains-append_left}
use Rattle.std.proofs.lemmas.List.Folds.{list_any-append}
use Rattle.ftl_model.specs.layout.AttributeGrammar.{attributes_of}
use Rattle.ftl_model.specs.layout.Boxes.{boxes, is_overflow, node_line, shows_overflow}
use Rattle.ftl_model.specs.layout.Path.{Path, class_at, node_at, number_of, preorder, top}
use Rattle.ftl_model.specs.layout.Solves.{instance_of}
use Rattle.ftl_model.specs.layout.Table.{instance_count, instance_number}
use Rattle.ftl_model.specs.layout.Tree.{size}
use Rattle.ftl_model.specs.layout.TreeOf.{IsTreeOf}
use Rattle.ftl_model.specs.layout.Values.{overflow}
use Rattle.ftl_model.proofs.layout.Numbering.{length-preorder}
use Rattle.ftl_order.proofs.orders.Instances.{number_within}
use Rattle.ftl_order.proofs.orders.Kids.{class_known}
use Rattle.ftl_tree.proofs.rows.Access.{has_at, number_at, size-one}
use Rattle.ftl_meaning.specs.faults.FirstFault.{first_fault}
use Rattle.ftl_meaning.specs.faults.Numbering.{interface_of}
use Rattle.ftl_meaning.proofs.lawful.RequiredRules.{interface_known}
use Rattle.ftl_deps.specs.reads.Meant.{meant}
use Rattle.ftl_meaning.specs.grammars.GrammarOf.{names_of}
use Rattle.ftl_tree.specs.trees.CheckedTree.{CheckedTree}
use Rattle.ftl_tree.specs.boxes.Shows.{fields_text, line_text, node_class, node_shows, shows_in}
use Rattle.ftl_tree.specs.boxes.WordValues.{table_of_words, value_of_word}
use Rattle.ftl_tree.proofs.boxes.ShownAmong.{shown_at}

-- whether a node shows Overflow
abbrev pub overflows_at : CheckedTree → (words : List ℕ) → Path → Bool
overflows_at t words p =
    list_any (λ a. is_overflow (table_of_words t words (instance_of p a)))
    ((names_of t.checked.grammar).shown (class_at t.tree p))

or_false : (b : Bool) → (b || false) ≡ b
or_false true = refl
or_false false = refl

-- one more is asked
pub any_more : {X : Type 0} (f : X → Bool) (xs : List X) (i : ℕ) (d : X) → i < length xs
    → list_any f (take (i + 1) xs) ≡ (list_any f (take i xs) || f (get_or xs i d))
any_more f xs i d within =
    ap (list_any f) (take_more xs i d within)
    ∙ list_any-append f (take i xs) (get_or xs i d ∷ [])
    ∙ ap (λ b. list_any f (take i xs) || b) (or_false (f (get_or xs i d)))

-- the node of a number
module _ (t : CheckedTree) (n : ℕ) (is : IsTreeOf (meant t.checked) t.tree) (within : n < size t.tree) where
  here : number_of t.tree (node_at t.tree n) ≡ n
  here = number_at (meant t.checked) t.tree n is within

  in_order : n < length (preorder t.tree)
  in_order = omega (arith, size-one (meant t.checked) t.tree is, length-preorder t.tree, within)

  -- its class is one, and so is its interface
  pub class_within : node_class t n < length t.checked.grammar.classes
  class_within = class_known (meant t.checked) t.tree is (node_at t.tree n)
      (has_at (meant t.checked) t.tree n is within)

  pub interface_within : first_fault t.checked.grammar ≡ None
      → interface_of t.checked.grammar (node_class t n) < length t.checked.grammar.interfaces
  interface_within lawful = interface_known t.checked.grammar lawful (node_class t n) class_within

  -- what it shows is one of its attributes
  pub of_class : (a : ℕ) → Contains (node_shows t n) a → Contains (attributes_of (meant t.checked) (node_class t n)) a
  of_class a there =
      Contains-append_left ((meant t.checked).shared ((meant t.checked).interface (node_class t n)))
      ((meant t.checked).private (node_class t n)) a
      (shown_at t.checked.grammar (interface_of t.checked.grammar (node_class t n)) a there).shared

  -- and has a word
  pub word_within : (words : List ℕ) (a : ℕ) → length words ≡ instance_count (meant t.checked) t.tree
      → Contains (node_shows t n) a
      → instance_number (meant t.checked) t.tree (instance_of (node_at t.tree n) a) < length words
  word_within words a count there =
      let inside =
      number_within (meant t.checked) t.tree (node_at t.tree n) a (has_at (meant t.checked) t.tree n is within)
      (of_class a there) in
      omega (arith, inside, count)

  pub word_is : (words : List ℕ) (a d : ℕ) → length words ≡ instance_count (meant t.checked) t.tree
      → Contains (node_shows t n) a
      → value_of_word (get_or words (instance_number (meant t.checked) t.tree (instance_of (node_at t.tree n) a)) d)
      ≡ table_of_words t words (instance_of (node_at t.tree n) a)
  word_is words a d count there =
      sym (get_or-map value_of_word words
      (instance_number (meant t.checked) t.tree (instance_of (node_at t.tree n) a)) d overflow
      (word_within words a count there))

  -- one more line
  pub lines_more : (words out : List ℕ)
      → out ≡ flat_map (node_line (names_of t.checked.grammar) t.tree (table_of_words t words))
      (take n (preorder t.tree))
      → out ++ line_text t words n
      ≡ flat_map (node_line (names_of t.checked.grammar) t.tree (table_of_words t words))
      (take (n + 1) (preorder t.tree))
  lines_more words out before =
      let f = node_line (names_of t.checked.grammar) t.tree (table_of_words t words) in
      let p = node_at t.tree n in
      ap (λ o. o ++ line_text t words n) before
      ∙ ap (λ m. flat_map f (take n (preorder t.tree))
      ++ (decimal m ++ codes " " ++ (names_of t.checked.grammar).class_name (node_class t n)
      ++ fields_text t words n (node_shows t n) ++ codes "\n")) (sym here)
      ∙ flat_map_more f [] (take n (preorder t.tree)) p
      ∙ ap (flat_map f) (sym (take_more (preorder t.tree) n top in_order))

  -- one more node that shows Overflow, or none
  pub overflows_more : (words : List ℕ)
      → list_any (overflows_at t words) (drop n (preorder t.tree))
      ≡ (overflows_at t words (node_at t.tree n) || list_any (overflows_at t words) (drop (n + 1) (preorder t.tree)))
  overflows_more words = at_drop_more (list_any (overflows_at t words)) (preorder t.tree) n top in_order

  -- whether one of the nodes so far shows Overflow
  pub overflows_so_far : (words : List ℕ) (before line : Bool)
      → before ≡ list_any (overflows_at t words) (take n (preorder t.tree))
      → line ≡ list_any (shows_in t words n) (node_shows t n)
      → (before || line) ≡ list_any (overflows_at t words) (take (n + 1) (preorder t.tree))
  overflows_so_far words before line was is =
      ap₂ (λ (a b : Bool). a || b) was is
      ∙ sym (any_more (overflows_at t words) (preorder t.tree) n top in_order)

-- all lines
pub lines_all : (t : CheckedTree) (words : List ℕ) (n : ℕ) → IsTreeOf (meant t.checked) t.tree → n ≡ size t.tree
    → flat_map (node_line (names_of t.checked.grammar) t.tree (table_of_words t words)) (take n (preorder t.tree))
    ≡ boxes (names_of t.checked.grammar) t.tree (table_of_words t words)
lines_all t words n is all =
    ap (flat_map (node_line (names_of t.checked.grammar) t.tree (table_of_words t words)))
    (take_all n (preorder t.tree) (omega (arith, size-one (meant t.checked) t.tree is, length-preorder t.tree, all)))

pub overflows_in_all : (t : CheckedTree) (words : List ℕ) (n : ℕ) → IsTreeOf (meant t.checked) t.tree → n ≡ size t.tree
    → list_any (overflows_at t words) (take n (preorder t.tree))
    ≡ shows_overflow (names_of t.checked.grammar) t.tree (table_of_words t words)
overflows_in_all t words n is all =
    ap (list_any (overflows_at t words))
    (take_all n (preorder t.tree) (omega (arith, size-one (meant t.checked) t.tree is, length-preorder t.tree, all)))

pub overflows_all : (t : CheckedTree) (words : List ℕ) (n : ℕ) → IsTreeOf (meant t.checked) t.tree → n ≡ size t.tree
    → list_any (overflows_at t words) (drop n (preorder t.tree)) ≡ false
overflows_all t words n is all =
    at_drop_all (list_any (overflows_at t words)) (preorder t.tree) n
    (omega (arith, size-one (meant t.checked) t.tree is, length-preorder t.tree, all))
