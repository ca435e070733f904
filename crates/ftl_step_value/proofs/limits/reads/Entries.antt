-- The entries of the tables, and the numbers that find them.
use Rattle.std.proofs.Common.{◌≡◌, ℕ, suc, ◌+◌, ◌<◌, List, length, get_or, Some, None, refl, sym, ◌∙◌, ap, ⊎_elim, arith}
use Rattle.std.specs.Option.{option_map}
use Rattle.std.proofs.lemmas.List.Elements.{Contains-append_cases}
use Rattle.std.proofs.lemmas.List.FromFn.{get_or-map-range_with_len, length-map-range_with_len}
use Rattle.std.proofs.lemmas.Option.{same_Some}
use Rattle.ftl_model.specs.layout.AttributeGrammar.{AttributeGrammar}
use Rattle.ftl_model.specs.layout.Path.{Has, Path, child_at, class_at, down, kid_at, node_at, number_of, parent_of, top}
use Rattle.ftl_model.specs.layout.Tree.{Forest, below_of, none, size, tree}
use Rattle.ftl_model.specs.layout.TreeOf.{IsTreeOf}
use Rattle.ftl_model.proofs.layout.Numbering.{has-node_at}
use Rattle.ftl_model.proofs.layout.Standing.{has_parent, node_at-number_of, number_of-lt}
use Rattle.ftl_order.specs.orders.Lawful.{IsLawful, OfClass, class_owner, interface_owner}
use Rattle.ftl_order.proofs.orders.Kids.{class_known, root_there}
use Rattle.ftl_order.proofs.orders.Owners.{attribute_known}
use Rattle.ftl_visit.specs.rule_tables.RuleTables.{by_number}

-- an entry by number
pub record Entry {X : Type 0} (f : ℕ → X) (n : ℕ) (rows : List X) (i : ℕ) : Type 0 where
  pub within : i < length rows
  pub is : (d : X) → get_or rows i d ≡ f i

pub entry : {X : Type 0} (f : ℕ → X) (n : ℕ) (rows : List X) (i : ℕ) → rows ≡ by_number f n → i < n → Entry f n rows i
entry f n rows i are below =
    let long : length rows ≡ n = ap length are ∙ length-map-range_with_len f 0 n in
    record {
      within = omega (arith, long, below);
      is = λ d.
          ap (λ xs. get_or xs i d) are
          ∙ get_or-map-range_with_len f 0 n i i d below (let z : 0 + i ≡ i = omega arith in z);
    }

-- a tree of a grammar has its root and what is below
pub whole : (g : AttributeGrammar) (t : Forest) → IsTreeOf g t → size t ≡ suc (size (below_of t))
whole g none fits = absurd fits
whole g (tree class child inputs below beside) fits =
    let alone : size beside ≡ 0 = ap size fits.4 in
    let z : suc (size below + size beside) ≡ suc (size below) = omega (arith, alone) in
    z

module _ (g : AttributeGrammar) (law : IsLawful g) (t : Forest) (fits : IsTreeOf g t) where
  pub there : (node : ℕ) → node < size t → Has t (node_at t node)
  there node known =
      let all = whole g t fits in has-node_at t node (root_there g t fits) (omega (arith, all, known))

  pub class_in_range : (node : ℕ) → node < size t → class_at t (node_at t node) < g.class_count
  class_in_range node known = class_known g t fits (node_at t node) (there node known)

  -- the entry of a node's class, in a table that has one for each class
  pub class_entry : {X : Type 0} (f : ℕ → X) (node : ℕ) {class : ℕ} {rows : List X} → node < size t
      → class ≡ class_at t (node_at t node) → rows ≡ by_number f g.class_count → Entry f g.class_count rows class
  class_entry f node {class} {rows} known is are =
      let range = class_in_range node known in entry f g.class_count rows class are (omega (arith, range, is))

  pub attribute_in_range : (node a : ℕ) → node < size t → OfClass g (class_at t (node_at t node)) a
      → a < g.attribute_count
  attribute_in_range node a known of =
      let k = class_at t (node_at t node) in
      let within = class_in_range node known in
      ⊎_elim
      (λ shared. attribute_known g law (interface_owner (g.interface k)) a (law.interfaces_known k within, shared))
      (λ private. attribute_known g law (class_owner k) a (within, private))
      (Contains-append_cases (g.shared (g.interface k)) (g.private k) a of)

  -- the node above one that is there
  pub record Parent (node parent : ℕ) : Type 0 where
    pub node_is : node_at t node ≡ down (child_at (node_at t node)) (kid_at (node_at t node)) (node_at t parent)
    pub known : parent < size t

  pub parent_is : (node parent : ℕ) → node < size t
      → option_map (number_of t) (parent_of (node_at t node)) ≡ Some parent → Parent node parent
  parent_is node parent known is = by (node_at t node) refl (there node known) is
    where
      by : (p : Path) → node_at t node ≡ p → Has t p → option_map (number_of t) (parent_of p) ≡ Some parent
          → Parent node parent
      by top at here e = absurd (let z : ⊥ = grind (arith, e) in z)
      by (down c k q) at here e =
          let above = has_parent t c k q here in
          let number : number_of t q ≡ parent = same_Some (number_of t q) parent e in
          let q_is : node_at t parent ≡ q = ap (node_at t) (sym number) ∙ node_at-number_of t q above in
          let lt = number_of-lt t q above in
          let all = whole g t fits in
          record {
            node_is =
                at
                ∙ ap (down c k) (sym q_is)
                ∙ ap (λ p. down (child_at p) (kid_at p) (node_at t parent)) (sym at);
            known = omega (arith, number, lt, all);
          }

  -- a node without one above it is the root
  pub root_is : (node : ℕ) → option_map (number_of t) (parent_of (node_at t node)) ≡ None → node_at t node ≡ top
  root_is node is = by (node_at t node) refl is
    where
      by : (p : Path) → node_at t node ≡ p → option_map (number_of t) (parent_of p) ≡ None → node_at t node ≡ top
      by top at e = at
      by (down c k q) at e = absurd (let z : ⊥ = grind (arith, e) in z)
