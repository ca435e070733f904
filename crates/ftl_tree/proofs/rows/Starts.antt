-- Where the entries of a node begin in a list that goes node by node.
use Rattle.std.proofs.Common.{◌≡◌, ℕ, zero, suc, ◌+◌, ◌<◌, ◌≤◌, List, [], ◌∷◌, length, get_or, take, map, sum_by, refl, sym, ap, ◌∙◌, arith}
use Rattle.std.proofs.lemmas.List.{length-map, take_all}
use Rattle.std.proofs.lemmas.List.Sums.{sum_by-cons, sum_by_more_le}
use Rattle.ftl_model.specs.layout.AttributeGrammar.{AttributeGrammar}
use Rattle.ftl_model.specs.layout.Path.{Path, class_at, node_at, preorder, top}
use Rattle.ftl_model.specs.layout.Table.{first_instance, instance_count, width_at}
use Rattle.ftl_model.specs.layout.Tree.{Forest, size}
use Rattle.ftl_model.specs.layout.TreeOf.{IsTreeOf}
use Rattle.ftl_model.proofs.layout.Numbering.{length-preorder}
use Rattle.ftl_tree.specs.declared.rows.row.NodeRow.{NodeRow}
use Rattle.ftl_tree.specs.rows.Rows.{attribute_width, row_of, rows_of, starts_by, sums_from}
use Rattle.ftl_tree.proofs.rows.Access.{length-by_node, number_at, size-one}

pub length-sums_from : (n : ℕ) (xs : List ℕ) → length (sums_from n xs) ≡ suc (length xs)
length-sums_from n [] = refl
length-sums_from n (x ∷ xs) = ap suc (length-sums_from (n + x) xs)

-- the sum of the first so many
abbrev pub first_by : (ℕ → ℕ) → Forest → List Path → ℕ
first_by width t ps = sum_by (λ p. width (class_at t p)) ps

sums-paths : (width : ℕ → ℕ) (t : Forest) (ps : List Path) (n i d : ℕ) → i ≤ length ps
    → get_or (sums_from n (map (λ (row : NodeRow). width row.class) (map (row_of t) ps))) i d ≡ n + first_by width t (take i ps)
sums-paths width t ps n zero d h = go ps
  where
    go : (ps : List Path) → get_or (sums_from n (map (λ (row : NodeRow). width row.class) (map (row_of t) ps))) 0 d ≡ n + first_by width t (take 0 ps)
    go [] = omega arith
    go (p ∷ ps) = omega arith
sums-paths width t [] n (suc i) d h = absurd (omega (arith, h))
sums-paths width t (p ∷ ps) n (suc i) d h =
    sums-paths width t ps (n + width (class_at t p)) i d (omega (arith, h))
    ∙ omega (arith, sum_by-cons (λ p. width (class_at t p)) p (take i ps))

-- where a node begins
pub start_at : (g : AttributeGrammar) (t : Forest) (rows : List NodeRow) (width : ℕ → ℕ) (starts : List ℕ) (n d : ℕ)
    → IsTreeOf g t → rows ≡ rows_of t → starts ≡ starts_by width rows → n ≤ size t
    → get_or starts n d ≡ first_by width t (take n (preorder t))
start_at g t rows width starts n d h are is k =
    ap (λ xs. get_or xs n d) (is ∙ ap (starts_by width) are)
    ∙ sums-paths width t (preorder t) 0 n d (omega (arith, length-preorder t, size-one g t h, k))
    ∙ (omega arith)

-- the number of a node's first instance
pub first_instance_at : (g : AttributeGrammar) (t : Forest) (rows : List NodeRow) (starts : List ℕ) (n d : ℕ)
    → IsTreeOf g t → rows ≡ rows_of t → starts ≡ starts_by (attribute_width g) rows → n < size t
    → get_or starts n d ≡ first_instance g t (node_at t n)
first_instance_at g t rows starts n d h are is k =
    start_at g t rows (attribute_width g) starts n d h are is (omega (arith, k))
    ∙ ap (λ m. sum_by (width_at g t) (take m (preorder t))) (sym (number_at g t n h k))

-- what a node has lies within the whole
pub room_at : (g : AttributeGrammar) (t : Forest) (rows : List NodeRow) (width : ℕ → ℕ) (starts : List ℕ) (n d : ℕ)
    → IsTreeOf g t → rows ≡ rows_of t → starts ≡ starts_by width rows → n < size t
    → get_or starts n d + width (class_at t (node_at t n)) ≤ get_or starts (size t) d
room_at g t rows width starts n d h are is k =
    let nodes : length (preorder t) ≡ size t = length-preorder t ∙ sym (size-one g t h) in
    let more = sum_by_more_le (λ p. width (class_at t p)) (preorder t) n top (omega (arith, nodes, k)) in
    let whole : take (size t) (preorder t) ≡ preorder t = take_all (size t) (preorder t) (omega (arith, nodes)) in
    let start = start_at g t rows width starts n d h are is (omega (arith, k)) in
    let end = start_at g t rows width starts (size t) d h are is (omega arith) in
    let all : first_by width t (take (size t) (preorder t)) ≡ first_by width t (preorder t) = ap (first_by width t) whole in
    omega (arith, more, start, end, all)

pub last_instance : (g : AttributeGrammar) (t : Forest) (rows : List NodeRow) (starts : List ℕ) (d : ℕ)
    → IsTreeOf g t → rows ≡ rows_of t → starts ≡ starts_by (attribute_width g) rows
    → get_or starts (size t) d ≡ instance_count g t
last_instance g t rows starts d h are is =
    let nodes : length (preorder t) ≡ size t = length-preorder t ∙ sym (size-one g t h) in
    start_at g t rows (attribute_width g) starts (size t) d h are is (omega arith)
    ∙ ap (sum_by (width_at g t)) (take_all (size t) (preorder t) (omega (arith, nodes)))

pub length-starts : (g : AttributeGrammar) (t : Forest) (rows : List NodeRow) (width : ℕ → ℕ) (starts : List ℕ)
    → IsTreeOf g t → rows ≡ rows_of t → starts ≡ starts_by width rows → length starts ≡ suc (size t)
length-starts g t rows width starts h are is =
    ap length is ∙ length-sums_from 0 (map (λ (row : NodeRow). width row.class) rows)
    ∙ ap suc (length-map rows (λ (row : NodeRow). width row.class) ∙ length-by_node g t (row_of t) rows h are)
