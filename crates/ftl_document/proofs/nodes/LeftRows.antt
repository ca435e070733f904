-- The rows and inputs in the tree of what is left of a document, as nodes are taken from it.
use Rattle.std.proofs.Common.{◌≡◌, ℕ, ◌≤◌, ◌∙◌, ap, arith, List, [], ◌∷◌, ◌++◌, ℤ, append_assoc}
use Rattle.ftl_grammar.specs.declared.syntax.rules.Grammar.{Grammar}
use Rattle.ftl_tree.specs.declared.rows.row.NodeRow.{NodeRow}
use Rattle.ftl_document.specs.nodes.Walk.{HaveFewKids, Left, all_node_rows}

-- more nodes have come, and no more kids
pub few_kids_more : (m n : ℕ) (lefts : List Left) → m ≤ n → HaveFewKids m lefts → HaveFewKids n lefts
few_kids_more m n [] h few = tt
few_kids_more m n (x ∷ lefts) h few =
    let kid = few.0 in (omega (arith, h, kid), few_kids_more m n lefts h few.1)

-- the rows of a list, and those behind it
pub rows_beside : (g : Grammar) (others : List Left) (inner rest : List NodeRow) (m n : ℕ) → m ≡ n
    → (inner ++ rest) ++ all_node_rows g m others ≡ inner ++ (rest ++ all_node_rows g n others)
rows_beside g others inner rest m n same =
    append_assoc inner rest (all_node_rows g m others)
    ∙ ap (λ k. inner ++ (rest ++ all_node_rows g k others)) same

-- the same with a node before them
pub rows_behind : (g : Grammar) (others : List Left) (row : NodeRow) (inner rest : List NodeRow) (m n : ℕ) → m ≡ n
    → row ∷ ((inner ++ rest) ++ all_node_rows g m others)
    ≡ row ∷ (inner ++ (rest ++ all_node_rows g n others))
rows_behind g others row inner rest m n same =
    ap (λ (ys : List NodeRow). row ∷ ys) (rows_beside g others inner rest m n same)

-- the inputs of a node, those of the nodes below it, and those behind
pub inputs_behind : (own inner rest outer : List ℤ)
    → (own ++ (inner ++ rest)) ++ outer ≡ own ++ (inner ++ (rest ++ outer))
inputs_behind own inner rest outer =
    append_assoc own (inner ++ rest) outer ∙ ap (λ (ys : List ℤ). own ++ ys) (append_assoc inner rest outer)
