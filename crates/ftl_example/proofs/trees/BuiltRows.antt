-- The rows of a tree that is built, child by child and kid by kid.
use Rattle.std.proofs.Common.{◌≡◌, ℕ, zero, suc, ◌+◌, ◌<◌, ◌≤◌, ◌==◌, true, false, if◌then◌else◌, refl, sym, ◌∙◌, ap, ap₂, arith, List, [], ◌∷◌, ◌++◌, length, append_assoc, eqb-true, eq-eqb}
use Rattle.std.proofs.lemmas.List.{append-nil, length-append}
use Rattle.ftl_model.specs.layout.AttributeGrammar.{AttributeGrammar}
use Rattle.ftl_model.specs.layout.Path.{one_more}
use Rattle.ftl_model.specs.layout.Tree.{Forest, none, size, tree}
use Rattle.ftl_tree.specs.declared.rows.row.NodeRow.{NodeRow}
use Rattle.ftl_tree.specs.declared.rows.row.Place.{Place}
use Rattle.ftl_example.specs.declared.trees.site.Site.{Site}
use Rattle.ftl_example.specs.trees.BuiltRows.{children_rows, forest_rows, kid_rows, node_rows, row_at, site_rows}
use Rattle.ftl_example.specs.trees.ExampleTree.{Want}
use Rattle.ftl_example.specs.trees.Grown.{Choices, children_from, grown, kids_from}
use Rattle.ftl_example.specs.trees.WantsMeant.{want_meant}

pub length-forest_rows : (n m : ℕ) (seen : ℕ → ℕ) (f : Forest) → length (forest_rows n m seen f) ≡ size f
length-forest_rows n m seen none = refl
length-forest_rows n m seen (tree k c i b s) =
    ap suc
    (length-append (forest_rows m (suc m) (λ d. 0) b) (forest_rows n (suc m + size b) (one_more c seen) s)
    ∙ ap₂ (λ x y. x + y) (length-forest_rows m (suc m) (λ d. 0) b)
    (length-forest_rows n (suc m + size b) (one_more c seen) s))

pub length-node_rows : (n : ℕ) (place : Place) (m : ℕ) (node : ℕ × Forest)
    → length (node_rows n place m node) ≡ suc (size node.1)
length-node_rows n place m node = ap suc (length-forest_rows m (suc m) (λ d. 0) node.1)

one_more_here : (c : ℕ) (seen : ℕ → ℕ) → one_more c seen c ≡ suc (seen c)
one_more_here c seen = ap (λ b. if b then suc (seen c) else seen c) (eq-eqb c c refl)

one_more_else : (c d : ℕ) (seen : ℕ → ℕ) → c < d → one_more c seen d ≡ seen d
one_more_else c d seen less =
    elim (c == d) as (λ b. (c == d ≡ b) → (if b then suc (seen d) else seen d) ≡ seen d) [
      | true ↦ λ e. absurd (let same = eqb-true c d e in omega (arith, less, same))
      | false ↦ λ e. refl
    ] refl

module _ (g : AttributeGrammar) (pick : Want → ℕ → ℕ × Forest) (n : ℕ) where
  -- kids of one child, before what has these rows
  rows_kids : (i c : ℕ) (rest : Forest) (later : ℕ → List NodeRow)
      → ((m : ℕ) (seen : ℕ → ℕ) → ((d : ℕ) → c < d → seen d ≡ 0) → forest_rows n m seen rest ≡ later m)
      → (xs : List Want) (j m : ℕ) (seen : ℕ → ℕ) → seen c ≡ j → ((d : ℕ) → c < d → seen d ≡ 0)
      → forest_rows n m seen (kids_from g pick i c xs rest)
      ≡ kid_rows pick n m i c j xs ++ later (m + length (kid_rows pick n m i c j xs))
  rows_kids i c rest later is [] j m seen here none_yet =
      is m seen none_yet ∙ ap later (let z : m ≡ m + 0 = omega arith in z)
  rows_kids i c rest later is (x ∷ xs) j m seen here none_yet =
      let node = pick x i in
      let own : List NodeRow = node_rows n (record { child = c; kid = j }) m node in
      let e : suc m + size node.1 ≡ m + length own =
      (let l = length-node_rows n (record { child = c; kid = j }) m node in omega (arith, l)) in
      let more = kid_rows pick n (m + length own) i c (suc j) xs in
      ap₂ (λ k ys. row_at node.0 n (record { child = c; kid = k }) ∷ (forest_rows m (suc m) (λ d. 0) node.1 ++ ys)) here
      (rows_kids i c rest later is xs (suc j) (suc m + size node.1) (one_more c seen) (one_more_here c seen ∙ ap suc here)
      (λ d less. one_more_else c d seen less ∙ none_yet d less)
      ∙ ap (λ x. kid_rows pick n x i c (suc j) xs ++ later (x + length (kid_rows pick n x i c (suc j) xs))) e)
      ∙ sym (append_assoc own more (later (m + length own + length more)))
      ∙ ap (λ x. (own ++ more) ++ later x)
      (let l = length-append own more in let z : m + length own + length more ≡ m + length (own ++ more) = omega (arith, l) in z)

  pub rows_children : (wants : ℕ → List Want) (k count c m : ℕ) (seen : ℕ → ℕ) → ((d : ℕ) → c ≤ d → seen d ≡ 0)
      → forest_rows n m seen (children_from g pick wants k c count) ≡ children_rows g pick wants n m k c count
  rows_children wants k zero c m seen none_yet = refl
  rows_children wants k (suc count) c m seen none_yet =
      rows_kids (g.child_interface k c) c (children_from g pick wants k (suc c) count)
      (λ x. children_rows g pick wants n x k (suc c) count)
      (λ x later none_later. rows_children wants k count (suc c) x later (λ d le. none_later d (omega (arith, le))))
      (wants c) 0 m seen (none_yet c (omega arith)) (λ d less. none_yet d (omega (arith, less)))

module _ (g : AttributeGrammar) (ch : Choices Want) where
  -- a node's row, and then those of its children
  pub site_is : (f steps k count : ℕ) (x : Site) (m : ℕ) → suc f ≡ steps → k ≡ ch.class_for (want_meant x.want) x.interface
      → count ≡ g.child_count k
      → site_rows (grown g ch steps) x m
      ≡ row_at k x.parent x.place
      ∷ children_rows g (grown g ch f) (ch.kids_for (want_meant x.want) x.interface) m (suc m) k 0 count
  site_is f steps k count x m e class many =
      let w = want_meant x.want in
      let i = x.interface in
      ap (λ s. node_rows x.parent x.place m (grown g ch s w i)) (sym e)
      ∙ ap (λ y. row_at (ch.class_for w i) x.parent x.place ∷ y)
      (rows_children g (grown g ch f) m (ch.kids_for w i) (ch.class_for w i) (g.child_count (ch.class_for w i)) 0 (suc m)
      (λ d. 0) (λ d le. refl))
      ∙ ap (λ y. row_at y x.parent x.place ∷ children_rows g (grown g ch f) (ch.kids_for w i) m (suc m) y 0 (g.child_count y))
      (sym class)
      ∙ ap (λ y. row_at k x.parent x.place ∷ children_rows g (grown g ch f) (ch.kids_for w i) m (suc m) k 0 y) (sym many)

module _ (g : AttributeGrammar) (pick : Want → ℕ → ℕ × Forest) (wants : ℕ → List Want) (node k : ℕ) where
  -- what is put and what is left make up all
  abbrev pub Makes : (c m : ℕ) (rows total : List NodeRow) → Type 0
  Makes c m rows total = rows ++ children_rows g pick wants node (length rows) k c m ≡ total

  abbrev pub kids_at_child : (c : ℕ) (rows : List NodeRow) → List NodeRow
  kids_at_child c rows = kid_rows pick node (length rows) (g.child_interface k c) c 0 (wants c)

  pub kids_fit : (c m : ℕ) (rows total : List NodeRow) → Makes c (suc m) rows total → length total ≤ 1048576
      → length rows + length (kids_at_child c rows) ≤ 1048576
  kids_fit c m rows total makes small =
      let own = kids_at_child c rows in
      let rest = children_rows g pick wants node (length rows + length own) k (suc c) m in
      let a = length-append rows (own ++ rest) in
      let b = length-append own rest in
      let e = ap length makes in
      omega (arith, a, b, e, small)

  pub kids_made : (c m : ℕ) (rows after total : List NodeRow) → after ≡ rows ++ kids_at_child c rows
      → Makes c (suc m) rows total → Makes (suc c) m after total
  kids_made c m rows after total put makes =
      let own = kids_at_child c rows in
      let rest = λ (x : ℕ). children_rows g pick wants node x k (suc c) m in
      ap (λ xs. xs ++ rest (length xs)) put
      ∙ ap (λ x. (rows ++ own) ++ rest x) (length-append rows own)
      ∙ append_assoc rows own (rest (length rows + length own))
      ∙ makes

  pub all_made : (c : ℕ) (rows total : List NodeRow) → Makes c 0 rows total → rows ≡ total
  all_made c rows total makes = sym (append-nil rows) ∙ makes

module _ (pick : Want → ℕ → ℕ × Forest) (n i c : ℕ) where
  abbrev kid_row : (j m : ℕ) (x : Want) → List NodeRow
  kid_row j m x = node_rows n (record { child = c; kid = j }) m (pick x i)

  pub first_fits : (j m : ℕ) (x : Want) (xs : List Want) → m + length (kid_rows pick n m i c j (x ∷ xs)) ≤ 1048576
      → m + length (kid_row j m x) ≤ 1048576
  first_fits j m x xs fits =
      let a = length-append (kid_row j m x) (kid_rows pick n (m + length (kid_row j m x)) i c (suc j) xs) in
      omega (arith, a, fits)

  pub next_fits : (j m : ℕ) (x : Want) (xs : List Want) → m + length (kid_rows pick n m i c j (x ∷ xs)) ≤ 1048576
      → (m + length (kid_row j m x)) + length (kid_rows pick n (m + length (kid_row j m x)) i c (suc j) xs) ≤ 1048576
  next_fits j m x xs fits =
      let a = length-append (kid_row j m x) (kid_rows pick n (m + length (kid_row j m x)) i c (suc j) xs) in
      omega (arith, a, fits)

-- all rows, where the node's own was put first
pub total_is : (g : AttributeGrammar) (ch : Choices Want) (f steps k count : ℕ) (x : Site) (old pushed : List NodeRow)
    (row : NodeRow) (node : ℕ) → suc f ≡ steps → k ≡ ch.class_for (want_meant x.want) x.interface → count ≡ g.child_count k
    → pushed ≡ old ++ row ∷ [] → row ≡ row_at k x.parent x.place → node ≡ length old
    → pushed
    ++ children_rows g (grown g ch f) (ch.kids_for (want_meant x.want) x.interface) node (length pushed) k 0 count
    ≡ old ++ site_rows (grown g ch steps) x (length old)
total_is g ch f steps k count x old pushed row node e class many put is number =
    let below = λ (n m : ℕ). children_rows g (grown g ch f) (ch.kids_for (want_meant x.want) x.interface) n m k 0 count in
    let own : NodeRow = row_at k x.parent x.place in
    let first : pushed ≡ old ++ own ∷ [] = put ∙ ap (λ r. old ++ r ∷ []) is in
    let len : length pushed ≡ suc (length old) =
    (let l = ap length first ∙ length-append old (own ∷ []) in omega (arith, l)) in
    ap₂ (λ xs m. xs ++ below node m) first len
    ∙ append_assoc old (own ∷ []) (below node (suc (length old)))
    ∙ ap (λ n. old ++ (own ∷ below n (suc (length old)))) number
    ∙ ap (λ ys. old ++ ys) (sym (site_is g ch f steps k count x (length old) e class many))
