-- What is left from place to place.
use Rattle.std.proofs.Common.{◌≡◌, ℕ, suc, ◌<◌, ◌≤◌, true, false, if◌then◌else◌, List, [], ◌∷◌, ◌++◌, length, drop}
use Rattle.std.proofs.Common.{refl, sym, ◌∙◌, ap, append_assoc, add-one, arith}
use Rattle.std.proofs.lemmas.List.{drop_all, drop_more}
use Rattle.ftl_base.specs.Widths.{greatest_of_width}
use Rattle.ftl_deps.specs.reads.Meant.{meant}
use Rattle.ftl_document.specs.faults.WrittenOf.{WrittenKid, child_field, child_fields, fields_from, kids_in, nodes_from}
use Rattle.ftl_document.specs.faults.WrittenOf.{single_field, written_kids, written_of}
use Rattle.ftl_document.specs.syntax.Written.{WrittenFields, list_field}
use Rattle.ftl_document_printing.specs.text.DocumentText.{closed_by, document_written, field_opened, fields_written}
use Rattle.ftl_document_printing.specs.text.DocumentText.{mark_written, node_opened, nodes_written}
use Rattle.ftl_meaning.specs.faults.Numbering.{child_at, class_at, numbered}
use Rattle.ftl_grammar.specs.syntax.Trees as trees
use Rattle.ftl_grammar.specs.declared.syntax.rules.Grammar.{Grammar}
use Rattle.ftl_meaning.specs.lawful.Faultless.{IsFaultless}
use Rattle.ftl_meaning.proofs.lawful.Lawfulness.{faultless_lawful}
use Rattle.ftl_model.specs.lists.Lists.{AreDistinct}
use Rattle.ftl_model.proofs.lists.Elements.{distinct-filter}
use Rattle.ftl_model.specs.layout.AttributeGrammar.{attributes_of, class_inputs, is_input}
use Rattle.ftl_model.specs.layout.Path.{Has, Path, at, down, inputs_at, kids_at, number_of, top}
use Rattle.ftl_model.specs.layout.Tree.{Forest, IsTree, below_of, class_of, from_kid, inputs_of, none, size, tree}
use Rattle.ftl_model.specs.layout.TreeOf.{IsTreeOf}
use Rattle.ftl_model.proofs.layout.Fits.{fits_at, kid_stands}
use Rattle.ftl_model.proofs.layout.Standing.{node_at-number_of, number_of-lt}
use Rattle.ftl_order.proofs.orders.Kids.{class_known, kid_counted, kid_exists}
use Rattle.ftl_order.proofs.orders.Owners.{class_distinct}
use Rattle.ftl_tokens.specs.declared.scanner.kind.Kind.TheVariants as kind
use Rattle.ftl_tree.specs.trees.CheckedTree.{CheckedTree}
use Rattle.ftl_tree.proofs.rows.Access.{has_at, size-one}
use Rattle.ftl_document_printing.specs.trees.Left.{after, class_in, entered, fields_from_child, from_child, from_kid_on}
use Rattle.ftl_document_printing.specs.trees.Left.{inputs_written, is_many, kids_from, node_of}
use Rattle.ftl_document_printing.proofs.trees.InputFields.{inputs_are}
use Rattle.ftl_document_printing.proofs.trees.KidLists.{all_kids, kid_of, next_kid, no_kid}

module _ (t : CheckedTree) (is : IsTreeOf (meant t.checked) t.tree) where
  abbrev g : Grammar
  g = t.checked.grammar

  pub has_node : (n : ℕ) → n < size t.tree → Has t.tree (node_of t n)
  has_node n within = has_at (meant t.checked) t.tree n is within

  pub class_within : (n : ℕ) → n < size t.tree → class_in t (node_of t n) < length g.classes
  class_within n within = class_known (meant t.checked) t.tree is (node_of t n) (has_node n within)

  -- a kid has a number, and is the node of it
  pub number_within : (p : Path) → Has t.tree p → number_of t.tree p < size t.tree
  number_within p has = omega (arith, number_of-lt t.tree p has, size-one (meant t.checked) t.tree is)

  pub node_again : (p : Path) → Has t.tree p → node_of t (number_of t.tree p) ≡ p
  node_again p has = node_at-number_of t.tree p has

  pub kid_there : (p : Path) (c k : ℕ) → k < kids_at t.tree p c → Has t.tree (down c k p)
  kid_there p c k few = kid_exists c k (below_of (at t.tree p)) few

  pub kid_few : (p : Path) (c k : ℕ) → Has t.tree (down c k p) → k < kids_at t.tree p c
  kid_few p c k has = kid_counted c k (below_of (at t.tree p)) has

  pub child_known : (p : Path) (c k : ℕ) → Has t.tree (down c k p) → c < length (class_at g (class_in t p)).children
  child_known p c k has = (kid_stands (meant t.checked) t.tree c k p is has).declared

  -- one kid in a single child
  pub one_kid : (p : Path) (c : ℕ) → Has t.tree p → c < length (class_at g (class_in t p)).children
      → is_many t p c ≡ false → kids_at t.tree p c ≡ 1
  one_kid p c has known single = (fits_at (meant t.checked) t.tree p is has).class.singles c known single

  module _ (faultless : IsFaultless g) where
    distinct : (p : Path) → Has t.tree p → AreDistinct (class_inputs (meant t.checked) (class_in t p))
    distinct p has =
        distinct-filter (λ a. is_input ((meant t.checked).sort a)) (attributes_of (meant t.checked) (class_in t p))
        (class_distinct (meant t.checked) (faultless_lawful g t.checked.width faultless) (class_in t p)
        (class_known (meant t.checked) t.tree is p has))

    -- all fields of a node
    abbrev fields_at : Path → WrittenFields
    fields_at p = fields_from g (class_in t p) (inputs_at t.tree p) (written_kids g (below_of (at t.tree p)))

    whole_fields : (p : Path) → Has t.tree p
        → fields_written (fields_at p) ≡ inputs_written t p ++ fields_from_child t p 0
    whole_fields p has =
        inputs_are (greatest_of_width t.checked.width) g (class_in t p) (inputs_at t.tree p)
        (child_fields (numbered 0 (class_at g (class_in t p)).children) (written_kids g (below_of (at t.tree p))))
        (distinct p has) (fits_at (meant t.checked) t.tree p is has).class.count

    pub node_entered : (p : Path) → Has t.tree p
        → node_opened (class_at g (class_in t p)).name ++ (fields_written (fields_at p) ++ after t p) ≡ entered t p
    node_entered p has =
        ap (λ l. node_opened (class_at g (class_in t p)).name ++ (l ++ after t p)) (whole_fields p has)
        ∙ ap (λ l. node_opened (class_at g (class_in t p)).name ++ l)
        (append_assoc (inputs_written t p) (fields_from_child t p 0) (after t p))

    -- the next node of a list
    pub kid_entered : (p : Path) (c k : ℕ) → is_many t p c ≡ true → k < kids_at t.tree p c
        → from_kid_on t p c k ≡ entered t (down c k p)
    kid_entered p c k many few =
        let q = down c k p in
        let closing = closed_by kind.RightBracket (from_child t p (suc c)) in
        let later = nodes_written (nodes_from (kids_from t p c (suc k))) in
        ap (λ kids. nodes_written (nodes_from kids) ++ closing) (next_kid g c k (below_of (at t.tree p)) few)
        ∙ ap (λ l. node_opened (class_at g (class_in t q)).name ++ l)
        (append_assoc (fields_written (fields_at q)) (closed_by kind.RightBrace later) closing)
        ∙ ap (λ b. node_opened (class_at g (class_in t q)).name ++ (fields_written (fields_at q)
        ++ (mark_written kind.RightBrace ∷ (if b then later ++ closing else from_child t p (suc c))))) (sym many)
        ∙ node_entered q (kid_there p c k few)

    -- the end of a list
    pub list_ended : (p : Path) (c k : ℕ) → kids_at t.tree p c ≤ k
        → from_kid_on t p c k ≡ mark_written kind.RightBracket ∷ from_child t p (suc c)
    list_ended p c k past =
        ap (λ kids. nodes_written (nodes_from kids) ++ closed_by kind.RightBracket (from_child t p (suc c)))
        (no_kid g c k (below_of (at t.tree p)) past)

    -- the field of a child
    abbrev later_fields : Path → ℕ → WrittenFields
    later_fields p c =
        child_fields (numbered (suc c) (drop (suc c) (class_at g (class_in t p)).children)) (written_kids g (below_of
        (at t.tree p)))

    abbrev kids_there : Path → ℕ → List WrittenKid
    kids_there p c = kids_in c (written_kids g (below_of (at t.tree p)))

    this_child : (p : Path) (c : ℕ) → c < length (class_at g (class_in t p)).children
        → from_child t p c ≡ fields_written (child_field (child_at g (class_in t p) c) (kids_there p c)
        (later_fields p c)) ++ after t p
    this_child p c known =
        let children = (class_at g (class_in t p)).children in
        let kids = written_kids g (below_of (at t.tree p)) in
        ap (λ cs. fields_written (child_fields (numbered c cs) kids) ++ after t p)
        (drop_more children c (trees.child [] [] false) known)
        ∙ ap (λ n. fields_written (child_field (child_at g (class_in t p) c) (kids_there p c)
        (child_fields (numbered (suc c) (drop n children)) kids)) ++ after t p) (add-one c)

    pub list_opened : (p : Path) (c : ℕ) → c < length (class_at g (class_in t p)).children → is_many t p c ≡ true
        → from_child t p c
        ≡ field_opened (child_at g (class_in t p) c).name ++ (mark_written kind.LeftBracket ∷ from_kid_on t p c 0)
    list_opened p c known many =
        let name = (child_at g (class_in t p) c).name in
        let rest = later_fields p c in
        this_child p c known
        ∙ ap (λ b. fields_written (if b then list_field name (nodes_from (kids_there p c)) rest else single_field name
        (kids_there p c) rest) ++ after t p) many
        ∙ ap (λ l. field_opened name ++ (mark_written kind.LeftBracket ∷ l))
        (append_assoc (nodes_written (nodes_from (kids_there p c))) (closed_by kind.RightBracket
        (fields_written rest)) (after t p))
        ∙ ap (λ kids. field_opened name ++ (mark_written kind.LeftBracket ∷ (nodes_written (nodes_from kids)
        ++ closed_by kind.RightBracket (from_child t p (suc c))))) (sym (all_kids g c (below_of (at t.tree p))))

    pub single_entered : (p : Path) (c : ℕ) → Has t.tree p → c < length (class_at g (class_in t p)).children
        → is_many t p c ≡ false
        → from_child t p c ≡ field_opened (child_at g (class_in t p) c).name ++ entered t (down c 0 p)
    single_entered p c has known single =
        let name = (child_at g (class_in t p) c).name in
        let rest = later_fields p c in
        let q = down c 0 p in
        let one = one_kid p c has known single in
        let below = below_of (at t.tree p) in
        let kids : kids_there p c ≡ kid_of g c (from_kid c 0 below) ∷ [] =
        sym (all_kids g c below) ∙ next_kid g c 0 below (omega (arith, one))
        ∙ ap (λ l. kid_of g c (from_kid c 0 below) ∷ l) (no_kid g c 1 below (omega (arith, one))) in
        this_child p c known
        ∙ ap (λ b. fields_written (if b then list_field name (nodes_from (kids_there p c)) rest else single_field name
        (kids_there p c) rest) ++ after t p) single
        ∙ ap (λ l. fields_written (single_field name l rest) ++ after t p) kids
        ∙ ap (λ l. field_opened name ++ (node_opened (class_at g (class_in t q)).name ++ l))
        (append_assoc (fields_written (fields_at q)) (closed_by kind.RightBrace (fields_written rest)) (after t p))
        ∙ ap (λ b. field_opened name ++ (node_opened (class_at g (class_in t q)).name ++ (fields_written (fields_at q)
        ++ (mark_written kind.RightBrace ∷ (if b then nodes_written (nodes_from
        (kids_from t p c 1)) ++ closed_by kind.RightBracket (from_child t p (suc c))
        else from_child t p (suc c)))))) (sym single)
        ∙ ap (λ l. field_opened name ++ l) (node_entered q (kid_there p c 0 (omega (arith, one))))

    -- no child is left
    pub fields_ended : (p : Path) (c : ℕ) → length (class_at g (class_in t p)).children ≤ c
        → from_child t p c ≡ after t p
    fields_ended p c past =
        ap (λ cs. fields_written (child_fields (numbered c cs) (written_kids g (below_of (at t.tree p)))) ++ after t p)
        (drop_all c (class_at g (class_in t p)).children past)

    -- the whole document
    written_is : (f : Forest) → IsTree f → written_of g f ≡ record {
      class = (class_at g (class_of f)).name;
      fields = fields_from g (class_of f) (inputs_of f) (written_kids g (below_of f));
    }
    written_is none there = absurd there
    written_is (tree k c i below beside) there = refl

    pub whole : Has t.tree top → document_written (written_of g t.tree) ≡ entered t top
    whole has = ap document_written (written_is t.tree has) ∙ node_entered top has
