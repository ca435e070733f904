-- The text of an example by number is its text by instance.
use Rattle.std.proofs.Common.{◌≡◌, ℕ, List, [], ◌∷◌, ◌++◌, map, flat_map, refl, sym, ◌∙◌, ap, ap₂, subst, Contains}
use Rattle.std.specs.Prelude.{codes}
use Rattle.ftl_deps.specs.reads.Meant.{meant}
use Rattle.ftl_document.specs.faults.WrittenOf.{written_of}
use Rattle.ftl_document_printing.specs.text.DocumentText.{document_text}
use Rattle.ftl_model.proofs.lists.Elements.{here_in, later_in}
use Rattle.ftl_model.proofs.lists.Rising.{in_map}
use Rattle.ftl_model.specs.layout.Path.{top}
use Rattle.ftl_model.specs.layout.Solves.{Instance, IsInstance, instance_of}
use Rattle.ftl_model.specs.layout.Table.{instance_number}
use Rattle.ftl_order.specs.orders.Pairs.{Pair}
use Rattle.ftl_nests.specs.Nests.{NestingSchedule}
use Rattle.ftl_order.proofs.orders.Instances.{instance_at_number, number_within}
use Rattle.ftl_tree.specs.trees.CheckedTree.{CheckedTree}
use Rattle.ftl_answer.specs.answers.Explanations.{example_text, instance_line}
use Rattle.ftl_answer.specs.explanations.Rows.{AreNumbers, IsExampleOf, IsNumber, numbered_line, numbered_text}

module _ (t : CheckedTree) where
  -- an instance of the tree
  abbrev Is : Instance → Type 0
  Is i = IsInstance (meant t.checked) t.tree i

  abbrev number : Instance → ℕ
  number i = instance_number (meant t.checked) t.tree i

  number_is : (i : Instance) (n : ℕ) → Is i → n ≡ number i → IsNumber t n
  number_is i n is e =
      subst (IsNumber t) (sym e) (number_within (meant t.checked) t.tree i.node i.attribute is.0 is.1)

  line_is : (i : Instance) (n : ℕ) → Is i → n ≡ number i → numbered_line t n ≡ instance_line t.checked.grammar t.tree i
  line_is i n is e =
      ap (numbered_line t) e
      ∙ ap (instance_line t.checked.grammar t.tree)
      (instance_at_number (meant t.checked) t.tree i.node i.attribute (instance_of top 0) is.0 is.1)

  lines_are : (steps : List Instance) → ((i : Instance) → Contains steps i → Is i)
      → flat_map (numbered_line t) (map number steps) ≡ flat_map (instance_line t.checked.grammar t.tree) steps
  lines_are [] each = refl
  lines_are (i ∷ steps) each =
      ap₂ (λ x y. x ++ y) (line_is i (number i) (each i (here_in i steps)) refl)
      (lines_are steps (λ j there. each j (later_in i j steps there)))

  numbers_are : (steps : List Instance) → ((i : Instance) → Contains steps i → Is i) → AreNumbers t (map number steps)
  numbers_are steps each n there =
      let m = in_map number steps n there in number_is m.from n (each m.from m.there) (sym m.is)

  module _ (s : NestingSchedule) (pair : Pair) (reader writer : ℕ) (numbers : List ℕ)
      (e : IsExampleOf s pair t reader writer numbers) where
    pub reader_known : IsNumber t reader
    reader_known = number_is e.reading reader e.is.shows.reader_there.0 e.reader_is

    pub writer_known : IsNumber t writer
    writer_known = number_is e.written writer e.is.shows.writer_there.0 e.writer_is

    steps_there : (i : Instance) → Contains e.steps i → Is i
    steps_there i there = (e.is.legal.steps i there).0

    pub order_known : AreNumbers t numbers
    order_known = subst (AreNumbers t) (sym e.order_is) (numbers_are e.steps steps_there)

    pub text_is : numbered_text t reader writer numbers
        ≡ example_text t.checked.grammar t.tree e.reading e.written e.steps
    text_is =
        let document = document_text (written_of t.checked.grammar t.tree) in
        let first = line_is e.reading reader e.is.shows.reader_there.0 e.reader_is in
        let second = line_is e.written writer e.is.shows.writer_there.0 e.writer_is in
        let rest = ap (flat_map (numbered_line t)) e.order_is ∙ lines_are e.steps steps_there in
        ap₂
        (λ x y. codes "reader " ++ (x ++ (codes "writer " ++ (y ++ (document ++ flat_map (numbered_line t) numbers)))))
        first second
        ∙ ap
        (λ z.
        codes "reader " ++ (instance_line t.checked.grammar t.tree e.reading ++ (codes "writer "
        ++ (instance_line t.checked.grammar t.tree e.written ++ (document ++ z)))))
        rest
