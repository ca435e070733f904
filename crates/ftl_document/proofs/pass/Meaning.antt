-- What a pass takes are nodes without a fault, with these rows in the tree and these inputs.
use Rattle.std.proofs.Common.{◌≡◌, ℕ, suc, ◌+◌, ◌<◌, ◌≤◌, false, true, if◌then◌else◌, refl, sym, ap, ap₂, ◌∙◌, subst, arith, List, [], ◌∷◌, ◌++◌, length, map, Contains, None, ℤ, append_assoc, append-nil, length-append}
use Rattle.std.specs.List.{AllByRecursion, sum_by}
use Rattle.std.proofs.lemmas.List.Sums.{sum_by-append, sum_by-cons}
use Rattle.ftl_model.proofs.lists.Elements.{here_in, later_in}
use Rattle.ftl_model.proofs.lists.Each.{each-append}
use Rattle.ftl_model.specs.layout.TreeOf as trees_of
use Rattle.ftl_tokens.specs.declared.scanner.kind.Kind.TheVariants as kind
use Rattle.ftl_tokens.specs.scanner.Tokenized.{name, fixed}
use Rattle.ftl_tokens.specs.reading.Reader.{Tokens}
use Rattle.ftl_grammar.specs.syntax.Trees as trees
use Rattle.ftl_grammar.specs.declared.syntax.rules.Child.{Child}
use Rattle.ftl_grammar.specs.declared.syntax.rules.Grammar.{Grammar}
use Rattle.ftl_meaning.specs.faults.FirstFault as grammars
use Rattle.ftl_meaning.specs.faults.Numbering.{child_at, children_of, class_at, class_attributes, interface_number}
use Rattle.ftl_meaning.proofs.lawful.Numbers.{in_numbered}
use Rattle.ftl_tree.specs.declared.rows.row.NodeRow.{NodeRow}
use Rattle.ftl_document.specs.faults.DocumentTree.{inputs_in}
use Rattle.ftl_document.specs.faults.FirstFault.{input_names, node_fault}
use Rattle.ftl_document.specs.faults.Nodes.{FieldForm, FieldHead, StandingNode, child_by, child_number, class_number, field_heads, head_of}
use Rattle.ftl_document.specs.faults.Nodes.{list_form, node_form, number_form, number_or_zero, nodes_beside, nodes_in, standing, wanted_in}
use Rattle.ftl_document.specs.faults.Within.{AreAllWithin, AreWithin}
use Rattle.ftl_document.specs.faults.WrittenOf.{input_fields}
use Rattle.ftl_document.specs.nodes.NodeRows.{node_inputs_beside, node_inputs_in, node_row, node_rows_beside, node_rows_in}
use Rattle.ftl_document.specs.nodes.Walk.{width_of}
use Rattle.ftl_document.specs.syntax.Sizes.{levels_of_fields, levels_of_list, nodes_in_fields, nodes_in_list}
use Rattle.ftl_document.specs.syntax.Spelling.{SpellsFields, SpellsNodes, list_and, no_more, node_more, none, number_and, single_and}
use Rattle.ftl_document.specs.syntax.Written.{NameText, WrittenFields, WrittenNodes, list_field, no_fields, no_nodes, node_and}
use Rattle.ftl_document.specs.syntax.Written.{node_field, number_field}
use Rattle.ftl_document.specs.pass.Good.{AreChildren, AreInputs, AreKids, IsNode, State, before, entered}
use Rattle.ftl_document.specs.pass.Good.{input_more, kid_more, list_more, no_children, no_inputs, no_kids, node_is, single_more}
use Rattle.ftl_document.proofs.faults.ChildNames.{child_found}
use Rattle.ftl_document.proofs.faults.WrittenRight.{input_heads, node_right}
use Rattle.ftl_document.proofs.faults.WrittenTrees.{class_back, inputs_back, inputs_differ}

-- a class with braces, before others
braces_before : (class : NameText) (a b first mid rest : Tokens)
    → first ≡ name class ∷ fixed kind.LeftBrace ∷ (a ++ (fixed kind.RightBrace ∷ mid)) → mid ≡ b ++ rest
    → first ≡ (name class ∷ fixed kind.LeftBrace ∷ (a ++ (fixed kind.RightBrace ∷ b))) ++ rest
braces_before class a b first mid rest e f =
    e
    ∙ ap (λ (ts : Tokens). name class ∷ fixed kind.LeftBrace ∷ (a ++ (fixed kind.RightBrace ∷ ts))) f
    ∙ ap (λ (ts : Tokens). name class ∷ fixed kind.LeftBrace ∷ ts) (sym (append_assoc a (fixed kind.RightBrace ∷ b) rest))

module _ (g : Grammar) (lawful : grammars.first_fault g ≡ None) (greatest : ℕ) where
  abbrev EachFine : StandingNode → Type 0
  EachFine x = (n : ℕ) → node_fault g (n, x) ≡ None

  -- no node has a fault, whatever its number
  abbrev AreFine : List StandingNode → Type 0
  AreFine = AllByRecursion EachFine

  -- ---- inputs

  record InputsMean (names : List NameText) (s t : State) (numbers : List ℤ) : Type 0 where
    same : length names ≡ length numbers
    front : Tokens
    spells : (b : Tokens) (later : WrittenFields) → SpellsFields b later → SpellsFields (front ++ b) (input_fields names numbers later)
    tokens : s.tokens ≡ front ++ t.tokens
    rows : t.rows ≡ s.rows
    inputs : t.inputs ≡ s.inputs ++ numbers
    count : t.count ≡ s.count
    within : trees_of.AreInputs greatest numbers

  record SomeInputs (names : List NameText) (s t : State) : Type 0 where
    numbers : List ℤ
    mean : InputsMean names s t numbers

  inputs_mean : {names : List NameText} {s t : State} → AreInputs greatest names s t → SomeInputs names s t
  inputs_mean (no_inputs {s = s}) = record {
    numbers = [];
    mean = record {
      same = refl;
      front = [];
      spells = λ b later h. h;
      tokens = refl;
      rows = refl;
      inputs = sym (append-nil s.inputs);
      count = refl;
      within = tt;
    };
  }
  inputs_mean (input_more {x = x} {names = names} {front = a} {n = n} {s = s} {t = t} {u = u} sp is e rest) =
      let r = inputs_mean rest in
      let m = r.mean in
      subst (λ (q : State). SomeInputs (x ∷ names) q u) (sym e)
      (record {
        numbers = n ∷ r.numbers;
        mean = record {
          same = (let few = m.same in omega (arith, few));
          front = name x ∷ fixed kind.Equals ∷ (a ++ m.front);
          spells = λ b later h.
              subst (λ (ts : Tokens). SpellsFields (name x ∷ fixed kind.Equals ∷ ts) (number_field x n (input_fields names r.numbers later)))
              (sym (append_assoc a m.front b)) (number_and sp (m.spells b later h));
          tokens =
              ap (λ (ts : Tokens). name x ∷ fixed kind.Equals ∷ (a ++ ts)) m.tokens
              ∙ ap (λ (ts : Tokens). name x ∷ fixed kind.Equals ∷ ts) (sym (append_assoc a m.front u.tokens));
          rows = m.rows;
          inputs = m.inputs ∙ append_assoc t.inputs (n ∷ []) r.numbers;
          count = m.count;
          within = (is, m.within);
        };
      })

  -- ---- fields of inputs before others add no nodes

  rows_after : (k n m : ℕ) (names : List NameText) (numbers : List ℤ) (later : WrittenFields)
      → node_rows_in g k n m (input_fields names numbers later) ≡ node_rows_in g k n m later
  rows_after k n m [] numbers later = refl
  rows_after k n m (x ∷ names) [] later = refl
  rows_after k n m (x ∷ names) (y ∷ numbers) later = rows_after k n m names numbers later

  inputs_after : (names : List NameText) (numbers : List ℤ) (later : WrittenFields)
      → node_inputs_in g (input_fields names numbers later) ≡ node_inputs_in g later
  inputs_after [] numbers later = refl
  inputs_after (x ∷ names) [] later = refl
  inputs_after (x ∷ names) (y ∷ numbers) later = inputs_after names numbers later

  nodes_after : (k : ℕ) (names : List NameText) (numbers : List ℤ) (later : WrittenFields)
      → nodes_in g k (input_fields names numbers later) ≡ nodes_in g k later
  nodes_after k [] numbers later = refl
  nodes_after k (x ∷ names) [] later = refl
  nodes_after k (x ∷ names) (y ∷ numbers) later = nodes_after k names numbers later

  counted_after : (names : List NameText) (numbers : List ℤ) (later : WrittenFields)
      → nodes_in_fields (input_fields names numbers later) ≡ nodes_in_fields later
  counted_after [] numbers later = refl
  counted_after (x ∷ names) [] later = refl
  counted_after (x ∷ names) (y ∷ numbers) later = counted_after names numbers later

  levels_after : (names : List NameText) (numbers : List ℤ) (later : WrittenFields)
      → levels_of_fields (input_fields names numbers later) ≡ levels_of_fields later
  levels_after [] numbers later = refl
  levels_after (x ∷ names) [] later = refl
  levels_after (x ∷ names) (y ∷ numbers) later = levels_after names numbers later

  within_after : (names : List NameText) (numbers : List ℤ) (later : WrittenFields) → trees_of.AreInputs greatest numbers
      → AreWithin greatest later → AreWithin greatest (input_fields names numbers later)
  within_after [] numbers later are rest = rest
  within_after (x ∷ names) [] later are rest = rest
  within_after (x ∷ names) (y ∷ numbers) later are rest = (are.0, within_after names numbers later are.1 rest)

  -- ---- children

  -- the name of a child stands for it
  record PlaceOf (k : ℕ) (c : ℕ × Child) : Type 0 where
    number : child_number g k c.1.name ≡ c.0
    at : child_at g k c.0 ≡ c.1

  children_placed : (k : ℕ) → k < length g.classes → (c : ℕ × Child) → Contains (children_of g k) c → PlaceOf k c
  children_placed k known c there =
      let s = in_numbered 0 (class_at g k).children c there in
      let below = s.known in
      let number = s.number in
      let at : child_at g k c.0 ≡ c.1 =
      ap (child_at g k) (let z : c.0 ≡ s.place = omega (arith, number) in z) ∙ s.is (trees.child [] [] false) in
      record {
        number =
            ap (λ (x : Child). child_number g k x.name) (sym at)
            ∙ ap (λ o. number_or_zero (child_by o)) (child_found g lawful k c.0 known (let z : c.0 < length (class_at g k).children = omega (arith, below, number) in z));
        at = at;
      }

  wanted_is : (k : ℕ) (c : ℕ × Child) → PlaceOf k c → wanted_in g k c.1.name ≡ interface_number g c.1.interface
  wanted_is k c place =
      ap (λ j. interface_number g (child_at g k j).interface) place.number
      ∙ ap (λ (x : Child). interface_number g x.interface) place.at

  abbrev child_head : ℕ × Child → FieldHead
  child_head c = head_of c.1.name (if c.1.many then list_form else node_form)

  -- ---- what nodes mean

  pub record NodeMeans (depth wanted n c i : ℕ) (s t : State) (class : NameText) (fields : WrittenFields) (k : ℕ) : Type 0 where
    pub front : Tokens
    pub spells : SpellsFields front fields
    pub tokens : s.tokens ≡ name class ∷ fixed kind.LeftBrace ∷ (front ++ (fixed kind.RightBrace ∷ t.tokens))
    pub rows : t.rows ≡ s.rows ++ (node_row k n c i ∷ node_rows_in g k (length s.rows) (suc (length s.rows)) fields)
    pub number : length t.rows ≡ suc (length s.rows) + nodes_in_fields fields
    pub inputs : t.inputs ≡ s.inputs ++ (inputs_in g k fields ++ node_inputs_in g fields)
    pub count : t.count ≡ s.count + (length (class_attributes g k) + sum_by (width_of g) (nodes_in g k fields))
    pub own : EachFine (standing wanted class fields)
    pub fine : AreFine (nodes_in g k fields)
    pub within : AreWithin greatest fields
    pub levels : suc (levels_of_fields fields) ≤ depth

  pub record SomeNode (depth wanted n c i : ℕ) (s t : State) : Type 0 where
    pub class : NameText
    pub fields : WrittenFields
    pub mean : NodeMeans depth wanted n c i s t class fields (class_number g class)

  record FieldsMean (depth k n : ℕ) (s t : State) (fields : WrittenFields) : Type 0 where
    front : Tokens
    spells : SpellsFields front fields
    tokens : s.tokens ≡ front ++ t.tokens
    rows : t.rows ≡ s.rows ++ node_rows_in g k n (length s.rows) fields
    number : length t.rows ≡ length s.rows + nodes_in_fields fields
    inputs : t.inputs ≡ s.inputs ++ node_inputs_in g fields
    count : t.count ≡ s.count + sum_by (width_of g) (nodes_in g k fields)
    fine : AreFine (nodes_in g k fields)
    within : AreWithin greatest fields
    levels : levels_of_fields fields ≤ depth

  record SomeFields (depth k n : ℕ) (cs : List (ℕ × Child)) (s t : State) : Type 0 where
    fields : WrittenFields
    mean : FieldsMean depth k n s t fields
    heads : field_heads fields ≡ map child_head cs

  record KidsMean (depth wanted n c i : ℕ) (s t : State) (nodes : WrittenNodes) : Type 0 where
    front : Tokens
    spells : SpellsNodes front nodes
    tokens : s.tokens ≡ front ++ t.tokens
    rows : t.rows ≡ s.rows ++ node_rows_beside g n c i (length s.rows) nodes
    number : length t.rows ≡ length s.rows + nodes_in_list nodes
    inputs : t.inputs ≡ s.inputs ++ node_inputs_beside g nodes
    count : t.count ≡ s.count + sum_by (width_of g) (nodes_beside g wanted nodes)
    fine : AreFine (nodes_beside g wanted nodes)
    within : AreAllWithin greatest nodes
    levels : levels_of_list nodes ≤ depth

  record SomeKids (depth wanted n c i : ℕ) (s t : State) : Type 0 where
    nodes : WrittenNodes
    mean : KidsMean depth wanted n c i s t nodes

  -- ---- one after another

  -- a class's fields are those of its inputs and then those of its children
  node_of_parts : (depth wanted n c i k : ℕ) (t u v : State) → k < length g.classes
      → interface_number g (class_at g k).interface ≡ wanted
      → SomeInputs (input_names g k) (entered g k n c i t) u
      → SomeFields depth k (length t.rows) (children_of g k) u (before (fixed kind.RightBrace ∷ []) v)
      → SomeNode (suc depth) wanted n c i (before (name (class_at g k).name ∷ fixed kind.LeftBrace ∷ []) t) v
  node_of_parts depth wanted n c i k t u v known interface some_a some_b =
      let names = input_names g k in
      let numbers = some_a.numbers in
      let a = some_a.mean in
      let f = some_b.fields in
      let b = some_b.mean in
      let class = (class_at g k).name in
      let row = node_row k n c i in
      let parent = length t.rows in
      let fields = input_fields names numbers f in
      let counted : length u.rows ≡ suc parent =
      (let one = ap (λ (l : List NodeRow). length l) a.rows in
      let two = length-append t.rows (row ∷ []) in
      omega (arith, one, two)) in
      let means : NodeMeans (suc depth) wanted n c i (before (name class ∷ fixed kind.LeftBrace ∷ []) t) v class fields k = record {
        front = a.front ++ b.front;
        spells = a.spells b.front f b.spells;
        tokens =
            ap (λ (ts : Tokens). name class ∷ fixed kind.LeftBrace ∷ ts)
            (a.tokens ∙ ap (λ (ts : Tokens). a.front ++ ts) b.tokens ∙ sym (append_assoc a.front b.front (fixed kind.RightBrace ∷ v.tokens)));
        rows =
            b.rows ∙ ap (λ (l : List NodeRow). l ++ node_rows_in g k parent (length u.rows) f) a.rows
            ∙ append_assoc t.rows (row ∷ []) (node_rows_in g k parent (length u.rows) f)
            ∙ ap (λ j. t.rows ++ (row ∷ node_rows_in g k parent j f)) counted
            ∙ ap (λ (l : List NodeRow). t.rows ++ (row ∷ l)) (sym (rows_after k parent (suc parent) names numbers f));
        number =
            (let one = b.number in
            let two = counted_after names numbers f in
            omega (arith, one, two, counted));
        inputs =
            b.inputs ∙ ap (λ (l : List ℤ). l ++ node_inputs_in g f) a.inputs ∙ append_assoc t.inputs numbers (node_inputs_in g f)
            ∙ ap₂ (λ (x y : List ℤ). t.inputs ++ (x ++ y))
            (sym (inputs_back names numbers f (inputs_differ g lawful k known) a.same)) (sym (inputs_after names numbers f));
        count =
            (let one = b.count in
            let two = a.count in
            let three = ap (sum_by (width_of g)) (nodes_after k names numbers f) in
            omega (arith, one, two, three));
        own = λ m.
            node_right g lawful k known m wanted fields
            (input_heads g lawful k known names numbers f a.same
            ∙ ap (λ (hs : List FieldHead). map (λ x. head_of x number_form) names ++ hs) some_b.heads) interface;
        fine = subst AreFine (sym (nodes_after k names numbers f)) b.fine;
        within = within_after names numbers f a.within b.within;
        levels = (let one = b.levels in let two = levels_after names numbers f in omega (arith, one, two));
      } in
      record {
        class = class;
        fields = fields;
        mean =
            subst (λ j. NodeMeans (suc depth) wanted n c i (before (name class ∷ fixed kind.LeftBrace ∷ []) t) v class fields j)
            (sym (class_back g lawful k known)) means;
      }

  -- a node in a child, and then other fields
  single_before : (depth k n c : ℕ) (child : Child) (cs : List (ℕ × Child)) (t u v : State) → PlaceOf k (c, child)
      → child.many ≡ false → SomeNode depth (wanted_in g k child.name) n (child_number g k child.name) 0 t u
      → SomeFields depth k n cs u v
      → SomeFields depth k n ((c, child) ∷ cs) (before (name child.name ∷ fixed kind.Equals ∷ []) t) v
  single_before depth k n c child cs t u v place many some_x some_y =
      let x = some_x.mean in
      let y = some_y.mean in
      let class = some_x.class in
      let f = some_x.fields in
      let later = some_y.fields in
      let own = class_number g class in
      let m = length t.rows in
      let stands = standing (wanted_in g k child.name) class f in
      let row = node_row own n (child_number g k child.name) 0 in
      record {
        fields = node_field child.name class f later;
        mean = record {
          front = name child.name ∷ fixed kind.Equals ∷ name class ∷ fixed kind.LeftBrace ∷ (x.front ++ (fixed kind.RightBrace ∷ y.front));
          spells = single_and x.spells y.spells;
          tokens =
              ap (λ (ts : Tokens). name child.name ∷ fixed kind.Equals ∷ ts)
              (braces_before class x.front y.front t.tokens u.tokens v.tokens x.tokens y.tokens);
          rows =
              y.rows ∙ ap (λ (l : List NodeRow). l ++ node_rows_in g k n (length u.rows) later) x.rows
              ∙ append_assoc t.rows (row ∷ node_rows_in g own m (suc m) f) (node_rows_in g k n (length u.rows) later)
              ∙ ap (λ j. t.rows ++ (row ∷ (node_rows_in g own m (suc m) f ++ node_rows_in g k n j later))) x.number;
          number = (let one = x.number in let two = y.number in omega (arith, one, two));
          inputs =
              y.inputs ∙ ap (λ (l : List ℤ). l ++ node_inputs_in g later) x.inputs
              ∙ append_assoc t.inputs (inputs_in g own f ++ node_inputs_in g f) (node_inputs_in g later)
              ∙ ap (λ (l : List ℤ). t.inputs ++ l) (append_assoc (inputs_in g own f) (node_inputs_in g f) (node_inputs_in g later));
          count =
              (let one = x.count in
              let two = y.count in
              let three = sum_by-append (width_of g) (stands ∷ nodes_in g own f) (nodes_in g k later) in
              let four = sum_by-cons (width_of g) stands (nodes_in g own f) in
              omega (arith, one, two, three, four));
          fine = (x.own, each-append EachFine (nodes_in g own f) (nodes_in g k later) x.fine y.fine);
          within = (x.within, y.within);
          levels = (let one = x.levels in let two = y.levels in omega (arith, one, two));
        };
        heads =
            ap₂ (λ (form : FieldForm) (hs : List FieldHead). head_of child.name form ∷ hs)
            (sym (ap (λ b. if b then list_form else node_form) many)) some_y.heads;
      }

  -- a list in a child
  list_before : (depth k n c : ℕ) (child : Child) (cs : List (ℕ × Child)) (t u v : State) → PlaceOf k (c, child)
      → child.many ≡ true
      → SomeKids depth (wanted_in g k child.name) n (child_number g k child.name) 0 t (before (fixed kind.RightBracket ∷ []) u)
      → SomeFields depth k n cs u v
      → SomeFields depth k n ((c, child) ∷ cs)
      (before (name child.name ∷ fixed kind.Equals ∷ fixed kind.LeftBracket ∷ []) t) v
  list_before depth k n c child cs t u v place many some_x some_y =
      let x = some_x.mean in
      let y = some_y.mean in
      let nodes = some_x.nodes in
      let later = some_y.fields in
      let m = length t.rows in
      let wanted = wanted_in g k child.name in
      let kids = node_rows_beside g n (child_number g k child.name) 0 m nodes in
      record {
        fields = list_field child.name nodes later;
        mean = record {
          front = name child.name ∷ fixed kind.Equals ∷ fixed kind.LeftBracket ∷ (x.front ++ (fixed kind.RightBracket ∷ y.front));
          spells = list_and x.spells y.spells;
          tokens =
              ap (λ (ts : Tokens). name child.name ∷ fixed kind.Equals ∷ fixed kind.LeftBracket ∷ ts)
              (x.tokens ∙ ap (λ (ts : Tokens). x.front ++ (fixed kind.RightBracket ∷ ts)) y.tokens
              ∙ sym (append_assoc x.front (fixed kind.RightBracket ∷ y.front) v.tokens));
          rows =
              y.rows ∙ ap (λ (l : List NodeRow). l ++ node_rows_in g k n (length u.rows) later) x.rows
              ∙ append_assoc t.rows kids (node_rows_in g k n (length u.rows) later)
              ∙ ap (λ j. t.rows ++ (kids ++ node_rows_in g k n j later)) x.number;
          number = (let one = x.number in let two = y.number in omega (arith, one, two));
          inputs =
              y.inputs ∙ ap (λ (l : List ℤ). l ++ node_inputs_in g later) x.inputs
              ∙ append_assoc t.inputs (node_inputs_beside g nodes) (node_inputs_in g later);
          count =
              (let one = x.count in
              let two = y.count in
              let three = sum_by-append (width_of g) (nodes_beside g wanted nodes) (nodes_in g k later) in
              omega (arith, one, two, three));
          fine = each-append EachFine (nodes_beside g wanted nodes) (nodes_in g k later) x.fine y.fine;
          within = (x.within, y.within);
          levels = (let one = x.levels in let two = y.levels in omega (arith, one, two));
        };
        heads =
            ap₂ (λ (form : FieldForm) (hs : List FieldHead). head_of child.name form ∷ hs)
            (sym (ap (λ b. if b then list_form else node_form) many)) some_y.heads;
      }

  -- a node in a list, and then others
  kid_before : (depth wanted n c i : ℕ) (s t u : State) → SomeNode depth wanted n c i s t → SomeKids depth wanted n c (suc i) t u
      → SomeKids depth wanted n c i s u
  kid_before depth wanted n c i s t u some_x some_y =
      let x = some_x.mean in
      let y = some_y.mean in
      let class = some_x.class in
      let f = some_x.fields in
      let later = some_y.nodes in
      let own = class_number g class in
      let m = length s.rows in
      let stands = standing wanted class f in
      let row = node_row own n c i in
      record {
        nodes = node_and class f later;
        mean = record {
          front = name class ∷ fixed kind.LeftBrace ∷ (x.front ++ (fixed kind.RightBrace ∷ y.front));
          spells = node_more x.spells y.spells;
          tokens = braces_before class x.front y.front s.tokens t.tokens u.tokens x.tokens y.tokens;
          rows =
              y.rows ∙ ap (λ (l : List NodeRow). l ++ node_rows_beside g n c (suc i) (length t.rows) later) x.rows
              ∙ append_assoc s.rows (row ∷ node_rows_in g own m (suc m) f) (node_rows_beside g n c (suc i) (length t.rows) later)
              ∙ ap (λ j. s.rows ++ (row ∷ (node_rows_in g own m (suc m) f ++ node_rows_beside g n c (suc i) j later))) x.number;
          number = (let one = x.number in let two = y.number in omega (arith, one, two));
          inputs =
              y.inputs ∙ ap (λ (l : List ℤ). l ++ node_inputs_beside g later) x.inputs
              ∙ append_assoc s.inputs (inputs_in g own f ++ node_inputs_in g f) (node_inputs_beside g later)
              ∙ ap (λ (l : List ℤ). s.inputs ++ l) (append_assoc (inputs_in g own f) (node_inputs_in g f) (node_inputs_beside g later));
          count =
              (let one = x.count in
              let two = y.count in
              let three = sum_by-append (width_of g) (stands ∷ nodes_in g own f) (nodes_beside g wanted later) in
              let four = sum_by-cons (width_of g) stands (nodes_in g own f) in
              omega (arith, one, two, three, four));
          fine = (x.own, each-append EachFine (nodes_in g own f) (nodes_beside g wanted later) x.fine y.fine);
          within = (x.within, y.within);
          levels = (let one = x.levels in let two = y.levels in omega (arith, one, two));
        };
      }

  mutual
    pub node_mean : {depth wanted n c i : ℕ} {s t : State} → IsNode g greatest depth wanted n c i s t
        → SomeNode depth wanted n c i s t
    node_mean (node_is {depth = depth} {wanted = wanted} {n = n} {c = c} {i = i} {k = k} {s = s} {t = t} {u = u} {v = v} known interface e inputs children) =
        subst (λ (q : State). SomeNode (suc depth) wanted n c i q v) (sym e)
        (node_of_parts depth wanted n c i k t u v known interface (inputs_mean inputs)
        (children_mean k (children_placed k known) children))

    children_mean : {depth n : ℕ} {cs : List (ℕ × Child)} {s t : State} → (k : ℕ)
        → ((c : ℕ × Child) → Contains cs c → PlaceOf k c) → AreChildren g greatest depth n cs s t → SomeFields depth k n cs s t
    children_mean k placed (no_children {depth = depth} {n = n} {s = s}) = record {
      fields = no_fields;
      mean = record {
        front = [];
        spells = no_more;
        tokens = refl;
        rows = sym (append-nil s.rows);
        number = omega arith;
        inputs = sym (append-nil s.inputs);
        count = omega arith;
        fine = tt;
        within = tt;
        levels = omega arith;
      };
      heads = refl;
    }
    children_mean k placed (single_more {depth = depth} {n = n} {c = c} {child = child} {children = cs} {s = s} {t = t} {u = u} {v = v} many e node rest) =
        let place = placed (c, child) (here_in (c, child) cs) in
        subst (λ (q : State). SomeFields depth k n ((c, child) ∷ cs) q v) (sym e)
        (single_before depth k n c child cs t u v place many
        (subst (λ w. SomeNode depth w n (child_number g k child.name) 0 t u) (sym (wanted_is k (c, child) place))
        (subst (λ d. SomeNode depth (interface_number g child.interface) n d 0 t u) (sym place.number) (node_mean node)))
        (children_mean k (λ d there. placed d (later_in (c, child) d cs there)) rest))
    children_mean k placed (list_more {depth = depth} {n = n} {c = c} {child = child} {children = cs} {s = s} {t = t} {u = u} {v = v} many e kids rest) =
        let place = placed (c, child) (here_in (c, child) cs) in
        subst (λ (q : State). SomeFields depth k n ((c, child) ∷ cs) q v) (sym e)
        (list_before depth k n c child cs t u v place many
        (subst (λ w. SomeKids depth w n (child_number g k child.name) 0 t (before (fixed kind.RightBracket ∷ []) u)) (sym (wanted_is k (c, child) place))
        (subst (λ d. SomeKids depth (interface_number g child.interface) n d 0 t (before (fixed kind.RightBracket ∷ []) u)) (sym place.number) (kids_mean kids)))
        (children_mean k (λ d there. placed d (later_in (c, child) d cs there)) rest))

    kids_mean : {depth wanted n c i : ℕ} {s t : State} → AreKids g greatest depth wanted n c i s t
        → SomeKids depth wanted n c i s t
    kids_mean (no_kids {depth = depth} {wanted = wanted} {n = n} {c = c} {i = i} {s = s}) = record {
      nodes = no_nodes;
      mean = record {
        front = [];
        spells = none;
        tokens = refl;
        rows = sym (append-nil s.rows);
        number = omega arith;
        inputs = sym (append-nil s.inputs);
        count = omega arith;
        fine = tt;
        within = tt;
        levels = omega arith;
      };
    }
    kids_mean (kid_more {depth = depth} {wanted = wanted} {n = n} {c = c} {i = i} {s = s} {t = t} {u = u} node rest) =
        kid_before depth wanted n c i s t u (node_mean node) (kids_mean rest)
