-- The places of the attributes and of the inputs of a class, by its row.
use Rattle.std.proofs.Common.{◌≡◌, ℕ, ◌+◌, ◌-◌, ◌<◌, ◌≤◌, Bool, true, List, [], ◌++◌, length, get_or, sym, ap, ◌∙◌, subst, arith, ⊎_elim, Contains, filter, length-append}
use Rattle.std.specs.List.{range_with_len}
use Rattle.std.proofs.lemmas.List.{append-nil}
use Rattle.std.proofs.lemmas.List.FromFn.{length-range_with_len}
use Rattle.std.proofs.lemmas.List.Elements.{Contains-append_cases, filter-append}
use Rattle.ftl_model.specs.lists.Lists.{place_in}
use Rattle.ftl_model.proofs.lists.Elements.{in_filter, in_range_from}
use Rattle.ftl_model.specs.layout.AttributeGrammar.{AttributeGrammar, attributes_of, class_inputs, is_input}
use Rattle.ftl_tree.specs.declared.rows.class_row.ClassRow.{ClassRow}
use Rattle.ftl_tree.specs.rows.ClassRows.{AreInputCounts, IsClassRow, IsInRun, IsOutsideRun, attributes_in, inputs_below}
use Rattle.ftl_tree.specs.rows.Rows.{attribute_width, input_width}
use Rattle.ftl_tree.proofs.rows.AttributePlaces.{fewer, in_second, passed-count, passed_inside, passed_outside}

module _ (g : AttributeGrammar) (k : ℕ) (row : ClassRow) (h : IsClassRow g k row) where
  abbrev passes : ℕ → Bool
  passes a = is_input (g.sort a)

  pub in_row : (a : ℕ) → Contains (attributes_of g k) a → Contains (attributes_in row) a
  in_row a c = subst (λ xs. Contains xs a) h.attributes c

  -- an attribute of the class has a number
  pub attribute_known : (a : ℕ) → Contains (attributes_of g k) a → a < g.attribute_count
  attribute_known a c =
      ⊎_elim (λ s. let b = (in_range_from row.shared_first row.shared_count a s).1 in omega (arith, b, h.shared))
      (λ o. let b = (in_range_from row.own_first row.own_count a o).1 in omega (arith, b, h.own))
      (Contains-append_cases (range_with_len row.shared_first row.shared_count) (range_with_len row.own_first row.own_count) a (in_row a c))

  split : class_inputs g k ≡ filter passes (range_with_len row.shared_first row.shared_count) ++ filter passes (range_with_len row.own_first row.own_count)
  split = ap (filter passes) h.attributes ∙ filter-append passes (range_with_len row.shared_first row.shared_count) (range_with_len row.own_first row.own_count)

  module _ (counts : List ℕ) (are : AreInputCounts g counts) (a : ℕ) (c : Contains (class_inputs g k) a) where
    pub input_known : a < g.attribute_count
    input_known = attribute_known a (in_filter passes (attributes_of g k) a c).0

    is_one : passes a ≡ true
    is_one = (in_filter passes (attributes_of g k) a c).1

    -- of the interface
    pub shared_place : IsInRun row.shared_first row.shared_count a
        → get_or counts a 0 ≡ get_or counts row.shared_first 0 + place_in (class_inputs g k) a
    shared_place inside =
        let low = inside.0 in let high = inside.1 in
        let i = a - row.shared_first in
        let at : a ≡ row.shared_first + i = omega (arith, low) in
        let place = ap (λ xs. place_in xs a) split ∙ passed_inside passes row.shared_first row.shared_count i a (filter passes (range_with_len row.own_first row.own_count)) at (omega (arith, low, high)) is_one in
        let count = passed-count passes row.shared_first i ∙ ap (inputs_below g) (sym at) in
        omega (arith, are.each a (omega (arith, input_known)), are.each row.shared_first (omega (arith, h.shared)), place, count)

    -- of the class itself
    pub record OwnPlace : Type 0 where
      pub shared : ℕ
      pub own : ℕ
      pub first : get_or counts (row.shared_first + row.shared_count) 0 ≡ get_or counts row.shared_first 0 + shared
      pub second : get_or counts a 0 ≡ get_or counts row.own_first 0 + own
      pub place : place_in (class_inputs g k) a ≡ shared + own

    pub own_place : IsOutsideRun row.shared_first row.shared_count a → OwnPlace
    own_place outside =
        let b = in_second row.shared_first row.shared_count row.own_first row.own_count a (in_row a (in_filter passes (attributes_of g k) a c).0) outside in
        let low = b.0 in let high = b.1 in
        let i = a - row.own_first in
        let at : a ≡ row.own_first + i = omega (arith, low) in
        let theirs = filter passes (range_with_len row.own_first row.own_count) in
        let count = passed-count passes row.own_first i ∙ ap (inputs_below g) (sym at) in
        record {
          shared = length (filter passes (range_with_len row.shared_first row.shared_count));
          own = length (filter passes (range_with_len row.own_first i));
          first = omega (arith, passed-count passes row.shared_first row.shared_count, are.each row.shared_first (omega (arith, h.shared)), are.each (row.shared_first + row.shared_count) h.shared);
          second = omega (arith, count, are.each a (omega (arith, input_known)), are.each row.own_first (omega (arith, h.own)));
          place =
              ap (λ xs. place_in xs a) split
              ∙ passed_outside passes row.shared_first row.shared_count a theirs outside
              ∙ ap (λ m. length (filter passes (range_with_len row.shared_first row.shared_count)) + m)
              (ap (λ xs. place_in xs a) (sym (append-nil theirs)) ∙ passed_inside passes row.own_first row.own_count i a [] at (omega (arith, low, high)) is_one);
        }

  pub attribute_width_is : attribute_width g k ≡ row.shared_count + row.own_count
  attribute_width_is =
      ap length h.attributes
      ∙ length-append (range_with_len row.shared_first row.shared_count) (range_with_len row.own_first row.own_count)
      ∙ omega (arith, length-range_with_len row.shared_first row.shared_count, length-range_with_len row.own_first row.own_count)

  module _ (counts : List ℕ) (are : AreInputCounts g counts) where
    -- how many inputs the class has
    pub record InputWidth : Type 0 where
      pub shared : ℕ
      pub own : ℕ
      pub first : get_or counts (row.shared_first + row.shared_count) 0 ≡ get_or counts row.shared_first 0 + shared
      pub second : get_or counts (row.own_first + row.own_count) 0 ≡ get_or counts row.own_first 0 + own
      pub width : input_width g k ≡ shared + own
      pub few : shared + own ≤ 128

    pub input_width_is : InputWidth
    input_width_is =
        let theirs = filter passes (range_with_len row.shared_first row.shared_count) in
        let mine = filter passes (range_with_len row.own_first row.own_count) in
        record {
          shared = length theirs;
          own = length mine;
          first = omega (arith, passed-count passes row.shared_first row.shared_count, are.each row.shared_first (omega (arith, h.shared)), are.each (row.shared_first + row.shared_count) h.shared);
          second = omega (arith, passed-count passes row.own_first row.own_count, are.each row.own_first (omega (arith, h.own)), are.each (row.own_first + row.own_count) h.own);
          width = ap length split ∙ length-append theirs mine;
          few = omega (arith, fewer passes (range_with_len row.shared_first row.shared_count), fewer passes (range_with_len row.own_first row.own_count), length-range_with_len row.shared_first row.shared_count, length-range_with_len row.own_first row.own_count, h.few);
        }
