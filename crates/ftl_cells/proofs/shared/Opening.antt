-- The words of a table at the opening, in order.
use Rattle.std.proofs.Common.{◌≡◌, ℕ, ◌+◌, ◌-◌, ◌^◌, ◌<◌, refl, sym, ap, ◌∙◌, arith, List, [], ◌∷◌, ◌++◌, length, get_or, map, length-append, append_assoc}
use Rattle.std.specs.Prelude.{replicate}
use Rattle.std.specs.List.{range_with_len}
use Rattle.std.proofs.lemmas.List.{get_or_append_left, get_or-append_right, get_or-replicate, length-replicate}
use Rattle.std.proofs.lemmas.List.FromFn.{map-range_with_len_more, length-map-range_with_len, get_or-map-range_with_len}
use Rattle.atomic_table.specs.Seated.{TableId}
use Rattle.ftl_cells.specs.shared.Work.{Meaning, cell_total, item_total, pred_total, IsLawfulWork}
use Rattle.ftl_cells.specs.shared.State.{AreFirst, IsOpening, opening_words, word_total}
use Rattle.ftl_cells.specs.shared.Table.{IsTableOf}

-- one more counter in the row
pub counters_more : (f : ℕ → ℕ) (row before after : List ℕ) (n x : ℕ) → x ≡ f n
    → before ≡ row ++ map f (range_with_len 0 n) → after ≡ before ++ x ∷ []
    → after ≡ row ++ map f (range_with_len 0 (n + 1))
counters_more f row before after n x is e push =
    push ∙ ap (λ y. before ++ y ∷ []) is ∙ ap (λ ys. ys ++ f n ∷ []) e ∙ append_assoc row (map f (range_with_len 0 n))
    (f n ∷ [])
    ∙ ap (λ ys. row ++ ys) (sym (map-range_with_len_more f 0 n n (omega arith)))

module _ (m : Meaning) (words : List ℕ) (first : AreFirst m words) where
  n : ℕ
  n = item_total m

  tail : List ℕ
  tail = map (pred_total m) (range_with_len 0 (item_total m))

  pub length-opening_words : length (opening_words m words) ≡ word_total m
  length-opening_words = omega (
    arith,
    length-append (item_total m ∷ [] ++ words ++ replicate (item_total m) 0)
        (map (pred_total m) (range_with_len 0 (item_total m))),
    length-append (item_total m ∷ [] ++ words) (replicate (item_total m) 0),
    length-append (item_total m ∷ []) words,
    length-replicate {A = ℕ} (item_total m) 0,
    length-map-range_with_len (pred_total m) 0 (item_total m),
    first.count,
  )

  front : length (item_total m ∷ [] ++ words) ≡ 1 + cell_total m
  front = omega (arith, length-append (item_total m ∷ []) words, first.count)

  middle : length (item_total m ∷ [] ++ words ++ replicate (item_total m) 0) ≡ 1 + cell_total m + item_total m
  middle = omega (
    arith,
    length-append (item_total m ∷ [] ++ words) (replicate (item_total m) 0),
    length-replicate {A = ℕ}
        (item_total m) 0,
    front,
  )

  pub opening_is : IsOpening m (opening_words m words)
  opening_is = record {
    count = length-opening_words;
    end = get_or_append_left (item_total m ∷ [] ++ words ++ replicate (item_total m) 0)
        (map (pred_total m) (range_with_len 0 (item_total m))) 0 0 (omega (arith, middle))
        ∙ get_or_append_left (item_total m ∷ [] ++ words) (replicate (item_total m) 0) 0 0 (omega (arith, front))
        ∙ get_or_append_left (item_total m ∷ []) words 0 0 (omega arith);
    cells = λ c l. get_or_append_left (item_total m ∷ [] ++ words ++ replicate (item_total m) 0)
        (map (pred_total m) (range_with_len 0 (item_total m))) 0 (1 + c) (omega (arith, middle))
        ∙ get_or_append_left (item_total m ∷ [] ++ words) (replicate (item_total m) 0) 0 (1 + c)
        (omega (arith, front))
        ∙ get_or-append_right (item_total m ∷ []) words 1 (1 + c) 0 refl (omega arith)
        ∙ ap (λ i. get_or words i 0) (let e : 1 + c - 1 ≡ c = omega arith in e)
        ∙ first.each c l;
    states = λ i l. get_or_append_left (item_total m ∷ [] ++ words ++ replicate (item_total m) 0)
        (map (pred_total m) (range_with_len 0 (item_total m))) 0 (1 + cell_total m + i) (omega (arith, middle))
        ∙ get_or-append_right (item_total m ∷ [] ++ words) (replicate (item_total m) 0) (1 + cell_total m)
        (1 + cell_total m + i) 0 front (omega arith)
        ∙ get_or-replicate (item_total m) (1 + cell_total m + i - (1 + cell_total m)) 0 0 (omega arith);
    counters = λ i l. get_or-append_right (item_total m ∷ [] ++ words ++ replicate (item_total m) 0)
        (map (pred_total m) (range_with_len 0 (item_total m))) (1 + cell_total m + item_total m)
        (1 + cell_total m + item_total m + i) 0 middle (omega arith)
        ∙ get_or-map-range_with_len (pred_total m) 0 (item_total m)
        (1 + cell_total m + item_total m + i - (1 + cell_total m + item_total m)) i 0 (omega arith) (omega arith);
  }

-- the layout of a table of these words
pub table_is : (m : Meaning) (words : List ℕ) (table : TableId) (cells items : ℕ) → AreFirst m words → IsLawfulWork m
    → table.words ≡ length (opening_words m words) → table.slots ≡ 0
    → cells ≡ cell_total m → items ≡ item_total m → cells < 2 ^ 32 → items < 2 ^ 32
    → IsTableOf m table (1 + cells) (1 + cells + items)
table_is m words table cells items first law count slots is_cells is_items few_cells few_items = record {
  words = count ∙ length-opening_words m words first;
  slots = slots;
  lawful = law;
  few_cells = omega arith;
  few_items = omega arith;
  states_at = omega arith;
  counters_at = omega arith;
}
