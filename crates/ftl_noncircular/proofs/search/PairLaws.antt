-- Pairs that are added to those that were found.
use Rattle.std.proofs.Common.{◌≡◌, ◌⊎◌, ℕ, suc, ◌+◌, ◌<◌, ◌==◌, ◌&&◌, ◌||◌, true, List, [], ◌∷◌, ◌++◌, length, refl}
use Rattle.std.proofs.Common.{sym, ap, ◌∙◌, subst, inl, inr, arith, length-append}
use Rattle.std.proofs.lemmas.Bool.{and_parts, cases_lt, or_cases, or_left, or_right, and_from, eqb-true, eq-eqb}
use Rattle.std.proofs.lemmas.List.{get_or_append_left, get_or-append-add}
use Rattle.lane_rows.specs.Matrix.{entry}
use Rattle.ftl_model.specs.layout.AttributeGrammar.{AttributeGrammar}
use Rattle.ftl_noncircular.specs.declared.search.pair_list.PairList.{PairList}
use Rattle.ftl_noncircular.specs.declared.search.pair_list.Pair.{Pair}
use Rattle.ftl_noncircular.specs.declared.search.shape.Shape.{Shape}
use Rattle.ftl_noncircular.specs.search.Searches.{Rows}
use Rattle.ftl_noncircular.specs.search.Pairs.{IsPairListOf, IsLonger, IsPair, pair_at}
use Rattle.ftl_noncircular.specs.search.Shapes.{IsShapeOf}

pub record IsKnownPair (g : AttributeGrammar) (p : Pair) : Type 0 where
  pub from : p.from < g.attribute_count
  pub to : p.to < g.attribute_count

pub pair_known : (g : AttributeGrammar) (s : Shape) (p : Pair) → IsShapeOf g s → IsPair g p → IsKnownPair g p
pair_known g s p shape is = record {
  from = shape.attributes.shared_known p.interface p.from is.known is.from;
  to = shape.attributes.shared_known p.interface p.to is.known is.to;
}

-- the entries after one more
abbrev pub OneEntryMore : (before now : Rows) → (from to : ℕ) → Type 0
OneEntryMore before now from to = (a b : ℕ) → entry now a b ≡ (((a == from) && (b == to)) || entry before a b)

pub entry_kept : (before now : Rows) (from to : ℕ) → OneEntryMore before now from to → (a b : ℕ)
    → entry before a b ≡ true → entry now a b ≡ true
entry_kept before now from to more a b e = more a b ∙ or_right ((a == from) && (b == to)) (entry before a b) e

pub entry_there : (before now : Rows) (from to : ℕ) → OneEntryMore before now from to → entry now from to ≡ true
entry_there before now from to more =
    more from to
    ∙ or_left ((from == from) && (to == to)) (entry before from to)
    (and_from (from == from) (to == to) (eq-eqb from from refl) (eq-eqb to to refl))

pub entry_cases : (before now : Rows) (from to : ℕ) → OneEntryMore before now from to → (a b : ℕ)
    → entry now a b ≡ true → ((a ≡ from) × (b ≡ to)) ⊎ (entry before a b ≡ true)
entry_cases before now from to more a b e =
    elim (or_cases ((a == from) && (b == to)) (entry before a b) (sym (more a b) ∙ e)) [
      | inl both ↦
          let parts = and_parts (a == from) (b == to) both in
          inl (eqb-true a from parts.0, eqb-true b to parts.1)
      | inr old ↦ inr old
    ]

-- ---- one more pair in the list

pair_old : (xs : List Pair) (p : Pair) (j : ℕ) → j < length xs → pair_at (xs ++ p ∷ []) j ≡ pair_at xs j
pair_old xs p j within = get_or_append_left xs (p ∷ []) _ j within

pair_last : (xs : List Pair) (p : Pair) → pair_at (xs ++ p ∷ []) (length xs) ≡ p
pair_last xs p =
    ap (λ j. pair_at (xs ++ p ∷ []) j) (let z : length xs ≡ length xs + 0 = omega arith in z)
    ∙ get_or-append-add xs (p ∷ []) 0 _

one_longer : (xs : List Pair) (p : Pair) → length (xs ++ p ∷ []) ≡ suc (length xs)
one_longer xs p = let e = length-append xs (p ∷ []) in omega (arith, e)

module _ (before now : PairList) (p : Pair) (more : OneEntryMore before.has now.has p.from p.to)
    (list : now.pairs.items ≡ before.pairs.items ++ p ∷ []) where
  abbrev old : List Pair
  old = before.pairs.items

  abbrev new : List Pair
  new = now.pairs.items

  longer_count : length new ≡ suc (length old)
  longer_count = ap length list ∙ one_longer old p

  at_old : (j : ℕ) → j < length old → pair_at new j ≡ pair_at old j
  at_old j within = ap (λ xs. pair_at xs j) list ∙ pair_old old p j within

  at_last : pair_at new (length old) ≡ p
  at_last = ap (λ xs. pair_at xs (length old)) list ∙ pair_last old p

  pub longer_more : IsLonger before now
  longer_more = record {
    kept = entry_kept before.has now.has p.from p.to more;
    count = omega (arith, longer_count);
    same = at_old;
  }

  pub found_more : (g : AttributeGrammar) → length now.has ≡ length before.has → IsPair g p → IsPairListOf g before
      → IsPairListOf g now
  found_more g size pair found = record {
    size = size ∙ found.size;
    listed = λ a b e. elim (entry_cases before.has now.has p.from p.to more a b e) [
      | inl both ↦ (
        length old,
        omega (arith, longer_count),
        ap (λ (q : Pair). q.from) at_last ∙ sym both.0,
        ap (λ (q : Pair). q.to) at_last ∙ sym both.1,
      )
      | inr there ↦
          let h = found.listed a b there in
          let within = h.1 in (
            h.0,
            omega (arith, longer_count, within),
            ap (λ (q : Pair). q.from) (at_old h.0 within) ∙ h.2,
            ap (λ (q : Pair). q.to) (at_old h.0 within) ∙ h.3,
          )
    ];
    pairs = λ j within. elim (cases_lt j (length old)) [
      | inl below ↦ subst (IsPair g) (sym (at_old j below)) (found.pairs j below)
      | inr above ↦
          let at : j ≡ length old = omega (arith, within, above, longer_count) in
          subst (IsPair g) (sym (ap (pair_at new) at ∙ at_last)) pair
    ];
  }

-- ---- longer and longer

pub longer_same : (f : PairList) → IsLonger f f
longer_same f = record { kept = λ a b e. e; count = omega arith; same = λ j within. refl }

pub longer_on : (a b c : PairList) → IsLonger a b → IsLonger b c → IsLonger a c
longer_on a b c first second = record {
  kept = λ x y e. second.kept x y (first.kept x y e);
  count = omega (arith, first.count, second.count);
  same = λ j within. second.same j (omega (arith, within, first.count)) ∙ first.same j within;
}

pub pair_by : (g : AttributeGrammar) (i j a c b d : ℕ) → i ≡ j → a ≡ c → b ≡ d
    → IsPair g (record { interface = j; from = c; to = d }) → IsPair g (record { interface = i; from = a; to = b })
pair_by g i j a c b d e f h is =
    subst (λ x. IsPair g (record { interface = x; from = a; to = b })) (sym e)
    (subst (λ x. IsPair g (record { interface = j; from = x; to = b })) (sym f)
    (subst (λ x. IsPair g (record { interface = j; from = c; to = x })) (sym h) is))
