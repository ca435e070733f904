-- The readers of all rules.
use Rattle.std.proofs.Common.{◌≡◌, Contains, ◌⊎◌, ℕ, zero, suc, ◌+◌, ◌*◌, ◌<◌, List, [], ◌∷◌, ◌++◌, None, get_or, length, refl, sym, ap, ◌∙◌, subst, inl, inr, ⊎_elim, arith}
use Rattle.std.proofs.lemmas.Bool.{cases_lt}
use Rattle.std.proofs.lemmas.List.{get_or-map, get_or_default}
use Rattle.ftl_deps.proofs.reads.RuleNumbers.{info_is, info_rule, rules_long}
use Rattle.ftl_deps.specs.parts.RuleParts.{all_parts, parts_named, read_meant}
use Rattle.ftl_deps.specs.reads.Meant.{meant}
use Rattle.ftl_deps.specs.reads.Products.{name_of_info}
use Rattle.ftl_meaning.specs.faults.Checked.{CheckedGrammar, all_rules, rule_info_at}
use Rattle.ftl_meaning.specs.faults.FirstFault.{first_fault}
use Rattle.ftl_model.proofs.lists.Elements.{nothing_in}
use Rattle.ftl_model.specs.layout.AttributeGrammar.{AttributeGrammar, Parts, RuleName, for_child, for_self, plain}
use Rattle.ftl_order.specs.orders.Lawful.{IsLawful, IsRule, class_of_rule}
use Rattle.ftl_relayout.specs.declared.readers.reader.Reader.{Reader}
use Rattle.ftl_relayout.specs.readers.Readers.{AreReaders, IsReadWhen, attribute_read, list_at, readers_for, whose_read}
use Rattle.ftl_relayout.specs.readers.Tables.{Comes, HasNone, IsOfParts, IsOfRules, list_of}
use Rattle.ftl_relayout.proofs.readers.ListPlaces.{list_split, list_within}
use Rattle.ftl_relayout.proofs.readers.Targets.{class_name}

-- one more list with nothing in it
pub none_more : (xs : List (List Reader)) → HasNone xs → HasNone (xs ++ [] ∷ [])
none_more [] none zero e h = nothing_in e h
none_more [] none (suc a) e h = nothing_in e h
none_more (x ∷ xs) none zero e h = none 0 e h
none_more (x ∷ xs) none (suc a) e h = none_more xs (λ b d. none (suc b) d) a e h

at_most : (m n : ℕ) → m < n + 1 → (m < n) ⊎ (m ≡ n)
at_most m n h = ⊎_elim (λ less. inl less) (λ more. inr (let e : m ≡ n = omega (arith, h, more) in e)) (cases_lt m n)

-- the rules before the next one are those before this one and this one
pub rules_split : (c : CheckedGrammar) (parts : List Parts) (n : ℕ) (e : Reader) → IsOfRules c parts (n + 1) e
    → IsOfRules c parts n e ⊎ IsOfParts (rule_info_at c.grammar n) (get_or parts n (plain [])) e
rules_split c parts n e r =
    ⊎_elim (λ less. inl (record { rule = r.rule; below = less; of = r.of }))
    (λ same.
    inr (subst (λ m. IsOfParts (rule_info_at c.grammar m) (get_or parts m (plain [])) e) same r.of))
    (at_most r.rule n r.below)

pub rules_before : (c : CheckedGrammar) (parts : List Parts) (n : ℕ) (e : Reader) → IsOfRules c parts n e
    → IsOfRules c parts (n + 1) e
rules_before c parts n e r =
    let below = r.below in record { rule = r.rule; below = omega (arith, below); of = r.of }

pub rules_last : (c : CheckedGrammar) (parts : List Parts) (n : ℕ) (e : Reader)
    → IsOfParts (rule_info_at c.grammar n) (get_or parts n (plain [])) e → IsOfRules c parts (n + 1) e
rules_last c parts n e r = record { rule = n; below = omega arith; of = r }

module _ (c : CheckedGrammar) (none : first_fault c.grammar ≡ None) (law : IsLawful (meant c)) (parts : List Parts)
    (are : parts ≡ all_parts (meant c)) where
  abbrev g : AttributeGrammar
  g = meant c

  parts_here : (n : ℕ) → n < length (all_rules c.grammar)
      → get_or parts n (plain []) ≡ parts_named g (name_of_info (rule_info_at c.grammar n))
  parts_here n within =
      ap (λ xs. get_or xs n (plain [])) are
      ∙ get_or-map (parts_named g) g.rules n (for_self 0 0) (plain []) (subst (λ m. n < m) (sym (rules_long c none)) within)
      ∙ ap (parts_named g) (info_is c none n within)

  rule_class : (w : RuleName) → IsRule g w → class_of_rule w < g.class_count
  rule_class (for_self k a) rule = rule.0
  rule_class (for_child k d a) rule = rule.0

  pub are_readers : (empty lists : List (List Reader)) (n : ℕ) → n ≡ length (all_rules c.grammar)
      → length empty ≡ g.attribute_count * g.class_count * 2 → HasNone empty
      → Comes g.class_count empty lists (IsOfRules c parts n) → AreReaders g lists
  are_readers empty lists n all long nothing came = record {
    long = came.long ∙ long;
    has = λ w x r rule reads below.
        let at = law.rules_have w rule in
        let within : at.0 < length (all_rules c.grammar) = subst (λ m. at.0 < m) (rules_long c none) at.1 in
        let info = rule_info_at c.grammar at.0 in
        let name : name_of_info info ≡ w = sym (info_is c none at.0 within) ∙ first_at at.0 w at.1 at.2 in
        let e : Reader = record { info = info; when = x; read = r } in
        let class : info.class ≡ class_of_rule w = sym (class_name info) ∙ ap class_of_rule name in
        let known : info.class < g.class_count = subst (λ k. k < g.class_count) (sym class) (rule_class w rule) in
        let listed =
        came.has e
        (record {
          rule = at.0;
          below = (let z : at.0 < n = omega (arith, within, all) in z);
          of = record {
            info_is = refl;
            reads =
                subst (λ p. IsReadWhen p x (read_meant r)) (sym (parts_here at.0 within ∙ ap (parts_named g) name)) reads;
          };
        })
        (subst (λ m. list_of g.class_count e < m) (sym (came.long ∙ long))
        (list_within g.class_count (attribute_read r) info.class (whose_read r) g.attribute_count known below)) in (
          e,
          subst (λ k. Contains (readers_for g lists (attribute_read r) k (whose_read r)) e) class listed,
          name,
          refl,
          refl,
        );
    only = λ a k o e within h.
        ⊎_elim (λ old. absurd (nothing (list_at g.class_count a k o) e old))
        (λ new.
        let r = new.0 in
        let below = r.below in
        let there : r.rule < length (all_rules c.grammar) = omega (arith, below, all) in
        let rule : IsRule g (name_of_info e.info) =
        subst (λ i. IsRule g (name_of_info i)) (sym r.of.info_is) (info_rule c none r.rule there) in
        let class = class_name e.info in
        let known : e.info.class < g.class_count =
        subst (λ m. m < g.class_count) class (rule_class (name_of_info e.info) rule) in
        let same = list_split g.class_count (attribute_read e.read) e.info.class a k (whose_read e.read) o known within new.1 in (
          record {
            rule = rule;
            reads =
                subst (λ i. IsReadWhen (parts_named g (name_of_info i)) e.when (read_meant e.read)) (sym r.of.info_is)
                (subst (λ p. IsReadWhen p e.when (read_meant e.read)) (parts_here r.rule there) r.of.reads);
          },
          same.0,
          class ∙ same.1,
          same.2,
        ))
        (came.only (list_at g.class_count a k o) e h);
  }
    where
      first_at : (k : ℕ) (w : RuleName) → k < length g.rules → get_or g.rules k w ≡ w → get_or g.rules k (for_self 0 0) ≡ w
      first_at k w within is = get_or_default g.rules k (for_self 0 0) w within ∙ is

pub rules_none : (c : CheckedGrammar) (parts : List Parts) (e : Reader) → IsOfRules c parts 0 e → ⊥
rules_none c parts e r = let below = r.below in omega (arith, below)
