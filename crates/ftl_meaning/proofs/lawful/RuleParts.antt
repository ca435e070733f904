-- The parts of a rule read what they may.
use Rattle.std.proofs.Common.{◌≡◌, ℕ, ◌<◌, Bool, true, false, if◌then◌else◌, refl, ◌∙◌, ap, subst, length, Option, Some, None}
use Rattle.std.specs.List.{find}
use Rattle.std.proofs.lemmas.Option.{cond_some, none-some, option_and_then_some, same_Some}
use Rattle.ftl_model.proofs.lists.Elements.{nothing_in}
use Rattle.ftl_model.specs.layout.AttributeGrammar.{AttributeGrammar}
use Rattle.ftl_order.specs.orders.Lawful.{IsAlone, KeepsRange, PartsForChild, PartsForSelf}
use Rattle.ftl_grammar.specs.declared.syntax.rules.Body.{Body}
use Rattle.ftl_grammar.specs.declared.syntax.rules.Body.TheVariants as bodies
use Rattle.ftl_grammar.specs.declared.syntax.rules.Child.{Child}
use Rattle.ftl_grammar.specs.declared.syntax.rules.Grammar.{Grammar}
use Rattle.ftl_grammar.specs.declared.syntax.rules.Rule as written
use Rattle.ftl_meaning.specs.faults.Allowed.{for_kids, for_self, for_single}
use Rattle.ftl_meaning.specs.faults.Numbering.{child_at, class_at, find_child}
use Rattle.ftl_meaning.specs.faults.RuleForms.{Form, Slot, first_form, fold_form, fold_over_list, form_of, kid_slot, one_form, own_slot}
use Rattle.ftl_meaning.specs.grammars.GrammarOf.{form_for, grammar_of, is_for, rule_by, rule_for}
use Rattle.ftl_meaning.specs.grammars.Meaning.{form_parts}
use Rattle.ftl_meaning.proofs.lawful.ReadsAllowed.{child_found, kids_reads, later_reads, self_reads, single_reads, step_reads}
use Rattle.ftl_meaning.proofs.lawful.RuleValues.{form_alone, form_range}

module _ (w : ℕ) (g : Grammar) (k : ℕ) where
  abbrev meant : AttributeGrammar
  meant = grammar_of w g

  -- a rule for the node itself
  pub self_form : (a : ℕ) (body : Body) (form : Form) → form_of g k (own_slot a) body ≡ Some form
      → PartsForSelf meant k (form_parts g k form)
  self_form a (bodies.Plain e) form h =
      subst (λ f. PartsForSelf meant k (form_parts g k f)) (same_Some (one_form for_self e) form h)
      (self_reads w g k e)
  self_form a (bodies.FirstThen e f) form h = absurd (none-some form h)
  self_form a (bodies.Fold c e f) form h =
      option_and_then_some (fold_over_list e f) (find_child g k c) form h
      (λ child found is.
      let stands = child_found w g k c child found in
      let many = cond_some child.1.many (fold_form child.0 e f) form is in
      subst (λ f. PartsForSelf meant k (form_parts g k f)) many.1
      ((stands.0, ap (λ (x : Child). x.many) stands.1 ∙ many.0), self_reads w g k e, step_reads w g k child.0 f))

  -- a rule for the kids of a child
  pub child_form : (c a : ℕ) (body : Body) (form : Form) → c < length (class_at g k).children
      → form_of g k (kid_slot c a) body ≡ Some form → PartsForChild meant k c (form_parts g k form)
  child_form c a (bodies.Plain e) form known h =
      subst (λ f. PartsForChild meant k c (form_parts g k f))
      (same_Some (one_form (if (child_at g k c).many then for_kids c else for_single) e) form h)
      (go (child_at g k c).many refl)
    where
      go : (many : Bool) → (child_at g k c).many ≡ many
          → PartsForChild meant k c (form_parts g k (one_form (if many then for_kids c else for_single) e))
      go true is = kids_reads w g k c (known, is) e
      go false is = single_reads w g k c (known, is) e
  child_form c a (bodies.FirstThen e f) form known h =
      let many = cond_some (child_at g k c).many (first_form c e f) form h in
      subst (λ f. PartsForChild meant k c (form_parts g k f)) many.1
      ((known, many.0), kids_reads w g k c (known, many.0) e, later_reads w g k c (known, many.0) f)
  child_form c a (bodies.Fold d e f) form known h = absurd (none-some form h)

  -- the rule for a slot, whether there is one or not
  pub self_parts : (a : ℕ) → PartsForSelf meant k (rule_for w g k (own_slot a)).parts
  self_parts a = go (form_for g k (own_slot a)) refl
    where
      go : (o : Option Form) → form_for g k (own_slot a) ≡ o → PartsForSelf meant k (rule_by w g k o).parts
      go None is = λ r h. absurd (nothing_in r h)
      go (Some form) is =
          option_and_then_some (λ (r : written.Rule). form_of g k (own_slot a) r.body)
          (find (is_for g k (own_slot a)) (class_at g k).rules) form is (λ r found has. self_form a r.body form has)

  -- the rule for the kids of a child, whether there is one or not
  pub child_parts : (c a : ℕ) → c < length (class_at g k).children
      → PartsForChild meant k c (rule_for w g k (kid_slot c a)).parts
  child_parts c a known = go (form_for g k (kid_slot c a)) refl
    where
      go : (o : Option Form) → form_for g k (kid_slot c a) ≡ o → PartsForChild meant k c (rule_by w g k o).parts
      go None is = λ r h. absurd (nothing_in r h)
      go (Some form) is =
          option_and_then_some (λ (r : written.Rule). form_of g k (kid_slot c a) r.body)
          (find (is_for g k (kid_slot c a)) (class_at g k).rules) form is
          (λ r found has. child_form c a r.body form known has)

  alone_by : (o : Option Form) (n : ℕ) → IsAlone (rule_by w g k o) n
  alone_by None n = λ kids s t h. refl
  alone_by (Some form) n = form_alone w g k form n

  range_by : (o : Option Form) (n : ℕ) → KeepsRange w (rule_by w g k o) n
  range_by None n = λ kids s h. tt
  range_by (Some form) n = form_range w g k form n

  -- its value depends on what it reads alone
  pub slot_alone : (slot : Slot) (n : ℕ) → IsAlone (rule_for w g k slot) n
  slot_alone slot n = alone_by (form_for g k slot) n

  -- and keeps to the range
  pub slot_range : (slot : Slot) (n : ℕ) → KeepsRange w (rule_for w g k slot) n
  slot_range slot n = range_by (form_for g k slot) n
