use Rattle.std.proofs.Common.{◌≡◌, ◌≤◌, ◌*◌, map, length, refl, ap, ap₂, sym, ◌∙◌, subst}
use Rattle.std.proofs.lemmas.List.{length-map, with_items_is}
use Rattle.ftl_deps.proofs.reads.RuleNumbers.{rules_long}
use Rattle.ftl_deps.specs.parts.RuleParts.{parts_meant, parts_named}
use Rattle.ftl_deps.specs.reads.Meant.{meant}
use Rattle.ftl_meaning.specs.faults.Checked.{all_rules}
use Rattle.ftl_model.specs.layout.Limits.{most_classes}
use Rattle.ftl_relayout.specs.readers.Readers.{AreReaders}
use Rattle.ftl_relayout.specs.readers.Tables.{Comes, HasNone, IsOfRules}
use Rattle.ftl_relayout.proofs.readers.AllReaders.{are_readers}
use Rattle.ftl_relayout.proofs.readers.table.all_readers.Goals as goal

pub list_count-count-requires : goal.list_count-count-requires
list_count-count-requires c = record {
  few = subst (λ n. n ≤ most_classes) (sym c.class_count-classes.ensures.count) c.is_sound.ensures.sound.limits.classes;
}

pub add_rules-requires : goal.add_rules-requires
add_rules-requires c =
    let k = c.args.checked.now in
    record {
      few = subst (λ n. n ≤ most_classes) (sym c.class_count-classes.ensures.count) c.is_sound.ensures.sound.limits.classes;
      parts =
          sym (length-map c.args.parts.now parts_meant)
          ∙ ap length c.requires.parts
          ∙ length-map (meant k).rules (parts_named (meant k))
          ∙ rules_long k c.grammar-lawful.ensures.lawful;
    }

pub returns : goal.returns
returns c =
    let k = c.args.checked.now in
    let v = c.in_ok-lists.lists in
    let old = c.deref_mut.result.now in
    let ws = c.add_rules.new.lists in
    let value = c.deref_mut.ensures.value in
    let came = c.in_ok-add_rules.ensures.comes in
    let long : length ws ≡ v.len = came.long ∙ ap length value ∙ sym v.ok.0 in
    let classes = c.class_count-classes.ensures.count in
    let many = ap₂ (λ a n. a * n * 2) c.attribute_count.ensures.count classes in
    record {
      readers =
          subst (AreReaders (meant k)) (sym (with_items_is v ws long))
          (are_readers k c.grammar-lawful.ensures.lawful c.is_sound.ensures.sound.law (map parts_meant c.args.parts.now)
          c.requires.parts old ws (length (all_rules k.grammar)) refl
          (ap length value ∙ c.in_ok-lists.ensures.long ∙ c.list_count-count.ensures.count ∙ many)
          (subst HasNone (sym value) c.in_ok-lists.ensures.none)
          (subst (λ n. Comes n old ws (IsOfRules k (map parts_meant c.args.parts.now) (length (all_rules k.grammar)))) classes
          came));
    }
