-- The attributes that the names of a schedule stand for are computed.
use Rattle.std.proofs.Common.{◌≡◌, ◌≢◌, ◌⊎◌, ℕ, ◌<◌, Bool, true, false, cond, List, [], ◌∷◌, length, map, flat_map, Option, Some, None, Result, Ok, refl, sym, ◌∙◌, ap, subst, inl, inr, ⊎_elim, Contains}
use Rattle.std.specs.Option.{option_and_then, option_or}
use Rattle.std.specs.Str.{bytes_eq}
use Rattle.std.proofs.lemmas.Bool.{cases_lt}
use Rattle.std.proofs.lemmas.List.Folds.{flat_map-map}
use Rattle.std.proofs.lemmas.Option.{none-some, option_and_then_some, same_Some}
use Rattle.ftl_model.proofs.lists.Elements.{in_cases, in_flat_map, nothing_in}
use Rattle.ftl_model.specs.layout.AttributeGrammar as model
use Rattle.ftl_tokens.specs.scanner.Tokenized.{Tokenized}
use Rattle.ftl_grammar.specs.syntax.Trees.{NameText}
use Rattle.ftl_grammar.specs.declared.syntax.rules.AttrDecl.{AttrDecl}
use Rattle.ftl_grammar.specs.declared.syntax.rules.AttrKind.{AttrKind}
use Rattle.ftl_grammar.specs.declared.syntax.rules.AttrKind.TheVariants as kinds
use Rattle.ftl_grammar.specs.declared.syntax.rules.Grammar.{Grammar}
use Rattle.ftl_meaning.specs.faults.Checked.{all_attributes, attribute_named, class_named, is_input, is_own_computed, is_shared_computed, local_named, number_if, shared_named}
use Rattle.ftl_meaning.specs.faults.Numbering.{find_attribute, interface_number, own_attributes, shared_attributes}
use Rattle.ftl_checked.proofs.lookup.AttrInfos.{attribute_count_is}
use Rattle.ftl_meaning.specs.grammars.GrammarOf.{declaration_at, grammar_of, sort_of}
use Rattle.ftl_meaning.proofs.lawful.Found.{find_is}
use Rattle.ftl_meaning.proofs.lawful.Numbers.{own_at, shared_at}
use Rattle.ftl_deps.proofs.reads.AttrKinds.{kind_past}
use Rattle.ftl_order.specs.orders.Schedule as order
use Rattle.ftl_order.specs.orders.Schedule.{entries}
use Rattle.ftl_schedule.specs.declared.syntax.types.AttributeName.{AttributeName}
use Rattle.ftl_schedule.specs.declared.syntax.types.WrittenPass.{WrittenPass}
use Rattle.ftl_schedule.specs.declared.syntax.types.WrittenStage.{WrittenStage}
use Rattle.ftl_schedule.specs.declared.syntax.types.WrittenSchedule.{WrittenSchedule}
use Rattle.ftl_schedule.specs.stages.Stages.{pass_of, stages_of}
use Rattle.ftl_schedule.specs.declared.stages.types.Pass.{Pass}
use Rattle.ftl_schedule.specs.declared.stages.types.Stage.{Stage}
use Rattle.ftl_schedule.specs.declared.stages.types.Schedule.{Schedule}
use Rattle.ftl_schedule.specs.names.Named.{attribute_number, each, number_or, pass_named, schedule_named, stage_named}
use Rattle.ftl_schedule.specs.declared.names.fault.ScheduleFault.{ScheduleFault}
use Rattle.ftl_schedule.proofs.names.NamedParts.{made, parts, same_Ok}
use Rattle.ftl_schedule.specs.reading.Read.{Answers}
use Rattle.ftl_schedule.proofs.reading.ReadFrom.{read_from}

-- ---- what answers without a fault come from

-- what holds of all that an entry can stand for holds of all that is made of a list
pub each_gives : {X Y : Type 0} (f : X → Result Y ScheduleFault) (P : Y → Type 0)
    → ((x : X) (y : Y) → f x ≡ Ok y → P y)
    → (xs : List X) (ys : List Y) → each f xs ≡ Ok ys → (y : Y) → Contains ys y → P y
each_gives f P gives [] ys e y there =
    absurd (nothing_in y (subst (λ zs. Contains zs y) (sym (same_Ok [] ys e)) there))
each_gives f P gives (x ∷ xs) ys e y there =
    parts f x xs ys e
    (λ z zs is is_later same.
    ⊎_elim (λ first. subst P first (gives x z is)) (λ later. each_gives f P gives xs zs is_later y later)
    (in_cases z y zs (subst (λ vs. Contains vs y) (sym same) there)))

-- ---- attributes

pub chosen : (b : Bool) (n a : ℕ) → cond b (Some n) None ≡ Some a → (b ≡ true) × (n ≡ a)
chosen true n a h = (refl, same_Some n a h)
chosen false n a h = absurd (none-some a h)

pub not_input : (k : AttrKind) → is_input k ≡ false → sort_of k ≢ model.input
not_input kinds.Inh h e = cc
not_input kinds.Syn h e = cc
not_input kinds.Input h e = cc
not_input kinds.Local h e = cc

pub shared_not_input : (k : AttrKind) → is_shared_computed k ≡ true → is_input k ≡ false
shared_not_input kinds.Inh h = refl
shared_not_input kinds.Syn h = refl
shared_not_input kinds.Input h = cc
shared_not_input kinds.Local h = refl

pub own_not_input : (k : AttrKind) → is_own_computed k ≡ true → is_input k ≡ false
own_not_input kinds.Inh h = refl
own_not_input kinds.Syn h = refl
own_not_input kinds.Input h = cc
own_not_input kinds.Local h = refl

pub from_either : (o r : Option ℕ) (a : ℕ) → option_or o r ≡ Some a → (o ≡ Some a) ⊎ (r ≡ Some a)
from_either (Some x) r a h = inl h
from_either None r a h = inr h

module _ (w : ℕ) (g : Grammar) where
  abbrev IsComputed : ℕ → Type 0
  IsComputed a = (a < (grammar_of w g).attribute_count) × ((grammar_of w g).sort a ≢ model.input)

  of_kind : (a : ℕ) (k : AttrKind) → (declaration_at g a).kind ≡ k → is_input k ≡ false → IsComputed a
  of_kind a k is computed = (
    ⊎_elim (λ below. subst (λ n. a < n) (attribute_count_is g) below)
        (λ past. absurd (let e : is_input kinds.Input ≡ false = subst (λ z. is_input z ≡ false) (sym is ∙ kind_past g a past) computed in cc e))
        (cases_lt a (length (all_attributes g))),
    subst (λ z. sort_of z ≢ model.input) (sym is) (not_input k computed),
  )

  shared_computed : (i : ℕ) (name : NameText) (a : ℕ) → shared_named g i name ≡ Some a → IsComputed a
  shared_computed i name a h =
      option_and_then_some (number_if is_shared_computed) (find_attribute name (shared_attributes g i)) a h
      (λ p found picked.
      let there = (find_is (λ x. bytes_eq name x.1.name) (shared_attributes g i) p found).0 in
      let is = chosen (is_shared_computed p.1.kind) p.0 a picked in
      of_kind a p.1.kind
      (ap (λ n. (declaration_at g n).kind) (sym is.1) ∙ ap (λ (d : AttrDecl). d.kind) (shared_at g i p there).1)
      (shared_not_input p.1.kind is.0))

  own_computed : (k : ℕ) (name : NameText) (a : ℕ) → local_named g k name ≡ Some a → IsComputed a
  own_computed k name a h =
      option_and_then_some (number_if is_own_computed) (find_attribute name (own_attributes g k)) a h
      (λ p found picked.
      let there = (find_is (λ x. bytes_eq name x.1.name) (own_attributes g k) p found).0 in
      let is = chosen (is_own_computed p.1.kind) p.0 a picked in
      of_kind a p.1.kind
      (ap (λ n. (declaration_at g n).kind) (sym is.1) ∙ ap (λ (d : AttrDecl). d.kind) (own_at g k p there).1)
      (own_not_input p.1.kind is.0))

  named_computed : (owner name : NameText) (a : ℕ) → attribute_named g owner name ≡ Some a → IsComputed a
  named_computed owner name a h =
      ⊎_elim (λ shared. shared_computed (interface_number g owner) name a shared)
      (λ own. option_and_then_some (λ k. local_named g k name) (class_named g owner) a own
      (λ k found is. own_computed k name a is))
      (from_either (shared_named g (interface_number g owner) name)
      (option_and_then (λ k. local_named g k name) (class_named g owner)) a h)

  pub number_computed : (x : AttributeName) (a : ℕ) → attribute_number g x ≡ Ok a → IsComputed a
  number_computed x a h = go (attribute_named g x.owner x.attr) refl h
    where
      go : (o : Option ℕ) → attribute_named g x.owner x.attr ≡ o → number_or o x ≡ Ok a → IsComputed a
      go (Some b) is h = named_computed x.owner x.attr a (is ∙ ap Some (same_Ok b a h))
      go None is h = absurd (cc h)

  -- ---- passes, stages and schedules

  pass_computed : (x : WrittenPass) (p : Pass) → pass_named g x ≡ Ok p → (a : ℕ) → Contains p.attrs a → IsComputed a
  pass_computed x p h a there =
      made (λ attrs. record { kind = x.kind; attrs = attrs }) (each (attribute_number g) x.attrs) p h
      (λ attrs is same.
      each_gives (attribute_number g) IsComputed number_computed x.attrs attrs is a
      (subst (λ (q : Pass). Contains q.attrs a) (sym same) there))

  abbrev PassIsComputed : Pass → Type 0
  PassIsComputed p = (a : ℕ) → Contains p.attrs a → IsComputed a

  abbrev StageIsComputed : Stage → Type 0
  StageIsComputed s = (p : Pass) → Contains s.passes p → PassIsComputed p

  stage_computed : (x : WrittenStage) (s : Stage) → stage_named g x ≡ Ok s → StageIsComputed s
  stage_computed x s h p there =
      made (λ passes. record { passes = passes }) (each (pass_named g) x.passes) s h
      (λ passes is same.
      each_gives (pass_named g) PassIsComputed pass_computed x.passes passes is p
      (subst (λ (t : Stage). Contains t.passes p) (sym same) there))

  schedule_computed : (x : WrittenSchedule) (s : Schedule) → schedule_named g x ≡ Ok s
      → (t : Stage) → Contains s.stages t → StageIsComputed t
  schedule_computed x s h t there =
      made (λ stages. record { stages = stages }) (each (stage_named g) x.stages) s h
      (λ stages is same.
      each_gives (stage_named g) StageIsComputed stage_computed x.stages stages is t
      (subst (λ (u : Schedule). Contains u.stages t) (sym same) there))

  entries_computed : (s : Schedule) → ((t : Stage) → Contains s.stages t → StageIsComputed t)
      → (a : ℕ) → Contains (entries (stages_of s)) a → IsComputed a
  entries_computed s each_stage a there =
      let in_stage =
      in_flat_map (λ (t : Stage). flat_map (λ (p : order.Pass). p.attributes) (map pass_of t.passes)) s.stages a
      (subst (λ ns. Contains ns a)
      (flat_map-map (λ (ps : List order.Pass). flat_map (λ (p : order.Pass). p.attributes) ps)
      (λ (t : Stage). map pass_of t.passes) s.stages) there) in
      let in_pass =
      in_flat_map (λ (p : Pass). p.attrs) in_stage.0.passes a
      (subst (λ ns. Contains ns a) (flat_map-map (λ (p : order.Pass). p.attributes) pass_of in_stage.0.passes) in_stage.2) in
      each_stage in_stage.0 in_stage.1 in_pass.0 in_pass.1 a in_pass.2

  pub read_computed : (scanned : Tokenized) (s : Schedule) → Answers g scanned (Ok s)
      → (a : ℕ) → Contains (entries (stages_of s)) a → IsComputed a
  read_computed scanned s answer =
      let read = read_from g scanned s answer in
      entries_computed s (schedule_computed read.written s read.named)
