use Rattle.std.proofs.Common.{◌≡◌, ℕ, ◌+◌, nat_lt, if◌then◌else◌, ◌≤◌, ◌<◌, ◌⊎◌, inl, inr, ◌∙◌, sym, ap, subst, List, length, get_or, set, true, false, Option, Some, None, arith}
use Rattle.std.specs.List.{position}
use Rattle.std.specs.Option.{is_some}
use Rattle.std.specs.Str.{bytes_eq}
use Rattle.ftl_model.specs.lists.Lists.{AreDistinct}
use Rattle.ftl_document.specs.syntax.Written.{NameText}
use Rattle.ftl_document.specs.declared.faults.fault.DocFault.TheVariants as fault
use Rattle.ftl_document.specs.faults.FirstFault.{input_names, needed_names}
use Rattle.ftl_document.specs.fields.OwnFields.{form_of}
use Rattle.ftl_document.specs.fields.Placed.{place_has_form}
use Rattle.ftl_document.proofs.fields.PlaceFaults as faults
use Rattle.ftl_document.proofs.fields.PlacedNames.{is_at, needed_differ}
use Rattle.ftl_document.proofs.fields.node_fields.KnownNode.place.Goals as goal
use Rattle.ftl_document.proofs.fields.node_fields.KnownNode.place.Goals.{else-place-self-via-then-place-self+else-place-slots, else-place-self-via-else-place-self}

-- what the look-up found, in the names of the class
as_needed : (t name : NameText) (names needed : List NameText) (o r : Option ℕ) → o ≡ position (bytes_eq t) names
    → t ≡ name → names ≡ needed → o ≡ r → position (bytes_eq name) needed ≡ r
as_needed t name names needed o r found text all is = cc

pub place-requires : goal.place-requires
place-requires c =
    let known = c.requires.known in
    let n = c.args.self.now in
    record { differ = subst AreDistinct (sym known.names) (needed_differ n.checked.now.grammar known.lawful n.class known.known) }

pub returns-in_default-clause-exact : goal.returns-in_default-clause-exact
returns-in_default-clause-exact c earlier placed memory =
    let known = c.requires.known in
    let n = c.args.self.now in
    let g = n.checked.now.grammar in
    let found = as_needed c.text.result.now c.args.field.now.name n.table.now.names (needed_names g n.class) c.place.result None c.place.ensures.place c.text.ensures.text known.names c.in_default.is in
    faults.unknown_field g known.lawful n.class known.known earlier c.args.slots.now placed c.args.field.now n.number found
    ∙ ap (λ name. Some (fault.UnknownField n.number name)) (sym (c.in_ok-name.ensures.text ∙ c.text-in_default.ensures.text))

pub returns-then-is_some-clause-exact : goal.returns-then-is_some-clause-exact
returns-then-is_some-clause-exact c earlier placed memory =
    let known = c.requires.known in
    let n = c.args.self.now in
    let g = n.checked.now.grammar in
    let found = as_needed c.text.result.now c.args.field.now.name n.table.now.names (needed_names g n.class) c.place.result (Some c.in-Some.place) c.place.ensures.place c.text.ensures.text known.names c.in-Some.is in
    let seen : is_some (get_or c.args.slots.now.values.items c.in-Some.place None) ≡ true = faults.seen_as c.args.slots.now.values.items c.in-Some.place (length (needed_names g n.class)) c.index.result.now c.is_some.result true (is_at g known.lawful n.class known.known c.args.field.now.name c.in-Some.place found).below c.requires.room c.index.ensures c.is_some.ensures c.if-is_some.true in
    faults.field_twice g known.lawful n.class known.known earlier c.args.slots.now placed c.args.field.now n.number c.in-Some.place found seen
    ∙ ap (λ name. Some (fault.FieldTwice n.number name)) (sym (c.in_ok-name-2.ensures.text ∙ c.text-then-is_some.ensures.text))

pub returns-then-not-has_form-clause-exact : goal.returns-then-not-has_form-clause-exact
returns-then-not-has_form-clause-exact c earlier placed memory =
    let known = c.requires.known in
    let n = c.args.self.now in
    let g = n.checked.now.grammar in
    let found = as_needed c.text.result.now c.args.field.now.name n.table.now.names (needed_names g n.class) c.place.result (Some c.in-Some.place) c.place.ensures.place c.text.ensures.text known.names c.in-Some.is in
    let seen : is_some (get_or c.args.slots.now.values.items c.in-Some.place None) ≡ false = faults.seen_as c.args.slots.now.values.items c.in-Some.place (length (needed_names g n.class)) c.index.result.now c.is_some.result false (is_at g known.lawful n.class known.known c.args.field.now.name c.in-Some.place found).below c.requires.room c.index.ensures c.is_some.ensures c.if-is_some.false in
    let form : place_has_form g n.class c.in-Some.place (form_of c.args.field.now.value) ≡ false = cc in
    faults.field_form g known.lawful n.class known.known earlier c.args.slots.now placed c.args.field.now n.number c.in-Some.place found seen form
    ∙ ap (λ name. Some (fault.FieldForm n.number name)) (sym (c.in_ok-name-3.ensures.text ∙ c.text-then-not-has_form.ensures.text))

pub returns-then-place-slots-clause-exact : goal.returns-then-place-slots-clause-exact
returns-then-place-slots-clause-exact c earlier placed memory =
    let known = c.requires.known in
    let n = c.args.self.now in
    let g = n.checked.now.grammar in
    let found = as_needed c.text.result.now c.args.field.now.name n.table.now.names (needed_names g n.class) c.place.result (Some c.in-Some.place) c.place.ensures.place c.text.ensures.text known.names c.in-Some.is in
    let seen : is_some (get_or c.args.slots.now.values.items c.in-Some.place None) ≡ false = faults.seen_as c.args.slots.now.values.items c.in-Some.place (length (needed_names g n.class)) c.index.result.now c.is_some.result false (is_at g known.lawful n.class known.known c.args.field.now.name c.in-Some.place found).below c.requires.room c.index.ensures c.is_some.ensures c.if-is_some.false in
    let form : place_has_form g n.class c.in-Some.place (form_of c.args.field.now.value) ≡ true = cc in
    let inputs = known.inputs in
    let from = c.if-place-self.true in
    let less = c.if-place-slots.true in
    faults.field_order g known.lawful n.class known.known earlier c.args.slots.now placed c.args.field.now n.number c.in-Some.place found seen form (omega (arith, from, inputs)) less
    ∙ ap (λ name. Some (fault.FieldOrder n.number name)) (sym (c.in_ok-name-4.ensures.text ∙ c.text-then-place-slots.ensures.text))

pub returns-clause-exact : goal.returns-clause-exact
returns-clause-exact c earlier placed =
    let known = c.requires.known in
    let n = c.args.self.now in
    let g = n.checked.now.grammar in
    let found = as_needed c.text.result.now c.args.field.now.name n.table.now.names (needed_names g n.class) c.place.result (Some c.in-Some.place) c.place.ensures.place c.text.ensures.text known.names c.in-Some.is in
    let seen : is_some (get_or c.args.slots.now.values.items c.in-Some.place None) ≡ false = faults.seen_as c.args.slots.now.values.items c.in-Some.place (length (needed_names g n.class)) c.index.result.now c.is_some.result false (is_at g known.lawful n.class known.known c.args.field.now.name c.in-Some.place found).below c.requires.room c.index.ensures c.is_some.ensures c.if-is_some.false in
    let form : place_has_form g n.class c.in-Some.place (form_of c.args.field.now.value) ≡ true = cc in
    let inputs = known.inputs in
    let order : (c.in-Some.place < length (input_names g n.class)) ⊎ (c.args.slots.now.latest ≤ c.in-Some.place) =
    elim c.else-place-self.branch [
      | else-place-self-via-then-place-self+else-place-slots w ↦ let h = w.if-place-slots.false in inr (omega (arith, h))
      | else-place-self-via-else-place-self w ↦ let h = w.if-place-self.false in inl (omega (arith, h, inputs))
    ] in
    faults.field_right g known.lawful n.class known.known earlier c.args.slots.now placed c.args.field.now n.number c.in-Some.place found seen form order

pub returns-clause-placed : goal.returns-clause-placed
returns-clause-placed c earlier placed =
    let known = c.requires.known in
    let n = c.args.self.now in
    let g = n.checked.now.grammar in
    let found = as_needed c.text.result.now c.args.field.now.name n.table.now.names (needed_names g n.class) c.place.result (Some c.in-Some.place) c.place.ensures.place c.text.ensures.text known.names c.in-Some.is in
    let seen : is_some (get_or c.args.slots.now.values.items c.in-Some.place None) ≡ false = faults.seen_as c.args.slots.now.values.items c.in-Some.place (length (needed_names g n.class)) c.index.result.now c.is_some.result false (is_at g known.lawful n.class known.known c.args.field.now.name c.in-Some.place found).below c.requires.room c.index.ensures c.is_some.ensures c.if-is_some.false in
    let form : place_has_form g n.class c.in-Some.place (form_of c.args.field.now.value) ≡ true = cc in
    let inputs = known.inputs in
    let order : (c.in-Some.place < length (input_names g n.class)) ⊎ (c.args.slots.now.latest ≤ c.in-Some.place) =
    elim c.else-place-self.branch [
      | else-place-self-via-then-place-self+else-place-slots w ↦ let h = w.if-place-slots.false in inr (omega (arith, h))
      | else-place-self-via-else-place-self w ↦ let h = w.if-place-self.false in inl (omega (arith, h, inputs))
    ] in
    let values = faults.values_after g known.lawful n.class known.known earlier c.args.slots.now placed c.args.field.now n.number c.in-Some.place found seen form order in
    let last = faults.latest_after g known.lawful n.class known.known earlier c.args.slots.now placed c.args.field.now n.number c.in-Some.place found seen form order in
    let latest = c.latest-slots.ensures.latest in
    let put = c.filled.ensures.number in
    record {
      values = ap (λ o. set c.args.slots.now.values.items c.in-Some.place o) put ∙ values;
      latest = λ m.
          last m
          ∙ sym
          (ap (λ x. nat_lt (length (input_names g n.class) + m) x)
          (latest ∙ ap (λ x. if nat_lt c.in-Some.place x then c.args.slots.now.latest else c.in-Some.place) inputs));
    }
