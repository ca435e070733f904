use Rattle.std.proofs.Common.{◌≡◌, ◌-◌, ◌∙◌, sym, ap, subst, arith, List, Option, ℕ, Some, None}
use Rattle.std.specs.List.{position}
use Rattle.std.specs.Str.{bytes_eq}
use Rattle.ftl_model.specs.lists.Lists.{AreDistinct}
use Rattle.ftl_document.specs.syntax.Written.{NameText}
use Rattle.ftl_document.proofs.fields.ExpectedPlaces.{child_there, no_child}
use Rattle.ftl_document.proofs.fields.PlacedNames.{needed_differ}
use Rattle.ftl_document.proofs.nodes.walk.Walk.child_number.Goals as goal

-- what was found, in the names of the class
as_needed : (text name : NameText) (names needed : List NameText) (o r : Option ℕ) → o ≡ position (bytes_eq text) names
    → text ≡ name → names ≡ needed → o ≡ r → position (bytes_eq name) needed ≡ r
as_needed text name names needed o r found same all is = cc

pub place-requires : goal.place-requires
place-requires c =
    let r = c.requires.ready in
    let known = c.requires.within in
    let count = r.count in
    let t = r.tables c.args.class c.index-self-class.result (omega (arith, known, count)) in
    record { differ = subst AreDistinct (sym t.names) (needed_differ c.args.self.now.checked.now.grammar r.lawful c.args.class known) }

pub returns-in-Some : goal.returns-in-Some
returns-in-Some c =
    let r = c.requires.ready in
    let known = c.requires.within in
    let count = r.count in
    let t = r.tables c.args.class c.index-self-class.result (omega (arith, known, count)) in
    let i = c.in-Some.place in
    record {
      child = c.saturating_sub.ensures ∙ ap (λ n. i - n) t.inputs
          ∙ child_there c.args.self.now.checked.now.grammar r.lawful c.args.class known c.args.name.now i
          (as_needed c.text.result.now c.args.name.now _ _ c.place.result (Some i) c.place.ensures.place c.text.ensures.text
          t.names c.in-Some.is);
    }

pub returns-in-None : goal.returns-in-None
returns-in-None c =
    let r = c.requires.ready in
    let known = c.requires.within in
    let count = r.count in
    let t = r.tables c.args.class c.index-self-class.result (omega (arith, known, count)) in
    record {
      child = no_child c.args.self.now.checked.now.grammar r.lawful c.args.class known c.args.name.now
          (as_needed c.text.result.now c.args.name.now _ _ c.place.result None c.place.ensures.place c.text.ensures.text t.names
          c.in-None.is);
    }
