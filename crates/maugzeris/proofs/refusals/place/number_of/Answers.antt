use Rattle.std.proofs.Common.{◌≡◌, true, false, refl, Ok, ◌∙◌}
use Rattle.std.proofs.lemmas.Bool.Decides.{Decides-eqb}
use Rattle.std.proofs.lemmas.Slice.Eq.{slice_eq-Decides}
use Rattle.maugzeris.proofs.refusals.Places.{no_number, no_text, other_number}
use Rattle.maugzeris.proofs.refusals.place.number_of.Goals as goal

pub returns-in_default : goal.returns-in_default
returns-in_default c = record { number = no_text c.args.digits.now c.in_default.ensures.cases.0 }

pub returns-in_default-parse : goal.returns-in_default-parse
returns-in_default-parse c =
    record {
      number = λ n few is.
          no_number c.in-Ok.text.now c.in_default-parse.field-0 c.in_default-parse.ensures.value.0 n few
          (c.in-Ok.ensures.cases.0 ∙ is);
    }

pub returns-else-eq : goal.returns-else-eq
returns-else-eq c =
    let text = c.in-Ok.text.now in
    let digits = c.args.digits.now in
    let number = c.in-Ok-parse.number in
    let same = c.in-Ok.ensures.cases.0 in
    record {
      number = λ n few is.
          other_number {E = Unit {0}} text number (Ok number) refl c.in-Ok-parse.ensures.value.0
          (λ e.
          let yes : c.eq.result ≡ true =
          (slice_eq-Decides Decides-eqb c.as_bytes.result.now digits c.eq.result c.eq.ensures).1
          (c.as_bytes.ensures.value ∙ c.format.ensures.text ∙ e ∙ same) in
          let no : c.eq.result ≡ false = c.if-eq.false in
          cc)
          n few (same ∙ is);
    }
