use Rattle.std.proofs.Common.{◌≡◌, ◌<◌, ◌≤◌, ◌∙◌, sym, ap, refl, length, arith, false}
use Rattle.std.specs.Prelude.{Some}
use Rattle.std.proofs.lemmas.Bool.{both_ways}
use Rattle.std.proofs.lemmas.Bool.Decides.{Decides-eqb}
use Rattle.std.proofs.lemmas.Grind.{common_steps}
use Rattle.std.proofs.lemmas.Option.{same_Some}
use Rattle.std.proofs.lemmas.Slice.Eq.{slice_eq-Decides}
use Rattle.ftl_refusals.proofs.tokens.NamedLemmas.{text_of-past, text_of-slice}
use Rattle.ftl_refusals.proofs.tokens.words.says.Goals as goal

pub returns-then-k-list : goal.returns-then-k-list
returns-then-k-list c =
    let scanned = c.args.scanned.now in
    let slice = c.slice.result.now in
    let word = c.args.word.now in
    let count = ap length c.list.ensures.list in
    let within : c.args.k < length scanned.tokens = omega (arith, c.if-k-list.true, count) in
    let text = text_of-slice scanned c.args.k slice within c.slice.ensures.text in
    let same = slice_eq-Decides Decides-eqb slice word c.eq.result c.eq.ensures in
    record {
      says = (λ yes. text ∙ ap Some (same.0 yes), λ is. same.1 (same_Some slice word (sym text ∙ is)));
    }

pub returns-else-k-list : goal.returns-else-k-list
returns-else-k-list c =
    let scanned = c.args.scanned.now in
    let count = ap length c.list.ensures.list in
    let past : length scanned.tokens ≤ c.args.k = omega (arith, c.if-k-list.false, count) in
    record {
      says = (
        λ yes. absurd (both_ways false refl yes),
        λ is.
            absurd (text_of-past scanned c.args.k c.args.word.now past is),
      );
    }
