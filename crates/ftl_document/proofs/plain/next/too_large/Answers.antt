use Rattle.std.proofs.Common.{◌≡◌, ◌+◌, ◌≤◌, ℕ, min, take, refl, sym, subst, ap, arith}
use Rattle.std.proofs.lemmas.List.{take-take}
use Rattle.std.proofs.lemmas.Str.Parse.{digits_value-take-le}
use Rattle.std.specs.List.{prefix_len}
use Rattle.std.specs.Str.Parse.{digits_value}
use Rattle.ftl_tokens.specs.declared.scanner.run.Run.TheVariants.{Digits}
use Rattle.ftl_tokens.specs.scanner.Run.{byte_goes_on}
use Rattle.ftl_document.proofs.plain.Fronts.{found_stop, large_number}
use Rattle.ftl_document.proofs.plain.next.too_large.Goals as goal

pub returns : goal.returns
returns c =
    let text = c.args.text.now in
    let greatest = c.args.greatest in
    let length = prefix_len (byte_goes_on Digits) text in
    let front : digits_value 10 (take c.args.at text) ≤ digits_value 10 (take length text) =
    subst (λ ds. digits_value 10 ds ≤ digits_value 10 (take length text)) (take-take c.args.at length text c.requires.run)
    (digits_value-take-le 10 (take length text) c.args.at (omega arith)) in
    let large = c.requires.large in
    let cut : greatest + 1 ≡ min (digits_value 10 (take length text)) (greatest + 1) = omega (arith, front, large) in
    record {
      found =
          found_stop greatest text c.stopped.result c.stopped.ensures.next c.stopped.ensures.rest
          (large_number greatest text length (greatest + 1) c.requires.gapless c.requires.digits refl cut (omega arith));
    }
