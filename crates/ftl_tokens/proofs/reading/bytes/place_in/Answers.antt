use Rattle.std.proofs.Common.{◌≡◌, ◌<◌, ◌≤◌, ◌-◌, List, length, get_or, sym, ap, ◌∙◌, subst₂, arith}
use Rattle.ftl_tokens.specs.declared.scanner.kind.Token.{Token}
use Rattle.ftl_tokens.proofs.reading.InputLemmas.{place_of-there, place_of-end, place_of-none}
use Rattle.ftl_tokens.proofs.reading.bytes.place_in.Goals as goal

pub returns-then-read-count : goal.returns-then-read-count
returns-then-read-count c = record {
  place =
      let tokens = c.args.scanned.now.tokens in
      let read : c.saturating_sub-read.result ≡ length tokens - c.args.left =
      c.saturating_sub-read.ensures ∙ ap (λ (l : List Token). length l - c.args.left) c.list-list.ensures.list in
      let within : length tokens - c.args.left < length tokens =
      subst₂ (λ a b. a < b) read (ap length c.list-list.ensures.list) c.if-read-count.true in
      ap (λ (l : List Token). (get_or l c.saturating_sub-read.result _).start) c.list-list.ensures.list
      ∙ ap (λ k. (get_or tokens k _).start) read
      ∙ sym (place_of-there tokens _ _ within);
}

pub returns-then-count-gt0 : goal.returns-then-count-gt0
returns-then-count-gt0 c = record {
  place =
      let tokens = c.args.scanned.now.tokens in
      let counted = ap length c.list-list.ensures.list in
      let some : 0 < length tokens = omega (arith, counted) in
      let past : length tokens ≤ length tokens - c.args.left = omega (arith, counted) in
      ap (λ (l : List Token). (get_or l (length l - 1) _).end) c.list-list.ensures.list ∙ sym (place_of-end tokens _ _ past some);
}

pub returns-else-count-gt0 : goal.returns-else-count-gt0
returns-else-count-gt0 c = record {
  place =
      let none : length c.args.scanned.now.tokens ≡ 0 = omega (arith, ap length c.list-list.ensures.list) in
      sym (place_of-none c.args.scanned.now.tokens _ none);
}
