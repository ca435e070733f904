use Rattle.std.proofs.Common.{◌<◌, ◌≤◌, List, length, get_or, Some, sym, ap, ◌∙◌, arith}
use Rattle.ftl_tokens.specs.declared.scanner.kind.Token.{Token}
use Rattle.ftl_tokens.specs.reading.Reader.{next_kind}
use Rattle.ftl_tokens.proofs.reading.InputLemmas.{next_kind-there, next_kind-past}
use Rattle.ftl_tokens.proofs.reading.wide.WideInput.peek.Goals as goal

pub returns-then-self-list : goal.returns-then-self-list
returns-then-self-list c = record {
  kind =
      let s = c.self.inside.scanned.now in
      let within : c.self.inside.at < length s.tokens = omega (arith, c.if-self-list.true, ap length c.list-list.ensures.list) in
      ap (λ (l : List Token). Some (get_or l c.self.inside.at _).kind) c.list-list.ensures.list
      ∙ sym (next_kind-there s c.self.inside.at _ within) ∙ ap next_kind c.self.view_is;
}

pub returns-else-self-list : goal.returns-else-self-list
returns-else-self-list c = record {
  kind =
      let s = c.self.inside.scanned.now in
      let past : length s.tokens ≤ c.self.inside.at = omega (arith, c.if-self-list.false, ap length c.list-list.ensures.list) in
      sym (next_kind-past s c.self.inside.at past) ∙ ap next_kind c.self.view_is;
}
