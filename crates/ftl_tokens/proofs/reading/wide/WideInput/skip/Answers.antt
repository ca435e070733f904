use Rattle.std.proofs.Common.{◌≤◌, length, sym, ap, ◌∙◌, arith}
use Rattle.ftl_tokens.specs.reading.Reader.{rest_of}
use Rattle.ftl_tokens.proofs.reading.InputLemmas.{rest_of-drop, rest_of-past}
use Rattle.ftl_tokens.proofs.reading.wide.WideInput.skip.Goals as goal

pub returns-then-self-list : goal.returns-then-self-list
returns-then-self-list c = record { rest = sym (rest_of-drop _ c.self.inside.at) ∙ ap rest_of c.self.view_is }

pub returns-else-self-list : goal.returns-else-self-list
returns-else-self-list c = record {
  rest =
      let s = c.self.inside.scanned.now in
      let past : length s.tokens ≤ c.self.inside.at = omega (arith, c.if-self-list.false, ap length c.list.ensures.list) in
      sym c.self.view_is ∙ sym (rest_of-past s c.self.inside.at past) ∙ ap rest_of c.self.view_is;
}
