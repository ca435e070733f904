use Rattle.std.proofs.Common.{◌∷◌, sym, ap, ◌∙◌}
use Rattle.ftl_tokens.specs.scanner.Tokenized.{number}
use Rattle.ftl_tokens.specs.reading.Reader.{next_kind, rest_of}
use Rattle.ftl_tokens.proofs.reading.InputLemmas.{token-there, number-there}
use Rattle.ftl_tokens.proofs.reading.wide.WideInput.value.Goals as goal

pub number-requires : goal.number-requires
number-requires c = record {
  number =
      token-there c.self.inside.scanned.now c.self.inside.at _ (ap next_kind c.self.view_is ∙ c.requires.number);
}

pub returns-clause-value : goal.returns-clause-value
returns-clause-value c =
    let here = number-there c.self.inside.scanned.now c.self.inside.at c.number.result c.number.ensures.symbol in
    sym c.self.view_is ∙ here ∙ ap (λ ts. number c.number.result ∷ rest_of ts) c.self.view_is
