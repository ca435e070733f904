use Rattle.std.proofs.Common.{◌∷◌, sym, ap, ◌∙◌}
use Rattle.ftl_tokens.specs.scanner.Tokenized.{name}
use Rattle.ftl_tokens.specs.reading.Reader.{next_kind, rest_of}
use Rattle.ftl_tokens.proofs.reading.InputLemmas.{within-some, text-there}
use Rattle.ftl_tokens.proofs.reading.wide.WideInput.text.Goals as goal

pub slice-requires : goal.slice-requires
slice-requires c = record {
  within =
      within-some c.self.inside.scanned.now c.self.inside.at _ (ap next_kind c.self.view_is ∙ c.requires.name);
}

pub returns : goal.returns
returns c = record {
  text =
      let here = text-there c.self.inside.scanned.now c.self.inside.at c.slice.result.now (ap next_kind c.self.view_is ∙ c.requires.name) c.slice.ensures.symbol in
      sym c.self.view_is ∙ here ∙ ap (λ ts. name c.slice.result.now ∷ rest_of ts) c.self.view_is;
}
