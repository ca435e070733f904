-- What a source of tokens has left.
use Rattle.ftl_tokens.specs.reading.Reader.{Tokens}
use Rattle.ftl_document.specs.declared.syntax.input.Source.{Source}
use Rattle.ftl_document.specs.declared.syntax.input.Source.TheVariants.{Scanned, Text}

-- the tokens, wherever they come from
abbrev pub tokens_of : Source → Tokens
tokens_of (Scanned tokens) = tokens
tokens_of (Text tokens) = tokens
