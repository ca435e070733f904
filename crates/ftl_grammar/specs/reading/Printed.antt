-- Texts as they are scanned before a grammar is read from them.
use Rattle.std.specs.Prelude.{◌≡◌, Ok}
use Rattle.std.specs.Str.{IsUtf8}
use Rattle.ftl_tokens.specs.scanner.Scan.{scan}
use Rattle.ftl_tokens.specs.scanner.Tokenized.{Tokenized}

-- a text with the tokens that a scan finds in it, no number above 2147483647
pub record IsScanned (scanned : Tokenized) : Type 0 where
  pub utf8 : IsUtf8 scanned.text
  pub tokens : scan 2147483647 scanned.text ≡ Ok scanned.tokens
