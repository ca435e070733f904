-- The lines that refuse the text of a section before its meaning plays a part: tokens, depth and syntax.
use Rattle.std.specs.Prelude.{ℕ, List, [], ◌++◌, codes}
use Rattle.std.specs.Fmt.{decimal}
use Rattle.ftl_page.specs.declared.sections.fault.Section.{Section}
use Rattle.ftl_page.specs.declared.sections.fault.Section.TheVariants.{Grammar}
use Rattle.ftl_tokens.specs.declared.scanner.fault.TokenFault.{TokenFault}
use Rattle.ftl_tokens.specs.declared.scanner.fault.TokenFault.TheVariants as token
use Rattle.ftl_grammar.specs.declared.reading.fault.SyntaxFault.{SyntaxFault}
use Rattle.ftl_grammar.specs.declared.reading.fault.SyntaxFault.TheVariants as syntax
use Rattle.ftl_answer.specs.refusals.Names.{section_name}

-- `refused S: `, with the name of the section
abbrev pub refused : Section → List ℕ
refused which = codes "refused " ++ (section_name which ++ codes ": ")

-- what is wrong, and the byte of the text at which it is
abbrev pub at_byte : Section → (what : List ℕ) → (at : ℕ) → List ℕ
at_byte which what at = refused which ++ (what ++ (codes " at " ++ decimal at))

-- the first fault of the tokens
abbrev pub token_line : Section → TokenFault → List ℕ
token_line which (token.BadChar at) = at_byte which (codes "bad character") at
token_line which (token.NumberTooLarge at) = at_byte which (codes "number too large") at
token_line which token.OutOfMemory = []

-- the tokens go wrong
abbrev pub syntax_at : Section → (at : ℕ) → List ℕ
syntax_at which at = at_byte which (codes "syntax") at

-- too many brackets are open
abbrev pub too_deep_at : Section → (at : ℕ) → List ℕ
too_deep_at which at = at_byte which (codes "too deep") at

-- the fault of the tokens of a grammar
abbrev pub syntax_line : SyntaxFault → List ℕ
syntax_line (syntax.TooDeep at) = too_deep_at Grammar at
syntax_line (syntax.Syntax at) = syntax_at Grammar at
syntax_line syntax.OutOfMemory = []
