-- Texts by the tokens that are written: what each says, and the white space behind it.
use Rattle.std.specs.Prelude.{◌≡◌, ℕ, ◌≤◌, true, List, [], ◌∷◌, ◌++◌, map, codes, flat_map, Option, Some, None, Ok, unwrap_or}
use Rattle.std.specs.Fmt.{decimal}
use Rattle.std.specs.List.{list_all}
use Rattle.std.specs.Str.{chars, IsUtf8}
use Rattle.ftl_tokens.specs.declared.scanner.kind.Kind.{Kind}
use Rattle.ftl_tokens.specs.declared.scanner.kind.Kind.TheVariants.{Name, Root, Interface, Class, Inh, Syn, Input}
use Rattle.ftl_tokens.specs.declared.scanner.kind.Kind.TheVariants.{Local, Show, SelfWord, This, Prev, Last, First, Then}
use Rattle.ftl_tokens.specs.declared.scanner.kind.Kind.TheVariants.{Fold, From, With, Acc, If, Else, Or, Min, Max}
use Rattle.ftl_tokens.specs.declared.scanner.kind.Kind.TheVariants.{LeftBrace, RightBrace, LeftParen, RightParen}
use Rattle.ftl_tokens.specs.declared.scanner.kind.Kind.TheVariants.{LeftBracket, RightBracket, Semicolon, Colon, Comma, Dot}
use Rattle.ftl_tokens.specs.declared.scanner.kind.Kind.TheVariants.{Assign, Equals, Plus, Minus, Star, Slash, Less, LessEq}
use Rattle.ftl_tokens.specs.declared.scanner.kind.Kind.TheVariants.{More, MoreEq, EqualEqual, Unequal, AndAnd, OrOr, Bang}
use Rattle.ftl_tokens.specs.declared.scanner.kind.Token.{Token}
use Rattle.ftl_tokens.specs.scanner.Kinds.{kind_of}
use Rattle.ftl_tokens.specs.scanner.Scan.{is_white_space, scan}
use Rattle.ftl_tokens.specs.scanner.Tokenized.{Symbol, name, number, fixed, symbols_of}
use Rattle.ftl_tokens.specs.reading.Reader.{IsFixed}

-- a token as it is written: what it says, and the white space behind it, if there is any
pub record Written : Type 0 where
  pub says : Symbol
  pub gap : List ℕ

-- a token that says this, with this white space behind it
abbrev pub written : Symbol → List ℕ → Written
written says gap = record { says = says; gap = gap }

-- how a reserved word is written
abbrev pub word_text : Kind → Option (List ℕ)
word_text Root = Some (codes "root")
word_text Interface = Some (codes "interface")
word_text Class = Some (codes "class")
word_text Inh = Some (codes "inh")
word_text Syn = Some (codes "syn")
word_text Input = Some (codes "input")
word_text Local = Some (codes "local")
word_text Show = Some (codes "show")
word_text SelfWord = Some (codes "self")
word_text This = Some (codes "this")
word_text Prev = Some (codes "prev")
word_text Last = Some (codes "last")
word_text First = Some (codes "first")
word_text Then = Some (codes "then")
word_text Fold = Some (codes "fold")
word_text From = Some (codes "from")
word_text With = Some (codes "with")
word_text Acc = Some (codes "acc")
word_text If = Some (codes "if")
word_text Else = Some (codes "else")
word_text Or = Some (codes "or")
word_text Min = Some (codes "min")
word_text Max = Some (codes "max")
word_text _ = None

-- how a mark is written
abbrev pub mark_text : Kind → List ℕ
mark_text LeftBrace = codes "{"
mark_text RightBrace = codes "}"
mark_text LeftParen = codes "("
mark_text RightParen = codes ")"
mark_text LeftBracket = codes "["
mark_text RightBracket = codes "]"
mark_text Semicolon = codes ";"
mark_text Colon = codes ":"
mark_text Comma = codes ","
mark_text Dot = codes "."
mark_text Assign = codes ":="
mark_text Equals = codes "="
mark_text Plus = codes "+"
mark_text Minus = codes "-"
mark_text Star = codes "*"
mark_text Slash = codes "/"
mark_text Less = codes "<"
mark_text LessEq = codes "<="
mark_text More = codes ">"
mark_text MoreEq = codes ">="
mark_text EqualEqual = codes "=="
mark_text Unequal = codes "!="
mark_text AndAnd = codes "&&"
mark_text OrOr = codes "||"
mark_text Bang = codes "!"
mark_text _ = []

-- how a reserved word or a mark is written
abbrev pub fixed_text : Kind → List ℕ
fixed_text kind = unwrap_or (word_text kind) (mark_text kind)

-- how a token is written: a name by its characters, a number in decimal
abbrev pub symbol_text : Symbol → List ℕ
symbol_text (name text) = text
symbol_text (number value) = decimal value
symbol_text (fixed kind) = fixed_text kind

-- a token and the white space behind it
abbrev pub written_bytes : Written → List ℕ
written_bytes token = symbol_text token.says ++ token.gap

-- the tokens as a text, in order
abbrev pub text_of : List Written → List ℕ
text_of tokens = flat_map written_bytes tokens

-- what a token of a text can say: a name is no reserved word, and no number is above the greatest
abbrev pub CanBeSaid : ℕ → Symbol → Type 0
CanBeSaid greatest (name text) = IsUtf8 text × (kind_of (chars text) ≡ Some Name)
CanBeSaid greatest (number value) = value ≤ greatest
CanBeSaid greatest (fixed kind) = IsFixed kind

-- the next character, if there is one, does not go on the token
abbrev pub StandsApart : List ℕ → List ℕ → Type 0
StandsApart token [] = Unit {0}
StandsApart token (c ∷ cs) = kind_of (token ++ (c ∷ [])) ≡ None

-- a written token that is read as it was written, before the rest of the text
pub record IsReadable (greatest : ℕ) (token : Written) (rest : List ℕ) : Type 0 where
  pub says : CanBeSaid greatest token.says
  pub gap : list_all is_white_space token.gap ≡ true
  pub apart : StandsApart (chars (symbol_text token.says)) (chars (token.gap ++ rest))

-- each of the tokens is read as it was written
abbrev pub AreReadable : ℕ → List Written → Type 0
AreReadable greatest [] = Unit {0}
AreReadable greatest (token ∷ tokens) =
    IsReadable greatest token (text_of tokens) × AreReadable greatest tokens

-- a text whose tokens say this, in order
pub record Says (greatest : ℕ) (text : List ℕ) (symbols : List Symbol) : Type 0 where
  pub tokens : List Token
  pub scanned : scan greatest text ≡ Ok tokens
  pub said : symbols_of (record { text = text; tokens = tokens }) ≡ symbols

-- what these tokens say, in order
abbrev pub said_by : List Written → List Symbol
said_by tokens = map (λ (token : Written). token.says) tokens

-- white space, at least one character of it
abbrev pub IsSpace : List ℕ → Type 0
IsSpace [] = ⊥
IsSpace (c ∷ cs) = list_all is_white_space (c ∷ cs) ≡ true

-- each token has white space behind it
abbrev pub AreSpaced : ℕ → List Written → Type 0
AreSpaced greatest [] = Unit {0}
AreSpaced greatest (token ∷ tokens) =
    CanBeSaid greatest token.says × IsSpace token.gap × AreSpaced greatest tokens
