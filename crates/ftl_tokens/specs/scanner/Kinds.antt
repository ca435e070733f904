-- Which texts are tokens, and of which kind. Texts are lists of characters.
use Rattle.std.specs.Prelude.{ℕ, Bool, false, ◌&&◌, ◌||◌, ◌==◌, List, [], ◌∷◌, codes, Option, Some, None, unwrap_or}
use Rattle.std.specs.Prelude.{if◌then◌else◌}
use Rattle.std.specs.List.{list_all}
use Rattle.std.specs.Char.{is_ascii_digit}
use Rattle.std.specs.Str.{bytes_eq}
use Rattle.unicode_ident.specs.Ident.{is_xid_start, is_xid_continue}
use Rattle.ftl_tokens.specs.declared.scanner.kind.Kind.{Kind}
use Rattle.ftl_tokens.specs.declared.scanner.kind.Kind.TheVariants.{Name, Number, Root, Interface, Class, Inh, Syn, Input}
use Rattle.ftl_tokens.specs.declared.scanner.kind.Kind.TheVariants.{Local, Show, SelfWord, This, Prev, Last, First, Then}
use Rattle.ftl_tokens.specs.declared.scanner.kind.Kind.TheVariants.{Fold, From, With, Acc, If, Else, Or, Min, Max, LeftBrace}
use Rattle.ftl_tokens.specs.declared.scanner.kind.Kind.TheVariants.{RightBrace, LeftParen, RightParen, LeftBracket}
use Rattle.ftl_tokens.specs.declared.scanner.kind.Kind.TheVariants.{RightBracket, Semicolon, Colon, Comma, Dot, Assign}
use Rattle.ftl_tokens.specs.declared.scanner.kind.Kind.TheVariants.{Equals, Plus, Minus, Star, Slash, Less, LessEq, More}
use Rattle.ftl_tokens.specs.declared.scanner.kind.Kind.TheVariants.{MoreEq, EqualEqual, Unequal, AndAnd, OrOr, Bang}

-- the reserved words
abbrev pub reserved_words : List (List ℕ × Kind)
reserved_words =
    (codes "root", Root) ∷ (codes "interface", Interface) ∷ (codes "class", Class) ∷ (codes "inh", Inh)
    ∷ (codes "syn", Syn) ∷ (codes "input", Input) ∷ (codes "local", Local) ∷ (codes "show", Show)
    ∷ (codes "self", SelfWord) ∷ (codes "this", This) ∷ (codes "prev", Prev) ∷ (codes "last", Last)
    ∷ (codes "first", First) ∷ (codes "then", Then) ∷ (codes "fold", Fold) ∷ (codes "from", From)
    ∷ (codes "with", With) ∷ (codes "acc", Acc) ∷ (codes "if", If) ∷ (codes "else", Else) ∷ (codes "or", Or)
    ∷ (codes "min", Min) ∷ (codes "max", Max) ∷ []

-- the marks
abbrev pub marks : List (List ℕ × Kind)
marks =
    (codes "{", LeftBrace) ∷ (codes "}", RightBrace) ∷ (codes "(", LeftParen) ∷ (codes ")", RightParen)
    ∷ (codes "[", LeftBracket) ∷ (codes "]", RightBracket) ∷ (codes ";", Semicolon) ∷ (codes ":", Colon)
    ∷ (codes ",", Comma) ∷ (codes ".", Dot) ∷ (codes ":=", Assign) ∷ (codes "=", Equals) ∷ (codes "+", Plus)
    ∷ (codes "-", Minus) ∷ (codes "*", Star) ∷ (codes "/", Slash) ∷ (codes "<", Less) ∷ (codes "<=", LessEq)
    ∷ (codes ">", More) ∷ (codes ">=", MoreEq) ∷ (codes "==", EqualEqual) ∷ (codes "!=", Unequal)
    ∷ (codes "&&", AndAnd) ∷ (codes "||", OrOr) ∷ (codes "!", Bang) ∷ []

-- the kind that stands beside this text in a table
abbrev pub look_up : List ℕ → List (List ℕ × Kind) → Option Kind
look_up text [] = None
look_up text (entry ∷ entries) = if bytes_eq text entry.0 then Some entry.1 else look_up text entries

-- a character that may begin a word; 95 is `_`
abbrev pub begins_word : ℕ → Bool
begins_word c = is_xid_start c || c == 95

-- a word is a character that may begin one, and then characters that may continue one
abbrev pub is_word : List ℕ → Bool
is_word [] = false
is_word (c ∷ cs) = begins_word c && list_all is_xid_continue cs

-- a number is one ASCII digit or more
abbrev pub is_number : List ℕ → Bool
is_number [] = false
is_number (c ∷ cs) = is_ascii_digit c && list_all is_ascii_digit cs

-- the kind of a word: what it is reserved for, or else a name
unfoldable pub kind_of_word : List ℕ → Kind
kind_of_word word = unwrap_or (look_up word reserved_words) Name

-- the kind of the mark that is written so, if there is one
unfoldable pub kind_of_mark : List ℕ → Option Kind
kind_of_mark text = look_up text marks

-- the kind of the token that is written so, if there is one
unfoldable pub kind_of : List ℕ → Option Kind
kind_of text =
    if is_word text then Some (kind_of_word text)
    else (if is_number text then Some Number
    else kind_of_mark text)
