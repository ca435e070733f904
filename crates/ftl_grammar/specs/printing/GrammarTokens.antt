-- The tokens of the canonical text of a grammar, and the text.
use Rattle.std.specs.Prelude.{ℕ, List, [], ◌∷◌, ◌++◌, flat_map, codes, if◌then◌else◌}
use Rattle.ftl_tokens.specs.declared.scanner.kind.Kind.{Kind}
use Rattle.ftl_tokens.specs.declared.scanner.kind.Kind.TheVariants as kind
use Rattle.ftl_tokens.specs.scanner.Tokenized.{Symbol, name, fixed}
use Rattle.ftl_tokens.specs.reading.Reader.{Tokens}
use Rattle.ftl_grammar.specs.declared.syntax.rules.AttrKind.{AttrKind}
use Rattle.ftl_grammar.specs.declared.syntax.rules.AttrKind.TheVariants as attr
use Rattle.ftl_grammar.specs.declared.syntax.rules.AttrDecl.{AttrDecl}
use Rattle.ftl_grammar.specs.declared.syntax.rules.Interface.{Interface}
use Rattle.ftl_grammar.specs.declared.syntax.rules.Child.{Child}
use Rattle.ftl_grammar.specs.declared.syntax.rules.Target.{Target}
use Rattle.ftl_grammar.specs.declared.syntax.rules.Target.TheVariants as target
use Rattle.ftl_grammar.specs.declared.syntax.rules.Body.{Body}
use Rattle.ftl_grammar.specs.declared.syntax.rules.Body.TheVariants as body
use Rattle.ftl_grammar.specs.declared.syntax.rules.Rule.{Rule}
use Rattle.ftl_grammar.specs.declared.syntax.rules.Class.{Class}
use Rattle.ftl_grammar.specs.declared.syntax.rules.Grammar.{Grammar}
use Rattle.ftl_grammar.specs.syntax.Trees.{NameText}
use Rattle.ftl_tokens.specs.writing.Written.{Written, written, written_bytes}
use Rattle.ftl_grammar.specs.printing.ExpressionTokens.{expr_tokens}

-- the word that an attribute is declared with
abbrev pub attr_word : AttrKind → Kind
attr_word attr.Inh = kind.Inh
attr_word attr.Syn = kind.Syn
attr_word attr.Input = kind.Input
attr_word attr.Local = kind.Local

-- an attribute, declared by itself
abbrev pub attr_tokens : AttrDecl → Tokens
attr_tokens a = fixed (attr_word a.kind) ∷ name a.name ∷ fixed kind.Semicolon ∷ []

-- a name after others
abbrev pub next_name : NameText → Tokens
next_name n = fixed kind.Comma ∷ name n ∷ []

-- the shown names in one `show`, which is left out where there are none
abbrev pub shown_tokens : List NameText → Tokens
shown_tokens [] = []
shown_tokens (n ∷ ns) = fixed kind.Show ∷ name n ∷ (flat_map next_name ns ++ (fixed kind.Semicolon ∷ []))

-- an interface
abbrev pub interface_tokens : Interface → Tokens
interface_tokens x =
    fixed kind.Interface ∷ name x.name ∷ fixed kind.LeftBrace
    ∷ (flat_map attr_tokens x.attrs ++ (shown_tokens x.shown ++ (fixed kind.RightBrace ∷ [])))

-- the interface of a child, in square brackets where it is a list
abbrev pub child_tokens : Child → Tokens
child_tokens x =
    if x.many then
    name x.name ∷ fixed kind.Colon ∷ fixed kind.LeftBracket ∷ name x.interface ∷ fixed kind.RightBracket
    ∷ fixed kind.Semicolon ∷ []
    else name x.name ∷ fixed kind.Colon ∷ name x.interface ∷ fixed kind.Semicolon ∷ []

-- what a rule is for
abbrev pub target_tokens : Target → Tokens
target_tokens (target.Own a) = fixed kind.SelfWord ∷ fixed kind.Dot ∷ name a ∷ []
target_tokens (target.Of c a) = name c ∷ fixed kind.Dot ∷ name a ∷ []

-- what it gives
abbrev pub body_tokens : Body → Tokens
body_tokens (body.Plain x) = expr_tokens x
body_tokens (body.FirstThen x y) = fixed kind.First ∷ (expr_tokens x ++ (fixed kind.Then ∷ expr_tokens y))
body_tokens (body.Fold c x y) =
    fixed kind.Fold ∷ name c ∷ fixed kind.From ∷ (expr_tokens x ++ (fixed kind.With ∷ expr_tokens y))

-- a rule
abbrev pub rule_tokens : Rule → Tokens
rule_tokens x =
    target_tokens x.target ++ (fixed kind.Assign ∷ (body_tokens x.body ++ (fixed kind.Semicolon ∷ [])))

-- a class: its own attributes, its children, its rules
abbrev pub class_tokens : Class → Tokens
class_tokens x =
    fixed kind.Class ∷ name x.name ∷ fixed kind.Colon ∷ name x.interface ∷ fixed kind.LeftBrace
    ∷ (flat_map attr_tokens x.attrs
    ++ (flat_map child_tokens x.children ++ (flat_map rule_tokens x.rules ++ (fixed kind.RightBrace ∷ []))))

-- a grammar: the interfaces, then the classes
abbrev pub grammar_tokens : Grammar → Tokens
grammar_tokens g =
    fixed kind.Root ∷ name g.root ∷ fixed kind.Semicolon
    ∷ (flat_map interface_tokens g.interfaces ++ flat_map class_tokens g.classes)

-- what follows a token: a line feed after `;`, `{` and `}`, else a space
abbrev pub gap_after : Symbol → List ℕ
gap_after (fixed kind.Semicolon) = codes "\n"
gap_after (fixed kind.LeftBrace) = codes "\n"
gap_after (fixed kind.RightBrace) = codes "\n"
gap_after _ = codes " "

-- a token and what follows it
abbrev pub spaced : Symbol → Written
spaced token = written token (gap_after token)

-- a token and what follows it, as they are written
unfoldable pub spaced_bytes : Symbol → List ℕ
spaced_bytes token = written_bytes (spaced token)

-- the tokens as a text
abbrev pub spaced_text : Tokens → List ℕ
spaced_text ts = flat_map spaced_bytes ts

-- the canonical text of a grammar
abbrev pub grammar_text : Grammar → List ℕ
grammar_text g = spaced_text (grammar_tokens g)
