-- How interfaces and children are read, one token ahead.
use Rattle.std.specs.Prelude.{true, false, List, [], ◌∷◌, ◌++◌, map, Option, Some, None}
use Rattle.ftl_tokens.specs.declared.scanner.kind.Kind.{Kind}
use Rattle.ftl_tokens.specs.declared.scanner.kind.Kind.TheVariants as kind
use Rattle.ftl_tokens.specs.reading.Reader.{Reader, ◌>>=◌, ◌>>◌, ◌<$>◌, pure, next_kind, skip, expect, take_name, push}
use Rattle.ftl_tokens.specs.reading.Reader.{chain_of}
use Rattle.ftl_grammar.specs.declared.syntax.rules.AttrKind.{AttrKind}
use Rattle.ftl_grammar.specs.declared.syntax.rules.AttrKind.TheVariants as attr
use Rattle.ftl_grammar.specs.declared.syntax.rules.AttrDecl.{AttrDecl}
use Rattle.ftl_grammar.specs.declared.syntax.rules.Interface.{Interface}
use Rattle.ftl_grammar.specs.declared.syntax.rules.Child.{Child}
use Rattle.ftl_grammar.specs.syntax.Trees as trees
use Rattle.ftl_grammar.specs.syntax.Trees.{NameText}

-- ---- names and attributes

-- `,` and one more name, by the kind of the next token
abbrev pub comma_name_by : Option Kind → Reader (Option NameText)
comma_name_by (Some kind.Comma) = skip >> Some <$> take_name
comma_name_by _ = pure None

-- `,` and one more name, if they are there
unfoldable pub comma_name : Reader (Option NameText)
comma_name = λ ts. comma_name_by (next_kind ts) ts

-- names with `,` between them
unfoldable pub names : Reader (List NameText)
names = do
  n ← take_name
  chain_of push comma_name (n ∷ [])

-- names and `;`
unfoldable pub name_line : Reader (List NameText)
name_line = do
  ns ← names
  expect kind.Semicolon
  pure ns

-- names and `;`, after the word of this kind
unfoldable pub attr_group : AttrKind → Reader (Option (List AttrDecl))
attr_group kind = (λ ns. Some (map (trees.attr_decl kind) ns)) <$> name_line

-- one more group of attributes of an interface, by the kind of its first token
abbrev pub attrs_by : Option Kind → Reader (Option (List AttrDecl))
attrs_by (Some kind.Inh) = skip >> attr_group attr.Inh
attrs_by (Some kind.Syn) = skip >> attr_group attr.Syn
attrs_by (Some kind.Input) = skip >> attr_group attr.Input
attrs_by _ = pure None

-- one more group of attributes of an interface, if there is one
unfoldable pub attrs : Reader (Option (List AttrDecl))
attrs = λ ts. attrs_by (next_kind ts) ts

-- one more group of a class's own attributes, by the kind of its first token
abbrev pub own_attrs_by : Option Kind → Reader (Option (List AttrDecl))
own_attrs_by (Some kind.Input) = skip >> attr_group attr.Input
own_attrs_by (Some kind.Local) = skip >> attr_group attr.Local
own_attrs_by _ = pure None

-- one more group of a class's own attributes, if there is one
unfoldable pub own_attrs : Reader (Option (List AttrDecl))
own_attrs = λ ts. own_attrs_by (next_kind ts) ts

-- the groups of attributes in one list
abbrev pub append : List AttrDecl → List AttrDecl → List AttrDecl
append found more = found ++ more

-- ---- interfaces

-- the names after `show`, by the kind of the next token
abbrev pub shown_by : Option Kind → Reader (List NameText)
shown_by (Some kind.Show) = skip >> name_line
shown_by _ = pure []

-- the names after `show`, if it is there
unfoldable pub shown : Reader (List NameText)
shown = λ ts. shown_by (next_kind ts) ts

-- the rest of an interface, after `interface`
unfoldable pub interface : Reader Interface
interface = do
  n ← take_name
  expect kind.LeftBrace
  xs ← chain_of append attrs []
  ns ← shown
  expect kind.RightBrace
  pure (trees.interface n xs ns)

-- ---- children

-- the interface of a list child, after `:` and `[`
unfoldable pub list_child : NameText → Reader Child
list_child c = do
  n ← take_name
  expect kind.RightBracket
  expect kind.Semicolon
  pure (trees.child c n true)

-- the interface of a single child, after `:`
unfoldable pub single_child : NameText → Reader Child
single_child c = do
  n ← take_name
  expect kind.Semicolon
  pure (trees.child c n false)

-- the interface of a child of this name, by the kind of the next token
abbrev pub child_by : NameText → Option Kind → Reader Child
child_by c (Some kind.LeftBracket) = skip >> list_child c
child_by c _ = single_child c

-- the interface of a child of this name
unfoldable pub child : NameText → Reader Child
child c = λ ts. child_by c (next_kind ts) ts
