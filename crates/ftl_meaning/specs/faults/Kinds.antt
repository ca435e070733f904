-- By which words the attributes of interfaces and classes are declared.
use Rattle.std.specs.List.{All}
use Rattle.ftl_grammar.specs.declared.syntax.rules.AttrKind.{AttrKind}
use Rattle.ftl_grammar.specs.declared.syntax.rules.AttrKind.TheVariants as kinds
use Rattle.ftl_grammar.specs.declared.syntax.rules.Grammar.{Grammar}

-- an interface declares inherited and synthesized attributes and inputs
abbrev pub IsSharedKind : AttrKind → Type 0
IsSharedKind kinds.Inh = Unit {0}
IsSharedKind kinds.Syn = Unit {0}
IsSharedKind kinds.Input = Unit {0}
IsSharedKind kinds.Local = ⊥

-- a class declares inputs and locals
abbrev pub IsOwnKind : AttrKind → Type 0
IsOwnKind kinds.Inh = ⊥
IsOwnKind kinds.Syn = ⊥
IsOwnKind kinds.Input = Unit {0}
IsOwnKind kinds.Local = Unit {0}

-- each attribute is declared by a word that may stand there
pub record HasKinds (g : Grammar) : Type 0 where
  pub shared : All (λ x. All (λ a. IsSharedKind a.kind) x.attrs) g.interfaces
  pub own : All (λ x. All (λ a. IsOwnKind a.kind) x.attrs) g.classes
