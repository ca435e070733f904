-- The words by which worked grammars declare their attributes, and where they may not stand.
use Rattle.std.specs.List.{All, AllByRecursion}
use Rattle.std.proofs.Common.{List, [], ◌∷◌}
use Rattle.std.proofs.lemmas.List.Elements.{All-from_recursion}
use Rattle.ftl_grammar.specs.declared.syntax.rules.AttrDecl.{AttrDecl}
use Rattle.ftl_grammar.specs.declared.syntax.rules.Class.{Class}
use Rattle.ftl_grammar.specs.declared.syntax.rules.Grammar.{Grammar}
use Rattle.ftl_grammar.specs.declared.syntax.rules.Interface.{Interface}
use Rattle.ftl_meaning.specs.faults.Kinds.{HasKinds, IsOwnKind, IsSharedKind}

-- each interface, each attribute
abbrev pub SharedByRecursion : List Interface → Type 0
SharedByRecursion xs = AllByRecursion (λ (x : Interface). AllByRecursion (λ (a : AttrDecl). IsSharedKind a.kind) x.attrs) xs

-- each class, each attribute
abbrev pub OwnByRecursion : List Class → Type 0
OwnByRecursion xs = AllByRecursion (λ (x : Class). AllByRecursion (λ (a : AttrDecl). IsOwnKind a.kind) x.attrs) xs

shared_from : (xs : List Interface) → SharedByRecursion xs
    → AllByRecursion (λ (x : Interface). All (λ (a : AttrDecl). IsSharedKind a.kind) x.attrs) xs
shared_from [] h = tt
shared_from (x ∷ xs) h =
    (All-from_recursion (λ (a : AttrDecl). IsSharedKind a.kind) x.attrs h.0, shared_from xs h.1)

own_from : (xs : List Class) → OwnByRecursion xs
    → AllByRecursion (λ (x : Class). All (λ (a : AttrDecl). IsOwnKind a.kind) x.attrs) xs
own_from [] h = tt
own_from (x ∷ xs) h = (All-from_recursion (λ (a : AttrDecl). IsOwnKind a.kind) x.attrs h.0, own_from xs h.1)

-- each word may stand where it stands
pub kinds_by : (g : Grammar) → SharedByRecursion g.interfaces → OwnByRecursion g.classes → HasKinds g
kinds_by g shared own =
    record {
      shared = All-from_recursion (λ (x : Interface). All (λ (a : AttrDecl). IsSharedKind a.kind) x.attrs) g.interfaces (shared_from g.interfaces shared);
      own = All-from_recursion (λ (x : Class). All (λ (a : AttrDecl). IsOwnKind a.kind) x.attrs) g.classes (own_from g.classes own);
    }
