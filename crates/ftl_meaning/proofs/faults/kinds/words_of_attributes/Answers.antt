use Rattle.std.proofs.Common.{[], ◌∷◌, codes}
use Rattle.std.specs.List.{All}
use Rattle.std.proofs.lemmas.List.Elements.{All-head}
use Rattle.ftl_grammar.specs.declared.syntax.rules.AttrDecl.{AttrDecl}
use Rattle.ftl_grammar.specs.declared.syntax.rules.AttrKind.{AttrKind}
use Rattle.ftl_grammar.specs.declared.syntax.rules.AttrKind.TheVariants as kinds
use Rattle.ftl_grammar.specs.declared.syntax.rules.Class.{Class}
use Rattle.ftl_grammar.specs.declared.syntax.rules.Interface.{Interface}
use Rattle.ftl_grammar.specs.syntax.Trees as trees
use Rattle.ftl_meaning.specs.faults.Kinds.{HasKinds, IsOwnKind, IsSharedKind}
use Rattle.ftl_meaning.specs.faults.WorkedKinds.{adds, shares}
use Rattle.ftl_meaning.proofs.faults.WorkedKinds.{kinds_by}
use Rattle.ftl_meaning.proofs.faults.kinds.words_of_attributes.Goals as goal

-- the word of the one attribute may stand there
shared_kind : (kind : AttrKind) → HasKinds (shares kind) → IsSharedKind kind
shared_kind kind h =
    All-head (λ (a : AttrDecl). IsSharedKind a.kind) (trees.attr_decl kind (codes "a")) []
    (All-head (λ (x : Interface). All (λ (a : AttrDecl). IsSharedKind a.kind) x.attrs)
    (trees.interface (codes "R") (trees.attr_decl kind (codes "a") ∷ []) []) [] h.shared)

own_kind : (kind : AttrKind) → HasKinds (adds kind) → IsOwnKind kind
own_kind kind h =
    All-head (λ (a : AttrDecl). IsOwnKind a.kind) (trees.attr_decl kind (codes "a")) []
    (All-head (λ (x : Class). All (λ (a : AttrDecl). IsOwnKind a.kind) x.attrs)
    (trees.class (codes "C") (codes "R") (trees.attr_decl kind (codes "a") ∷ []) [] []) [] h.own)

pub returns : goal.returns
returns c = record {
  shared_input = kinds_by (shares kinds.Input) ((tt, tt), tt) tt;
  shared_local = λ h. shared_kind kinds.Local h;
  own_local = kinds_by (adds kinds.Local) (tt, tt) ((tt, tt), tt);
  own_input = kinds_by (adds kinds.Input) (tt, tt) ((tt, tt), tt);
  own_inherited = λ h. own_kind kinds.Inh h;
  own_synthesized = λ h. own_kind kinds.Syn h;
}
