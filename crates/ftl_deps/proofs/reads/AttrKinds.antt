-- The kinds of attributes, by number.
use Rattle.std.proofs.Common.{arith, ◌≡◌, ℕ, suc, ◌<◌, ◌≤◌, Bool, true, false, List, [], ◌∷◌, ◌++◌, length, get_or, map, flat_map, refl, sym, ◌∙◌, ap, ap₂}
use Rattle.std.proofs.lemmas.Grind.{common_steps}
use Rattle.std.proofs.lemmas.List.{get_or-map, get_or_past, map-append}
use Rattle.ftl_grammar.specs.syntax.Trees as trees
use Rattle.ftl_grammar.specs.declared.syntax.rules.AttrDecl.{AttrDecl}
use Rattle.ftl_grammar.specs.declared.syntax.rules.AttrKind.TheVariants as kinds
use Rattle.ftl_grammar.specs.declared.syntax.rules.Class.{Class}
use Rattle.ftl_grammar.specs.declared.syntax.rules.Grammar.{Grammar}
use Rattle.ftl_grammar.specs.declared.syntax.rules.Interface.{Interface}
use Rattle.ftl_meaning.specs.faults.Checked as told
use Rattle.ftl_meaning.specs.faults.Checked.{Declared, all_attributes, declared}
use Rattle.ftl_meaning.specs.faults.Numbering.{numbered}
use Rattle.ftl_meaning.specs.grammars.GrammarOf.{declaration_at}

-- an attribute as it is declared
abbrev decl_of : Declared → AttrDecl
decl_of a = a.decl

one_owner : (b : Bool) (n : ℕ) (attrs : List AttrDecl) → map decl_of (map (declared b n) attrs) ≡ attrs
one_owner b n [] = refl
one_owner b n (a ∷ attrs) = ap (λ rest. a ∷ rest) (one_owner b n attrs)

of_interfaces : (n : ℕ) (xs : List Interface)
    → map decl_of (flat_map (λ x. map (declared false x.0) x.1.attrs) (numbered n xs)) ≡ flat_map (λ (x : Interface). x.attrs) xs
of_interfaces n [] = refl
of_interfaces n (x ∷ xs) =
    map-append decl_of (map (declared false n) x.attrs) (flat_map (λ x. map (declared false x.0) x.1.attrs) (numbered (suc n) xs))
    ∙ ap₂ (λ a b. a ++ b) (one_owner false n x.attrs) (of_interfaces (suc n) xs)

of_classes : (n : ℕ) (ks : List Class)
    → map decl_of (flat_map (λ k. map (declared true k.0) k.1.attrs) (numbered n ks)) ≡ flat_map (λ (k : Class). k.attrs) ks
of_classes n [] = refl
of_classes n (k ∷ ks) =
    map-append decl_of (map (declared true n) k.attrs) (flat_map (λ k. map (declared true k.0) k.1.attrs) (numbered (suc n) ks))
    ∙ ap₂ (λ a b. a ++ b) (one_owner true n k.attrs) (of_classes (suc n) ks)

-- all attributes, in order
decls : (g : Grammar) → map decl_of (all_attributes g)
    ≡ flat_map (λ (x : Interface). x.attrs) g.interfaces ++ flat_map (λ (k : Class). k.attrs) g.classes
decls g =
    map-append decl_of (flat_map (λ x. map (declared false x.0) x.1.attrs) (numbered 0 g.interfaces))
    (flat_map (λ k. map (declared true k.0) k.1.attrs) (numbered 0 g.classes))
    ∙ ap₂ (λ a b. a ++ b) (of_interfaces 0 g.interfaces) (of_classes 0 g.classes)

-- what is known of an attribute has its kind
pub kind_within : (g : Grammar) (a : ℕ) → a < length (all_attributes g)
    → (told.attribute_at g a).decl.kind ≡ (declaration_at g a).kind
kind_within g a within =
    ap (λ (x : AttrDecl). x.kind)
    (sym (get_or-map decl_of (all_attributes g) a (declared false 0 (trees.attr_decl kinds.Inh [])) (trees.attr_decl kinds.Input []) within)
    ∙ ap (λ xs. get_or xs a (trees.attr_decl kinds.Input [])) (decls g))

-- past the end an input
pub kind_past : (g : Grammar) (a : ℕ) → length (all_attributes g) ≤ a → (declaration_at g a).kind ≡ kinds.Input
kind_past g a past =
    ap (λ (x : AttrDecl). x.kind)
    (ap (λ xs. get_or xs a (trees.attr_decl kinds.Input [])) (sym (decls g))
    ∙ get_or_past (map decl_of (all_attributes g)) a (trees.attr_decl kinds.Input [])
    (grind (arith, common_steps, past)))

-- the kind of an attribute, also past the last
pub ruleset kind_steps = (kind_within, kind_past)
