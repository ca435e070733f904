-- The attributes of the grammar that a checked grammar means, and their sorts.
use Rattle.std.proofs.Common.{◌≡◌, ℕ, suc, ◌+◌, Bool, true, false, List, [], ◌∷◌, ◌++◌, length, map, flat_map, refl, sym, ◌∙◌, ap, ap₂, length-append}
use Rattle.std.proofs.lemmas.List.{length-map}
use Rattle.ftl_grammar.specs.declared.syntax.rules.AttrDecl.{AttrDecl}
use Rattle.ftl_grammar.specs.declared.syntax.rules.Class.{Class}
use Rattle.ftl_grammar.specs.declared.syntax.rules.Grammar.{Grammar}
use Rattle.ftl_grammar.specs.declared.syntax.rules.Interface.{Interface}
use Rattle.ftl_meaning.specs.faults.Checked.{all_attributes, declared}
use Rattle.ftl_meaning.specs.faults.Numbering.{numbered, own_count, shared_count}

module _ {X : Type 0} (attrs : X → List AttrDecl) (b : Bool) where
  declared_count : (n : ℕ) (xs : List X)
      → length (flat_map attrs xs) ≡ length (flat_map (λ x. map (declared b x.0) (attrs x.1)) (numbered n xs))
  declared_count n [] = refl
  declared_count n (x ∷ xs) =
      length-append (attrs x) (flat_map attrs xs)
      ∙ ap₂ (λ a c. a + c) (sym (length-map (attrs x) (declared b n))) (declared_count (suc n) xs)
      ∙ sym (length-append (map (declared b n) (attrs x)) (flat_map (λ x. map (declared b x.0) (attrs x.1)) (numbered (suc n) xs)))

-- how many there are
pub attribute_count_is : (g : Grammar) → shared_count g.interfaces + own_count g.classes ≡ length (all_attributes g)
attribute_count_is g =
    ap₂ (λ a b. a + b) (declared_count (λ (x : Interface). x.attrs) false 0 g.interfaces)
    (declared_count (λ (k : Class). k.attrs) true 0 g.classes)
    ∙ sym (length-append (flat_map (λ x. map (declared false x.0) x.1.attrs) (numbered 0 g.interfaces))
    (flat_map (λ k. map (declared true k.0) k.1.attrs) (numbered 0 g.classes)))
