-- What is known of all attributes, owner by owner.
use Rattle.std.proofs.Common.{◌≡◌, ℕ, suc, ◌+◌, ◌<◌, Bool, true, false, List, [], ◌∷◌, ◌++◌, length, map, flat_map, drop, refl, sym, ◌∙◌, ap, ap₂, add-one, append_assoc}
use Rattle.std.proofs.lemmas.List.{map-append, length-map}
use Rattle.std.proofs.Math.ListN.{length-append}
use Rattle.ftl_grammar.specs.declared.syntax.rules.AttrDecl.{AttrDecl}
use Rattle.ftl_grammar.specs.declared.syntax.rules.Class.{Class}
use Rattle.ftl_grammar.specs.declared.syntax.rules.Interface.{Interface}
use Rattle.ftl_grammar.specs.declared.syntax.rules.Grammar.{Grammar}
use Rattle.ftl_grammar.specs.declared.syntax.rules.Rule.{Rule}
use Rattle.ftl_grammar.specs.syntax.Trees as trees
use Rattle.ftl_meaning.specs.declared.faults.info.AttrInfo.{AttrInfo}
use Rattle.ftl_meaning.specs.faults.Checked.{all_attributes, all_rules, attribute_info, declared}
use Rattle.ftl_meaning.specs.faults.Numbering.{class_at, interface_at, numbered, own_count, shared_count}
use Rattle.ftl_checked.specs.lookup.OwnerInfos.{own_infos, shared_infos}
use Rattle.ftl_meaning.proofs.faults.Counting.{left_is}

-- of each declaration, at once
at_once : (g : Grammar) (of_class : Bool) (owner : ℕ) (xs : List AttrDecl)
    → map (attribute_info g) (map (declared of_class owner) xs) ≡ map (λ a. attribute_info g (declared of_class owner a)) xs
at_once g of_class owner [] = refl
at_once g of_class owner (x ∷ xs) = ap (λ is. attribute_info g (declared of_class owner x) ∷ is) (at_once g of_class owner xs)

shared_all : (g : Grammar) (xs : List (ℕ × Interface))
    → map (attribute_info g) (flat_map (λ x. map (declared false x.0) x.1.attrs) xs) ≡ flat_map (shared_infos g) xs
unfolding shared_infos
shared_all g [] = refl
shared_all g (x ∷ xs) =
    map-append (attribute_info g) (map (declared false x.0) x.1.attrs) (flat_map (λ x. map (declared false x.0) x.1.attrs) xs)
    ∙ ap₂ (λ a b. a ++ b) (at_once g false x.0 x.1.attrs) (shared_all g xs)

own_all : (g : Grammar) (ks : List (ℕ × Class))
    → map (attribute_info g) (flat_map (λ k. map (declared true k.0) k.1.attrs) ks) ≡ flat_map (own_infos g) ks
unfolding own_infos
own_all g [] = refl
own_all g (k ∷ ks) =
    map-append (attribute_info g) (map (declared true k.0) k.1.attrs) (flat_map (λ k. map (declared true k.0) k.1.attrs) ks)
    ∙ ap₂ (λ a b. a ++ b) (at_once g true k.0 k.1.attrs) (own_all g ks)

pub attributes_are : (g : Grammar) → map (attribute_info g) (all_attributes g)
    ≡ flat_map (shared_infos g) (numbered 0 g.interfaces) ++ flat_map (own_infos g) (numbered 0 g.classes)
attributes_are g =
    map-append (attribute_info g) (flat_map (λ x. map (declared false x.0) x.1.attrs) (numbered 0 g.interfaces))
    (flat_map (λ k. map (declared true k.0) k.1.attrs) (numbered 0 g.classes))
    ∙ ap₂ (λ a b. a ++ b) (shared_all g (numbered 0 g.interfaces)) (own_all g (numbered 0 g.classes))

-- one interface more
pub shared_more : (g : Grammar) (told : List AttrInfo) (i : ℕ) → i < length g.interfaces
    → (told ++ shared_infos g (i, interface_at g i)) ++ flat_map (shared_infos g) (numbered (i + 1) (drop (i + 1) g.interfaces))
    ≡ told ++ flat_map (shared_infos g) (numbered i (drop i g.interfaces))
shared_more g told i within =
    append_assoc told (shared_infos g (i, interface_at g i)) (flat_map (shared_infos g) (numbered (i + 1) (drop (i + 1) g.interfaces)))
    ∙ ap (λ n. told ++ (shared_infos g (i, interface_at g i) ++ flat_map (shared_infos g) (numbered n (drop (i + 1) g.interfaces)))) (add-one i)
    ∙ ap (λ xs. told ++ flat_map (shared_infos g) (numbered i xs)) (sym (left_is g.interfaces i (trees.interface [] [] []) within))

pub shared_end : (g : Grammar) (n : ℕ) (xs : List Interface) → flat_map (shared_infos g) (numbered n (drop (length xs) xs)) ≡ []
shared_end g n [] = refl
shared_end g n (x ∷ xs) = shared_end g n xs

-- one class more
pub own_more : (g : Grammar) (told : List AttrInfo) (i : ℕ) → i < length g.classes
    → (told ++ own_infos g (i, class_at g i)) ++ flat_map (own_infos g) (numbered (i + 1) (drop (i + 1) g.classes))
    ≡ told ++ flat_map (own_infos g) (numbered i (drop i g.classes))
own_more g told i within =
    append_assoc told (own_infos g (i, class_at g i)) (flat_map (own_infos g) (numbered (i + 1) (drop (i + 1) g.classes)))
    ∙ ap (λ n. told ++ (own_infos g (i, class_at g i) ++ flat_map (own_infos g) (numbered n (drop (i + 1) g.classes)))) (add-one i)
    ∙ ap (λ xs. told ++ flat_map (own_infos g) (numbered i xs)) (sym (left_is g.classes i (trees.class [] [] [] [] []) within))

pub own_end : (g : Grammar) (n : ℕ) (xs : List Class) → flat_map (own_infos g) (numbered n (drop (length xs) xs)) ≡ []
own_end g n [] = refl
own_end g n (x ∷ xs) = own_end g n xs

-- ---- how many there are

-- lists of the same lengths, with and without numbers
pub counted : {X Y Z : Type 0} (f : X → List Y) (h : ℕ → Y → Z) (s : ℕ) (xs : List X)
    → length (flat_map (λ x. map (h x.0) (f x.1)) (numbered s xs)) ≡ length (flat_map f xs)
counted f h s [] = refl
counted f h s (x ∷ xs) =
    length-append (map (h s) (f x)) (flat_map (λ x. map (h x.0) (f x.1)) (numbered (suc s) xs))
    ∙ ap₂ (λ a b. a + b) (length-map (f x) (h s)) (counted f h (suc s) xs)
    ∙ sym (length-append (f x) (flat_map f xs))

pub attribute_count_is : (g : Grammar) → length (all_attributes g) ≡ shared_count g.interfaces + own_count g.classes
attribute_count_is g =
    length-append (flat_map (λ x. map (declared false x.0) x.1.attrs) (numbered 0 g.interfaces))
    (flat_map (λ k. map (declared true k.0) k.1.attrs) (numbered 0 g.classes))
    ∙ ap₂ (λ a b. a + b) (counted (λ (x : Interface). x.attrs) (declared false) 0 g.interfaces)
    (counted (λ (k : Class). k.attrs) (declared true) 0 g.classes)

pub rule_count_is : (g : Grammar) → length (all_rules g) ≡ length (flat_map (λ (k : Class). k.rules) g.classes)
rule_count_is g = counted (λ (k : Class). k.rules) (λ n r. (let p : ℕ × Rule = (n, r) in p)) 0 g.classes

-- the steps of a loop over interfaces
pub ruleset shared_steps = (shared_more, shared_end)

-- the steps of a loop over classes
pub ruleset own_steps = (own_more, own_end)
