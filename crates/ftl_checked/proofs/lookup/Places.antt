-- The first place that passes, in a list and in its front.
use Rattle.std.proofs.Common.{◌≡◌, ℕ, Bool, not, List, ◌++◌, length, sym, ◌∙◌, ap, subst, arith, if◌then◌else◌, nat_lt}
use Rattle.std.specs.List.{position, position_or_len}
use Rattle.std.proofs.lemmas.Bool.Decides.{nat_tests}
use Rattle.std.proofs.lemmas.Grind.{common_steps}
use Rattle.std.proofs.lemmas.List.Folds.{prefix_len-append}
use Rattle.std.proofs.lemmas.List.Sums.{prefix_len-le-length}
use Rattle.std.specs.Option.{option_map_or}
use Rattle.std.specs.Str.{bytes_eq}
use Rattle.std.proofs.lemmas.List.{length-map}
use Rattle.ftl_grammar.specs.syntax.Trees.{NameText}
use Rattle.ftl_grammar.specs.declared.syntax.rules.Grammar.{Grammar}
use Rattle.ftl_meaning.specs.faults.Numbering.{class_names, interface_names, interface_number}

-- the place in the front, by that in the whole: that place where it is in the front, and else how long the front is
pub front_place : {X : Type 0} (p : X → Bool) (xs ys : List X)
    → position_or_len p xs ≡ option_map_or (λ n. if nat_lt n (length xs) then n else length xs) (position p (xs ++ ys)) (length xs)
front_place p xs ys =
    let both = prefix_len-append (λ x. not (p x)) xs ys in
    let front = prefix_len-le-length (λ x. not (p x)) xs in
    let back = prefix_len-le-length (λ x. not (p x)) ys in
    grind (arith, nat_tests, common_steps)

-- the number of an interface, by the place of its name among those of interfaces and classes
pub clip_is : (g : Grammar) (name : NameText) (names : List NameText) → names ≡ interface_names g ++ class_names g
    → option_map_or (λ n. if nat_lt n (length g.interfaces) then n else length g.interfaces) (position (bytes_eq name) names)
    (length g.interfaces) ≡ interface_number g name
clip_is g name names e =
    let how_many : length (interface_names g) ≡ length g.interfaces = length-map g.interfaces (λ x. x.name) in
    let P : ℕ → Type 0 = λ m. option_map_or (λ n. if nat_lt n m then n else m) (position (bytes_eq name) (interface_names g ++ class_names g)) m ≡ interface_number g name in
    ap (λ ns. option_map_or (λ n. if nat_lt n (length g.interfaces) then n else length g.interfaces) (position (bytes_eq name) ns) (length g.interfaces)) e
    ∙ subst P how_many (sym (front_place (bytes_eq name) (interface_names g) (class_names g)))
