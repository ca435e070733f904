-- Look-ups by name in numbered lists, by the first place of the name.
use Rattle.std.proofs.Common.{◌≡◌, ℕ, suc, zero, ◌+◌, ◌<◌, Bool, true, false, not, cond, nat_lt, List, [], ◌∷◌, length, map, take, get_or, Option, Some, None, refl, sym, ◌∙◌, ap, subst, arith, add-zero}
use Rattle.std.specs.List.{find, position, position_or_len}
use Rattle.std.specs.Option.{option_map, option_or}
use Rattle.std.specs.Str.{bytes_eq}
use Rattle.std.proofs.lemmas.Bool.Decides.{nat_tests}
use Rattle.std.proofs.lemmas.Grind.{common_steps}
use Rattle.std.proofs.lemmas.List.{length-map}
use Rattle.ftl_grammar.specs.syntax.Trees.{NameText}
use Rattle.ftl_grammar.specs.declared.syntax.rules.AttrDecl.{AttrDecl}
use Rattle.ftl_grammar.specs.declared.syntax.rules.Child.{Child}
use Rattle.ftl_grammar.specs.declared.syntax.rules.Class.{Class}
use Rattle.ftl_grammar.specs.declared.syntax.rules.Interface.{Interface}
use Rattle.ftl_grammar.specs.declared.syntax.rules.Grammar.{Grammar}
use Rattle.ftl_grammar.specs.syntax.Trees as trees
use Rattle.ftl_checked.specs.declared.lookup.find.FoundAttr.{FoundAttr}
use Rattle.ftl_checked.specs.declared.lookup.find.FoundChild.{FoundChild}
use Rattle.ftl_meaning.specs.declared.faults.info.ChildInfo.{ChildInfo}
use Rattle.ftl_meaning.specs.faults.Checked.{child_info}
use Rattle.ftl_meaning.specs.faults.Counts.{HasSmallCounts, IsSmall}
use Rattle.ftl_meaning.specs.faults.FirstFault.{attribute_names}
use Rattle.ftl_checked.specs.lookup.Found.{found_attribute, found_child}
use Rattle.ftl_meaning.specs.faults.Numbering.{numbered, find_attribute, find_child, class_at, interface_at, interface_of, shared_count, own_count, shared_attributes, own_attributes, class_attributes}
use Rattle.ftl_meaning.proofs.faults.Numbered.{count_within}
use Rattle.std.proofs.lemmas.List.Folds.{find-append}

-- the place in a list whose first entry does not pass
one_more : (n : ℕ) → 1 + n ≡ suc n
one_more n = omega arith

-- an entry of a list with its number, from this one on
abbrev pub entry_at : {X : Type 0} → (start : ℕ) → List X → X → ℕ → ℕ × X
entry_at start xs d n = (start + n, get_or xs n d)

pub position_next : {X : Type 0} (p : X → Bool) (x : X) (xs : List X) → p x ≡ false
    → position p (x ∷ xs) ≡ option_map suc (position p xs)
position_next p x xs e =
    let place : position_or_len p (x ∷ xs) ≡ suc (position_or_len p xs) = ap (λ b. cond (not b) (1 + position_or_len p xs) 0) e ∙ one_more (position_or_len p xs) in
    let test : nat_lt (suc (position_or_len p xs)) (suc (length xs)) ≡ nat_lt (position_or_len p xs) (length xs) =
    grind (arith, nat_tests) in
    ap (λ l. cond (nat_lt l (suc (length xs))) (Some l) None) place
    ∙ ap (λ b. cond b (Some (suc (position_or_len p xs))) None) test
    ∙ pushed (nat_lt (position_or_len p xs) (length xs)) (position_or_len p xs)
  where
    pushed : (b : Bool) (l : ℕ) → cond b (Some (suc l)) None ≡ option_map suc (cond b (Some l) None)
    pushed true l = refl
    pushed false l = refl

-- the place in a list whose first entry passes
pub position_first : {X : Type 0} (p : X → Bool) (x : X) (xs : List X) → p x ≡ true → position p (x ∷ xs) ≡ Some 0
position_first p x xs e =
    let place : position_or_len p (x ∷ xs) ≡ 0 = ap (λ b. cond (not b) (1 + position_or_len p xs) 0) e in
    let test : nat_lt 0 (suc (length xs)) ≡ true = grind (arith, nat_tests) in
    ap (λ l. cond (nat_lt l (suc (length xs))) (Some l) None) place ∙ ap (λ b. cond b (Some 0) None) test

-- the first entry of this name, with its number, is the one at the name's first place
pub find_place : {X : Type 0} (f : X → NameText) (name : NameText) (start : ℕ) (xs : List X) (d : X)
    → find (λ a. bytes_eq name (f a.1)) (numbered start xs)
    ≡ option_map (entry_at start xs d) (position (bytes_eq name) (map f xs))
find_place {X = X} f name start [] d = refl
find_place {X = X} f name start (x ∷ xs) d = by_test (bytes_eq name (f x)) refl (find_place f name (suc start) xs d)
  where
    shifted : (o : Option ℕ) → option_map (entry_at (suc start) xs d) o
        ≡ option_map (entry_at start (x ∷ xs) d) (option_map suc o)
    shifted None = refl
    shifted (Some n) = let e : suc start + n ≡ start + suc n = omega arith in (let P : ℕ → Option (ℕ × X) = λ m. Some (m, get_or xs n d) in ap P e)

    by_test : (b : Bool) → bytes_eq name (f x) ≡ b
        → find (λ a. bytes_eq name (f a.1)) (numbered (suc start) xs)
        ≡ option_map (entry_at (suc start) xs d) (position (bytes_eq name) (map f xs))
        → cond b (Some (start, x)) (find (λ a. bytes_eq name (f a.1)) (numbered (suc start) xs))
        ≡ option_map (entry_at start (x ∷ xs) d) (position (bytes_eq name) (f x ∷ map f xs))
    by_test true e rest =
        let same : start + 0 ≡ start = omega arith in
        (let P : ℕ → Option (ℕ × X) = λ m. Some (m, x) in ap P (sym same))
        ∙ ap (option_map (entry_at start (x ∷ xs) d)) (sym (position_first (bytes_eq name) (f x) (map f xs) e))
    by_test false e rest =
        rest ∙ shifted (position (bytes_eq name) (map f xs))
        ∙ ap (option_map (entry_at start (x ∷ xs) d)) (sym (position_next (bytes_eq name) (f x) (map f xs) e))

-- a place that is found is one of the list
pub position_within : {X : Type 0} (p : X → Bool) (xs : List X) (n : ℕ) → position p xs ≡ Some n → n < length xs
position_within p xs n e = grind (arith, nat_tests, common_steps)

-- how many entries are made of numbered ones
pub numbered_length : {X Y : Type 0} (f : ℕ × X → Y) (s : ℕ) (xs : List X) → length (map f (numbered s xs)) ≡ length xs
numbered_length f s [] = refl
numbered_length f s (x ∷ xs) = ap suc (numbered_length f (suc s) xs)

-- the entry of a number
pub numbered_at : {X Y : Type 0} (f : ℕ × X → Y) (s : ℕ) (xs : List X) (i : ℕ) (d : Y) (e : X) → i < length xs
    → get_or (map f (numbered s xs)) i d ≡ f (s + i, get_or xs i e)
numbered_at f s [] i d e within = absurd (omega arith)
numbered_at f s (x ∷ xs) zero d e within = ap (λ n. f (n, x)) (sym (add-zero s))
numbered_at f s (x ∷ xs) (suc i) d e within =
    let n : suc s + i ≡ s + suc i = omega arith in
    numbered_at f (suc s) xs i d e (omega arith) ∙ ap (λ m. f (m, get_or xs i e)) n

-- two steps are one
option_map_twice : {X Y Z : Type 0} (g : Y → Z) (h : X → Y) (o : Option X)
    → option_map g (option_map h o) ≡ option_map (λ x. g (h x)) o
option_map_twice g h None = refl
option_map_twice g h (Some x) = refl

-- an attribute that code finds by the place of its name
pub attr_found : (name : NameText) (names : List NameText) (attrs : List AttrDecl) (start : ℕ) (d : AttrDecl) (o r : Option ℕ)
    → names ≡ attribute_names attrs → o ≡ position (bytes_eq name) names → o ≡ r
    → option_map (λ n. record { number = start + n; kind = (get_or attrs n d).kind }) r
    ≡ option_map found_attribute (find_attribute name (numbered start attrs))
attr_found name names attrs start d o r named placed is =
    let F : ℕ → FoundAttr = λ n. record { number = start + n; kind = (get_or attrs n d).kind } in
    ap (option_map F) (sym is ∙ placed ∙ ap (position (bytes_eq name)) named)
    ∙ sym (option_map_twice found_attribute (entry_at start attrs d) (position (bytes_eq name) (attribute_names attrs)))
    ∙ ap (option_map found_attribute) (sym (find_place (λ (a : AttrDecl). a.name) name start attrs d))

-- an entry of a list that is made of another
pub made_at : {X Y : Type 0} (f : X → Y) (xs : List X) (i : ℕ) (d : Y) (e : X) → i < length xs
    → get_or (map f xs) i d ≡ f (get_or xs i e)
made_at f [] i d e within = absurd (omega arith)
made_at f (x ∷ xs) zero d e within = refl
made_at f (x ∷ xs) (suc i) d e within = made_at f xs i d e (omega arith)

-- a child that code finds by the place of its name
pub child_found_here : (g : Grammar) (k : ℕ) (name : NameText) (names : List NameText) (infos : List ChildInfo)
    (d : ChildInfo) (o : Option ℕ) (n : ℕ)
    → names ≡ map (λ c. c.name) (class_at g k).children → infos ≡ map (child_info g) (class_at g k).children
    → o ≡ position (bytes_eq name) names → o ≡ Some n
    → Some (record { number = n; info = get_or infos n d }) ≡ option_map (found_child g) (find_child g k name)
child_found_here g k name names infos d o n named told placed is =
    let xs = (class_at g k).children in
    let e = trees.child [] [] false in
    let here : position (bytes_eq name) (map (λ c. c.name) xs) ≡ Some n =
    ap (position (bytes_eq name)) (sym named) ∙ sym placed ∙ is in
    let counted : length (map (λ (c : Child). c.name) xs) ≡ length xs = length-map xs (λ (c : Child). c.name) in
    let within : n < length xs = subst (λ m. n < m) counted (position_within (bytes_eq name) (map (λ c. c.name) xs) n here) in
    let info : get_or infos n d ≡ child_info g (get_or xs n e) =
    ap (λ is. get_or is n d) told ∙ made_at (child_info g) xs n d e within in
    let zeroed : 0 + n ≡ n = omega arith in
    ap (λ i. Some (record { number = n; info = i })) info
    ∙ (let P : ℕ → Option FoundChild = λ m. Some (found_child g (m, get_or xs n e)) in ap P (sym zeroed))
    ∙ ap (λ o. option_map (found_child g) (option_map (entry_at 0 xs e) o)) (sym here)
    ∙ ap (option_map (found_child g)) (sym (find_place (λ (c : Child). c.name) name 0 xs e))

-- no child of this name
pub child_found_none : (g : Grammar) (k : ℕ) (name : NameText) (names : List NameText) (o : Option ℕ)
    → names ≡ map (λ c. c.name) (class_at g k).children → o ≡ position (bytes_eq name) names → o ≡ None
    → None ≡ option_map (found_child g) (find_child g k name)
child_found_none g k name names o named placed is =
    let xs = (class_at g k).children in
    let e = trees.child [] [] false in
    let gone : position (bytes_eq name) (map (λ c. c.name) xs) ≡ None =
    ap (position (bytes_eq name)) (sym named) ∙ sym placed ∙ is in
    ap (λ o. option_map (found_child g) (option_map (entry_at 0 xs e) o)) (sym gone)
    ∙ ap (option_map (found_child g)) (sym (find_place (λ (c : Child). c.name) name 0 xs e))

-- an attribute of a class's interface is the class's
pub class_found_first : (g : Grammar) (k : ℕ) (name : NameText) (a : FoundAttr)
    → Some a ≡ option_map found_attribute (find_attribute name (shared_attributes g (interface_of g k)))
    → Some a ≡ option_map found_attribute (find_attribute name (class_attributes g k))
class_found_first g k name a e =
    by_first (find_attribute name (shared_attributes g (interface_of g k))) e
    ∙ ap (option_map found_attribute) (sym (find-append (λ x. bytes_eq name x.1.name) (shared_attributes g (interface_of g k)) (own_attributes g k)))
  where
    by_first : (o : Option (ℕ × AttrDecl)) → Some a ≡ option_map found_attribute o
        → Some a ≡ option_map found_attribute (option_or o (find_attribute name (own_attributes g k)))
    by_first (Some x) e = e
    by_first None e = absurd (cc e)

-- where the interface has none, the class's own is looked for
pub class_found_then : (g : Grammar) (k : ℕ) (name : NameText)
    → None ≡ option_map found_attribute (find_attribute name (shared_attributes g (interface_of g k)))
    → option_map found_attribute (find_attribute name (own_attributes g k))
    ≡ option_map found_attribute (find_attribute name (class_attributes g k))
class_found_then g k name e =
    by_first (find_attribute name (shared_attributes g (interface_of g k))) e
    ∙ ap (option_map found_attribute) (sym (find-append (λ x. bytes_eq name x.1.name) (shared_attributes g (interface_of g k)) (own_attributes g k)))
  where
    by_first : (o : Option (ℕ × AttrDecl)) → None ≡ option_map found_attribute o
        → option_map found_attribute (find_attribute name (own_attributes g k))
        ≡ option_map found_attribute (option_or o (find_attribute name (own_attributes g k)))
    by_first (Some x) e = absurd (cc e)
    by_first None e = refl

-- numbers of attributes are small
pub shared_small : (g : Grammar) (i : ℕ) → HasSmallCounts g → i < length g.interfaces
    → IsSmall (shared_count (take i g.interfaces) + length (interface_at g i).attrs)
shared_small g i small within =
    let most = count_within (λ (x : Interface). x.attrs) g.interfaces i (trees.interface [] [] []) within in
    let all = small.attributes in
    omega arith

-- those of a class's own too
pub own_small : (g : Grammar) (k : ℕ) → HasSmallCounts g → k < length g.classes
    → IsSmall ((shared_count g.interfaces + own_count (take k g.classes)) + length (class_at g k).attrs)
own_small g k small within =
    let most = count_within (λ (x : Class). x.attrs) g.classes k (trees.class [] [] [] [] []) within in
    let all = small.attributes in
    omega arith

-- a child that is found is one of the class
pub child_place_within : (g : Grammar) (k : ℕ) (name : NameText) (names : List NameText) (o : Option ℕ) (n : ℕ)
    → names ≡ map (λ c. c.name) (class_at g k).children → o ≡ position (bytes_eq name) names → o ≡ Some n
    → n < length (class_at g k).children
child_place_within g k name names o n named placed is =
    let counted : length (map (λ (c : Child). c.name) (class_at g k).children) ≡ length (class_at g k).children =
    length-map (class_at g k).children (λ (c : Child). c.name) in
    subst (λ m. n < m) (ap length named ∙ counted) (position_within (bytes_eq name) names n (sym placed ∙ is))
