-- The attributes of an interface that are shown.
use Rattle.std.proofs.Common.{◌≡◌, ℕ, zero, suc, ◌+◌, ◌-◌, ◌<◌, ◌≤◌, Bool, true, false, cond, List, [], ◌∷◌, ◌++◌, length, map, flat_map, filter, take, get_or, Contains, refl, sym, ◌∙◌, ap, subst, arith, add-zero}
use Rattle.std.proofs.lemmas.List.{get_or-append_right, get_or-map, get_or_append_left, length-map, map-append, take_all, take_more}
use Rattle.std.proofs.lemmas.List.Elements.{filter-append}
use Rattle.std.proofs.Math.ListN.{length-append}
use Rattle.ftl_grammar.specs.syntax.Trees as trees
use Rattle.ftl_grammar.specs.declared.syntax.rules.AttrDecl.{AttrDecl}
use Rattle.ftl_grammar.specs.declared.syntax.rules.AttrKind.TheVariants as kinds
use Rattle.ftl_grammar.specs.declared.syntax.rules.Class.{Class}
use Rattle.ftl_grammar.specs.declared.syntax.rules.Grammar.{Grammar}
use Rattle.ftl_grammar.specs.declared.syntax.rules.Interface.{Interface}
use Rattle.ftl_meaning.specs.faults.Checked.{Declared, all_attributes, attribute_at, declared, is_shown}
use Rattle.ftl_meaning.specs.faults.Numbering.{interface_at, is_among, numbered, shared_attributes, shared_count}
use Rattle.ftl_meaning.proofs.faults.Numbered.{count_more, count_within}
use Rattle.ftl_checked.proofs.lookup.AttrInfos.{attribute_count_is, counted}
use Rattle.ftl_checked.proofs.lookup.Standing.{entries}
use Rattle.ftl_meaning.specs.grammars.GrammarOf.{declaration_at, shown_attributes}
use Rattle.ftl_meaning.proofs.lawful.Numbers.{in_numbered, shared_at}
use Rattle.ftl_model.proofs.lists.Elements.{in_filter}
use Rattle.ftl_model.proofs.lists.Rising.{in_map, map_has}
use Rattle.ftl_tree.specs.boxes.Shows.{shown_rows}

-- the numbers of those of these that the interface shows
abbrev pub shown_among : Grammar → (interface : ℕ) → List (ℕ × AttrDecl) → List ℕ
shown_among g i attrs = map (λ a. a.0) (filter (λ a. is_among (interface_at g i).shown a.1.name) attrs)

-- ---- the attribute that stands at a place of an interface

-- the entry at a place of one of several lists
entry : {X Y Z : Type 0} (f : X → List Y) (h : ℕ → Y → Z) (e : X) (d : Y) (o : Z) (s i place : ℕ) (xs : List X)
    → i < length xs → place < length (f (get_or xs i e))
    → get_or (entries f h s xs) (length (flat_map f (take i xs)) + place) o
    ≡ h (s + i) (get_or (f (get_or xs i e)) place d)
entry f h e d o s i place [] known within = absurd (let z : ⊥ = omega (arith, known) in z)
entry f h e d o s zero place (x ∷ xs) known within =
    let first : 0 + place ≡ place = omega arith in
    ap (λ n. get_or (entries f h s (x ∷ xs)) n o) first
    ∙ get_or_append_left (map (h s) (f x)) (entries f h (suc s) xs) o place
    (subst (λ m. place < m) (sym (length-map (f x) (h s))) within)
    ∙ get_or-map (h s) (f x) place d o within
    ∙ ap (λ m. h m (get_or (f x) place d)) (sym (add-zero s))
entry f h e d o s (suc i) place (x ∷ xs) known within =
    let split = length-append (f x) (flat_map f (take i xs)) in
    let past : length (f x) ≤ length (flat_map f (take (suc i) (x ∷ xs))) + place = omega (arith, split) in
    let left : length (flat_map f (take (suc i) (x ∷ xs))) + place - length (f x)
    ≡ length (flat_map f (take i xs)) + place =
    omega (arith, split) in
    let next : suc s + i ≡ s + suc i = omega arith in
    get_or-append_right (map (h s) (f x)) (entries f h (suc s) xs) (length (f x))
    (length (flat_map f (take (suc i) (x ∷ xs))) + place) o
    (length-map (f x) (h s)) past
    ∙ ap (λ n. get_or (entries f h (suc s) xs) n o) left
    ∙ entry f h e d o (suc s) i place xs (omega (arith, known)) within
    ∙ ap (λ m. h m (get_or (f (get_or xs i e)) place d)) next

-- entries with their numbers
pub at_number : {X : Type 0} (n i : ℕ) (m : ℕ) (d : X) (xs : List X) → i < length xs
    → get_or (numbered n xs) i (m, d) ≡ (n + i, get_or xs i d)
at_number n i m d [] within = absurd (let z : ⊥ = omega (arith, within) in z)
at_number n zero m d (x ∷ xs) within = ap (λ k. (k, x)) (sym (add-zero n))
at_number n (suc i) m d (x ∷ xs) within =
    at_number (suc n) i m d xs (omega (arith, within))
    ∙ ap (λ k. (k, get_or xs i d)) (let z : suc n + i ≡ n + suc i = omega arith in z)

pub length-numbered : {X : Type 0} (n : ℕ) (xs : List X) → length (numbered n xs) ≡ length xs
length-numbered n [] = refl
length-numbered n (x ∷ xs) = ap suc (length-numbered (suc n) xs)

abbrev no_interface : Interface
no_interface = trees.interface [] [] []

abbrev no_attribute : AttrDecl
no_attribute = trees.attr_decl kinds.Inh []

module _ (g : Grammar) (i place : ℕ) (known : i < length g.interfaces)
    (within : place < length (interface_at g i).attrs) where
  abbrev number : ℕ
  number = shared_count (take i g.interfaces) + place

  abbrev decl : AttrDecl
  decl = get_or (interface_at g i).attrs place no_attribute

  among_shared : number < shared_count g.interfaces
  among_shared =
      let all = count_within (λ (x : Interface). x.attrs) g.interfaces i no_interface known in
      omega (arith, all, within)

  -- its number is one of an attribute
  pub number_known : number < length (all_attributes g)
  number_known = omega (arith, among_shared, attribute_count_is g)

  is_declared : attribute_at g number ≡ declared false i decl
  is_declared =
      get_or_append_left (entries (λ (x : Interface). x.attrs) (declared false) 0 g.interfaces)
      (entries (λ (k : Class). k.attrs) (declared true) 0 g.classes) (declared false 0 no_attribute) number
      (let long = counted (λ (x : Interface). x.attrs) (declared false) 0 g.interfaces in
      omega (arith, among_shared, long))
      ∙ entry (λ (x : Interface). x.attrs) (declared false) no_interface no_attribute (declared false 0 no_attribute)
      0 i place g.interfaces
      known within
      ∙ ap (λ n. declared false n decl) (let z : 0 + i ≡ i = omega arith in z)

  -- it is shown exactly where its interface shows its name
  shown_is : is_shown g (attribute_at g number) ≡ is_among (interface_at g i).shown decl.name
  shown_is = ap (is_shown g) is_declared

  one_more : (b : Bool) → is_shown g (attribute_at g number) ≡ b
      → shown_among g i (take (place + 1) (shared_attributes g i))
      ≡ shown_among g i (take place (shared_attributes g i)) ++ cond b (number ∷ []) []
  one_more b is =
      let attrs = shared_attributes g i in
      let shows : ℕ × AttrDecl → Bool = λ a. is_among (interface_at g i).shown a.1.name in
      let this : ℕ × AttrDecl = (number, decl) in
      let known : place < length attrs =
      omega (arith, within, length-numbered (shared_count (take i g.interfaces)) (interface_at g i).attrs) in
      ap (shown_among g i) (take_more attrs place (0, no_attribute) known)
      ∙ ap (λ a. shown_among g i (take place attrs ++ (a ∷ [])))
      (at_number (shared_count (take i g.interfaces)) place 0 no_attribute (interface_at g i).attrs within)
      ∙ ap (map (λ (a : ℕ × AttrDecl). a.0)) (filter-append shows (take place attrs) (this ∷ []))
      ∙ map-append (λ (a : ℕ × AttrDecl). a.0) (filter shows (take place attrs)) (filter shows (this ∷ []))
      ∙ ap (λ xs. shown_among g i (take place attrs) ++ xs) (this_one (shows this) (sym shown_is ∙ is))
    where
      this_one : (c : Bool) → c ≡ b
          → map (λ (a : ℕ × AttrDecl). a.0) (cond c ((number, decl) ∷ []) []) ≡ cond b (number ∷ []) []
      this_one true e =
          subst (λ c. map (λ (a : ℕ × AttrDecl). a.0) ((number, decl) ∷ []) ≡ cond c (number ∷ []) []) e refl
      this_one false e = subst (λ c. [] ≡ cond c (number ∷ []) []) e refl

-- one attribute more
pub shown_step : (g : Grammar) (i first end a : ℕ) (row : List ℕ) → i < length g.interfaces
    → first ≡ shared_count (take i g.interfaces)
    → end ≡ shared_count (take (i + 1) g.interfaces) → first ≤ a → a < end
    → row ≡ shown_among g i (take (a - first) (shared_attributes g i))
    → row ++ cond (is_shown g (attribute_at g a)) (a ∷ []) []
    ≡ shown_among g i (take (a + 1 - first) (shared_attributes g i))
shown_step g i first end a row known from to low high is =
    let more = count_more (λ (x : Interface). x.attrs) g.interfaces i no_interface known in
    let within : a - first < length (interface_at g i).attrs = omega (arith, from, to, low, high, more) in
    let same : shared_count (take i g.interfaces) + (a - first) ≡ a = omega (arith, from, low) in
    let next : a - first + 1 ≡ a + 1 - first = omega (arith, low) in
    ap (λ r. r ++ cond (is_shown g (attribute_at g a)) (a ∷ []) []) is
    ∙ ap (λ m. shown_among g i (take (a - first) (shared_attributes g i))
    ++ cond (is_shown g (attribute_at g m)) (m ∷ []) []) (sym same)
    ∙ sym (one_more g i (a - first) known within
    (is_shown g (attribute_at g (shared_count (take i g.interfaces) + (a - first)))) refl)
    ∙ ap (λ m. shown_among g i (take m (shared_attributes g i))) next

-- all of them
pub shown_all : (g : Grammar) (i first end : ℕ) → i < length g.interfaces → first ≡ shared_count (take i g.interfaces)
    → end ≡ shared_count (take (i + 1) g.interfaces)
    → shown_among g i (take (end - first) (shared_attributes g i)) ≡ shown_attributes g i
shown_all g i first end known from to =
    let more = count_more (λ (x : Interface). x.attrs) g.interfaces i no_interface known in
    let long = length-numbered (shared_count (take i g.interfaces)) (interface_at g i).attrs in
    ap (shown_among g i) (take_all (end - first) (shared_attributes g i) (omega (arith, from, to, more, long)))

-- the end of an interface's attributes is no later than that of all
pub end_within : (g : Grammar) (i : ℕ) → i < length g.interfaces
    → shared_count (take i g.interfaces) + length (interface_at g i).attrs ≤ length (all_attributes g)
end_within g i known =
    let all = count_within (λ (x : Interface). x.attrs) g.interfaces i no_interface known in
    omega (arith, all, attribute_count_is g)

pub end_is : (g : Grammar) (i : ℕ) → i < length g.interfaces
    → shared_count (take (i + 1) g.interfaces) ≡ shared_count (take i g.interfaces) + length (interface_at g i).attrs
end_is g i known = count_more (λ (x : Interface). x.attrs) g.interfaces i no_interface known

pub ruleset end_steps = (end_within, end_is)

-- ---- what an attribute that is shown is

-- it is one of its interface's, and its name is told
pub record ShownAt (g : Grammar) (i a : ℕ) : Type 0 where
  pub shared : Contains (map (λ x. x.0) (shared_attributes g i)) a
  pub known : a < length (all_attributes g)
  pub name : (attribute_at g a).decl.name ≡ (declaration_at g a).name

pub shown_at : (g : Grammar) (i a : ℕ) → Contains (shown_attributes g i) a → ShownAt g i a
shown_at g i a there =
    let shows : ℕ × AttrDecl → Bool = λ x. is_among (interface_at g i).shown x.1.name in
    let m = in_map (λ x. x.0) (filter shows (shared_attributes g i)) a there in
    let shared = (in_filter shows (shared_attributes g i) m.from m.there).0 in
    let at = shared_at g i m.from shared in
    let s = in_numbered (shared_count (take i g.interfaces)) (interface_at g i).attrs m.from shared in
    let number : a ≡ shared_count (take i g.interfaces) + s.place = sym m.is ∙ s.number in
    record {
      shared = subst (Contains (map (λ x. x.0) (shared_attributes g i))) m.is
          (map_has (λ x. x.0) (shared_attributes g i) m.from shared);
      known = subst (λ n. n < length (all_attributes g)) (sym number) (number_known g i s.place at.0 s.known);
      name =
          ap (λ n. (attribute_at g n).decl.name) number
          ∙ ap (λ (d : Declared). d.decl.name) (is_declared g i s.place at.0 s.known)
          ∙ ap (λ (d : AttrDecl). d.name) (s.is no_attribute)
          ∙ sym (ap (λ (d : AttrDecl). d.name) at.1)
          ∙ ap (λ n. (declaration_at g n).name) m.is;
    }

-- the row of an interface
pub row_is : (g : Grammar) (i : ℕ) (d : List ℕ) → i < length g.interfaces
    → get_or (shown_rows g) i d ≡ shown_attributes g i
row_is g i d known =
    get_or-map (λ x. shown_attributes g x.0) (numbered 0 g.interfaces) i (0, no_interface) d
    (omega (arith, known, length-numbered 0 g.interfaces))
    ∙ ap (λ x. shown_attributes g x.0) (at_number 0 i 0 no_interface g.interfaces known)
    ∙ ap (shown_attributes g) (let z : 0 + i ≡ i = omega arith in z)

pub length-rows : (g : Grammar) → length (shown_rows g) ≡ length g.interfaces
length-rows g = length-map (numbered 0 g.interfaces) (λ x. shown_attributes g x.0) ∙ length-numbered 0 g.interfaces
