-- In which of several lists an entry stands, and where in that list.
use Rattle.std.proofs.Common.{◌≡◌, ℕ, suc, ◌+◌, ◌-◌, ◌<◌, ◌≤◌, Bool, true, false, nat_lt, List, [], ◌∷◌, length, map, flat_map, take, get_or, Option, Some, None, refl, sym, ◌∙◌, ap, subst, arith, add-zero}
use Rattle.std.proofs.lemmas.Bool.Decides.{nat_tests}
use Rattle.std.proofs.lemmas.List.{get_or-append_right, get_or-map, get_or_append_left, length-map}
use Rattle.std.proofs.Math.ListN.{length-append}
use Rattle.ftl_grammar.specs.declared.syntax.rules.AttrDecl.{AttrDecl}
use Rattle.ftl_grammar.specs.declared.syntax.rules.AttrKind.TheVariants as kinds
use Rattle.ftl_grammar.specs.declared.syntax.rules.Class.{Class}
use Rattle.ftl_grammar.specs.declared.syntax.rules.Interface.{Interface}
use Rattle.ftl_grammar.specs.declared.syntax.rules.Grammar.{Grammar}
use Rattle.ftl_grammar.specs.declared.syntax.rules.Rule.{Rule}
use Rattle.ftl_grammar.specs.syntax.Trees as trees
use Rattle.ftl_meaning.specs.faults.Checked.{Declared, all_attributes, all_rules, attribute_at, declared, info_by}
use Rattle.ftl_meaning.specs.faults.Checked.{rule_info, rule_info_at}
use Rattle.ftl_meaning.specs.faults.FirstFault.{rule_name}
use Rattle.ftl_meaning.specs.faults.RuleNames.{rule_name_at}
use Rattle.ftl_meaning.specs.declared.faults.info.RuleInfo.{RuleInfo}
use Rattle.ftl_meaning.specs.declared.faults.rule_name.RuleName.{RuleName}
use Rattle.ftl_meaning.specs.faults.Numbering.{class_at, interface_at, numbered, own_count, shared_count}
use Rattle.ftl_meaning.specs.faults.RuleForms.{Slot, kid_slot, own_slot, slot_of}
use Rattle.ftl_checked.proofs.lookup.AttrInfos.{counted}
use Rattle.ftl_meaning.proofs.faults.Numbered.{count_more, count_within}

-- the lists one after the other, each entry made with its list's number
abbrev pub entries : {X Y Z : Type 0} (f : X → List Y) (h : ℕ → Y → Z) (s : ℕ) (xs : List X) → List Z
entries f h s xs = flat_map (λ x. map (h x.0) (f x.1)) (numbered s xs)

-- entry `n` of those lists is that one: of which list it is, and where it stands there
pub record Stands {X Y Z : Type 0} (f : X → List Y) (h : ℕ → Y → Z) (e : X) (d : Y) (s : ℕ) (xs : List X) (n : ℕ) (z : Z)
    : Type 0 where
  pub list : ℕ
  pub place : ℕ
  pub listed : list < length xs
  pub placed : place < length (f (get_or xs list e))
  pub counts : n ≡ length (flat_map f (take list xs)) + place
  pub is : z ≡ h (s + list) (get_or (f (get_or xs list e)) place d)

-- the first list is passed by
one_list_on : {X Y Z : Type 0} (f : X → List Y) (h : ℕ → Y → Z) (e : X) (d : Y) (o : Z) (s : ℕ) (x : X) (xs : List X) (n : ℕ)
    → length (f x) ≤ n
    → Stands f h e d (suc s) xs (n - length (f x)) (get_or (entries f h (suc s) xs) (n - length (f x)) o)
    → Stands f h e d s (x ∷ xs) n (get_or (entries f h s (x ∷ xs)) n o)
one_list_on f h e d o s x xs n past rest =
    let next : suc s + rest.list ≡ s + suc rest.list = omega arith in
    let split = length-append (f x) (flat_map f (take rest.list xs)) in
    record {
      list = suc rest.list;
      place = rest.place;
      listed = let r = rest.listed in omega arith;
      placed = rest.placed;
      counts = let r = rest.counts in omega arith;
      is =
          get_or-append_right (map (h s) (f x)) (entries f h (suc s) xs) (length (f x)) n o (length-map (f x) (h s)) past
          ∙ rest.is ∙ ap (λ m. h m (get_or (f (get_or xs rest.list e)) rest.place d)) next;
    }

-- the entry is of the first list
in_first : {X Y Z : Type 0} (f : X → List Y) (h : ℕ → Y → Z) (e : X) (d : Y) (o : Z) (s : ℕ) (x : X) (xs : List X) (n : ℕ)
    → n < length (f x) → Stands f h e d s (x ∷ xs) n (get_or (entries f h s (x ∷ xs)) n o)
in_first f h e d o s x xs n here = record {
  list = 0;
  place = n;
  listed = omega arith;
  placed = here;
  counts = omega arith;
  is =
      get_or_append_left (map (h s) (f x)) (entries f h (suc s) xs) o n
      (subst (λ m. n < m) (sym (length-map (f x) (h s))) here)
      ∙ get_or-map (h s) (f x) n d o here ∙ ap (λ m. h m (get_or (f x) n d)) (sym (add-zero s));
}

-- what is left of a number past the first list
left_within : {X Y Z : Type 0} (f : X → List Y) (h : ℕ → Y → Z) (s : ℕ) (x : X) (xs : List X) (n : ℕ)
    → n < length (entries f h s (x ∷ xs)) → length (f x) ≤ n → n - length (f x) < length (entries f h (suc s) xs)
left_within f h s x xs n within past =
    let all = length-append (map (h s) (f x)) (entries f h (suc s) xs) in
    let long = length-map (f x) (h s) in
    omega arith

-- each entry stands somewhere
pub stands : {X Y Z : Type 0} (f : X → List Y) (h : ℕ → Y → Z) (e : X) (d : Y) (o : Z) (s : ℕ) (xs : List X) (n : ℕ)
    → n < length (entries f h s xs) → Stands f h e d s xs n (get_or (entries f h s xs) n o)
stands f h e d o s [] n within = absurd (omega arith)
stands f h e d o s (x ∷ xs) n within =
    by_test (nat_lt n (length (f x))) refl
    (λ past. stands f h e d o (suc s) xs (n - length (f x)) (left_within f h s x xs n within past))
  where
    by_test : (b : Bool) → nat_lt n (length (f x)) ≡ b
        → (length (f x) ≤ n
        → Stands f h e d (suc s) xs (n - length (f x)) (get_or (entries f h (suc s) xs) (n - length (f x)) o))
        → Stands f h e d s (x ∷ xs) n (get_or (entries f h s (x ∷ xs)) n o)
    by_test true is rest = in_first f h e d o s x xs n (grind (arith, nat_tests))
    by_test false is rest =
        let past : length (f x) ≤ n = grind (arith, nat_tests) in
        one_list_on f h e d o s x xs n past (rest past)

-- the same where the lists are numbered from 0
pub is_of : {X Y Z : Type 0} (f : X → List Y) (h : ℕ → Y → Z) (e : X) (d : Y) (xs : List X) (n : ℕ) (z : Z)
    (at : Stands f h e d 0 xs n z) → z ≡ h at.list (get_or (f (get_or xs at.list e)) at.place d)
is_of f h e d xs n z at =
    let zeroed : 0 + at.list ≡ at.list = omega arith in
    at.is ∙ ap (λ m. h m (get_or (f (get_or xs at.list e)) at.place d)) zeroed

-- ---- attributes

abbrev no_class : Class
no_class = trees.class [] [] [] [] []

abbrev no_interface : Interface
no_interface = trees.interface [] [] []

abbrev nothing : Declared
nothing = declared false 0 (trees.attr_decl kinds.Inh [])

abbrev of_interfaces : Grammar → List Declared
of_interfaces g = entries (λ (x : Interface). x.attrs) (declared false) 0 g.interfaces

abbrev of_classes : Grammar → List Declared
of_classes g = entries (λ (k : Class). k.attrs) (declared true) 0 g.classes

-- an attribute is an entry of its owner's list, and its number is that place after the owner's first
pub record IsIn (owner owners start : ℕ) (attrs : List AttrDecl) (a : ℕ) (d : AttrDecl) (at : Declared) : Type 0 where
  pub owner_within : owner < owners
  pub after : start ≤ a
  pub before : a < start + length attrs
  pub is : at.decl ≡ get_or attrs (a - start) d

shared_entry : (g : Grammar) (d : AttrDecl) (a : ℕ) → a < length (of_interfaces g)
    → Stands (λ (x : Interface). x.attrs) (declared false) no_interface d 0 g.interfaces a (attribute_at g a)
shared_entry g d a within =
    subst (Stands (λ (x : Interface). x.attrs) (declared false) no_interface d 0 g.interfaces a)
    (sym (get_or_append_left (of_interfaces g) (of_classes g) nothing a within))
    (stands (λ (x : Interface). x.attrs) (declared false) no_interface d nothing 0 g.interfaces a within)

own_entry : (g : Grammar) (d : AttrDecl) (a : ℕ) → a < length (all_attributes g) → shared_count g.interfaces ≤ a
    → Stands (λ (k : Class). k.attrs) (declared true) no_class d 0 g.classes (a - shared_count g.interfaces) (attribute_at g a)
own_entry g d a within past =
    let shared : length (of_interfaces g) ≡ shared_count g.interfaces =
    counted (λ (x : Interface). x.attrs) (declared false) 0 g.interfaces in
    let all = length-append (of_interfaces g) (of_classes g) in
    subst (Stands (λ (k : Class). k.attrs) (declared true) no_class d 0 g.classes (a - shared_count g.interfaces))
    (sym (get_or-append_right (of_interfaces g) (of_classes g) (shared_count g.interfaces) a nothing shared past))
    (stands (λ (k : Class). k.attrs) (declared true) no_class d nothing 0 g.classes (a - shared_count g.interfaces)
    (grind (arith, shared, all, within, past)))

-- what is said of an attribute of an interface, and of one of a class
abbrev pub IsShared : Grammar → (owner a : ℕ) → AttrDecl → Type 0
IsShared g o a d =
    IsIn o (length g.interfaces) (shared_count (take o g.interfaces)) (interface_at g o).attrs a d (attribute_at g a)

abbrev pub IsOwn : Grammar → (owner a : ℕ) → AttrDecl → Type 0
IsOwn g o a d =
    IsIn o (length g.classes) (shared_count g.interfaces + own_count (take o g.classes)) (class_at g o).attrs a d
    (attribute_at g a)

shared_by : (g : Grammar) (d : AttrDecl) (a o : ℕ) → o ≡ (attribute_at g a).owner
    → Stands (λ (x : Interface). x.attrs) (declared false) no_interface d 0 g.interfaces a (attribute_at g a) → IsShared g o a d
shared_by g d a o told at =
    let is = is_of (λ (x : Interface). x.attrs) (declared false) no_interface d g.interfaces a (attribute_at g a) at in
    let owner : (attribute_at g a).owner ≡ at.list = ap (λ (z : Declared). z.owner) is in
    let decl : (attribute_at g a).decl ≡ get_or (interface_at g at.list).attrs at.place d = ap (λ (z : Declared). z.decl) is in
    let counts = at.counts in
    let placed = at.placed in
    let place : a - shared_count (take at.list g.interfaces) ≡ at.place = omega arith in
    subst (λ l. IsShared g l a d) (sym (told ∙ owner)) (record {
      owner_within = at.listed;
      after = omega arith;
      before = omega arith;
      is = decl ∙ ap (λ p. get_or (interface_at g at.list).attrs p d) (sym place);
    })

own_by : (g : Grammar) (d : AttrDecl) (a o : ℕ) → o ≡ (attribute_at g a).owner → shared_count g.interfaces ≤ a
    → Stands (λ (k : Class). k.attrs) (declared true) no_class d 0 g.classes (a - shared_count g.interfaces) (attribute_at g a)
    → IsOwn g o a d
own_by g d a o told past at =
    let is = is_of (λ (k : Class). k.attrs) (declared true) no_class d g.classes (a - shared_count g.interfaces)
    (attribute_at g a) at in
    let owner : (attribute_at g a).owner ≡ at.list = ap (λ (z : Declared). z.owner) is in
    let decl : (attribute_at g a).decl ≡ get_or (class_at g at.list).attrs at.place d = ap (λ (z : Declared). z.decl) is in
    let counts = at.counts in
    let placed = at.placed in
    let place : a - (shared_count g.interfaces + own_count (take at.list g.classes)) ≡ at.place = omega arith in
    subst (λ l. IsOwn g l a d) (sym (told ∙ owner)) (record {
      owner_within = at.listed;
      after = omega arith;
      before = omega arith;
      is = decl ∙ ap (λ p. get_or (class_at g at.list).attrs p d) (sym place);
    })

-- which of the two declares it
shared_kind : (g : Grammar) (d : AttrDecl) (a : ℕ) → a < length (of_interfaces g) → (attribute_at g a).of_class ≡ false
shared_kind g d a within = ap (λ (z : Declared). z.of_class) (shared_entry g d a within).is

own_kind : (g : Grammar) (d : AttrDecl) (a : ℕ) → a < length (all_attributes g) → shared_count g.interfaces ≤ a
    → (attribute_at g a).of_class ≡ true
own_kind g d a within past = ap (λ (z : Declared). z.of_class) (own_entry g d a within past).is

-- how many attributes interfaces have
shared_long : (g : Grammar) → length (of_interfaces g) ≡ shared_count g.interfaces
shared_long g = counted (λ (x : Interface). x.attrs) (declared false) 0 g.interfaces

-- an attribute of an interface
pub shared_is_in : (g : Grammar) (d : AttrDecl) (a o : ℕ) → a < length (all_attributes g) → o ≡ (attribute_at g a).owner
    → (attribute_at g a).of_class ≡ false → IsShared g o a d
shared_is_in g d a o within told kind = by_test (nat_lt a (shared_count g.interfaces)) refl
  where
    by_test : (b : Bool) → nat_lt a (shared_count g.interfaces) ≡ b → IsShared g o a d
    by_test true is =
        let long = shared_long g in
        let front : a < shared_count g.interfaces = grind (arith, nat_tests) in
        shared_by g d a o told (shared_entry g d a (omega arith))
    by_test false is =
        let past : shared_count g.interfaces ≤ a = grind (arith, nat_tests) in
        let own = own_kind g d a within past in
        absurd (cc (own, kind))

-- an attribute of a class's own
pub own_is_in : (g : Grammar) (d : AttrDecl) (a o : ℕ) → a < length (all_attributes g) → o ≡ (attribute_at g a).owner
    → (attribute_at g a).of_class ≡ true → IsOwn g o a d
own_is_in g d a o within told kind = by_test (nat_lt a (shared_count g.interfaces)) refl
  where
    by_test : (b : Bool) → nat_lt a (shared_count g.interfaces) ≡ b → IsOwn g o a d
    by_test true is =
        let long = shared_long g in
        let front : a < shared_count g.interfaces = grind (arith, nat_tests) in
        let shared = shared_kind g d a (omega arith) in
        absurd (cc (shared, kind))
    by_test false is =
        let past : shared_count g.interfaces ≤ a = grind (arith, nat_tests) in
        own_by g d a o told past (own_entry g d a within past)

-- ---- rules

-- a rule is an entry of its class's list
pub record IsRuleOf (g : Grammar) (class : ℕ) (r : ℕ) (d : Rule) : Type 0 where
  pub class_within : class < length g.classes
  pub after : length (flat_map (λ (k : Class). k.rules) (take class g.classes)) ≤ r
  pub before : r < length (flat_map (λ (k : Class). k.rules) (take class g.classes)) + length (class_at g class).rules
  pub named : rule_name (class_at g class)
      (get_or (class_at g class).rules (r - length (flat_map (λ (k : Class). k.rules) (take class g.classes))) d).target
      ≡ rule_name_at g r

-- what is known of a rule has its class
info_class : (k : ℕ) (slot : Option Slot) → (info_by k slot).class ≡ k
info_class k (Some (own_slot a)) = refl
info_class k (Some (kid_slot c a)) = refl
info_class k None = refl

abbrev with_class : ℕ → Rule → ℕ × Rule
with_class k r = (k, r)

abbrev no_name : RuleName
no_name = record { class = []; child = None; attr = [] }

pub rule_is_of : (g : Grammar) (d : Rule) (r k : ℕ) → r < length (all_rules g) → k ≡ (rule_info_at g r).class
    → IsRuleOf g k r d
rule_is_of g d r k within named =
    let at = stands (λ (k : Class). k.rules) with_class no_class d (0, d) 0 g.classes r within in
    let is = is_of (λ (k : Class). k.rules) with_class no_class d g.classes r (get_or (all_rules g) r (0, d)) at in
    let told : rule_info_at g r ≡ rule_info g (get_or (all_rules g) r (0, d)) =
    get_or-map (rule_info g) (all_rules g) r (0, d) (info_by 0 None) within in
    let class : (rule_info_at g r).class ≡ at.list =
    ap (λ (i : RuleInfo). i.class) (told ∙ ap (rule_info g) is)
    ∙ info_class at.list (slot_of g at.list (get_or (class_at g at.list).rules at.place d).target) in
    let counts = at.counts in
    let placed = at.placed in
    let place : r - length (flat_map (λ (k : Class). k.rules) (take at.list g.classes)) ≡ at.place = omega arith in
    subst (λ l. IsRuleOf g l r d) (sym (named ∙ class)) (record {
      class_within = at.listed;
      after = omega arith;
      before = omega arith;
      named =
          ap (λ p. rule_name (class_at g at.list) (get_or (class_at g at.list).rules p d).target) place
          ∙ sym (ap (λ (z : ℕ × Rule). rule_name (class_at g z.0) z.1.target) is)
          ∙ sym (get_or-map (λ (z : ℕ × Rule). rule_name (class_at g z.0) z.1.target) (all_rules g) r (0, d) no_name within);
    })

-- the rules of one class more
pub rules_more : (classes : List Class) (i : ℕ) (d : Class) → i < length classes
    → length (flat_map (λ (k : Class). k.rules) (take (i + 1) classes))
    ≡ length (flat_map (λ (k : Class). k.rules) (take i classes)) + length (get_or classes i d).rules
rules_more classes i d within = count_more (λ (k : Class). k.rules) classes i d within

-- and not more than there are in all
pub rules_within : (classes : List Class) (i : ℕ) (d : Class) → i < length classes
    → length (flat_map (λ (k : Class). k.rules) (take i classes)) + length (get_or classes i d).rules
    ≤ length (flat_map (λ (k : Class). k.rules) classes)
rules_within classes i d within = count_within (λ (k : Class). k.rules) classes i d within

-- the steps of a count of rules
pub ruleset rule_steps = (rules_more, rules_within)
