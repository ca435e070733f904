-- The names of an attribute stand for it again, in a grammar without a fault.
use Rattle.std.proofs.Common.{◌≡◌, ◌≢◌, ℕ, zero, suc, ◌+◌, ◌-◌, ◌<◌, ◌≤◌, Bool, true, false, not, cond, nat_lt, refl, sym, ◌∙◌, ap, ap₂, subst, arith, List, [], ◌∷◌, ◌++◌, length, get_or, map, take, Contains, Option, Some, None, Result, Ok}
use Rattle.std.specs.List.{All, position_or_len}
use Rattle.std.specs.Option.{option_and_then, option_or}
use Rattle.std.specs.Str.{bytes_eq}
use Rattle.std.proofs.lemmas.Bool.{lt-ltb}
use Rattle.std.proofs.lemmas.List.{get_or-map, get_or_past, length-map, map-append}
use Rattle.std.proofs.lemmas.List.Elements.{All-contains, Contains-get_or}
use Rattle.ftl_model.specs.lists.Lists.{AreDistinct}
use Rattle.ftl_model.proofs.lists.Elements.{distinct_apart, distinct_left, distinct_right, here_in, later_in}
use Rattle.ftl_model.proofs.lists.Rising.{map_has}
use Rattle.ftl_model.specs.layout.AttributeGrammar as model
use Rattle.ftl_grammar.specs.syntax.Trees as trees
use Rattle.ftl_grammar.specs.syntax.Trees.{NameText}
use Rattle.ftl_grammar.specs.declared.syntax.rules.AttrDecl.{AttrDecl}
use Rattle.ftl_grammar.specs.declared.syntax.rules.AttrKind.{AttrKind}
use Rattle.ftl_grammar.specs.declared.syntax.rules.AttrKind.TheVariants as kinds
use Rattle.ftl_grammar.specs.declared.syntax.rules.Class.{Class}
use Rattle.ftl_grammar.specs.declared.syntax.rules.Grammar.{Grammar}
use Rattle.ftl_grammar.specs.declared.syntax.rules.Interface.{Interface}
use Rattle.ftl_meaning.specs.faults.Checked.{Declared, all_attributes, attribute_at, attribute_named, class_named, is_own_computed, is_shared_computed, local_named, number_if, owner_name_of, shared_named}
use Rattle.ftl_meaning.specs.faults.FirstFault.{attribute_names, first_fault, twice_among, twice_in_interface}
use Rattle.ftl_meaning.specs.faults.Numbering.{children_of, class_at, class_attributes, class_names, find_attribute, interface_at, interface_names, interface_number, interface_of, numbered, own_attributes, own_count, shared_attributes, shared_count}
use Rattle.ftl_checked.proofs.lookup.AttrInfos.{attribute_count_is}
use Rattle.ftl_meaning.specs.grammars.GrammarOf.{grammar_of, sort_of}
use Rattle.ftl_meaning.specs.faults.Kinds.{HasKinds, IsOwnKind, IsSharedKind}
use Rattle.ftl_meaning.proofs.lawful.NoFault.{none_in, none_of}
use Rattle.ftl_deps.proofs.reads.AttrKinds.{kind_within}
use Rattle.ftl_schedule.proofs.printing.Known.{entry_of_pass}
use Rattle.ftl_meaning.proofs.names.NameFaults.{HasNoNameFault, no_name_fault, once, once_in_class}
use Rattle.ftl_meaning.proofs.names.Names.{name_itself, names_differ}
use Rattle.ftl_order.specs.orders.Schedule.{entries}
use Rattle.ftl_schedule.specs.stages.Stages.{stages_of}
use Rattle.ftl_schedule.specs.declared.stages.types.Pass.{Pass}
use Rattle.ftl_schedule.specs.declared.stages.types.Stage.{Stage}
use Rattle.ftl_schedule.specs.declared.stages.types.Schedule.{Schedule}
use Rattle.ftl_schedule.specs.names.Named.{attribute_number, before, each, made_of, number_or, pass_named, schedule_named, stage_named}
use Rattle.ftl_schedule.specs.declared.names.fault.ScheduleFault.{ScheduleFault}
use Rattle.ftl_schedule.specs.reading.Limits.{limit_fault}
use Rattle.ftl_schedule.specs.reading.Read.{unless}
use Rattle.ftl_schedule.specs.text.ScheduleText.{IsTextOf, schedule_text}
use Rattle.ftl_schedule.specs.printing.WrittenOf.{name_of, pass_by_name, stage_by_name, written_of}
use Rattle.ftl_schedule.specs.printing.ReadBack.{IsReadBack}
use Rattle.ftl_checked.proofs.lookup.Standing.{IsOwn, IsShared, own_is_in, shared_is_in}

-- ---- places of names

-- a name stands at its place, where no name stands twice
pub place_of_name : (ns : List NameText) (i : ℕ) (d : NameText) → AreDistinct ns → i < length ns
    → position_or_len (bytes_eq (get_or ns i d)) ns ≡ i
place_of_name [] i d differ below = absurd (let z : ⊥ = omega (arith, below) in z)
place_of_name (x ∷ xs) zero d differ below =
    ap (λ b. cond (not b) (1 + position_or_len (bytes_eq x) xs) 0) (name_itself x)
place_of_name (x ∷ xs) (suc i) d differ below =
    let within : i < length xs = omega (arith, below) in
    ap (λ b. cond (not b) (1 + position_or_len (bytes_eq (get_or xs i d)) xs) 0)
    (names_differ (get_or xs i d) x (λ same. differ.0 (subst (Contains xs) same (Contains-get_or xs i d within))))
    ∙ ap (λ n. 1 + n) (place_of_name xs i d differ.1 within)
    ∙ (let z : 1 + i ≡ suc i = omega arith in z)

-- a name that isn't there has no place
pub no_place : (name : NameText) (ns : List NameText) → (Contains ns name → ⊥) → position_or_len (bytes_eq name) ns ≡ length ns
no_place name [] apart = refl
no_place name (x ∷ xs) apart =
    ap (λ b. cond (not b) (1 + position_or_len (bytes_eq name) xs) 0)
    (names_differ name x (λ same. apart (subst (Contains (x ∷ xs)) (sym same) (here_in x xs))))
    ∙ ap (λ n. 1 + n) (no_place name xs (λ later. apart (later_in x name xs later)))
    ∙ (let z : 1 + length xs ≡ suc (length xs) = omega arith in z)

-- an attribute is found by its name, where no two have one name
pub found_at : (xs : List AttrDecl) (start i : ℕ) (d : AttrDecl) → AreDistinct (attribute_names xs) → i < length xs
    → find_attribute (get_or xs i d).name (numbered start xs) ≡ Some (start + i, get_or xs i d)
found_at [] start i d differ below = absurd (let z : ⊥ = omega (arith, below) in z)
found_at (x ∷ xs) start zero d differ below =
    ap (λ b. cond b (Some (start, x)) (find_attribute x.name (numbered (suc start) xs))) (name_itself x.name)
    ∙ ap (λ m. Some (m, x)) (let z : start ≡ start + 0 = omega arith in z)
found_at (x ∷ xs) start (suc i) d differ below =
    let within : i < length xs = omega (arith, below) in
    ap (λ b. cond b (Some (start, x)) (find_attribute (get_or xs i d).name (numbered (suc start) xs)))
    (names_differ (get_or xs i d).name x.name
    (λ same. differ.0
    (subst (Contains (attribute_names xs)) same (map_has (λ (a : AttrDecl). a.name) xs (get_or xs i d) (Contains-get_or xs i d within)))))
    ∙ found_at xs (suc start) i d differ.1 within
    ∙ ap (λ m. Some (m, get_or xs i d)) (let z : suc start + i ≡ start + suc i = omega arith in z)

pub names_of_numbered : (n : ℕ) (xs : List AttrDecl) → map (λ a. a.1.name) (numbered n xs) ≡ attribute_names xs
names_of_numbered n [] = refl
names_of_numbered n (x ∷ xs) = ap (λ ns. x.name ∷ ns) (names_of_numbered (suc n) xs)

-- ---- kinds

pub shared_kind : (k : AttrKind) → IsSharedKind k → sort_of k ≢ model.input → is_shared_computed k ≡ true
shared_kind kinds.Inh may computed = refl
shared_kind kinds.Syn may computed = refl
shared_kind kinds.Input may computed = absurd (computed refl)
shared_kind kinds.Local may computed = absurd may

pub own_kind : (k : AttrKind) → IsOwnKind k → sort_of k ≢ model.input → is_own_computed k ≡ true
own_kind kinds.Inh may computed = absurd may
own_kind kinds.Syn may computed = absurd may
own_kind kinds.Input may computed = absurd (computed refl)
own_kind kinds.Local may computed = refl

-- ---- what is named again

pub each_same : {X Y : Type 0} (f : X → Result Y ScheduleFault) (h : Y → X) (ys : List Y)
    → ((y : Y) → Contains ys y → f (h y) ≡ Ok y) → each f (map h ys) ≡ Ok ys
each_same f h [] same = refl
each_same f h (y ∷ ys) same =
    ap₂ before (same y (here_in y ys)) (each_same f h ys (λ z later. same z (later_in y z ys later)))

abbrev pub no_attribute : AttrDecl
no_attribute = trees.attr_decl kinds.Inh []

module _ (g : Grammar) (none : first_fault g ≡ None) (has_kinds : HasKinds g) where
  names : HasNoNameFault g
  names = no_name_fault g none

  all_differ : AreDistinct (interface_names g ++ class_names g)
  all_differ = once (interface_names g ++ class_names g) names.declared_once

  shared_differ : (i : ℕ) → i < length g.interfaces → AreDistinct (attribute_names (interface_at g i).attrs)
  shared_differ i below =
      let x = interface_at g i in
      let h = none_of twice_in_interface g.interfaces names.interface_once x (Contains-get_or g.interfaces i (trees.interface [] [] []) below) in
      once (attribute_names x.attrs) (none_in (twice_among (attribute_names x.attrs) ∷ twice_among x.shown ∷ []) h).0

  own_differ : (k : ℕ) → k < length g.classes → AreDistinct (attribute_names (class_at g k).attrs)
  own_differ k below =
      let shared = map (λ a. a.1.name) (shared_attributes g (interface_of g k)) in
      let own = map (λ a. a.1.name) (own_attributes g k) in
      let attributes = map (λ a. a.1.name) (class_attributes g k) in
      let children = map (λ c. c.1.name) (children_of g k) in
      let all = distinct_left attributes children (once (attributes ++ children) (once_in_class g none k below)) in
      subst AreDistinct (names_of_numbered (shared_count g.interfaces + own_count (take k g.classes)) (class_at g k).attrs)
      (distinct_right shared own
      (subst AreDistinct (map-append (λ a. a.1.name) (shared_attributes g (interface_of g k)) (own_attributes g k)) all))

  -- the number of an interface by its name
  interface_again : (i : ℕ) → i < length g.interfaces → interface_number g (interface_at g i).name ≡ i
  interface_again i below =
      let names = interface_names g in
      let counted : i < length names = omega (arith, below, length-map g.interfaces (λ (x : Interface). x.name)) in
      ap (λ n. position_or_len (bytes_eq n) names) (sym (get_or-map (λ (x : Interface). x.name) g.interfaces i (trees.interface [] [] []) [] below))
      ∙ place_of_name names i [] (distinct_left names (class_names g) all_differ) counted

  -- no interface has the name of a class
  no_interface : (k : ℕ) → k < length g.classes → length g.interfaces ≤ interface_number g (class_at g k).name
  no_interface k below =
      let there : Contains (class_names g) (class_at g k).name =
      map_has (λ (x : Class). x.name) g.classes (class_at g k) (Contains-get_or g.classes k (trees.class [] [] [] [] []) below) in
      let past : interface_number g (class_at g k).name ≡ length (interface_names g) =
      no_place (class_at g k).name (interface_names g)
      (λ h. distinct_apart (interface_names g) (class_names g) all_differ (class_at g k).name h there) in
      omega (arith, past, length-map g.interfaces (λ (x : Interface). x.name))

  class_found : (k : ℕ) → k < length g.classes → class_named g (class_at g k).name ≡ Some k
  class_found k below =
      let names = class_names g in
      let counted : k < length names = omega (arith, below, length-map g.classes (λ (x : Class). x.name)) in
      let place : position_or_len (bytes_eq (class_at g k).name) names ≡ k =
      ap (λ n. position_or_len (bytes_eq n) names) (sym (get_or-map (λ (x : Class). x.name) g.classes k (trees.class [] [] [] [] []) [] below))
      ∙ place_of_name names k [] (distinct_right (interface_names g) names all_differ) counted in
      ap (λ l. cond (nat_lt l (length names)) (Some l) None) place
      ∙ ap (λ b. cond b (Some k) None) (lt-ltb k (length names) counted)

  none_past : (i : ℕ) (name : NameText) → length g.interfaces ≤ i → shared_named g i name ≡ None
  none_past i name past =
      ap (λ (x : Interface). option_and_then (number_if is_shared_computed) (find_attribute name (numbered (shared_count (take i g.interfaces)) x.attrs)))
      (get_or_past g.interfaces i (trees.interface [] [] []) past)

  abbrev here : ℕ → Declared
  here a = attribute_at g a

  shared_again : (a : ℕ) → sort_of (here a).decl.kind ≢ model.input → IsShared g (here a).owner a no_attribute
      → attribute_named g (interface_at g (here a).owner).name (here a).decl.name ≡ Some a
  shared_again a computed at =
      let o = (here a).owner in
      let x = interface_at g o in
      let start = shared_count (take o g.interfaces) in
      let i = a - start in
      let d = get_or x.attrs i no_attribute in
      let after = at.after in
      let end = at.before in
      let within : i < length x.attrs = omega (arith, after, end) in
      let may : IsSharedKind d.kind =
      All-contains (λ (y : AttrDecl). IsSharedKind y.kind) x.attrs d
      (All-contains (λ (y : Interface). All (λ (z : AttrDecl). IsSharedKind z.kind) y.attrs) g.interfaces x has_kinds.shared
      (Contains-get_or g.interfaces o (trees.interface [] [] []) at.owner_within))
      (Contains-get_or x.attrs i no_attribute within) in
      let kind : is_shared_computed d.kind ≡ true =
      shared_kind d.kind may (subst (λ (z : AttrDecl). sort_of z.kind ≢ model.input) at.is computed) in
      let number : start + i ≡ a = omega (arith, after) in
      let found : shared_named g o d.name ≡ Some a =
      ap (option_and_then (number_if is_shared_computed)) (found_at x.attrs start i no_attribute (shared_differ o at.owner_within) within)
      ∙ ap (λ b. cond b (Some (start + i)) None) kind ∙ ap Some number in
      ap (λ (z : AttrDecl). attribute_named g x.name z.name) at.is
      ∙ ap₂ (λ n (rest : Option ℕ). option_or (shared_named g n d.name) rest) (interface_again o at.owner_within)
      (let r : option_and_then (λ k. local_named g k d.name) (class_named g x.name) ≡ option_and_then (λ k. local_named g k d.name) (class_named g x.name) = refl in r)
      ∙ ap (λ n. option_or n (option_and_then (λ k. local_named g k d.name) (class_named g x.name))) found

  own_again : (a : ℕ) → sort_of (here a).decl.kind ≢ model.input → IsOwn g (here a).owner a no_attribute
      → attribute_named g (class_at g (here a).owner).name (here a).decl.name ≡ Some a
  own_again a computed at =
      let o = (here a).owner in
      let x = class_at g o in
      let start = shared_count g.interfaces + own_count (take o g.classes) in
      let i = a - start in
      let d = get_or x.attrs i no_attribute in
      let after = at.after in
      let end = at.before in
      let within : i < length x.attrs = omega (arith, after, end) in
      let may : IsOwnKind d.kind =
      All-contains (λ (y : AttrDecl). IsOwnKind y.kind) x.attrs d
      (All-contains (λ (y : Class). All (λ (z : AttrDecl). IsOwnKind z.kind) y.attrs) g.classes x has_kinds.own
      (Contains-get_or g.classes o (trees.class [] [] [] [] []) at.owner_within))
      (Contains-get_or x.attrs i no_attribute within) in
      let kind : is_own_computed d.kind ≡ true =
      own_kind d.kind may (subst (λ (z : AttrDecl). sort_of z.kind ≢ model.input) at.is computed) in
      let number : start + i ≡ a = omega (arith, after) in
      let found : local_named g o d.name ≡ Some a =
      ap (option_and_then (number_if is_own_computed)) (found_at x.attrs start i no_attribute (own_differ o at.owner_within) within)
      ∙ ap (λ b. cond b (Some (start + i)) None) kind ∙ ap Some number in
      ap (λ (z : AttrDecl). attribute_named g x.name z.name) at.is
      ∙ ap₂ option_or (none_past (interface_number g x.name) d.name (no_interface o at.owner_within))
      (ap (option_and_then (λ k. local_named g k d.name)) (class_found o at.owner_within))
      ∙ found

  named_again : (a : ℕ) → a < length (all_attributes g) → sort_of (here a).decl.kind ≢ model.input
      → attribute_named g (owner_name_of g (here a)) (here a).decl.name ≡ Some a
  named_again a within computed = by_owner (here a).of_class refl
    where
      by_owner : (b : Bool) → (here a).of_class ≡ b → attribute_named g (owner_name_of g (here a)) (here a).decl.name ≡ Some a
      by_owner true is =
          ap (λ b. attribute_named g (cond b (class_at g (here a).owner).name (interface_at g (here a).owner).name) (here a).decl.name) is
          ∙ own_again a computed (own_is_in g no_attribute a (here a).owner within refl is)
      by_owner false is =
          ap (λ b. attribute_named g (cond b (class_at g (here a).owner).name (interface_at g (here a).owner).name) (here a).decl.name) is
          ∙ shared_again a computed (shared_is_in g no_attribute a (here a).owner within refl is)

  module _ (w : ℕ) (s : Schedule)
      (computed : (a : ℕ) → Contains (entries (stages_of s)) a → (a < (grammar_of w g).attribute_count) × ((grammar_of w g).sort a ≢ model.input)) where
    attribute_again : (a : ℕ) → Contains (entries (stages_of s)) a → attribute_number g (name_of g a) ≡ Ok a
    attribute_again a there =
        let within = subst (λ n. a < n) (sym (attribute_count_is g)) (computed a there).0 in
        ap (λ o. number_or o (name_of g a))
        (named_again a within (subst (λ k. sort_of k ≢ model.input) (sym (kind_within g a within)) (computed a there).1))

    pass_again : (t : Stage) → Contains s.stages t → (p : Pass) → Contains t.passes p → pass_named g (pass_by_name g p) ≡ Ok p
    pass_again t stage p pass =
        ap (made_of (λ attrs. record { kind = p.kind; attrs = attrs }))
        (each_same (attribute_number g) (name_of g) p.attrs
        (λ a there. attribute_again a (entry_of_pass s t stage p pass a there)))

    stage_again : (t : Stage) → Contains s.stages t → stage_named g (stage_by_name g t) ≡ Ok t
    stage_again t stage =
        ap (made_of (λ passes. record { passes = passes }))
        (each_same (pass_named g) (pass_by_name g) t.passes (λ p pass. pass_again t stage p pass))

    schedule_again : schedule_named g (written_of g s) ≡ Ok s
    schedule_again =
        ap (made_of (λ stages. record { stages = stages })) (each_same (stage_named g) (stage_by_name g) s.stages stage_again)

    pub read_back : IsTextOf (schedule_text (written_of g s)) (written_of g s) → limit_fault (written_of g s).stages ≡ None
        → IsReadBack g s (schedule_text (written_of g s))
    read_back spells limits = record {
      spells = spells;
      is = ap (λ o. unless o (schedule_named g (written_of g s))) limits ∙ schedule_again;
    }
