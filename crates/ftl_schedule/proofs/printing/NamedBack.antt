-- The names that a number was read from are its names.
use Rattle.std.proofs.Common.{◌≡◌, ℕ, zero, suc, ◌+◌, ◌-◌, ◌<◌, ◌≤◌, Bool, true, false, not, cond, nat_lt, List, [], ◌∷◌}
use Rattle.std.proofs.Common.{length, length-append, map, flat_map, take, get_or, Option, Some, None, Result, Ok}
use Rattle.std.proofs.Common.{refl, sym, ◌∙◌, ap, ap₂, subst, ⊎_elim, arith}
use Rattle.std.specs.List.{position_or_len}
use Rattle.std.specs.Option.{option_and_then, option_or}
use Rattle.std.specs.Str.{bytes_eq}
use Rattle.std.proofs.lemmas.Bool.{ltb-true}
use Rattle.std.proofs.lemmas.List.{get_or-map, length-map}
use Rattle.std.proofs.lemmas.Option.{none-some, option_and_then_some, same_Some}
use Rattle.ftl_grammar.specs.syntax.Trees as trees
use Rattle.ftl_grammar.specs.syntax.Trees.{NameText}
use Rattle.ftl_grammar.specs.declared.syntax.rules.AttrDecl.{AttrDecl}
use Rattle.ftl_grammar.specs.declared.syntax.rules.AttrKind.TheVariants as kinds
use Rattle.ftl_grammar.specs.declared.syntax.rules.Class.{Class}
use Rattle.ftl_grammar.specs.declared.syntax.rules.Grammar.{Grammar}
use Rattle.ftl_grammar.specs.declared.syntax.rules.Interface.{Interface}
use Rattle.ftl_checked.proofs.lookup.AttrInfos.{attribute_count_is}
use Rattle.ftl_checked.proofs.lookup.Standing.{own_is_in, shared_is_in}
use Rattle.ftl_meaning.specs.faults.Checked.{Declared, all_attributes, attribute_at, attribute_named, class_named, is_own_computed}
use Rattle.ftl_meaning.specs.faults.Checked.{is_shared_computed, local_named, number_if, shared_named}
use Rattle.ftl_meaning.specs.faults.Numbering.{class_at, class_names, find_attribute, interface_at, interface_names}
use Rattle.ftl_meaning.specs.faults.Numbering.{interface_number, own_attributes, own_count, shared_attributes, shared_count}
use Rattle.ftl_meaning.proofs.faults.Numbered.{count_within}
use Rattle.ftl_meaning.proofs.lawful.Found.{find_is}
use Rattle.ftl_meaning.proofs.lawful.Numbers.{in_numbered, own_at, shared_at}
use Rattle.ftl_meaning.proofs.names.Names.{same_name}
use Rattle.ftl_schedule.specs.declared.syntax.types.AttributeName.{AttributeName}
use Rattle.ftl_schedule.specs.declared.syntax.types.WrittenPass.{WrittenPass}
use Rattle.ftl_schedule.specs.declared.syntax.types.WrittenSchedule.{WrittenSchedule}
use Rattle.ftl_schedule.specs.declared.syntax.types.WrittenStage.{WrittenStage}
use Rattle.ftl_schedule.specs.declared.stages.types.Pass.{Pass}
use Rattle.ftl_schedule.specs.declared.stages.types.Schedule.{Schedule}
use Rattle.ftl_schedule.specs.declared.stages.types.Stage.{Stage}
use Rattle.ftl_schedule.specs.declared.names.fault.ScheduleFault.{ScheduleFault}
use Rattle.ftl_schedule.specs.names.Named.{attribute_number, each, number_or, pass_named, schedule_named, stage_named}
use Rattle.ftl_schedule.specs.printing.WrittenOf.{name_of, pass_by_name, stage_by_name, written_of}
use Rattle.ftl_schedule.proofs.names.NamedParts.{made, parts, same_Ok}
use Rattle.ftl_schedule.proofs.reading.ReadComputed.{chosen, from_either, number_computed}

-- ---- places

-- the name at the place of a name is that name
pub name_at_place : (name : NameText) (ns : List NameText) (i : ℕ) (d : NameText) → position_or_len (bytes_eq name) ns ≡ i
    → i < length ns → get_or ns i d ≡ name
name_at_place name [] i d is below = absurd (let z : ⊥ = omega (arith, below) in z)
name_at_place name (x ∷ xs) i d is below =
    by_test (bytes_eq name x) refl is
    (λ within. name_at_place name xs (position_or_len (bytes_eq name) xs) d refl within)
  where
    by_test : (b : Bool) → bytes_eq name x ≡ b → cond (not b) (1 + position_or_len (bytes_eq name) xs) 0 ≡ i
        → (position_or_len (bytes_eq name) xs < length xs → get_or xs (position_or_len (bytes_eq name) xs) d ≡ name)
        → get_or (x ∷ xs) i d ≡ name
    by_test true same is later = ap (λ n. get_or (x ∷ xs) n d) (sym is) ∙ sym (same_name name x same)
    by_test false other is later =
        let place = position_or_len (bytes_eq name) xs in
        let next : 1 + place ≡ suc place = omega arith in
        ap (λ n. get_or (x ∷ xs) n d) (sym is ∙ next)
        ∙ later (omega (arith, below, is))

-- a number that two lists of a row have is in one list
pub one_owner : {X Y : Type 0} (f : X → List Y) (e : X) (xs : List X) (i o a : ℕ) → i < length xs → o < length xs
    → length (flat_map f (take i xs)) ≤ a → a < length (flat_map f (take i xs)) + length (f (get_or xs i e))
    → length (flat_map f (take o xs)) ≤ a → a < length (flat_map f (take o xs)) + length (f (get_or xs o e)) → i ≡ o
one_owner f e [] i o a known other after before later end = absurd (let z : ⊥ = omega (arith, known) in z)
one_owner f e (x ∷ xs) zero zero a known other after before later end = refl
one_owner f e (x ∷ xs) zero (suc o) a known other after before later end =
    let long = length-append (f x) (flat_map f (take o xs)) in
    absurd (let z : ⊥ = omega (arith, before, later, long) in z)
one_owner f e (x ∷ xs) (suc i) zero a known other after before later end =
    let long = length-append (f x) (flat_map f (take i xs)) in
    absurd (let z : ⊥ = omega (arith, end, after, long) in z)
one_owner f e (x ∷ xs) (suc i) (suc o) a known other after before later end =
    let long = length-append (f x) (flat_map f (take i xs)) in
    let long_other = length-append (f x) (flat_map f (take o xs)) in
    ap suc
    (one_owner f e xs i o (a - length (f x)) (omega (arith, known)) (omega (arith, other)) (omega (arith, after, long))
    (omega (arith, before, after, long)) (omega (arith, later, long_other)) (omega (arith, end, later, long_other)))

abbrev pub no_interface : Interface
no_interface = trees.interface [] [] []

abbrev pub no_class : Class
no_class = trees.class [] [] [] [] []

abbrev pub no_attribute : AttrDecl
no_attribute = trees.attr_decl kinds.Inh []

abbrev pub attrs_of : Interface → List AttrDecl
attrs_of x = x.attrs

abbrev pub own_attrs_of : Class → List AttrDecl
own_attrs_of x = x.attrs

module _ (g : Grammar) where
  abbrev here : ℕ → Declared
  here a = attribute_at g a

  -- ---- an attribute of an interface

  interface_name : (owner : NameText) → interface_number g owner < length g.interfaces
      → (interface_at g (interface_number g owner)).name ≡ owner
  interface_name owner below =
      let i = interface_number g owner in
      let many = length-map g.interfaces (λ (x : Interface). x.name) in
      sym (get_or-map (λ (x : Interface). x.name) g.interfaces i no_interface [] below)
      ∙ name_at_place owner (interface_names g) i [] refl (omega (arith, below, many))

  shared_back : (owner name : NameText) (a : ℕ) → a < length (all_attributes g)
      → shared_named g (interface_number g owner) name ≡ Some a → name_of g a ≡ record { owner = owner; attr = name }
  shared_back owner name a within h =
      option_and_then_some (number_if is_shared_computed) (find_attribute name (shared_attributes g i)) a h
      (λ p found picked.
      let at = find_is (λ (x : ℕ × AttrDecl). bytes_eq name x.1.name) (shared_attributes g i) p found in
      let s = in_numbered (shared_count (take i g.interfaces)) (interface_at g i).attrs p at.0 in
      let known = (shared_at g i p at.0).0 in
      let is : p.0 ≡ a = (chosen (is_shared_computed p.1.kind) p.0 a picked).1 in
      by_owner p s.place s.known known (sym is ∙ s.number) (s.is no_attribute) (same_name name p.1.name at.1)
      (here a).of_class refl)
    where
      i : ℕ
      i = interface_number g owner

      by_owner : (p : ℕ × AttrDecl) (place : ℕ) → place < length (interface_at g i).attrs → i < length g.interfaces
          → a ≡ shared_count (take i g.interfaces) + place → get_or (interface_at g i).attrs place no_attribute ≡ p.1
          → name ≡ p.1.name → (b : Bool) → (here a).of_class ≡ b → name_of g a ≡ record { owner = owner; attr = name }
      by_owner p place below known counts is same true of_class =
          let at = own_is_in g no_attribute a (here a).owner within refl of_class in
          let after = at.after in
          let all = count_within attrs_of g.interfaces i no_interface known in
          absurd (let z : ⊥ = omega (arith, after, all, counts, below) in z)
      by_owner p place below known counts is same false of_class =
          let o = (here a).owner in
          let at = shared_is_in g no_attribute a o within refl of_class in
          let after = at.after in
          let before = at.before in
          let one : i ≡ o =
          one_owner attrs_of no_interface g.interfaces i o a known at.owner_within (omega (arith, counts))
          (omega (arith, counts, below)) after before in
          let there : a - shared_count (take o g.interfaces) ≡ place =
          (ap (λ n. a - shared_count (take n g.interfaces)) (sym one)) ∙ (omega (arith, counts)) in
          let decl : (here a).decl ≡ p.1 =
          at.is
          ∙ ap₂ (λ (n : ℕ) (k : ℕ). get_or (interface_at g n).attrs k no_attribute) (sym one) there
          ∙ is in
          ap₂ (λ (n m : NameText). (let x : AttributeName = record { owner = n; attr = m } in x))
          (ap (λ b. cond b (class_at g o).name (interface_at g o).name) of_class
          ∙ ap (λ n. (interface_at g n).name) (sym one) ∙ interface_name owner known)
          (ap (λ (d : AttrDecl). d.name) decl ∙ sym same)

  -- ---- one that a class adds

  class_name : (owner : NameText) (k : ℕ) → class_named g owner ≡ Some k → (class_at g k).name ≡ owner
  class_name owner k h = by_test (nat_lt place (length (class_names g))) refl h
    where
      place : ℕ
      place = position_or_len (bytes_eq owner) (class_names g)

      by_test : (b : Bool) → nat_lt place (length (class_names g)) ≡ b → cond b (Some place) None ≡ Some k
          → (class_at g k).name ≡ owner
      by_test false is h = absurd (none-some k h)
      by_test true is h =
          let same : place ≡ k = same_Some place k h in
          let below = ltb-true place (length (class_names g)) is in
          let many = length-map g.classes (λ (x : Class). x.name) in
          sym (get_or-map (λ (x : Class). x.name) g.classes k no_class [] (omega (arith, below, many, same)))
          ∙ name_at_place owner (class_names g) k [] same (omega (arith, below, same))

  own_back : (owner name : NameText) (k a : ℕ) → a < length (all_attributes g) → class_named g owner ≡ Some k
      → local_named g k name ≡ Some a → name_of g a ≡ record { owner = owner; attr = name }
  own_back owner name k a within found_class h =
      option_and_then_some (number_if is_own_computed) (find_attribute name (own_attributes g k)) a h
      (λ p found picked.
      let at = find_is (λ (x : ℕ × AttrDecl). bytes_eq name x.1.name) (own_attributes g k) p found in
      let start = shared_count g.interfaces + own_count (take k g.classes) in
      let s = in_numbered start (class_at g k).attrs p at.0 in
      let known = (own_at g k p at.0).0 in
      let is : p.0 ≡ a = (chosen (is_own_computed p.1.kind) p.0 a picked).1 in
      by_owner p s.place s.known known (sym is ∙ s.number) (s.is no_attribute) (same_name name p.1.name at.1)
      (here a).of_class refl)
    where
      by_owner : (p : ℕ × AttrDecl) (place : ℕ) → place < length (class_at g k).attrs → k < length g.classes
          → a ≡ shared_count g.interfaces + own_count (take k g.classes) + place
          → get_or (class_at g k).attrs place no_attribute ≡ p.1
          → name ≡ p.1.name → (b : Bool) → (here a).of_class ≡ b → name_of g a ≡ record { owner = owner; attr = name }
      by_owner p place below known counts is same false of_class =
          let at = shared_is_in g no_attribute a (here a).owner within refl of_class in
          let before = at.before in
          let all = count_within attrs_of g.interfaces (here a).owner no_interface at.owner_within in
          absurd (let z : ⊥ = omega (arith, before, all, counts) in z)
      by_owner p place below known counts is same true of_class =
          let o = (here a).owner in
          let at = own_is_in g no_attribute a o within refl of_class in
          let after = at.after in
          let before = at.before in
          let front = shared_count g.interfaces in
          let one : k ≡ o =
          one_owner own_attrs_of no_class g.classes k o (a - front) known at.owner_within (omega (arith, counts))
          (omega (arith, counts, below)) (omega (arith, after)) (omega (arith, after, before)) in
          let there : a - (front + own_count (take o g.classes)) ≡ place =
          (ap (λ n. a - (front + own_count (take n g.classes))) (sym one)) ∙ (omega (arith, counts)) in
          let decl : (here a).decl ≡ p.1 =
          at.is ∙ ap₂ (λ (n : ℕ) (j : ℕ). get_or (class_at g n).attrs j no_attribute) (sym one) there ∙ is in
          ap₂ (λ (n m : NameText). (let x : AttributeName = record { owner = n; attr = m } in x))
          (ap (λ b. cond b (class_at g o).name (interface_at g o).name) of_class
          ∙ ap (λ n. (class_at g n).name) (sym one) ∙ class_name owner k found_class)
          (ap (λ (d : AttrDecl). d.name) decl ∙ sym same)

  -- ---- both

  named_back : (owner name : NameText) (a : ℕ) → a < length (all_attributes g) → attribute_named g owner name ≡ Some a
      → name_of g a ≡ record { owner = owner; attr = name }
  named_back owner name a within h =
      ⊎_elim (λ shared. shared_back owner name a within shared)
      (λ own. option_and_then_some (λ k. local_named g k name) (class_named g owner) a own
      (λ k found is. own_back owner name k a within found is))
      (from_either (shared_named g (interface_number g owner) name)
      (option_and_then (λ k. local_named g k name) (class_named g owner)) a h)

  number_back : (w : ℕ) (x : AttributeName) (a : ℕ) → attribute_number g x ≡ Ok a → name_of g a ≡ x
  number_back w x a h = by_found (attribute_named g x.owner x.attr) refl h
    where
      within : a < length (all_attributes g)
      within = subst (λ n. a < n) (sym (attribute_count_is g)) (number_computed w g x a h).0

      by_found : (o : Option ℕ) → attribute_named g x.owner x.attr ≡ o → number_or o x ≡ Ok a → name_of g a ≡ x
      by_found (Some b) is h = named_back x.owner x.attr a within (is ∙ ap Some (same_Ok b a h))
      by_found None is h = absurd (cc h)

  -- what each entry stands for is named as it was
  each_back : {X Y : Type 0} (f : X → Result Y ScheduleFault) (name : Y → X) → ((x : X) (y : Y) → f x ≡ Ok y → name y ≡ x)
      → (xs : List X) (ys : List Y) → each f xs ≡ Ok ys → map name ys ≡ xs
  each_back f name back [] ys e = ap (map name) (sym (same_Ok [] ys e))
  each_back f name back (x ∷ xs) ys e =
      parts f x xs ys e
      (λ z zs is is_later same.
      ap (map name) (sym same) ∙ ap₂ (λ first rest. first ∷ rest) (back x z is) (each_back f name back xs zs is_later))

  module _ (w : ℕ) where
    pass_back : (x : WrittenPass) (p : Pass) → pass_named g x ≡ Ok p → pass_by_name g p ≡ x
    pass_back x p h =
        made (λ attrs. record { kind = x.kind; attrs = attrs }) (each (attribute_number g) x.attrs) p h
        (λ attrs is same.
        ap (pass_by_name g) (sym same)
        ∙ ap (λ names. (let y : WrittenPass = record { kind = x.kind; attrs = names } in y))
        (each_back (attribute_number g) (name_of g) (number_back w) x.attrs attrs is))

    stage_back : (x : WrittenStage) (s : Stage) → stage_named g x ≡ Ok s → stage_by_name g s ≡ x
    stage_back x s h =
        made (λ passes. record { passes = passes }) (each (pass_named g) x.passes) s h
        (λ passes is same.
        ap (stage_by_name g) (sym same)
        ∙ ap (λ ps. (let y : WrittenStage = record { passes = ps } in y))
        (each_back (pass_named g) (pass_by_name g) pass_back x.passes passes is))

    pub schedule_back : (x : WrittenSchedule) (s : Schedule) → schedule_named g x ≡ Ok s → written_of g s ≡ x
    schedule_back x s h =
        made (λ stages. record { stages = stages }) (each (stage_named g) x.stages) s h
        (λ stages is same.
        ap (written_of g) (sym same)
        ∙ ap (λ ss. (let y : WrittenSchedule = record { stages = ss } in y))
        (each_back (stage_named g) (stage_by_name g) stage_back x.stages stages is))
