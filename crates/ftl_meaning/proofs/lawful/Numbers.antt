-- Each attribute stands at its number.
use Rattle.std.proofs.Common.{◌≡◌, ℕ, zero, suc, ◌+◌, ◌<◌, refl, sym, ◌∙◌, ap, subst, ⊎_elim, arith, List, [], ◌∷◌, length, get_or, map, take, flat_map, Contains}
use Rattle.std.specs.List.{range_with_len}
use Rattle.std.proofs.lemmas.Bool.{cases_lt}
use Rattle.std.proofs.lemmas.List.{get_or-append-add, get_or_append_left, get_or_past}
use Rattle.std.proofs.lemmas.List.Concat.{get_or-flat_map}
use Rattle.ftl_model.proofs.lists.Elements.{in_cases, nothing_in, here_in, later_in}
use Rattle.ftl_model.proofs.lists.Places.{piece_within}
use Rattle.ftl_grammar.specs.syntax.Trees as trees
use Rattle.ftl_grammar.specs.declared.syntax.rules.AttrDecl.{AttrDecl}
use Rattle.ftl_grammar.specs.declared.syntax.rules.AttrKind.TheVariants as kinds
use Rattle.ftl_grammar.specs.declared.syntax.rules.Class.{Class}
use Rattle.ftl_grammar.specs.declared.syntax.rules.Grammar.{Grammar}
use Rattle.ftl_grammar.specs.declared.syntax.rules.Interface.{Interface}
use Rattle.ftl_meaning.specs.faults.Numbering.{class_at, interface_at, numbered, own_attributes, own_count, shared_attributes, shared_count}
use Rattle.ftl_meaning.specs.grammars.GrammarOf.{declaration_at}

-- the numbers of a numbered list are a range
pub map-numbered : {X : Type 0} (n : ℕ) (xs : List X) → map (λ a. a.0) (numbered n xs) ≡ range_with_len n (length xs)
map-numbered n [] = refl
map-numbered n (x ∷ xs) =
    ap (λ ns. n ∷ ns)
    (map-numbered (suc n) xs ∙ ap (λ m. range_with_len m (length xs)) (let z : suc n ≡ n + 1 = omega arith in z))

-- an entry of a numbered list stands at a place, and has its number
pub record Stands {X : Type 0} (n : ℕ) (xs : List X) (p : ℕ × X) : Type 0 where
  pub place : ℕ
  pub known : place < length xs
  pub number : p.0 ≡ n + place
  pub is : (d : X) → get_or xs place d ≡ p.1

-- each entry of a numbered list stands so
pub in_numbered : {X : Type 0} (n : ℕ) (xs : List X) (p : ℕ × X) → Contains (numbered n xs) p → Stands n xs p
in_numbered n [] p h = absurd (nothing_in p h)
in_numbered n (x ∷ xs) p h =
    ⊎_elim
    (λ same. record {
      place = 0;
      known = omega arith;
      number = sym (ap (λ a. a.0) same) ∙ (let z : n ≡ n + 0 = omega arith in z);
      is = λ d. ap (λ a. a.1) same;
    })
    (λ later.
    let s = in_numbered (suc n) xs p later in
    let k = s.known in
    let e = s.number in
    record {
      place = suc s.place;
      known = omega (arith, k);
      number = omega (arith, e);
      is = s.is;
    })
    (in_cases (n, x) p (numbered (suc n) xs) h)

-- and each entry of the list is there with its number
pub numbered_has : {X : Type 0} (n : ℕ) (xs : List X) (i : ℕ) (d : X) → i < length xs
    → Contains (numbered n xs) (n + i, get_or xs i d)
numbered_has n [] i d below = absurd (let z : ⊥ = omega (arith, below) in z)
numbered_has n (x ∷ xs) zero d below =
    subst (λ m. Contains ((n, x) ∷ numbered (suc n) xs) (m, x)) (let z : n ≡ n + 0 = omega arith in z)
    (here_in (n, x) (numbered (suc n) xs))
numbered_has n (x ∷ xs) (suc i) d below =
    later_in (n, x) (n + suc i, get_or xs i d) (numbered (suc n) xs)
    (subst (λ m. Contains (numbered (suc n) xs) (m, get_or xs i d)) (let z : suc n + i ≡ n + suc i = omega arith in z)
    (numbered_has (suc n) xs i d (omega (arith, below))))

module _ (g : Grammar) where
  abbrev shared_all : List AttrDecl
  shared_all = flat_map (λ (x : Interface). x.attrs) g.interfaces

  abbrev own_all : List AttrDecl
  own_all = flat_map (λ (x : Class). x.attrs) g.classes

  abbrev no_attribute : AttrDecl
  no_attribute = trees.attr_decl kinds.Input []

  -- an attribute of an interface is the one of its number, and the interface is known
  pub shared_at : (i : ℕ) (p : ℕ × AttrDecl) → Contains (shared_attributes g i) p
      → (i < length g.interfaces) × (declaration_at g p.0 ≡ p.1)
  shared_at i p h =
      ⊎_elim
      (λ known.
      let s = in_numbered (shared_count (take i g.interfaces)) (interface_at g i).attrs p h in (
        known,
        ap (declaration_at g) s.number
            ∙ get_or_append_left shared_all own_all no_attribute (shared_count (take i g.interfaces) + s.place)
            (piece_within (λ (x : Interface). x.attrs) (trees.interface [] [] []) g.interfaces i s.place known s.known)
            ∙ get_or-flat_map (λ (x : Interface). x.attrs) g.interfaces i s.place (trees.interface [] [] []) no_attribute known s.known
            ∙ s.is no_attribute,
      ))
      (λ past. absurd
      (nothing_in p
      (subst (λ (x : Interface). Contains (numbered (shared_count (take i g.interfaces)) x.attrs) p)
      (get_or_past g.interfaces i (trees.interface [] [] []) past) h)))
      (cases_lt i (length g.interfaces))

  -- and so is one that a class adds
  pub own_at : (k : ℕ) (p : ℕ × AttrDecl) → Contains (own_attributes g k) p
      → (k < length g.classes) × (declaration_at g p.0 ≡ p.1)
  own_at k p h =
      ⊎_elim
      (λ known.
      let s = in_numbered (shared_count g.interfaces + own_count (take k g.classes)) (class_at g k).attrs p h in (
        known,
        ap (declaration_at g)
            (s.number
            ∙ (let z : (shared_count g.interfaces + own_count (take k g.classes)) + s.place ≡ shared_count g.interfaces + (own_count (take k g.classes) + s.place) = omega arith in z))
            ∙ get_or-append-add shared_all own_all (own_count (take k g.classes) + s.place) no_attribute
            ∙ get_or-flat_map (λ (x : Class). x.attrs) g.classes k s.place (trees.class [] [] [] [] []) no_attribute known s.known
            ∙ s.is no_attribute,
      ))
      (λ past. absurd
      (nothing_in p
      (subst (λ (x : Class). Contains (numbered (shared_count g.interfaces + own_count (take k g.classes)) x.attrs) p)
      (get_or_past g.classes k (trees.class [] [] [] [] []) past) h)))
      (cases_lt k (length g.classes))
