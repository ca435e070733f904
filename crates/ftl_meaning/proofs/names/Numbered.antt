-- Numbers stand for the declarations at their places.
use Rattle.std.proofs.Common.{◌≡◌, ℕ, zero, suc, ◌+◌, refl, sym, ◌∙◌, ap, ap₂, subst, arith, List, [], ◌∷◌, map, take, flat_map, Contains, Some, length-append}
use Rattle.std.specs.List.{range_with_len, slice_get}
use Rattle.std.proofs.lemmas.Option.{get_or_from_slice_get, none-some, same_Some}
use Rattle.ftl_model.specs.lists.Lists.{AreDistinct}
use Rattle.ftl_model.proofs.lists.Elements.{distinct-range, here_in, in_range_from, later_in, range_has}
use Rattle.ftl_grammar.specs.syntax.Trees as trees
use Rattle.ftl_grammar.specs.declared.syntax.rules.AttrDecl.{AttrDecl}
use Rattle.ftl_grammar.specs.declared.syntax.rules.AttrKind.{AttrKind}
use Rattle.ftl_grammar.specs.declared.syntax.rules.AttrKind.TheVariants as kinds
use Rattle.ftl_grammar.specs.declared.syntax.rules.Class.{Class}
use Rattle.ftl_grammar.specs.declared.syntax.rules.Grammar.{Grammar}
use Rattle.ftl_grammar.specs.declared.syntax.rules.Interface.{Interface}
use Rattle.ftl_meaning.specs.faults.Numbering.{class_at, interface_at, numbered, own_count, shared_count}
use Rattle.ftl_meaning.specs.grammars.GrammarOf.{declaration_at, grammar_of, names_of, sort_of}
use Rattle.ftl_meaning.proofs.lawful.Declared.{declared_in_order}
use Rattle.ftl_meaning.proofs.lawful.Numbers.{own_at, shared_at}
use Rattle.ftl_meaning.specs.names.Places.{OfMeanings}
use Rattle.ftl_meaning.specs.names.Attributes.{AreOf, AttributesAreCounted, IsSortOf, NumbersAreDeclared, NumbersAreDistinct, NumbersFollowTheText, PrivateAreKept, SharedAreKept}

is_sort : (kind : AttrKind) → IsSortOf kind (sort_of kind)
is_sort kinds.Inh = refl
is_sort kinds.Syn = refl
is_sort kinds.Input = refl
is_sort kinds.Local = refl

-- numbers from one on are of declarations that stand there
are_of : (greatest : ℕ) (g : Grammar) (n : ℕ) (xs : List AttrDecl)
    → ((p : ℕ × AttrDecl) → Contains (numbered n xs) p → declaration_at g p.0 ≡ p.1)
    → AreOf (grammar_of greatest g).sort (names_of g).attribute_name (map (λ a. a.0) (numbered n xs)) xs
are_of greatest g n [] each = tt
are_of greatest g n (x ∷ xs) each =
    let first = each (n, x) (here_in (n, x) (numbered (suc n) xs)) in (
      record {
        sort = subst (λ (d : AttrDecl). IsSortOf x.kind (sort_of d.kind)) (sym first) (is_sort x.kind);
        name = ap (λ (d : AttrDecl). d.name) first;
      },
      are_of greatest g (suc n) xs (λ p h. each p (later_in (n, x) p (numbered (suc n) xs) h)),
    )

pub shared_kept : OfMeanings SharedAreKept
shared_kept greatest g i x at =
    subst (λ (y : Interface). AreOf (grammar_of greatest g).sort (names_of g).attribute_name ((grammar_of greatest g).shared i) y.attrs)
    (get_or_from_slice_get g.interfaces i x (trees.interface [] [] []) at)
    (are_of greatest g (shared_count (take i g.interfaces)) (interface_at g i).attrs (λ p h. (shared_at g i p h).1))

pub private_kept : OfMeanings PrivateAreKept
private_kept greatest g k x at =
    subst (λ (y : Class). AreOf (grammar_of greatest g).sort (names_of g).attribute_name ((grammar_of greatest g).private k) y.attrs)
    (get_or_from_slice_get g.classes k x (trees.class [] [] [] [] []) at)
    (are_of greatest g (shared_count g.interfaces + own_count (take k g.classes)) (class_at g k).attrs
    (λ p h. (own_at g k p h).1))

pub counted : OfMeanings AttributesAreCounted
counted greatest g =
    sym (length-append (flat_map (λ (x : Interface). x.attrs) g.interfaces) (flat_map (λ (x : Class). x.attrs) g.classes))

pub in_order : OfMeanings NumbersFollowTheText
in_order greatest g = declared_in_order greatest g ∙ ap (range_with_len 0) (counted greatest g)

pub distinct : OfMeanings NumbersAreDistinct
distinct greatest g =
    subst AreDistinct (sym (declared_in_order greatest g)) (distinct-range 0 (grammar_of greatest g).attribute_count)

pub are_declared : OfMeanings NumbersAreDeclared
are_declared greatest g a =
    let n = (grammar_of greatest g).attribute_count in
    let numbers = declared_in_order greatest g in (
      (λ below. subst (λ ns. Contains ns a) (sym numbers) (range_has 0 n a (omega arith) (omega (arith, below)))),
      (λ there.
          let high = (in_range_from 0 n a (subst (λ ns. Contains ns a) numbers there)).1 in omega (arith, high)),
    )

-- a number and the declaration at its place stand together
pub entry_at : (base : ℕ) (xs : List AttrDecl) (n a : ℕ) (d : AttrDecl)
    → slice_get (map (λ a. a.0) (numbered base xs)) n ≡ Some a → slice_get xs n ≡ Some d
    → Contains (numbered base xs) (a, d)
entry_at base [] n a d at_a at_d = absurd (none-some d at_d)
entry_at base (x ∷ xs) zero a d at_a at_d =
    subst (Contains ((base, x) ∷ numbered (suc base) xs))
    (ap₂ (λ (m : ℕ) (e : AttrDecl). (m, e)) (same_Some base a at_a) (same_Some x d at_d))
    (here_in (base, x) (numbered (suc base) xs))
entry_at base (x ∷ xs) (suc n) a d at_a at_d =
    later_in (base, x) (a, d) (numbered (suc base) xs) (entry_at (suc base) xs n a d at_a at_d)
