use Rattle.std.proofs.Common.{◌≡◌, ◌<◌, refl, ap, ⊎_elim, arith, [], ◌∷◌, get_or, Contains}
use Rattle.std.specs.Prelude.{codes}
use Rattle.ftl_model.proofs.lists.Elements.{here_in, in_cases, in_range_from, later_in, nothing_in}
use Rattle.ftl_model.specs.layout.Values.{narrow}
use Rattle.ftl_grammar.specs.syntax.Trees as trees
use Rattle.ftl_grammar.specs.declared.syntax.rules.AttrKind.TheVariants as kinds
use Rattle.ftl_grammar.specs.declared.syntax.rules.Interface.{Interface}
use Rattle.ftl_meaning.specs.faults.Numbering.{class_at, interface_at}
use Rattle.ftl_meaning.specs.grammars.GrammarOf.{grammar_of}
use Rattle.ftl_meaning.specs.grammars.Worked.{shown_backwards}
use Rattle.ftl_meaning.specs.names.Shown.{IsClassUnder}
use Rattle.ftl_meaning.proofs.names.lossy.lost_shown_names_are_refused.Goals as goal

abbrev y : Interface
y = interface_at shown_backwards 0

under : IsClassUnder shown_backwards (grammar_of narrow shown_backwards) 0 y
under = record { class = class_at shown_backwards 0; there = refl; under = refl }

-- b is no shown name
b_among : Contains (codes "c" ∷ codes "a" ∷ []) (codes "b") → ⊥
b_among h =
    ⊎_elim (λ e. let z : 99 ≡ 98 = ap (λ ns. get_or ns 0 0) e in omega (arith, z))
    (λ h.
    ⊎_elim (λ e. let z : 97 ≡ 98 = ap (λ ns. get_or ns 0 0) e in omega (arith, z)) (nothing_in (codes "b"))
    (in_cases (codes "a") (codes "b") [] h))
    (in_cases (codes "c") (codes "b") (codes "a" ∷ []) h)

pub returns : goal.returns
returns c = record {
  backwards = λ h. let e : 2 < 0 = (h 0 y under).0 0 (here_in 0 []) in omega (arith, e);
  twice = λ h. let e : 0 < 0 = (h 0 y under).0 0 (here_in 0 (2 ∷ [])) in omega (arith, e);
  lost =
      λ h.
      ⊎_elim (λ e. let z : 0 ≡ 2 = e in omega (arith, z)) (nothing_in 2)
      (in_cases 0 2 [] ((h 0 y under 2 2 (trees.attr_decl kinds.Syn (codes "c")) refl refl).1 (here_in (codes "c") (codes "a" ∷ []))));
  more = λ h. b_among ((h 0 y under 1 1 (trees.attr_decl kinds.Syn (codes "b")) refl refl).0 (later_in 0 1 (1 ∷ 2 ∷ []) (here_in 1 (2 ∷ []))));
  foreign =
      λ h.
      let e = (in_range_from 0 3 3 (h 0 y under 3 (later_in 0 3 (2 ∷ 3 ∷ []) (later_in 2 3 (3 ∷ []) (here_in 3 []))))).1 in
      omega (arith, e);
}
