-- What follows of a row of the code, and a node that is next as code tells it.
use Rattle.std.proofs.Common.{◌≡◌, ℕ, suc, ◌+◌, ◌<◌, sym, subst, ◌∙◌, ap, ap₂, arith, List, ◌∷◌}
use Rattle.std.proofs.Common.{length, drop, length-append, length-drop}
use Rattle.ftl_grammar.specs.declared.syntax.rules.Grammar.{Grammar}
use Rattle.ftl_document.specs.syntax.Written.{NameText, WrittenNode}
use Rattle.ftl_document.specs.declared.syntax.row.WrittenRow.{WrittenRow}
use Rattle.ftl_tree.specs.declared.rows.row.Place.{Place}
use Rattle.ftl_document.specs.nodes.Walk.{IsNext, IsWalked, IsWithin}
use Rattle.ftl_document.specs.nodes.Walk.{all_rows}
use Rattle.ftl_document.specs.nodes.Walk.{rows_left, wanted_of}
use Rattle.ftl_document.specs.declared.nodes.stack.Region.{Region}
use Rattle.ftl_document.specs.declared.nodes.progress.NextNode.{NextNode}
use Rattle.ftl_document.specs.declared.nodes.progress.Progress.{Progress}
use Rattle.ftl_document.proofs.nodes.Regions.{inside}
use Rattle.ftl_document.proofs.nodes.Steps.{Follows, follows, kid_place, next_kid}

module _ (g : Grammar) (node : WrittenNode) (xs : List WrittenRow) (p : Progress) (r : Region) (w : IsWithin p r)
    (h : IsWalked g node xs p) where
  -- what follows of this row
  pub step_at : (row other : WrittenRow) → row ≡ other → drop p.at xs ≡ row ∷ drop (suc p.at) xs
      → Follows g node xs p r w.outer other
  step_at row other is next =
      let i = inside g node xs p r w.outer h w.stack in
      subst (Follows g node xs p r w.outer) is (follows g node xs p r w.outer i.0 i.1 row w.stack w.more next)

  pub class_known : r.class < length g.classes
  class_known =
      let i = inside g node xs p r w.outer h w.stack in
      subst (λ (y : Region). y.class < length g.classes) i.1.same i.1.known

  -- there is a row
  pub row_within : p.at < length xs
  row_within =
      let i = inside g node xs p r w.outer h w.stack in
      let ends = i.1.ends in
      let same = ap (λ (y : Region). y.end) i.1.same in
      let more = w.more in
      let many = length-drop p.at xs in
      let left = ap length i.1.left in
      let both = length-append (rows_left i.0) (all_rows i.1.others) in
      omega (arith, ends, same, more, many, left, both)

-- the same node, as code tells it
pub next_as : (g : Grammar) (node : WrittenNode) (xs : List WrittenRow) (p : Progress) (name told : NameText)
    (wanted w from f end e parent n : ℕ) (place there : Place) → told ≡ name → w ≡ wanted → f ≡ from → e ≡ end
    → n ≡ parent → there ≡ place → IsNext g node xs p name wanted from end parent place
    → IsNext g node xs p told w f e n there
next_as g node xs p name told wanted w from f end e parent n place there one two three four five six h =
    subst (λ z. IsNext g node xs p told w f e n z) (sym six)
    (subst (λ z. IsNext g node xs p told w f e z place) (sym five)
    (subst (λ z. IsNext g node xs p told w f z parent place) (sym four)
    (subst (λ z. IsNext g node xs p told w z end parent place) (sym three)
    (subst (λ z. IsNext g node xs p told z from end parent place) (sym two)
    (subst (λ z. IsNext g node xs p z wanted from end parent place) (sym one) h)))))

-- the next kid of a list, where the region of the list has been replaced
pub kid_next : (g : Grammar) (node : WrittenNode) (xs : List WrittenRow) (p : Progress) (r : Region)
    (outer regions : List Region) (moved : Region) (class : NameText) (below : ℕ) (next : NextNode)
    → p.stack ≡ r ∷ outer → moved ≡ next_kid r → regions ≡ moved ∷ drop 1 p.stack → next.class.now ≡ class
    → next.wanted ≡ wanted_of g r.class r.child → next.from ≡ suc p.at → next.end ≡ suc p.at + below
    → next.parent ≡ r.node → next.place ≡ kid_place r
    → ((rs : List Region) → rs ≡ next_kid r ∷ outer
    → IsNext g node xs (record p { stack = rs }) class (wanted_of g r.class r.child) (suc p.at) (suc p.at + below) r.node
    (kid_place r))
    → IsNext g node xs (record p { stack = regions }) next.class.now next.wanted next.from next.end next.parent next.place
kid_next g node xs p r outer regions moved class below next stack one replaced name wanted from end parent place h =
    next_as g node xs (record p { stack = regions }) class next.class.now (wanted_of g r.class r.child) next.wanted
    (suc p.at) next.from (suc p.at + below) next.end r.node next.parent (kid_place r) next.place name wanted from end
    parent place
    (h regions (replaced ∙ ap₂ (λ (y : Region) (ys : List Region). y ∷ drop 1 ys) one stack))
