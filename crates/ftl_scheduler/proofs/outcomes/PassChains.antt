-- The chain of passes as it grows.
use Rattle.std.proofs.Common.{◌≡◌, ◌⊎◌, ◌↔◌, ◌≢◌, ℕ, ◌<◌, refl, sym, ◌∙◌, ap, subst, inl, inr}
use Rattle.std.proofs.Common.{⊎_elim, List, [], ◌∷◌, ◌++◌, flat_map, append_assoc, append-nil, Contains}
use Rattle.std.specs.FinSet as set
use Rattle.std.proofs.lemmas.Bool.{true≢false}
use Rattle.std.proofs.lemmas.List.Elements.{Contains-append_cases, Contains-append_left, Contains-append_right}
use Rattle.ftl_model.proofs.lists.Elements.{here_in, in_cases, nothing_in}
use Rattle.ftl_model.specs.layout.AttributeGrammar.{AttributeGrammar}
use Rattle.ftl_order.specs.orders.Lawful.{IsLawful}
use Rattle.ftl_order.specs.orders.Schedule.{Pass, Schedule, entries}
use Rattle.ftl_order.specs.automatic.Automatic.{IsChain, IsChainAfter, IsNext}
use Rattle.ftl_scheduler.specs.largest_sets.Rows.{Has, Row}
use Rattle.ftl_scheduler.proofs.largest_sets.Marks.{lacking, lacking_covers}
use Rattle.ftl_scheduler.proofs.largest_sets.Turns.{put_cases, put_here, put_more}
use Rattle.ftl_scheduler.specs.outcomes.ConstraintRows.{AreNew, AreTablesOf, HasComputed, IsRowOf}
use Rattle.ftl_scheduler.specs.declared.outcomes.next.Tables.{Tables}

entries_push : (s : Schedule) (p : Pass) → entries (s ++ (p ∷ []) ∷ []) ≡ entries s ++ p.attributes
entries_push [] p = append-nil (p.attributes ++ []) ∙ append-nil p.attributes
entries_push (x ∷ s) p =
    ap (λ rest. of_stage x ++ rest) (entries_push s p) ∙ sym (append_assoc (of_stage x) (entries s) p.attributes)
  where
    of_stage : List Pass → List ℕ
    of_stage passes = flat_map (λ (pass : Pass). pass.attributes) passes

-- the passes so far, and what is done by them
pub record IsPassing (t : Tables) (all : Row) (s : Schedule) (done : Row) : Type 0 where
  pub row : IsRowOf (entries s) done
  pub chain :
      (g : AttributeGrammar) → IsLawful g → AreTablesOf g t → HasComputed g all → (rest : Schedule)
      → IsChainAfter g (entries s) rest → IsChain g (s ++ rest)

module _ (t : Tables) (all : Row) where
  pub passing_none : (done : Row) → done ≡ set.empty → IsPassing t all [] done
  passing_none done e =
      record {
        row = λ a. (
          (λ h. absurd (true≢false (sym h ∙ ap (λ r. set.contains r a) e ∙ set.contains-empty _ a))),
          (λ h. absurd (nothing_in a h)),
        );
        chain = λ g law tables computed rest h. h;
      }

  -- the next pass, which the rows find for each grammar that they are of
  abbrev pub IsNextPass : Row → Pass → Type 0
  IsNextPass done pass =
      (g : AttributeGrammar) (list : List ℕ) → IsLawful g → AreTablesOf g t → HasComputed g all → IsRowOf list done
      → IsNext g list pass

  pub passing_more : (s new : Schedule) (done new_done : Row) (pass : Pass) → IsPassing t all s done → IsNextPass done pass
      → pass.attributes ≢ [] → ((b : ℕ) → Has new_done b ↔ (Has done b ⊎ Contains pass.attributes b))
      → new ≡ s ++ (pass ∷ []) ∷ [] → IsPassing t all new new_done
  passing_more s new done new_done pass p next some both e =
      subst (λ n. IsPassing t all n new_done) (sym e)
      (record {
        row = λ a. (
          (λ h.
              subst (λ xs. Contains xs a) (sym (entries_push s pass))
              (⊎_elim (λ old. Contains-append_left (entries s) pass.attributes a ((p.row a).0 old))
              (λ here. Contains-append_right (entries s) pass.attributes a here) ((both a).0 h))),
          (λ h.
              (both a).1
              (⊎_elim (λ old. inl ((p.row a).1 old)) (λ here. inr here)
              (Contains-append_cases (entries s) pass.attributes a (subst (λ xs. Contains xs a) (entries_push s pass) h)))),
        );
        chain = λ g law tables computed rest h.
            subst (IsChain g) (sym (append_assoc s ((pass ∷ []) ∷ []) rest))
            (p.chain g law tables computed ((pass ∷ []) ∷ rest) (
              pass,
              refl,
              next g (entries s) law tables computed p.row,
              some,
              subst (λ xs. IsChainAfter g xs rest) (entries_push s pass) h,
            ));
      })

  pub passing_end : (g : AttributeGrammar) → IsLawful g → AreTablesOf g t → HasComputed g all → (s : Schedule) (done : Row)
      (pass : Pass) → IsPassing t all s done → IsNextPass done pass → pass.attributes ≡ [] → IsChain g s
  passing_end g law tables computed s done pass p next none =
      subst (IsChain g) (append-nil s)
      (p.chain g law tables computed [] (pass, next g (entries s) law tables computed p.row, none))

-- a pass that is not empty adds to what is done
pub fewer_lacking : (all done new : Row) (list : List ℕ) → ((a : ℕ) → Has all a → a < 2048) → AreNew all done list
    → list ≢ [] → ((b : ℕ) → Has new b ↔ (Has done b ⊎ Contains list b)) → lacking new < lacking done
fewer_lacking all done new [] few are_new some both = absurd (some refl)
fewer_lacking all done new (a ∷ list) few are_new some both =
    lacking_covers done new a (few a (are_new a (here_in a list)).0) (are_new a (here_in a list)).1
    ((both a).1 (inr (here_in a list))) (λ b h. (both b).1 (inl h))

-- those of a list that were added
pub record IsAdded (start : Row) (attrs : List ℕ) (row : Row) : Type 0 where
  pub both : (b : ℕ) → Has row b ↔ (Has start b ⊎ Contains attrs b)

pub added_none : (start : Row) (attrs : List ℕ) → attrs ≡ [] → IsAdded start attrs start
added_none start attrs e =
    record {
      both = λ b. (
        (λ h. inl h),
        (λ h. ⊎_elim (λ old. old) (λ here. absurd (nothing_in b (subst (λ xs. Contains xs b) e here))) h),
      );
    }

pub added_more : (start row new : Row) (attrs more : List ℕ) (a : ℕ) → IsAdded start attrs row
    → more ≡ attrs ++ a ∷ [] → new ≡ set.insert row a → IsAdded start more new
added_more start row new attrs more a k e f =
    subst (λ xs. IsAdded start xs new) (sym e)
    (subst (IsAdded start (attrs ++ a ∷ [])) (sym f)
    (record {
      both = λ b. (
        (λ h.
            ⊎_elim
            (λ same.
            inr (Contains-append_right attrs (a ∷ []) b (subst (Contains (a ∷ [])) (sym same) (here_in a []))))
            (λ old.
            ⊎_elim (λ o. inl o) (λ here. inr (Contains-append_left attrs (a ∷ []) b here)) ((k.both b).0 old))
            (put_cases row a b h)),
        (λ h.
            ⊎_elim (λ old. put_more row a b ((k.both b).1 (inl old)))
            (λ there.
            ⊎_elim (λ here. put_more row a b ((k.both b).1 (inr here)))
            (λ last.
            ⊎_elim (λ same. subst (Has (set.insert row a)) same (put_here row a)) (λ none. absurd (nothing_in b none))
            (in_cases a b [] last))
            (Contains-append_cases attrs (a ∷ []) b there)) h),
      );
    }))
