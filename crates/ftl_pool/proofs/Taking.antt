-- What a hold took, deque by deque, after it looked into each.
use Rattle.std.proofs.Common.{◌≡◌, ℕ, suc, ◌≤◌, List, [], ◌∷◌, ◌++◌, map, length, get_or, set, subst, refl, sym, ap, ◌∙◌, arith}
use Rattle.std.proofs.lemmas.List.{get_or-set_same, get_or-set_other, get_or-map, map-set, append_assoc, append-nil, length-map, length-set}
use Rattle.std.proofs.lemmas.List.Elements.{All-nil, All-push}
use Rattle.std.proofs.Math.Seq.{map-set_same}
use Rattle.std.specs.Prelude.{Option, Some, None}
use mathlib.Core.Logic.{dite}
use native.Mathlib.Decide.{ℕ_discrete}
use Rattle.ftl_pool.specs.Deque.{DequeName, ThiefModel, TakesItem, OneThiefTakes, TakesFromOne, TakesOutside, AllTakeOutside}

-- what was taken by each of these thieves
abbrev pub by_thieves : List ThiefModel → List (List ℕ)
by_thieves = map (λ t. t.pass.taken)

-- which deques these thieves take from
abbrev pub names_of : List ThiefModel → List DequeName
names_of = map (λ t. t.deque)

-- the first deque gave an item
pub own_takes : (own next : List ℕ) (others : List (List ℕ)) (item : ℕ) → TakesItem own (Some item) next
    → TakesFromOne (own ∷ others) (Some item) (next ∷ others)
own_takes own next others item e = (0, omega arith, ap (λ (x : List ℕ). x ∷ others) e)

-- the first gave none, and the others are looked at
pub thieves_take : (own next : List ℕ) (thieves after : List ThiefModel) (answer : Option ℕ) → next ≡ own
    → OneThiefTakes thieves answer after → TakesFromOne (own ∷ by_thieves thieves) answer (next ∷ by_thieves after)
thieves_take own next thieves after None same e = λ i. same i ∷ by_thieves (e i)
thieves_take own next thieves after (Some item) same takes =
    let at : ℕ = takes.0 in
    let thief : ThiefModel = takes.1 in
    let taken : thief.pass.taken ≡ get_or (by_thieves thieves) at [] ++ item ∷ [] =
    ap (λ p. p.taken) takes.3.1
    ∙ ap (λ (x : List ℕ). x ++ item ∷ [])
    (sym (get_or-map (λ (t : ThiefModel). t.pass.taken) thieves at thief [] takes.2)) in
    let all : by_thieves after ≡ set (by_thieves thieves) at (get_or (by_thieves thieves) at [] ++ item ∷ []) =
    ap by_thieves takes.4 ∙ map-set (λ (t : ThiefModel). t.pass.taken) thieves at thief
    ∙ ap (set (by_thieves thieves) at) taken in
    (suc at, omega (arith, takes.2, length-map thieves (λ (t : ThiefModel). t.pass.taken)), λ i. same i ∷ all i)

-- each takes from the deque that it took from before
pub thieves_stay : (thieves after : List ThiefModel) (answer : Option ℕ) → OneThiefTakes thieves answer after
    → names_of after ≡ names_of thieves
thieves_stay thieves after None e = ap names_of e
thieves_stay thieves after (Some item) takes =
    ap names_of takes.4
    ∙ map-set_same (λ (t : ThiefModel). t.deque) thieves takes.0 takes.1 takes.1 takes.3.0

-- nothing was skipped yet
pub none_outside : (items : ℕ) (taken : List (List ℕ)) → AllTakeOutside items taken taken
none_outside items taken = record {
  count = refl;
  each = λ deque. record {
    more = [];
    is = sym (append-nil (get_or taken deque []));
    over = All-nil (λ x. items ≤ x);
  };
}

-- one more item is skipped
one_more_outside : (items item : ℕ) (taken before next : List ℕ) → items ≤ item → TakesOutside items taken before
    → next ≡ before ++ item ∷ [] → TakesOutside items taken next
one_more_outside items item taken before next over s e = record {
  more = s.more ++ item ∷ [];
  is = e ∙ ap (λ (x : List ℕ). x ++ item ∷ []) s.is ∙ append_assoc taken s.more (item ∷ []);
  over = All-push (λ x. items ≤ x) s.more item s.over over;
}

pub all_more_outside : (items item : ℕ) (taken before next : List (List ℕ)) → items ≤ item → AllTakeOutside items taken before
    → TakesFromOne before (Some item) next → AllTakeOutside items taken next
all_more_outside items item taken before next over s t =
    let at : ℕ = t.0 in
    let new : List ℕ = get_or before at [] ++ item ∷ [] in record {
      count = ap length t.2 ∙ length-set before at new ∙ s.count;
      each = λ deque. dite (ℕ_discrete deque at)
          (λ e. one_more_outside items item (get_or taken deque []) (get_or before deque []) (get_or next deque []) over
          (s.each deque)
          (ap (λ (x : List (List ℕ)). get_or x deque []) t.2
          ∙ subst (λ (k : ℕ). get_or (set before at new) k [] ≡ get_or before k [] ++ item ∷ []) (sym e)
          (get_or-set_same before at new [] t.1)))
          (λ ne. subst (TakesOutside items (get_or taken deque []))
          (sym (ap (λ (x : List (List ℕ)). get_or x deque []) t.2 ∙ get_or-set_other before at deque new [] ne))
          (s.each deque));
    }
