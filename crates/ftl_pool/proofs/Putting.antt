-- A hold that puts an item that it has not put has room for it.
use Rattle.std.proofs.Common.{◌≡◌, ℕ, ◌<◌, ◌≤◌, true, false, length, ap, ◌∙◌, List, [], ◌∷◌, ◌++◌, get_or, subst, refl, sym, eqb, arith}
use Rattle.std.specs.List.{All, IsDistinct, list_any}
use Rattle.std.proofs.lemmas.Bool.{ne_eqb, eqb-true}
use Rattle.std.proofs.lemmas.List.{length-append}
use Rattle.std.proofs.lemmas.List.Elements.{All-nil, All-push}
use Rattle.std.proofs.lemmas.List.Folds.{list_any_none, Any-from_list_any}
use Rattle.std.proofs.lemmas.Map.Keys.{IsDistinct-push}
use Rattle.std.proofs.lemmas.Map.Steps.{length-le_from_distinct_below}
use Rattle.std.specs.Cmp.{nat_eq_equiv}
use Rattle.ftl_pool.specs.Count.{Counted, PoolModel, after_put}
use Rattle.ftl_pool.specs.Pool.{HoldModel, StealHoldModel, IsHoldOf, IsFreshHoldOf, IsFreshStealHoldOf, StealsFromNone, IsNew, ArePut}

-- distinct items of the pool are no more than it has
pub few_put : (state : Counted) (puts : List ℕ) → ArePut state puts → state.puts ≤ state.items
few_put state puts are =
    let each : (q : ℕ) → list_any (eqb q) puts ≡ true → q < state.items = λ q has.
    let at = Any-from_list_any (eqb q) puts has in
    let e : q ≡ at.1 = eqb-true q at.1 at.4 in
    let b : get_or puts at.0 at.1 < state.items = are.below at.0 at.1 at.2 in
    omega (arith, at.3) in
    omega (arith, are.count, length-le_from_distinct_below puts state.items are.once each)

module _ (state : Counted) (puts : List ℕ) (item : ℕ) (are : ArePut state puts) (below : item < state.items)
    (new : IsNew item puts) where
  none_is : list_any (eqb item) puts ≡ false
  none_is = list_any_none (eqb item) puts (λ k d l. ne_eqb item (get_or puts k d) (λ e. new k d l (sym e)))

  distinct : IsDistinct eqb (puts ++ item ∷ [])
  distinct = IsDistinct-push nat_eq_equiv puts item are.once none_is

  all_below : All (λ x. x < state.items) (puts ++ item ∷ [])
  all_below = All-push (λ x. x < state.items) puts item are.below below

  pub are_put : ArePut (after_put state) (puts ++ item ∷ [])
  are_put = record {
    once = distinct;
    below = all_below;
    count = omega (arith, are.count, length-append puts (item ∷ []));
  }

  pub put_fits : state.puts < state.items
  put_fits = omega (arith, few_put (after_put state) (puts ++ item ∷ []) are_put)

none_twice : IsDistinct eqb []
unfolding IsDistinct
none_twice = tt

-- a hold that has put nothing
pub none_put : (state : Counted) (puts : List ℕ) → puts ≡ [] → state.puts ≡ 0 → ArePut state puts
none_put state puts e none = subst (ArePut state) (sym e) (record {
  once = none_twice;
  below = All-nil (λ x. x < state.items);
  count = none;
})

-- what a hold knows of an item that it may put
pub record PutsWell (pool : PoolModel) (hold : HoldModel) (item : ℕ) : Type 0 where
  pub fits : length hold.puts < hold.state.items
  pub few : length hold.puts < pool.items
  pub count : hold.state.puts ≡ length hold.puts
  pub are : ArePut (after_put hold.state) (hold.puts ++ item ∷ [])

pub puts_well : (pool : PoolModel) (hold now : HoldModel) (item : ℕ) → hold ≡ now → IsHoldOf pool now
    → item < pool.items → IsNew item now.puts → ArePut hold.state hold.puts → PutsWell pool hold item
puts_well pool hold now item same made below new are =
    let items : hold.state.items ≡ pool.items = ap (λ (h : HoldModel). h.state.items) same ∙ made.1 in
    let new' : IsNew item hold.puts = subst (λ (h : HoldModel). IsNew item h.puts) (sym same) new in
    let below' : item < hold.state.items = omega (arith, items, below) in
    let fits = put_fits hold.state hold.puts item are below' new' in record {
      fits = omega (arith, fits, are.count);
      few = omega (arith, fits, are.count, items);
      count = are.count;
      are = are_put hold.state hold.puts item are below' new';
    }

-- a hold of deques that has put and taken nothing
pub is_fresh : (pool : PoolModel) (steal : StealHoldModel) → IsFreshHoldOf pool steal.hold → StealsFromNone steal
    → steal.taken ≡ [] ∷ [] → IsFreshStealHoldOf pool steal
is_fresh pool steal fresh none e = record {
  hold = fresh;
  each = omega (arith, ap length e, ap length none);
  taken = subst (All (λ items. items ≡ [])) (sym e)
      (All-push (λ (items : List ℕ). items ≡ []) [] [] (All-nil (λ (items : List ℕ). items ≡ [])) refl);
}
