-- Each kind of step on a deque keeps its rule.
use Rattle.std.proofs.Common.{ℕ, List, [], ◌∷◌, ◌++◌, refl, arith}
use Rattle.std.proofs.lemmas.List.Sums.{sum_by-append, sum_by_push}
use Rattle.std.specs.List.{sum_by}
use Rattle.crossbeam_deque.specs.Tasks as tasks
use Rattle.ftl_pool.specs.Deque.{PassModel, new_pass, IsFair, puts_effect, takes_effect}
use Rattle.ftl_pool.proofs.Balances.{sum_by_set}

pub begins_fair : IsFair [] (new_pass ∷ [])
begins_fair weight = refl

pub puts_fairly : (port : ℕ) (v : PassModel) (xs : List ℕ) → tasks.Pushes IsFair port v xs (puts_effect v xs)
puts_fairly port v xs items views fair at =
    let w : PassModel = record { put = v.put ++ xs; taken = v.taken } in (
      w,
      (λ weight.
          omega (
            arith,
            fair weight,
            sum_by_set (λ (p : PassModel). sum_by weight p.put) views port v w at,
            sum_by_set (λ (p : PassModel). sum_by weight p.taken) views port v w at,
            sum_by-append weight v.put xs,
            sum_by-append weight items xs,
          )),
      refl,
    )

pub takes_fairly : (port most : ℕ) (v : PassModel) → tasks.Takes IsFair port v most (takes_effect v)
takes_fairly port most v xs items views some_left few fair at =
    let w : PassModel = record { put = v.put; taken = v.taken ++ xs } in (
      w,
      (λ weight.
          omega (
            arith,
            fair weight,
            sum_by_set (λ (p : PassModel). sum_by weight p.put) views port v w at,
            sum_by_set (λ (p : PassModel). sum_by weight p.taken) views port v w at,
            sum_by-append weight v.taken xs,
            sum_by-append weight xs items,
          )),
      refl,
    )

pub admits_fairly : tasks.Admits IsFair new_pass
admits_fairly items views fair weight =
    omega (
      arith,
      fair weight,
      sum_by_push (λ (p : PassModel). sum_by weight p.put) views new_pass,
      sum_by_push (λ (p : PassModel). sum_by weight p.taken) views new_pass,
    )
