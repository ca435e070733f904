-- The effect of each step on the count for the seat that makes it.
use Rattle.std.specs.Prelude.{◌≡◌, ◌≢◌, ℕ}
use Rattle.atomic_table.specs.Table.{Step, Me}
use Rattle.ftl_pool.specs.Count.{Counted, IsMoment, after_load, after_put, after_take}

-- what a seat knows, with the slots that it holds, which are none
abbrev pub Known : Type 0
Known = Me ℕ Counted

-- a load tells the seat what the count held, in a state that steps lead to
abbrev pub load_effect : Step ℕ → Known → ℕ → Known → Type 0
load_effect st me n new = IsMoment n me.0 × (new ≡ (after_load me.0 n, me.1))

-- an addition tells the seat that it put one more item
abbrev pub put_effect : Step ℕ → Known → ℕ → Known → Type 0
put_effect st me n new = new ≡ (after_put me.0, me.1)

-- a compare-exchange tells the seat that it took one more item where the count was the number that it compares with,
-- and nothing where it was another
abbrev pub take_effect : Step ℕ → Known → ℕ → Known → Type 0
take_effect st me n new = (n ≡ st.first → new ≡ (after_take me.0, me.1)) × (n ≢ st.first → new ≡ me)
