-- The queue of a net, step by step.
use Rattle.std.proofs.Common.{ℤ, ◌≡◌, ◌≢◌, ◌⊎◌, ℕ, ◌+◌, ◌<◌, ◌≤◌, Bool, true, false, refl, sym, ◌∙◌, ap, subst, inl, inr, ⊎_elim, arith, List, [], ◌∷◌, Contains, length, get_or, get_or-set_other}
use Rattle.std.specs.List.{All}
use Rattle.std.proofs.Math.IntN.{ℤ_discrete}
use Rattle.std.proofs.lemmas.List.{get_or-set_same}
use Rattle.ftl_model.proofs.lists.Elements.{here_in, in_cases, later_in, nothing_in}
use Rattle.ftl_model.specs.layout.Values.{Value, number, overflow}
use Rattle.ftl_order.proofs.orders.EquationSystem.{System}
use Rattle.ftl_relayout.specs.queue.Nets.{IsKeyOf, IsLawfulNet, IsStep, Net, table}
use Rattle.ftl_relayout.specs.queue.Ready.{HasChangedRead, HoldsAtSteps, IsDone, IsReady, IsRun}
use Rattle.ftl_relayout.specs.queue.Trails.{cells_of, total_cost, undone}
use Rattle.ftl_relayout.specs.queue.Waiting.{IsTaken}
use Rattle.ftl_relayout.specs.declared.queue.trail.Before.{Before}
use Rattle.ftl_relayout.proofs.queue.Queues.{At, Keys, Step, computes, ends, next, ran_touched, starts}

abbrev number_of : Value → ℤ
number_of (number z) = z
number_of overflow = Rattle.std.specs.Prelude.pos 0

pub same_or_not : (v w : Value) → (v ≡ w) ⊎ (v ≢ w)
same_or_not overflow overflow = inl refl
same_or_not overflow (number z) = inr (λ e. let x : ⊥ = cc in x)
same_or_not (number z) overflow = inr (λ e. let x : ⊥ = cc in x)
same_or_not (number y) (number z) = go (ℤ_discrete y z)
  where
    go : Dec (y ≡ z) → (number y ≡ number z) ⊎ (number y ≢ number z)
    go (yes e) = inl (ap number e)
    go (no d) = inr (λ e. d (ap number_of e))

module _ (n : Net) (law : IsLawfulNet n) where
  abbrev pub system : System ℕ Value
  system = record {
    Valid = λ i. i < n.cells;
    Reads = λ i j. Contains (n.reads i) j;
    value = n.value;
    alone = law.alone;
    inside = law.inside;
  }

  abbrev pub Given : ℕ → Type 0
  Given i = n.is_step i ≡ false

  pub given_or_not : (i : ℕ) → Given i ⊎ (Given i → ⊥)
  given_or_not i = go (n.is_step i)
    where
      go : (b : Bool) → (b ≡ false) ⊎ (b ≡ false → ⊥)
      go true = inr (λ e. let x : ⊥ = grind arith in x)
      go false = inl refl

  abbrev pub IsStepHere : ℕ → Type 0
  IsStepHere i = Step system Given given_or_not same_or_not n.key i

  pub to_step : (i : ℕ) → IsStepHere i → IsStep n i
  to_step i s = record { within = s.0; computed = go (n.is_step i) s.1 }
    where
      go : (b : Bool) → (b ≡ false → ⊥) → b ≡ true
      go true h = refl
      go false h = absurd (h refl)

  pub from_step : (i : ℕ) → IsStep n i → IsStepHere i
  from_step i s = (s.within, (λ e. let c = s.computed in let x : ⊥ = grind (arith, c, e) in x))

  pub keys : Keys system Given given_or_not same_or_not n.key
  keys = record {
    rises = λ i j si r sj. law.rises i j (to_step i si) r (to_step j sj);
    one = λ i j si sj e. law.one i j (to_step i si) (to_step j sj) e;
  }

  -- a step whose key is in the queue
  abbrev pub Waits : List ℕ → ℕ → Type 0
  Waits ks i = IsStep n i × Contains ks (n.key i)

  abbrev pub Now : (old final : ℕ → Value) → (done : List ℕ) → (waiting : List ℕ) → (values : List Value) → Type 0
  Now old final done ks values =
      At system Given given_or_not same_or_not n.key keys old final done (Waits ks) (table values)

  pub at_first : (old final : ℕ → Value) (values : List Value) (ks : List ℕ) → IsReady n old final values ks
      → Now old final [] ks values
  at_first old final values ks r =
      starts system Given given_or_not same_or_not n.key keys old final
      (λ i s. r.old_holds i (to_step i s)) (λ i s. r.final_holds i (to_step i s))
      (Waits ks) (table values)
      (λ i valid given. r.inputs i valid given) (λ i s. r.stays i (to_step i s))
      (λ i s c. (to_step i s, r.due i (to_step i s) c))
      (λ i w.
      let d = r.only (n.key i) w.1 in
      let is = law.one d.cell i d.step w.0 d.key_is in
      (from_step i w.0, subst (HasChangedRead n old (table values)) is d.changed))

  module _ (old final : ℕ → Value) (old_holds : HoldsAtSteps n old) (final_holds : HoldsAtSteps n final) where
    holds_old : (i : ℕ) → IsStepHere i → old i ≡ n.value old i
    holds_old i s = old_holds i (to_step i s)

    holds_final : (i : ℕ) → IsStepHere i → final i ≡ n.value final i
    holds_final i s = final_holds i (to_step i s)

    pub step_on : (key : ℕ) (rest after : List ℕ) (v w : List Value) (trail longer : List Before)
        → length v ≡ n.cells
        → ((k : ℕ) → Contains rest k → key < k)
        → Now old final (cells_of trail) (key ∷ rest) v
        → IsRun n key v w rest after trail longer
        → Now old final (cells_of longer) after w
    step_on key rest after v w trail longer count above now r =
        subst (λ d. Now old final d after w) (sym r.ran)
        (next system Given given_or_not same_or_not n.key keys old final holds_old holds_final (cells_of trail)
        (Waits (key ∷ rest)) (table v) now r.cell waits least (table w) (Waits after)
        (record {
          there = there;
          others = λ j valid differ.
              ap (λ vs. get_or vs j overflow) r.written
              ∙ get_or-set_other v r.cell j (n.value (table v) r.cell) overflow differ;
          kept = λ q wq differ. (
            wq.0,
            r.kept (n.key q)
                (⊎_elim
                (λ e. absurd (differ (law.one q r.cell wq.0 r.step (sym e ∙ sym r.key_is)))) (λ h. h)
                (in_cases key (n.key q) rest wq.1)),
          );
          readers = λ q sq reads differ. (
            to_step q sq,
            r.readers (λ e. differ (sym value_is ∙ e ∙ was))
                (n.key q)
                (record { reader = q; step = to_step q sq; reads = reads; key_is = refl }),
          );
          no_others = λ q wq.
              ⊎_elim
              (λ h. inl (
                (wq.0, later_in key (n.key q) rest h),
                (λ e.
                    let a = above (n.key q) h in
                    let k : n.key q ≡ key = ap n.key e ∙ r.key_is in
                    let x : ⊥ = omega (arith, a, k) in x),
              ))
              (λ new.
              let is = law.one new.0.reader q new.0.step wq.0 new.0.key_is in
              inr (
                from_step q wq.0,
                subst (λ x. Contains (n.reads x) r.cell) is new.0.reads,
                (λ e. new.1 (value_is ∙ e ∙ sym was)),
              ))
              (r.no_others (n.key q) wq.1);
        }))
      where
        waits : Waits (key ∷ rest) r.cell
        waits = (r.step, subst (Contains (key ∷ rest)) (sym r.key_is) (here_in key rest))

        least : (q : ℕ) → Waits (key ∷ rest) q → n.key r.cell ≤ n.key q
        least q wq =
            let k = r.key_is in
            ⊎_elim (λ e. omega (arith, e, k)) (λ h. let a = above (n.key q) h in omega (arith, a, k))
            (in_cases key (n.key q) rest wq.1)

        value_is : n.value (table v) r.cell ≡ final r.cell
        value_is =
            computes system Given given_or_not same_or_not n.key keys old final holds_old holds_final (cells_of trail)
            (Waits (key ∷ rest)) (table v) now r.cell waits least

        there : table w r.cell ≡ final r.cell
        there =
            ap (λ vs. get_or vs r.cell overflow) r.written
            ∙ get_or-set_same v r.cell (n.value (table v) r.cell) overflow
            (let b = r.step.within in omega (arith, b, count))
            ∙ value_is

        was : table v r.cell ≡ old r.cell
        was =
            now.stays r.cell (from_step r.cell r.step)
            (λ h. let x = now.earlier r.cell r.cell h waits in omega (arith, x))

    pub at_last : (v : List Value) (trail : List Before) → Now old final (cells_of trail) [] v
        → IsDone n old final v (cells_of trail)
    at_last v trail now = record {
      values_are = λ i within.
          ends system Given given_or_not same_or_not n.key keys old final holds_old holds_final (cells_of trail)
          (Waits []) (table v) now (λ q w. nothing_in (n.key q) w.1) i within;
      touched = λ i.
          let t =
          ran_touched system Given given_or_not same_or_not n.key keys old final holds_old holds_final (cells_of trail)
          (Waits []) (table v) now (λ q w. nothing_in (n.key q) w.1) i in (
            (λ h. let u = t.0 h in (to_step i u.0, u.1, u.2, u.3)),
            (λ h. t.1 (from_step i h.0, h.1, h.2, h.3)),
          );
      once = now.once;
    }

-- what the loop over the queue keeps
pub record IsRunning (n : Net) (first : List Value) (begin : List ℕ) (spent_before : ℕ) (values : List Value)
    (waiting : List ℕ) (trail : List Before) (spent least : ℕ) : Type 0 where
  pub count : length values ≡ n.cells
  pub known : (k : ℕ) → Contains waiting k → IsKeyOf n k
  pub low : (k : ℕ) → Contains waiting k → least ≤ k
  pub now :
      (law : IsLawfulNet n) (old final : ℕ → Value) → IsReady n old final first begin
      → Now n law old final (cells_of trail) waiting values
  pub grown : spent_before ≤ spent
  pub cost : spent ≤ spent_before + total_cost n.cost (cells_of trail)
  pub undone_is : undone trail values ≡ first
  pub within : All (λ b. b.cell < length values) trail

pub running_first : (n : Net) (first : List Value) (begin : List ℕ) (spent : ℕ) → length first ≡ n.cells
    → ((k : ℕ) → Contains begin k → IsKeyOf n k)
    → IsRunning n first begin spent first begin [] spent 0
running_first n first begin spent count known = record {
  count = count;
  known = known;
  low = λ k h. omega arith;
  now = λ law old final ready. at_first n law old final first begin ready;
  grown = omega arith;
  cost = omega arith;
  undone_is = refl;
  within = λ k d below. absurd (let x : ⊥ = omega (arith, below) in x);
}

pub running_on : (n : Net) → IsLawfulNet n → (first : List Value) (begin : List ℕ) (spent_before : ℕ)
    (values : List Value) (rest : List ℕ) (trail : List Before) (spent least key : ℕ)
    (w : List Value) (after : List ℕ) (longer : List Before) (more : ℕ)
    → IsRunning n first begin spent_before values (key ∷ rest) trail spent least
    → ((k : ℕ) → Contains rest k → key < k)
    → IsRun n key values w rest after trail longer
    → length w ≡ length values
    → spent ≤ more
    → more + total_cost n.cost (cells_of trail) ≤ spent + total_cost n.cost (cells_of longer)
    → undone longer w ≡ undone trail values
    → All (λ b. b.cell < length w) longer
    → IsRunning n first begin spent_before w after longer more (key + 1)
running_on n law first begin spent_before values rest trail spent least key w after longer more r above run same up few
    back within = record {
      count = same ∙ r.count;
      known = λ k h.
          ⊎_elim (λ old. r.known k (later_in key k rest old))
          (λ new. record { cell = new.0.reader; step = new.0.step; key_is = new.0.key_is }) (run.no_others k h);
      low = λ k h.
          ⊎_elim (λ old. let a = above k old in omega (arith, a))
          (λ new.
          let up = law.rises new.0.reader run.cell new.0.step new.0.reads run.step in
          let a = new.0.key_is in
          let b = run.key_is in
          omega (arith, up, a, b)) (run.no_others k h);
      now = λ law old final ready.
          step_on n law old final ready.old_holds ready.final_holds key rest after values w trail longer r.count above
          (r.now law old final ready) run;
      grown = let g = r.grown in omega (arith, g, up);
      cost = let c = r.cost in omega (arith, c, few);
      undone_is = back ∙ r.undone_is;
      within = within;
    }

-- what is kept speaks of what waits, in whatever list
pub running_as : (n : Net) (first : List Value) (begin : List ℕ) (spent_before : ℕ) (values : List Value)
    (waiting others : List ℕ) (trail : List Before) (spent least : ℕ)
    → ((k : ℕ) → Contains others k → Contains waiting k) → ((k : ℕ) → Contains waiting k → Contains others k)
    → IsRunning n first begin spent_before values waiting trail spent least
    → IsRunning n first begin spent_before values others trail spent least
running_as n first begin spent_before values waiting others trail spent least back into r = record {
  count = r.count;
  known = λ k h. r.known k (back k h);
  low = λ k h. r.low k (back k h);
  now = λ law old final ready.
      let a = r.now law old final ready in
      record {
        inputs = a.inputs;
        stays = a.stays;
        ran = a.ran;
        earlier = λ i q h w. a.earlier i q h (w.0, back (n.key q) w.1);
        due = λ i step c. ⊎_elim (λ d. inl d) (λ w. inr (w.0, into (n.key i) w.1)) (a.due i step c);
        only = λ i w. a.only i (w.0, back (n.key i) w.1);
        once = a.once;
      };
  grown = r.grown;
  cost = r.cost;
  undone_is = r.undone_is;
  within = r.within;
}

-- the same of a net that is another by name alone
pub running_same : (m n : Net) → m ≡ n → IsLawfulNet n → (first : List Value) (begin : List ℕ) (spent_before : ℕ)
    (values : List Value) (waiting rest : List ℕ) (trail : List Before) (spent least key : ℕ)
    (w : List Value) (after : List ℕ) (longer : List Before) (more : ℕ)
    → IsTaken waiting rest key
    → IsRunning n first begin spent_before values waiting trail spent least
    → IsRun m key values w rest after trail longer
    → length w ≡ length values
    → spent ≤ more
    → more + total_cost m.cost (cells_of trail) ≤ spent + total_cost m.cost (cells_of longer)
    → undone longer w ≡ undone trail values
    → All (λ b. b.cell < length w) longer
    → IsRunning n first begin spent_before w after longer more (key + 1)
running_same m n is law first begin spent_before values waiting rest trail spent least key w after longer more taken r run
    same up few back within =
    running_on n law first begin spent_before values rest trail spent least key w after longer more
    (running_as n first begin spent_before values waiting (key ∷ rest) trail spent least
    (λ k h. ⊎_elim (λ e. subst (Contains waiting) e taken.was) (λ l. taken.only k l) (in_cases key k rest h))
    (λ k h.
    ⊎_elim (λ e. subst (Contains (key ∷ rest)) e (here_in key rest)) (λ l. later_in key k rest l) (taken.keeps k h)) r)
    taken.above
    (subst (λ x. IsRun x key values w rest after trail longer) is run) same up
    (subst (λ x. more + total_cost x.cost (cells_of trail) ≤ spent + total_cost x.cost (cells_of longer)) is few) back within
