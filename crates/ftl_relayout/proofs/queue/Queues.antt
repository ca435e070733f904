-- Equations computed anew by a queue: the least of those that wait goes first, and then waits what reads it, if its
-- value has changed.
use Rattle.std.proofs.Common.{◌≡◌, ◌≢◌, ◌⊎◌, ◌↔◌, ℕ, zero, suc, ◌<◌, ◌≤◌, sym, ◌∙◌, ap, subst, inl, inr, ⊎_elim, arith, List, [], ◌∷◌, ◌++◌, Contains}
use native.Mathlib.Decide.{ℕ_discrete}
use Rattle.ftl_model.specs.lists.Lists.{AreDistinct}
use Rattle.std.proofs.lemmas.List.Elements.{Contains-append_cases, Contains-append_left, Contains-append_right}
use Rattle.ftl_model.proofs.lists.Elements.{distinct-append, here_in, in_cases, later_in, nothing_in}
use Rattle.ftl_order.proofs.orders.EquationSystem.{System}

module _ {I V : Type 0} (e : System I V) (Input : I → Type 0) (kind : (i : I) → Input i ⊎ (Input i → ⊥))
    (same : (v w : V) → (v ≡ w) ⊎ (v ≢ w)) (key : I → ℕ) where
  abbrev pub Step : I → Type 0
  Step i = e.Valid i × (Input i → ⊥)

  -- the key is smaller at what is read, and no two steps have one key
  pub record Keys : Type 0 where
    pub rises : (i j : I) → Step i → e.Reads i j → Step j → key j < key i
    pub one : (i j : I) → Step i → Step j → key i ≡ key j → i ≡ j

  module _ (keys : Keys) (old final : I → V) where
    -- one of the reads has another value than before
    abbrev pub HasChanged : (I → V) → I → Type 0
    HasChanged v i = (j : I) × e.Reads i j × (v j ≢ old j)

    -- the values while these steps are done and those wait
    pub record At (done : List I) (Waits : I → Type 0) (v : I → V) : Type 0 where
      pub inputs : (i : I) → e.Valid i → Input i → v i ≡ final i
      pub stays : (i : I) → Step i → (Contains done i → ⊥) → v i ≡ old i
      pub ran : (i : I) → Contains done i → Step i × (v i ≡ final i) × HasChanged v i
      pub earlier : (i q : I) → Contains done i → Waits q → key i < key q
      pub due : (i : I) → Step i → HasChanged v i → Contains done i ⊎ Waits i
      pub only : (i : I) → Waits i → Step i × HasChanged v i
      pub once : AreDistinct done

    decided : (done : List I) → ((i : I) → Contains done i → Step i) → (i : I) → Step i
        → Contains done i ⊎ (Contains done i → ⊥)
    decided [] steps i step = inr (nothing_in i)
    decided (x ∷ xs) steps i step =
        go (ℕ_discrete (key x) (key i)) (decided xs (λ j h. steps j (later_in x j xs h)) i step)
      where
        go : Dec (key x ≡ key i) → Contains xs i ⊎ (Contains xs i → ⊥) → Contains (x ∷ xs) i ⊎ (Contains (x ∷ xs) i → ⊥)
        go (yes k) rest = inl (subst (Contains (x ∷ xs)) (keys.one x i (steps x (here_in x xs)) step k) (here_in x xs))
        go (no k) (inl later) = inl (later_in x i xs later)
        go (no k) (inr out) = inr (λ h. ⊎_elim (λ s. k (ap key s)) out (in_cases x i xs h))

    reads_same : (v : I → V) (i : I) → (HasChanged v i → ⊥) → (j : I) → e.Reads i j → v j ≡ old j
    reads_same v i none j r = ⊎_elim (λ s. s) (λ d. absurd (none (j, r, d))) (same (v j) (old j))

    module _ (old_holds : (i : I) → Step i → old i ≡ e.value old i)
        (final_holds : (i : I) → Step i → final i ≡ e.value final i) where
      module _ (done : List I) (Waits : I → Type 0) (v : I → V) (now : At done Waits v) where
        in_done : (i : I) → Step i → Contains done i ⊎ (Contains done i → ⊥)
        in_done i step = decided done (λ j h. (now.ran j h).0) i step

        -- what has a smaller key than all that wait has its last value
        pub settled : (bound : ℕ) → ((q : I) → Waits q → bound ≤ key q) → (n : ℕ) (i : I) → Step i → key i < n
            → key i < bound → v i ≡ final i
        settled bound least zero i step less below = absurd (let z : ⊥ = omega (arith, less) in z)
        settled bound least (suc n) i step less below =
            go (in_done i step)
            (λ j r.
            ⊎_elim (λ given. now.inputs j (e.inside i j step.0 r) given)
            (λ computed.
            let up = keys.rises i j step r (e.inside i j step.0 r, computed) in
            settled bound least n j (e.inside i j step.0 r, computed) (omega (arith, up, less)) (omega (arith, up, below)))
            (kind j))
          where
            none : (Contains done i → ⊥) → HasChanged v i → ⊥
            none out c =
                ⊎_elim out (λ w. let b = least i w in let z : ⊥ = omega (arith, b, below) in z) (now.due i step c)

            go : Contains done i ⊎ (Contains done i → ⊥) → ((j : I) → e.Reads i j → v j ≡ final j) → v i ≡ final i
            go (inl ran) read_final = (now.ran i ran).1
            go (inr out) read_final =
                now.stays i step out ∙ old_holds i step
                ∙ e.alone old final i step.0 (λ j r. sym (reads_same v i (none out) j r) ∙ read_final j r)
                ∙ sym (final_holds i step)

        -- the least that waits computes its last value
        pub computes : (i : I) → Waits i → ((q : I) → Waits q → key i ≤ key q) → e.value v i ≡ final i
        computes i waits least =
            let step = (now.only i waits).0 in
            e.alone v final i step.0
            (λ j r.
            ⊎_elim (λ given. now.inputs j (e.inside i j step.0 r) given)
            (λ computed.
            settled (key i) least (key i) j (e.inside i j step.0 r, computed)
            (keys.rises i j step r (e.inside i j step.0 r, computed))
            (keys.rises i j step r (e.inside i j step.0 r, computed)))
            (kind j))
            ∙ sym (final_holds i step)

        -- what waits once this step has its last value: what waited, and what reads it, where that differs
        pub record Moves (i : I) (v' : I → V) (Waits' : I → Type 0) : Type 0 where
          pub there : v' i ≡ final i
          pub others : (j : I) → e.Valid j → (j ≡ i → ⊥) → v' j ≡ v j
          pub kept : (q : I) → Waits q → (q ≡ i → ⊥) → Waits' q
          pub readers : (q : I) → Step q → e.Reads q i → (final i ≢ old i) → Waits' q
          pub no_others : (q : I) → Waits' q
              → (Waits q × (q ≡ i → ⊥)) ⊎ (Step q × e.Reads q i × (final i ≢ old i))

        module _ (i : I) (waits : Waits i) (least : (q : I) → Waits q → key i ≤ key q) (v' : I → V)
            (Waits' : I → Type 0) (moves : Moves i v' Waits') where
          step : Step i
          step = (now.only i waits).0

          out : Contains done i → ⊥
          out h = let z = now.earlier i i h waits in omega (arith, z)

          still : (q : I) → Step q → HasChanged v q → HasChanged v' q
          still q sq c = (
            c.0,
            c.1,
            (λ s. c.2
                (sym (moves.others c.0 (e.inside q c.0 sq.0 c.1)
                (λ is. c.2 (subst (λ x. v x ≡ old x) (sym is) (now.stays i step out)))) ∙ s)),
          )

          is_or_not : (j : I) → e.Valid j → (j ≡ i) ⊎ (j ≡ i → ⊥)
          is_or_not j valid =
              ⊎_elim (λ given. inr (λ is. step.1 (subst Input is given)))
              (λ computed. go computed (ℕ_discrete (key j) (key i))) (kind j)
            where
              go : (Input j → ⊥) → Dec (key j ≡ key i) → (j ≡ i) ⊎ (j ≡ i → ⊥)
              go computed (yes k) = inl (keys.one j i (valid, computed) step k)
              go computed (no k) = inr (λ is. k (ap key is))

          before : (q : I) → Step q → HasChanged v' q → HasChanged v q ⊎ (e.Reads q i × (final i ≢ old i))
          before q sq c =
              ⊎_elim
              (λ is. inr (subst (e.Reads q) is c.1, (λ s. c.2 (subst (λ x. v' x ≡ old x) (sym is) (moves.there ∙ s)))))
              (λ not. inl
              (c.0, c.1, (λ s. c.2 (moves.others c.0 (e.inside q c.0 sq.0 c.1) not ∙ s))))
              (is_or_not c.0 (e.inside q c.0 sq.0 c.1))

          apart : (j : I) → Contains done j → j ≡ i → ⊥
          apart j h is = out (subst (Contains done) is h)

          last : (x : I) → Contains (done ++ (i ∷ [])) x → Contains done x ⊎ (i ≡ x)
          last x h =
              ⊎_elim (λ d. inl d)
              (λ l. inr (⊎_elim (λ s. s) (λ none. absurd (nothing_in x none)) (in_cases i x [] l)))
              (Contains-append_cases done (i ∷ []) x h)

          now_in : Contains (done ++ (i ∷ [])) i
          now_in = Contains-append_right done (i ∷ []) i (here_in i [])

          pub next : At (done ++ (i ∷ [])) Waits' v'
          next = record {
            inputs = λ j valid given.
                moves.others j valid (λ is. step.1 (subst Input is given)) ∙ now.inputs j valid given;
            stays = λ j sj none.
                moves.others j sj.0 (λ is. none (subst (Contains (done ++ (i ∷ []))) (sym is) now_in))
                ∙ now.stays j sj (λ h. none (Contains-append_left done (i ∷ []) j h));
            ran = λ j h.
                ⊎_elim
                (λ old.
                let r = now.ran j old in
                (r.0, moves.others j r.0.0 (apart j old) ∙ r.1, still j r.0 r.2))
                (λ is. subst (λ x. Step x × (v' x ≡ final x) × HasChanged v' x) is
                (step, moves.there, still i step (now.only i waits).1)) (last j h);
            earlier = λ j q h w.
                ⊎_elim
                (λ old.
                ⊎_elim (λ d. now.earlier j q d old.0)
                (λ is. subst (λ x. key x < key q) is
                (let b = least q old.0 in
                let d : key q ≢ key i = λ k. old.1 (keys.one q i (now.only q old.0).0 step k) in
                let z : key i < key q = grind (arith, b, d) in z)) (last j h))
                (λ new.
                let up = keys.rises q i new.0 new.1 step in
                ⊎_elim (λ d. let b = now.earlier j i d waits in omega (arith, up, b))
                (λ is. subst (λ x. key x < key q) is up) (last j h))
                (moves.no_others q w);
            due = λ q sq c.
                ⊎_elim
                (λ c.
                ⊎_elim (λ d. inl (Contains-append_left done (i ∷ []) q d))
                (λ w.
                ⊎_elim (λ is. inl (subst (Contains (done ++ (i ∷ []))) (sym is) now_in))
                (λ not. inr (moves.kept q w not)) (is_or_not q sq.0))
                (now.due q sq c))
                (λ r. inr (moves.readers q sq r.0 r.1)) (before q sq c);
            only = λ q w.
                ⊎_elim (λ old. let o = now.only q old.0 in (o.0, still q o.0 o.1))
                (λ new. (new.0, (i, new.1, (λ s. new.2 (sym moves.there ∙ s))))) (moves.no_others q w);
            once =
                distinct-append done (i ∷ []) now.once ((λ h. nothing_in i h), tt)
                (λ x hd hl. ⊎_elim (λ s. out (subst (Contains done) (sym s) hd)) (λ none. nothing_in x none)
                (in_cases i x [] hl));
          }

        module _ (empty : (q : I) → Waits q → ⊥) where
          -- once none waits, all have their last values
          pub ends : (i : I) → e.Valid i → v i ≡ final i
          ends i valid =
              ⊎_elim (λ given. now.inputs i valid given)
              (λ computed.
              settled (suc (key i)) (λ q w. absurd (empty q w)) (suc (key i)) i (valid, computed) (omega arith)
              (omega arith))
              (kind i)

          -- and those that ran are those with a read whose value has changed
          pub ran_touched : (i : I)
              → Contains done i ↔ (Step i × (j : I) × e.Reads i j × (old j ≢ final j))
          ran_touched i = (
            (λ h.
                let r = now.ran i h in
                (r.0, r.2.0, r.2.1, (λ s. r.2.2 (ends r.2.0 (e.inside i r.2.0 r.0.0 r.2.1) ∙ sym s)))),
            (λ h.
                ⊎_elim (λ d. d) (λ w. absurd (empty i w))
                (now.due i h.0
                (h.1, h.2, (λ s. h.3 (sym s ∙ ends h.1 (e.inside i h.1 h.0.0 h.2)))))),
          )

      -- before the first step: the inputs are changed, and what reads a changed one waits
      pub starts : (Waits : I → Type 0) (v : I → V)
          → ((i : I) → e.Valid i → Input i → v i ≡ final i) → ((i : I) → Step i → v i ≡ old i)
          → ((i : I) → Step i → HasChanged v i → Waits i) → ((i : I) → Waits i → Step i × HasChanged v i)
          → At [] Waits v
      starts Waits v inputs stays due only = record {
        inputs = inputs;
        stays = λ i step out. stays i step;
        ran = λ i h. absurd (nothing_in i h);
        earlier = λ i q h w. absurd (nothing_in i h);
        due = λ i step c. inr (due i step c);
        only = only;
        once = tt;
      }
