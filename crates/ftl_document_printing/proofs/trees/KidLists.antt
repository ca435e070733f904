-- The kids of a node in a child as they are written, one after another.
use Rattle.std.proofs.Common.{◌≡◌, ℕ, zero, suc, ◌<◌, ◌≤◌, Bool, true, false, eqb, if◌then◌else◌, List, [], ◌∷◌, refl}
use Rattle.std.proofs.Common.{sym, ap₂, arith}
use Rattle.std.proofs.lemmas.Bool.{eqb-true}
use Rattle.ftl_model.specs.layout.Tree.{Forest, below_of, class_of, count_in, from_kid, inputs_of, none, tree}
use Rattle.ftl_grammar.specs.declared.syntax.rules.Grammar.{Grammar}
use Rattle.ftl_meaning.specs.faults.Numbering.{class_at}
use Rattle.ftl_document.specs.faults.WrittenOf.{WrittenKid, fields_from, kids_in, written_kids}

-- the first of some trees, as a kid
abbrev pub kid_of : Grammar → (child : ℕ) → Forest → WrittenKid
kid_of g c f =
    record {
      child = c;
      class = (class_at g (class_of f)).name;
      fields = fields_from g (class_of f) (inputs_of f) (written_kids g (below_of f));
    }

module _ (g : Grammar) (c : ℕ) where
  abbrev these : Forest → List WrittenKid
  these f = kids_in c (written_kids g f)

  -- those from the first on are all
  pub all_kids : (f : Forest) → these (from_kid c 0 f) ≡ these f
  all_kids none = refl
  all_kids (tree k d i b s) = go (eqb d c) refl (all_kids s)
    where
      go : (same : Bool) → eqb d c ≡ same → these (from_kid c 0 s) ≡ these s
          → these (from_kid c 0 (tree k d i b s)) ≡ these (tree k d i b s)
      go true e later = rw e (rw e refl)
      go false e later = rw e later

  -- one more
  pub next_kid : (n : ℕ) (f : Forest) → n < count_in c f
      → these (from_kid c n f) ≡ kid_of g c (from_kid c n f) ∷ these (from_kid c (suc n) f)
  next_kid n none few = absurd (omega (arith, few))
  next_kid zero (tree k d i b s) few = go (eqb d c) refl few (λ less. next_kid zero s less)
    where
      go : (same : Bool) → eqb d c ≡ same → zero < (if same then suc (count_in c s) else count_in c s)
          → (zero < count_in c s → these (from_kid c 0 s) ≡ kid_of g c (from_kid c 0 s) ∷ these (from_kid c 1 s))
          → these (from_kid c 0 (tree k d i b s))
          ≡ kid_of g c (from_kid c 0 (tree k d i b s)) ∷ these (from_kid c 1 (tree k d i b s))
      go true e few later =
          rw e (rw e (ap₂ (λ n l. record {
            child = n;
            class = (class_at g k).name;
            fields = fields_from g k i
                (written_kids g b);
          } ∷ l) (eqb-true d c e) (sym (all_kids s))))
      go false e few later = rw e (later few)
  next_kid (suc n) (tree k d i b s) few =
      go (eqb d c) refl few (λ less. next_kid n s less) (λ less. next_kid (suc n) s less)
    where
      go : (same : Bool) → eqb d c ≡ same → suc n < (if same then suc (count_in c s) else count_in c s)
          → (n < count_in c s → these (from_kid c n s) ≡ kid_of g c (from_kid c n s) ∷ these (from_kid c (suc n) s))
          → (suc n < count_in c s
          → these (from_kid c (suc n) s) ≡ kid_of g c (from_kid c (suc n) s) ∷ these (from_kid c (suc (suc n)) s))
          → these (from_kid c (suc n) (tree k d i b s))
          ≡ kid_of g c (from_kid c (suc n) (tree k d i b s)) ∷ these (from_kid c (suc (suc n)) (tree k d i b s))
      go true e few one later = rw e (one (omega (arith, few)))
      go false e few one later = rw e (later few)

  -- none is left
  pub no_kid : (n : ℕ) (f : Forest) → count_in c f ≤ n → these (from_kid c n f) ≡ []
  no_kid n none past = refl
  no_kid zero (tree k d i b s) past = go (eqb d c) refl past (λ less. no_kid zero s less)
    where
      go : (same : Bool) → eqb d c ≡ same → (if same then suc (count_in c s) else count_in c s) ≤ zero
          → (count_in c s ≤ zero → these (from_kid c 0 s) ≡ [])
          → these (from_kid c 0 (tree k d i b s)) ≡ []
      go true e past later = absurd (omega (arith, past))
      go false e past later = rw e (later past)
  no_kid (suc n) (tree k d i b s) past =
      go (eqb d c) refl past (λ less. no_kid n s less) (λ less. no_kid (suc n) s less)
    where
      go : (same : Bool) → eqb d c ≡ same → (if same then suc (count_in c s) else count_in c s) ≤ suc n
          → (count_in c s ≤ n → these (from_kid c n s) ≡ []) → (count_in c s ≤ suc n
          → these (from_kid c (suc n) s) ≡ [])
          → these (from_kid c (suc n) (tree k d i b s)) ≡ []
      go true e past one later = rw e (one (omega (arith, past)))
      go false e past one later = rw e (later past)
