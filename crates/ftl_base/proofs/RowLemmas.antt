-- What a push and a pop do to the entries of rows.
use Rattle.std.proofs.Common.{◌≡◌, ℕ, zero, suc, ◌<◌, Bool, true, false, List, [], ◌∷◌, ◌++◌, length, take, get_or}
use Rattle.std.proofs.Common.{refl, ap, arith, ◌∙◌, sym, length-append}
use Rattle.std.specs.Prelude.{slice_set}
use Rattle.ftl_model.specs.layout.Values.{Value}
use Rattle.ftl_base.specs.declared.truth.Truth.{Truth}
use Rattle.ftl_base.specs.declared.stack.Entry.{Entry}
use Rattle.ftl_base.specs.declared.stack.Entry.TheVariants.{Number, Test}
use Rattle.ftl_base.specs.StackRows.{entry_of, entries_of}

-- three rows with a place k
pub record Have (k : ℕ) (marks : List Bool) (values : List Value) (truths : List Truth) : Type 0 where
  pub mark : k < length marks
  pub value : k < length values
  pub truth : k < length truths

-- the rows without their first place
pub rest : {k : ℕ} {m : Bool} {ms : List Bool} {v : Value} {vs : List Value} {t : Truth} {ts : List Truth} →
    Have (suc k) (m ∷ ms) (v ∷ vs) (t ∷ ts) → Have k ms vs ts
rest h = record { mark = omega (arith, h.mark); value = omega (arith, h.value); truth = omega (arith, h.truth) }

-- as many entries as each row has places
pub length-entries_of : (ms : List Bool) (vs : List Value) (ts : List Truth) (n : ℕ) → length ms ≡ n → length vs ≡ n →
    length ts ≡ n → length (entries_of ms vs ts) ≡ n
length-entries_of [] vs ts n p q r = p
length-entries_of (m ∷ ms) [] ts n p q r = absurd (omega arith)
length-entries_of (m ∷ ms) (v ∷ vs) [] n p q r = absurd (omega arith)
length-entries_of (m ∷ ms) (v ∷ vs) (t ∷ ts) zero p q r = absurd (omega arith)
length-entries_of (m ∷ ms) (v ∷ vs) (t ∷ ts) (suc n) p q r =
    ap suc (length-entries_of ms vs ts n (omega arith) (omega arith) (omega arith))

-- the place at the height gets a value
pub set_value : (k : ℕ) (ms : List Bool) (vs : List Value) (ts : List Truth) (v : Value) → Have k ms vs ts →
    take (suc k) (entries_of (slice_set ms k false) (slice_set vs k v) ts)
    ≡ take k (entries_of ms vs ts) ++ Number v ∷ []
set_value k [] vs ts v h = absurd (omega (arith, h.mark))
set_value k (m ∷ ms) [] ts v h = absurd (omega (arith, h.value))
set_value k (m ∷ ms) (w ∷ vs) [] v h = absurd (omega (arith, h.truth))
set_value zero (m ∷ ms) (w ∷ vs) (t ∷ ts) v h = refl
set_value (suc k) (m ∷ ms) (w ∷ vs) (t ∷ ts) v h =
    ap (λ (es : List Entry). entry_of m w t ∷ es)
    (set_value k ms vs ts v (rest h))

-- the place at the height gets a truth
pub set_truth : (k : ℕ) (ms : List Bool) (vs : List Value) (ts : List Truth) (t : Truth) → Have k ms vs ts →
    take (suc k) (entries_of (slice_set ms k true) vs (slice_set ts k t)) ≡ take k (entries_of ms vs ts) ++ Test t ∷ []
set_truth k [] vs ts t h = absurd (omega (arith, h.mark))
set_truth k (m ∷ ms) [] ts t h = absurd (omega (arith, h.value))
set_truth k (m ∷ ms) (w ∷ vs) [] t h = absurd (omega (arith, h.truth))
set_truth zero (m ∷ ms) (w ∷ vs) (u ∷ ts) t h = refl
set_truth (suc k) (m ∷ ms) (w ∷ vs) (u ∷ ts) t h =
    ap (λ (es : List Entry). entry_of m w u ∷ es)
    (set_truth k ms vs ts t (rest h))

-- the entries up to a place end in the entry there
pub last_entry : (k : ℕ) (ms : List Bool) (vs : List Value) (ts : List Truth) (m : Bool) (v : Value) (t : Truth) →
    Have k ms vs ts → take (suc k) (entries_of ms vs ts) ≡ take k (entries_of ms vs ts)
    ++ entry_of (get_or ms k m) (get_or vs k v) (get_or ts k t) ∷ []
last_entry k [] vs ts m v t h = absurd (omega (arith, h.mark))
last_entry k (n ∷ ms) [] ts m v t h = absurd (omega (arith, h.value))
last_entry k (n ∷ ms) (w ∷ vs) [] m v t h = absurd (omega (arith, h.truth))
last_entry zero (n ∷ ms) (w ∷ vs) (u ∷ ts) m v t h = refl
last_entry (suc k) (n ∷ ms) (w ∷ vs) (u ∷ ts) m v t h =
    ap (λ (es : List Entry). entry_of n w u ∷ es)
    (last_entry k ms vs ts m v t (rest h))

-- what stands last is the same in two ends of one list
pub same_last : (xs ys : List Entry) (x y : Entry) → xs ++ x ∷ [] ≡ ys ++ y ∷ [] → x ≡ y
same_last [] [] x y e = cc
same_last [] (b ∷ ys) x y e = absurd (omega (arith, ap length e, length-append ys (y ∷ [])))
same_last (a ∷ xs) [] x y e = absurd (omega (arith, ap length e, length-append xs (x ∷ [])))
same_last (a ∷ xs) (b ∷ ys) x y e = same_last xs ys x y (cc)

-- where the last entry is a value, it is the one in the row of values
pub last_value : (m : Bool) (v w : Value) (t : Truth) → entry_of m v t ≡ Number w → Number v ≡ entry_of m v t
last_value true v w t e = absurd (cc)
last_value false v w t e = refl

-- where the last entry is a truth, it is the one in the row of truths
pub last_truth : (m : Bool) (v : Value) (t u : Truth) → entry_of m v t ≡ Test u → Test t ≡ entry_of m v t
last_truth true v t u e = refl
last_truth false v t u e = absurd (cc)

-- taking off a value
pub popped_value : (k : ℕ) (ms : List Bool) (vs : List Value) (ts : List Truth) (m : Bool) (v w : Value) (t : Truth)
    (below : List Entry) → Have k ms vs ts → take (suc k) (entries_of ms vs ts) ≡ below ++ Number w ∷ [] →
    take (suc k) (entries_of ms vs ts) ≡ take k (entries_of ms vs ts) ++ Number (get_or vs k v) ∷ []
popped_value k ms vs ts m v w t below h e =
    let at = last_entry k ms vs ts m v t h in
    let same = same_last _ _ _ _ (sym at ∙ e) in
    rw (last_value _ _ w _ same) at

-- taking off a truth
pub popped_truth : (k : ℕ) (ms : List Bool) (vs : List Value) (ts : List Truth) (m : Bool) (v : Value) (t u : Truth)
    (below : List Entry) → Have k ms vs ts → take (suc k) (entries_of ms vs ts) ≡ below ++ Test u ∷ [] →
    take (suc k) (entries_of ms vs ts) ≡ take k (entries_of ms vs ts) ++ Test (get_or ts k t) ∷ []
popped_truth k ms vs ts m v t u below h e =
    let at = last_entry k ms vs ts m v t h in
    let same = same_last _ _ _ _ (sym at ∙ e) in
    rw (last_truth _ _ _ u same) at
