-- Readers that come into the lists of their attributes.
use Rattle.std.proofs.Common.{◌≡◌, ◌⊎◌, ℕ, ◌<◌, List, [], ◌∷◌, ◌++◌, refl, sym, ap, ◌∙◌, subst, inl, inr, ⊎_elim, get_or, set, length, length-set, get_or-set_same, get_or-set_other, Contains, take, map, ◌+◌, add-one}
use Rattle.std.proofs.Math.Seq.{take-suc}
use native.Mathlib.Decide.{ℕ_discrete}
use Rattle.std.proofs.lemmas.List.Elements.{Contains-append_cases, Contains-append_left, Contains-append_right}
use Rattle.ftl_model.proofs.lists.Elements.{here_in, in_cases, nothing_in}
use Rattle.ftl_deps.specs.declared.parts.part_read.PartRead.{PartRead}
use Rattle.ftl_deps.specs.declared.parts.part_read.PartRead.TheVariants as reads
use Rattle.ftl_deps.specs.parts.RuleParts.{read_meant}
use Rattle.ftl_meaning.specs.declared.faults.info.RuleInfo.{RuleInfo}
use Rattle.ftl_model.proofs.lists.Rising.{in_map, map_has}
use Rattle.ftl_model.specs.layout.AttributeGrammar.{Read, each_read, first_then, fold_over, last_read, plain, prev_read, self_read, single_read, this_read}
use Rattle.ftl_relayout.specs.declared.readers.reader.Reader.{Reader}
use Rattle.ftl_relayout.specs.declared.readers.reader.When.{When}
use Rattle.ftl_relayout.specs.declared.readers.reader.When.TheVariants as when
use Rattle.ftl_relayout.specs.readers.Readers.{IsReadWhen}
use Rattle.ftl_relayout.specs.readers.Tables.{Comes, IsOfParts, IsOfReads, list_of}

abbrev Lists : Type 0
Lists = List (List Reader)

module _ (classes : ℕ) where
  pub comes_none : (xs : Lists) (P : Reader → Type 0) → ((e : Reader) → P e → list_of classes e < length xs → ⊥)
      → Comes classes xs xs P
  comes_none xs P nothing = record {
    long = refl;
    kept = λ a e h. h;
    has = λ e p within. absurd (nothing e p within);
    only = λ a e h. inl h;
  }

  pub comes_both : (xs ys zs : Lists) (P Q R : Reader → Type 0) → Comes classes xs ys P → Comes classes ys zs Q
      → ((e : Reader) → R e → P e ⊎ Q e) → ((e : Reader) → P e → R e) → ((e : Reader) → Q e → R e) → Comes classes xs zs R
  comes_both xs ys zs P Q R x y split from_p from_q = record {
    long = y.long ∙ x.long;
    kept = λ a e h. y.kept a e (x.kept a e h);
    has = λ e r within.
        ⊎_elim (λ p. y.kept (list_of classes e) e (x.has e p (subst (λ n. list_of classes e < n) y.long within)))
        (λ q. y.has e q within) (split e r);
    only = λ a e h.
        ⊎_elim (λ b. ⊎_elim (λ l. inl l) (λ p. inr (from_p e p.0, p.1)) (x.only a e b))
        (λ q. inr (from_q e q.0, q.1)) (y.only a e h);
  }

  pub comes_as : (xs ys : Lists) (P Q : Reader → Type 0) → Comes classes xs ys P → ((e : Reader) → Q e → P e)
      → ((e : Reader) → P e → Q e) → Comes classes xs ys Q
  comes_as xs ys P Q x into from = record {
    long = x.long;
    kept = x.kept;
    has = λ e q within. x.has e (into e q) within;
    only = λ a e h. ⊎_elim (λ l. inl l) (λ p. inr (from e p.0, p.1)) (x.only a e h);
  }

  -- one comes
  pub comes_one : (xs ys : Lists) (r : Reader) → list_of classes r < length xs
      → ys ≡ set xs (list_of classes r) (get_or xs (list_of classes r) [] ++ r ∷ [])
      → Comes classes xs ys (λ e. e ≡ r)
  comes_one xs ys r within is = subst (λ zs. Comes classes xs zs (λ e. e ≡ r)) (sym is) grown
    where
      grown : Comes classes xs (set xs (list_of classes r) (get_or xs (list_of classes r) [] ++ r ∷ [])) (λ e. e ≡ r)
      grown = record {
        long = length-set xs (list_of classes r) (get_or xs (list_of classes r) [] ++ r ∷ []);
        kept = λ a e h. kept_at a e h (ℕ_discrete a (list_of classes r));
        has = λ e same below.
            subst (λ x. Contains (get_or (set xs (list_of classes r) (get_or xs (list_of classes r) [] ++ r ∷ []))
            (list_of classes x) []) x) (sym same)
            (subst (λ l. Contains l r) (sym (get_or-set_same xs (list_of classes r)
            (get_or xs (list_of classes r) [] ++ r ∷ []) [] within))
            (Contains-append_right (get_or xs (list_of classes r) []) (r ∷ []) r (here_in r [])));
        only = λ a e h. only_at a e h (ℕ_discrete a (list_of classes r));
      }
        where
          kept_at : (a : ℕ) (e : Reader) → Contains (get_or xs a []) e → Dec (a ≡ list_of classes r)
              → Contains (get_or (set xs (list_of classes r) (get_or xs (list_of classes r) [] ++ r ∷ [])) a []) e
          kept_at a e h (yes same) =
              subst (λ b. Contains (get_or (set xs (list_of classes r) (get_or xs (list_of classes r) [] ++ r ∷ [])) b [])
              e) (sym same)
              (subst (λ l. Contains l e) (sym (get_or-set_same xs (list_of classes r)
              (get_or xs (list_of classes r) [] ++ r ∷ []) [] within))
              (Contains-append_left (get_or xs (list_of classes r) []) (r ∷ []) e
              (subst (λ b. Contains (get_or xs b []) e) same h)))
          kept_at a e h (no differ) =
              subst (λ l. Contains l e) (sym (get_or-set_other xs (list_of classes r) a
              (get_or xs (list_of classes r) [] ++ r ∷ []) [] differ)) h

          only_at : (a : ℕ) (e : Reader)
              → Contains (get_or (set xs (list_of classes r) (get_or xs (list_of classes r) [] ++ r ∷ [])) a []) e
              → Dec (a ≡ list_of classes r)
              → Contains (get_or xs a []) e ⊎ ((e ≡ r) × (list_of classes e ≡ a))
          only_at a e h (yes same) =
              ⊎_elim (λ l. inl (subst (λ b. Contains (get_or xs b []) e) (sym same) l))
              (λ last.
              ⊎_elim (λ one. inr (sym one, ap (λ (x : Reader). list_of classes x) (sym one) ∙ sym same))
              (λ none. absurd (nothing_in e none)) (in_cases r e [] last))
              (Contains-append_cases (get_or xs (list_of classes r) []) (r ∷ []) e
              (subst (λ l. Contains l e) (get_or-set_same xs (list_of classes r)
              (get_or xs (list_of classes r) [] ++ r ∷ []) [] within)
              (subst (λ b. Contains (get_or (set xs (list_of classes r)
              (get_or xs (list_of classes r) [] ++ r ∷ [])) b []) e) same h)))
          only_at a e h (no differ) =
              inl (subst (λ l. Contains l e) (get_or-set_other xs (list_of classes r) a
              (get_or xs (list_of classes r) [] ++ r ∷ []) [] differ) h)

-- ---- the reads of parts

-- the one read
pub reader_is : (i : RuleInfo) (w : When) (q : PartRead) (e : Reader) → IsOfReads i w (q ∷ []) e
    → e ≡ record { info = i; when = w; read = q }
reader_is i w q e is =
    let r : e.read ≡ q = ⊎_elim (λ same. sym same) (λ none. absurd (nothing_in e.read none)) (in_cases q e.read [] is.among) in
    let R : RuleInfo → When → PartRead → Reader = λ a b d. record { info = a; when = b; read = d } in
    ap (λ a. R a e.when e.read) is.info_is ∙ ap (λ b. R i b e.read) is.time_is ∙ ap (R i w) r

pub is_reader : (i : RuleInfo) (w : When) (q : PartRead) (e : Reader) → e ≡ record { info = i; when = w; read = q }
    → IsOfReads i w (q ∷ []) e
is_reader i w q e same =
    subst (IsOfReads i w (q ∷ [])) (sym same) (record { info_is = refl; time_is = refl; among = here_in q [] })

-- one read more
pub reads_more : (i : RuleInfo) (w : When) (qs : List PartRead) (k : ℕ) (d : PartRead) → k < length qs → (e : Reader)
    → IsOfReads i w (take (k + 1) qs) e → IsOfReads i w (take k qs) e ⊎ IsOfReads i w (get_or qs k d ∷ []) e
reads_more i w qs k d below e is =
    ⊎_elim (λ l. inl (record { info_is = is.info_is; time_is = is.time_is; among = l }))
    (λ r. inr (record { info_is = is.info_is; time_is = is.time_is; among = r }))
    (Contains-append_cases (take k qs) (get_or qs k d ∷ []) e.read
    (subst (λ l. Contains l e.read) (ap (λ n. take n qs) (add-one k) ∙ take-suc qs k d below) is.among))

pub more_reads : (i : RuleInfo) (w : When) (qs : List PartRead) (k : ℕ) (d : PartRead) → k < length qs → (e : Reader)
    → IsOfReads i w (take k qs) e ⊎ IsOfReads i w (get_or qs k d ∷ []) e → IsOfReads i w (take (k + 1) qs) e
more_reads i w qs k d below e is =
    let long : take (k + 1) qs ≡ take k qs ++ (get_or qs k d ∷ []) =
    ap (λ n. take n qs) (add-one k) ∙ take-suc qs k d below in
    ⊎_elim
    (λ (l : IsOfReads i w (take k qs) e). record {
      info_is = l.info_is;
      time_is = l.time_is;
      among =
          subst (λ x. Contains x e.read) (sym long)
          (Contains-append_left (take k qs) (get_or qs k d ∷ []) e.read l.among);
    })
    (λ (r : IsOfReads i w (get_or qs k d ∷ []) e). record {
      info_is = r.info_is;
      time_is = r.time_is;
      among =
          subst (λ x. Contains x e.read) (sym long)
          (Contains-append_right (take k qs) (get_or qs k d ∷ []) e.read r.among);
    })
    is

part_read : Read → PartRead
part_read (self_read a) = reads.Own a
part_read (single_read c a) = reads.Single c a
part_read (each_read c a) = reads.Each c a
part_read (this_read c a) = reads.This c a
part_read (prev_read c a) = reads.Prev c a
part_read (last_read c a) = reads.Last c a

part_read_is : (q : PartRead) → part_read (read_meant q) ≡ q
unfolding part_read
part_read_is (reads.Own a) = refl
part_read_is (reads.Single c a) = refl
part_read_is (reads.Each c a) = refl
part_read_is (reads.This c a) = refl
part_read_is (reads.Prev c a) = refl
part_read_is (reads.Last c a) = refl

meant_in : (qs : List PartRead) (q : PartRead) → Contains (map read_meant qs) (read_meant q) → Contains qs q
meant_in qs q h =
    let m = in_map read_meant qs (read_meant q) h in
    subst (Contains qs) (sym (part_read_is m.from) ∙ ap part_read m.is ∙ part_read_is q) m.there

module _ (i : RuleInfo) where
  pub of_plain : (qs : List PartRead) (e : Reader) → IsOfParts i (plain (map read_meant qs)) e → IsOfReads i when.Always qs e
  of_plain qs e is = by e.when refl is.reads
    where
      by : (w : When) → e.when ≡ w → IsReadWhen (plain (map read_meant qs)) w (read_meant e.read)
          → IsOfReads i when.Always qs e
      by when.Always same h = record { info_is = is.info_is; time_is = same; among = meant_in qs e.read h }
      by when.First same h = absurd h
      by when.Later same h = absurd h
      by (when.EachKid d) same h = absurd h

  pub plain_of : (qs : List PartRead) (e : Reader) → IsOfReads i when.Always qs e → IsOfParts i (plain (map read_meant qs)) e
  plain_of qs e is = record {
    info_is = is.info_is;
    reads =
        subst (λ w. IsReadWhen (plain (map read_meant qs)) w (read_meant e.read)) (sym is.time_is)
        (map_has read_meant qs e.read is.among);
  }

  pub of_two : (xs ys : List PartRead) (e : Reader)
      → IsOfParts i (first_then (map read_meant xs) (map read_meant ys)) e
      → IsOfReads i when.First xs e ⊎ IsOfReads i when.Later ys e
  of_two xs ys e is = by e.when refl is.reads
    where
      by : (w : When) → e.when ≡ w
          → IsReadWhen (first_then (map read_meant xs) (map read_meant ys)) w (read_meant e.read)
          → IsOfReads i when.First xs e ⊎ IsOfReads i when.Later ys e
      by when.Always same h = absurd h
      by when.First same h = inl (record { info_is = is.info_is; time_is = same; among = meant_in xs e.read h })
      by when.Later same h = inr (record { info_is = is.info_is; time_is = same; among = meant_in ys e.read h })
      by (when.EachKid d) same h = absurd h

  pub first_of : (xs ys : List PartRead) (e : Reader) → IsOfReads i when.First xs e
      → IsOfParts i (first_then (map read_meant xs) (map read_meant ys)) e
  first_of xs ys e is = record {
    info_is = is.info_is;
    reads =
        subst (λ w. IsReadWhen (first_then (map read_meant xs) (map read_meant ys)) w (read_meant e.read)) (sym is.time_is)
        (map_has read_meant xs e.read is.among);
  }

  pub later_of : (xs ys : List PartRead) (e : Reader) → IsOfReads i when.Later ys e
      → IsOfParts i (first_then (map read_meant xs) (map read_meant ys)) e
  later_of xs ys e is = record {
    info_is = is.info_is;
    reads =
        subst (λ w. IsReadWhen (first_then (map read_meant xs) (map read_meant ys)) w (read_meant e.read)) (sym is.time_is)
        (map_has read_meant ys e.read is.among);
  }

  pub of_fold : (c : ℕ) (xs ys : List PartRead) (e : Reader)
      → IsOfParts i (fold_over c (map read_meant xs) (map read_meant ys)) e
      → IsOfReads i when.Always xs e ⊎ IsOfReads i (when.EachKid c) ys e
  of_fold c xs ys e is = by e.when refl is.reads
    where
      by : (w : When) → e.when ≡ w
          → IsReadWhen (fold_over c (map read_meant xs) (map read_meant ys)) w (read_meant e.read)
          → IsOfReads i when.Always xs e ⊎ IsOfReads i (when.EachKid c) ys e
      by when.Always same h = inl (record { info_is = is.info_is; time_is = same; among = meant_in xs e.read h })
      by when.First same h = absurd h
      by when.Later same h = absurd h
      by (when.EachKid d) same h =
          inr (record {
            info_is = is.info_is;
            time_is = same ∙ ap when.EachKid (sym h.0);
            among = meant_in ys e.read h.1;
          })

  pub start_of : (c : ℕ) (xs ys : List PartRead) (e : Reader) → IsOfReads i when.Always xs e
      → IsOfParts i (fold_over c (map read_meant xs) (map read_meant ys)) e
  start_of c xs ys e is = record {
    info_is = is.info_is;
    reads =
        subst (λ w. IsReadWhen (fold_over c (map read_meant xs) (map read_meant ys)) w (read_meant e.read)) (sym is.time_is)
        (map_has read_meant xs e.read is.among);
  }

  pub each_of : (c : ℕ) (xs ys : List PartRead) (e : Reader) → IsOfReads i (when.EachKid c) ys e
      → IsOfParts i (fold_over c (map read_meant xs) (map read_meant ys)) e
  each_of c xs ys e is = record {
    info_is = is.info_is;
    reads =
        subst (λ w. IsReadWhen (fold_over c (map read_meant xs) (map read_meant ys)) w (read_meant e.read)) (sym is.time_is)
        (refl, map_has read_meant ys e.read is.among);
  }
