-- The pair of a fault.
use Rattle.std.proofs.Common.{◌≡◌, ℕ, zero, suc, ◌+◌, ◌<◌, ◌≤◌, ◌&&◌, true, not, refl, sym, ◌∙◌, ap, subst, ⊎_elim, arith, List, [], ◌∷◌, ◌++◌, length, get_or, map, Contains, Option, Some, None}
use Rattle.std.specs.List.{enumerate_from}
use Rattle.std.proofs.lemmas.Bool.{and_parts, false≢true}
use Rattle.std.proofs.lemmas.List.Elements.{Contains-append_cases, Contains-get_or}
use Rattle.std.proofs.lemmas.List.Quantifiers.{position-Some}
use Rattle.ftl_model.proofs.lists.Rising.{in_map}
use Rattle.ftl_model.specs.layout.AttributeGrammar.{AttributeGrammar, Part, Parts, Read, RuleName, first_part, first_then, fold_over, for_self, from_part, plain, plain_part, reads_in, self_read, then_part, with_part}
use Rattle.ftl_model.specs.layout.Solves.{rule_named}
use Rattle.ftl_order.specs.orders.Lawful.{IsLawful, IsRule, class_of_rule}
use Rattle.ftl_order.specs.orders.Ordered.{IsOrderedPair}
use Rattle.ftl_order.specs.orders.Pairs.{IsPair, Pair}
use Rattle.ftl_order.specs.orders.Schedule.{Placing}
use Rattle.ftl_order.specs.dependencies.DepReads.{dep_read, reads_of_parts, rule_reads}
use Rattle.ftl_order.specs.dependencies.Writers.{is_writer}
use Rattle.ftl_order.proofs.dependencies.ReadsThere.{of_parts}
use Rattle.ftl_order.proofs.dependencies.Writers.{sites_say, writers_of_pairs}
use Rattle.ftl_order.specs.faults.FirstFault.{fault_by, first_unordered, reads_fault, unordered_writer}
use Rattle.ftl_model.specs.lists.FirstAlong.{first_along}
use Rattle.std.specs.Option.{option_or}
use Rattle.ftl_order.specs.faults.OrderedReads.{is_ordered_read}
use Rattle.ftl_order.specs.declared.faults.fault.VerifyFault.{VerifyFault}
use Rattle.ftl_order.specs.declared.faults.fault.VerifyFault.TheVariants.{Unordered}
use Rattle.ftl_order.proofs.faults.Tests.{ordered_tells}
use Rattle.ftl_example.specs.pairs.FirstPair.{IsPairOf, placed, placed_at}

-- the first entry with a fault
pub record FirstAlong {X : Type 0} (fault_at : X → Option VerifyFault) (xs : List X) (x : VerifyFault) : Type 0 where
  pub place : ℕ
  pub within : place < length xs
  pub is : (d : X) → fault_at (get_or xs place d) ≡ Some x
  pub none : (j : ℕ) (d : X) → j < place → fault_at (get_or xs j d) ≡ None

pub along_some : {X : Type 0} (fault_at : X → Option VerifyFault) (xs : List X) (x : VerifyFault)
    → first_along fault_at xs ≡ Some x → FirstAlong fault_at xs x
along_some fault_at [] x e = absurd (let z : ⊥ = grind arith in z)
along_some {X} fault_at (y ∷ ys) x e = go (λ h. along_some fault_at ys x h) (fault_at y) refl e
  where
    later : fault_at y ≡ None → FirstAlong fault_at ys x → FirstAlong fault_at (y ∷ ys) x
    later f r =
        let w = r.within in
        record {
          place = suc r.place;
          within = omega (arith, w);
          is = λ d. r.is d;
          none = by;
        }
      where
        by : (j : ℕ) (d : X) → j < suc r.place → fault_at (get_or (y ∷ ys) j d) ≡ None
        by zero d less = f
        by (suc j) d less = r.none j d (omega (arith, less))

    go : (first_along fault_at ys ≡ Some x → FirstAlong fault_at ys x) → (o : Option VerifyFault) → fault_at y ≡ o
        → option_or o (first_along fault_at ys) ≡ Some x → FirstAlong fault_at (y ∷ ys) x
    go next (Some z) f e =
        record {
          place = 0;
          within = omega arith;
          is = λ d. f ∙ e;
          none = λ j d less. absurd (omega (arith, less));
        }
    go next None f e = later f (next e)

pub get_map : {X Y : Type 0} (f : X → Y) (xs : List X) (n : ℕ) (d : X) (e : Y) → n < length xs
    → get_or (map f xs) n e ≡ f (get_or xs n d)
get_map f [] n d e less = absurd (omega (arith, less))
get_map f (x ∷ xs) zero d e less = refl
get_map f (x ∷ xs) (suc n) d e less = get_map f xs n d e (omega (arith, less))

pub get_numbered : {X : Type 0} (from : ℕ) (xs : List X) (n : ℕ) (d : ℕ × X) → n < length (enumerate_from from xs)
    → (n < length xs) × ((get_or (enumerate_from from xs) n d).0 ≡ from + n) × ((get_or (enumerate_from from xs) n d).1 ≡ get_or xs n d.1)
get_numbered from [] n d less = absurd (omega (arith, less))
get_numbered from (x ∷ xs) zero d less = (omega arith, omega arith, refl)
get_numbered from (x ∷ xs) (suc n) d less =
    let i = get_numbered (from + 1) xs n d (omega (arith, less)) in
    let l = i.0 in let e = i.1 in (omega (arith, l), omega (arith, e), i.2)

abbrev pub snd_read : Part × Read → Read
snd_read x = x.1

map_snd : (part : Part) (xs : List Read) → map snd_read (map (λ r. (part, r)) xs) ≡ xs
map_snd part [] = refl
map_snd part (x ∷ xs) = ap (λ ys. x ∷ ys) (map_snd part xs)

map_both : (xs ys : List (Part × Read)) → map snd_read (xs ++ ys) ≡ map snd_read xs ++ map snd_read ys
map_both [] ys = refl
map_both (x ∷ xs) ys = ap (λ zs. x.1 ∷ zs) (map_both xs ys)

-- the reads with their parts are the reads
pub placed_reads : (x : Parts) → map snd_read (placed x) ≡ reads_of_parts x
placed_reads (plain reads) = map_snd plain_part reads
placed_reads (first_then first later) =
    map_both (map (λ r. (first_part, r)) first) (map (λ r. (then_part, r)) later)
    ∙ ap (λ ys. ys ++ map snd_read (map (λ r. (then_part, r)) later)) (map_snd first_part first)
    ∙ ap (λ ys. first ++ ys) (map_snd then_part later)
placed_reads (fold_over c start step) =
    map_both (map (λ r. (from_part, r)) start) (map (λ r. (with_part, r)) step)
    ∙ ap (λ ys. ys ++ map snd_read (map (λ r. (with_part, r)) step)) (map_snd from_part start)
    ∙ ap (λ ys. start ++ ys) (map_snd with_part step)

-- and each is of its part
pub placed_in : (x : Parts) (y : Part × Read) → Contains (placed x) y → Contains (reads_in x y.0) y.1
placed_in (plain reads) y h =
    let m = in_map (λ r. (plain_part, r)) reads y h in
    subst (λ z. Contains (reads_in (plain reads) z.0) z.1) m.is m.there
placed_in (first_then first later) y h =
    ⊎_elim
    (λ front. let m = in_map (λ r. (first_part, r)) first y front in
    subst (λ z. Contains (reads_in (first_then first later) z.0) z.1) m.is m.there)
    (λ back. let m = in_map (λ r. (then_part, r)) later y back in
    subst (λ z. Contains (reads_in (first_then first later) z.0) z.1) m.is m.there)
    (Contains-append_cases (map (λ r. (first_part, r)) first) (map (λ r. (then_part, r)) later) y h)
placed_in (fold_over c start step) y h =
    ⊎_elim
    (λ front. let m = in_map (λ r. (from_part, r)) start y front in
    subst (λ z. Contains (reads_in (fold_over c start step) z.0) z.1) m.is m.there)
    (λ back. let m = in_map (λ r. (with_part, r)) step y back in
    subst (λ z. Contains (reads_in (fold_over c start step) z.0) z.1) m.is m.there)
    (Contains-append_cases (map (λ r. (from_part, r)) start) (map (λ r. (with_part, r)) step) y h)

pub length-placed : (x : Parts) → length (reads_of_parts x) ≡ length (placed x)
length-placed x = ap length (sym (placed_reads x)) ∙ same (placed x)
  where
    same : (ys : List (Part × Read)) → length (map snd_read ys) ≡ length ys
    same [] = refl
    same (y ∷ ys) = ap suc (same ys)

pub length-read : (g : AttributeGrammar) (xs : List Read) → length (map (dep_read g) xs) ≡ length xs
length-read g [] = refl
length-read g (x ∷ xs) = ap suc (length-read g xs)

pub unordered_parts : (a b c d : ℕ) → Unordered a b ≡ Unordered c d → (a ≡ c) × (b ≡ d)
unordered_parts a b c d e = (cc e, cc e)

pub some_fault : (n : ℕ) (o : Option ℕ) (reader writer : ℕ) → fault_by n o ≡ Some (Unordered reader writer)
    → (o ≡ Some writer) × (n ≡ reader)
some_fault n None reader writer e = absurd (let z : ⊥ = grind arith in z)
some_fault n (Some v) reader writer e =
    let f : Unordered n v ≡ Unordered reader writer = cc e in
    let p = unordered_parts n v reader writer f in (ap Some p.1, p.0)

pub no_fault : (n : ℕ) (o : Option ℕ) → fault_by n o ≡ None → o ≡ None
no_fault n None e = refl
no_fault n (Some v) e = absurd (let z : ⊥ = grind arith in z)

module _ (g : AttributeGrammar) (at : Placing) (law : IsLawful g) where
  -- a writer that the schedule doesn't have earlier makes an unordered pair
  pub unordered_pair : (w : RuleName) → IsRule g w → (part : Part) (r : Read)
      → Contains (reads_in (rule_named g w).parts part) r → (v : ℕ) → unordered_writer g at w (dep_read g r) ≡ Some v
      → (pair : Pair) × (pair.reader ≡ w) × (pair.writer ≡ get_or g.rules v (for_self 0 0)) × (pair.part ≡ part)
      × (pair.read ≡ r) × IsPair g pair × (IsOrderedPair g at pair → ⊥)
  unordered_pair w rule part r in_part v e =
      let k = class_of_rule w in
      let p = position-Some
      (λ u. is_writer g k (dep_read g r) u && not (is_ordered_read g at (dep_read g r) u w)) g.rules v (for_self 0 0) e in
      let u = get_or g.rules v (for_self 0 0) in
      let both = and_parts (is_writer g k (dep_read g r) u) (not (is_ordered_read g at (dep_read g r) u w)) p.1 in
      let there = Contains-get_or g.rules v (for_self 0 0) p.0 in
      let in_it = of_parts (rule_named g w).parts r part in_part in
      let somewhere = (writers_of_pairs g law w r rule in_it u (law.rules_are u there)).0 both.0 in
      let pair : Pair = record { reader = w; part = part; read = r; writer = u; runs_at = somewhere.0 } in (
        pair,
        refl,
        refl,
        refl,
        refl,
        ((rule, in_part), somewhere.1),
        (λ ordered.
            let test = (ordered_tells g at somewhere.0 r u w (sites_say g law k r somewhere.0 u somewhere.1)).1 ordered in
            false≢true (subst (λ b. not b ≡ true) test both.1)),
      )

  pub pair_of_fault : (reader writer : ℕ) → first_unordered g at ≡ Some (Unordered reader writer)
      → (pair : Pair) × IsPairOf g at reader writer pair
  pair_of_fault reader writer e =
      let d : ℕ × RuleName = (0, for_self 0 0) in
      let outer = along_some (reads_fault g at) (enumerate_from 0 g.rules) (Unordered reader writer) e in
      let numbered = get_numbered 0 g.rules outer.place d outer.within in
      by_rule outer.place numbered.0 (get_or (enumerate_from 0 g.rules) outer.place d) numbered.1 numbered.2 (outer.is d)
    where
      by_rule : (n : ℕ) → n < length g.rules → (x : ℕ × RuleName) → x.0 ≡ 0 + n → x.1 ≡ get_or g.rules n (for_self 0 0)
          → reads_fault g at x ≡ Some (Unordered reader writer) → (pair : Pair) × IsPairOf g at reader writer pair
      by_rule n known x number rule_is e =
          let w = x.1 in
          let parts = (rule_named g x.1).parts in
          let bottom : Part × Read = (plain_part, self_read 0) in
          let rule : IsRule g x.1 =
          subst (IsRule g) (sym rule_is) (law.rules_are (get_or g.rules n (for_self 0 0)) (Contains-get_or g.rules n (for_self 0 0) known)) in
          let a = along_some (λ d. fault_by x.0 (unordered_writer g at x.1 d)) (rule_reads g x.1) (Unordered reader writer) e in
          let w0 = a.within in
          let l1 = length-read g (reads_of_parts parts) in
          let l2 = length-placed parts in
          let known_read : (j : ℕ) → j ≤ a.place → j < length (placed parts) = λ j le. omega (arith, w0, l1, l2, le) in
          let read_is : (j : ℕ) → j ≤ a.place → get_or (rule_reads g x.1) j (dep_read g (self_read 0)) ≡ dep_read g (placed_at parts j).1 =
          λ j le.
          get_map (dep_read g) (reads_of_parts parts) j (self_read 0) (dep_read g (self_read 0)) (let k = known_read j le in omega (arith, k, l2))
          ∙ ap (λ ys. dep_read g (get_or ys j (self_read 0))) (sym (placed_reads parts))
          ∙ ap (dep_read g) (get_map snd_read (placed parts) j bottom (self_read 0) (known_read j le)) in
          let here = some_fault x.0 (unordered_writer g at x.1 (dep_read g (placed_at parts a.place).1)) reader writer
          (subst (λ y. fault_by x.0 (unordered_writer g at x.1 y) ≡ Some (Unordered reader writer)) (read_is a.place (omega arith))
          (a.is (dep_read g (self_read 0)))) in
          let pr = unordered_pair x.1 rule (placed_at parts a.place).0 (placed_at parts a.place).1
          (placed_in parts (placed_at parts a.place) (Contains-get_or (placed parts) a.place bottom (known_read a.place (omega arith))))
          writer here.0 in
          let same : n ≡ reader = (let h = here.1 in omega (arith, number, h)) in (
            pr.0,
            record {
              reader_is = pr.1 ∙ rule_is ∙ ap (λ m. get_or g.rules m (for_self 0 0)) same;
              writer_is = pr.2;
              is = pr.5;
              unordered = pr.6;
              place = a.place;
              there =
                  ap (λ z. placed_at (rule_named g z).parts a.place) pr.1
                  ∙ pair_is pr.0 (placed_at parts a.place) pr.3 pr.4;
              first = λ j less.
                  subst (λ z. unordered_writer g at z (dep_read g (placed_at (rule_named g z).parts j).1) ≡ None) (sym pr.1)
                  (no_fault x.0 (unordered_writer g at x.1 (dep_read g (placed_at parts j).1))
                  (subst (λ y. fault_by x.0 (unordered_writer g at x.1 y) ≡ None) (read_is j (omega (arith, less)))
                  (a.none j (dep_read g (self_read 0)) less)));
            },
          )
        where
          pair_is : (pair : Pair) (y : Part × Read) → pair.part ≡ y.0 → pair.read ≡ y.1 → y ≡ (pair.part, pair.read)
          pair_is pair (part, r) e f = ap (λ z. (z, r)) (sym e) ∙ ap (λ z. (pair.part, z)) (sym f)
