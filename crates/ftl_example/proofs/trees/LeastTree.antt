-- What the last size says of the trees that show a pair.
use Rattle.std.proofs.Common.{◌≡◌, ℕ, ◌<◌, ◌≤◌, true, false, if◌then◌else◌, refl, sym, ◌∙◌, ap, arith, Option, None, Some, nat_le, leb-false}
use Rattle.ftl_model.specs.layout.AttributeGrammar.{AttributeGrammar}
use Rattle.ftl_order.specs.orders.Lawful.{IsLawful}
use Rattle.ftl_order.specs.orders.Pairs.{IsPair, Pair}
use Rattle.ftl_example.specs.declared.trees.tables.Tables.{Tables}
use Rattle.ftl_example.specs.shows.Examples.{AllAreLarger, NoneShows}
use Rattle.ftl_example.specs.sizes.Least.{capped}
use Rattle.ftl_example.specs.sizes.Place.{example_size}
use Rattle.ftl_example.specs.sizes.SizeTable.{by_table}
use Rattle.ftl_example.specs.trees.CountedLaws.{AreLastTables, example_tree}
use Rattle.ftl_example.specs.trees.LeastShown.{IsLeastShown}
use Rattle.ftl_example.proofs.sizes.Built.{some_same}
use Rattle.ftl_example.proofs.sizes.ExampleSize.{none_smaller, some_so}
use Rattle.ftl_example.proofs.sizes.PlaceTables.{way_table_cut}
use Rattle.ftl_example.proofs.trees.ExampleTree.{example_grown}

-- a number that was counted up to a limit
cut_none : (most : ℕ) (x : Option ℕ) → None ≡ capped most x → x ≡ None
cut_none most None e = refl
cut_none most (Some n) e = absurd (let z : ⊥ = grind (arith, e) in z)

record Counted (most m n : ℕ) : Type 0 where
  pub within : m < most → n ≡ m
  pub beyond : most ≤ m → most ≤ n

counted : (most m n : ℕ) → m ≡ (if nat_le n most then n else most) → Counted most m n
counted most m n e =
    (elim (nat_le n most) as (λ t. (nat_le n most ≡ t) → m ≡ (if t then n else most) → Counted most m n) [
      | true ↦ λ f e. record { within = λ l. sym e; beyond = λ l. omega (arith, l, e) }
      | false ↦ λ f e.
          let low = leb-false n most f in
          record { within = λ l. absurd (omega (arith, l, e)); beyond = λ l. omega (arith, low) }
    ]) refl e

module _ (g : AttributeGrammar) (law : IsLawful g) (pair : Pair) (is : IsPair g pair) (tables : Tables)
    (last : AreLastTables g pair tables) where
  size_cut : by_table tables.ways.items g.root ≡ capped 513 (example_size g pair)
  size_cut =
      ap (λ xs. by_table xs g.root) last.ways ∙ way_table_cut g law 513 pair is g.interface_count g.root

  pub none_shows : by_table tables.ways.items g.root ≡ None → NoneShows g pair
  none_shows e t shows =
      let a = none_smaller g law pair is t shows in
      let none = cut_none 513 (example_size g pair) (sym e ∙ size_cut) in
      let z : Some a.0 ≡ None = sym a.1 ∙ none in
      absurd (let f : ⊥ = grind (arith, z) in f)

  record Size (m : ℕ) : Type 0 where
    pub size : ℕ
    pub is_size : example_size g pair ≡ Some size
    pub counts : Counted 513 m size

  size_of : (m : ℕ) → by_table tables.ways.items g.root ≡ Some m → Size m
  size_of m e = go (example_size g pair) refl (sym e ∙ size_cut)
    where
      go : (o : Option ℕ) → example_size g pair ≡ o → Some m ≡ capped 513 o → Size m
      go None f h = absurd (let z : ⊥ = grind (arith, h) in z)
      go (Some n) f h = record { size = n; is_size = f; counts = counted 513 m n (some_same m (if nat_le n 513 then n else 513) h) }

  pub exact_size : (m : ℕ) → by_table tables.ways.items g.root ≡ Some m → m ≤ 512 → example_size g pair ≡ Some m
  exact_size m e small =
      let s = size_of m e in s.is_size ∙ ap Some (s.counts.within (let z : m < 513 = omega (arith, small) in z))

  pub all_larger : (m : ℕ) → by_table tables.ways.items g.root ≡ Some m → 512 < m → AllAreLarger g pair 512
  all_larger m e large =
      let s = size_of m e in
      let far = s.counts.beyond (let z : 513 ≤ m = omega (arith, large) in z) in
      let t = some_so g law pair is s.size s.is_size in (
        (t.0, (t.1, t.3)),
        (λ u shows.
            let a = none_smaller g law pair is u shows in
            let same = some_same s.size a.0 (sym s.is_size ∙ a.1) in
            let le = a.2 in
            omega (arith, far, same, le)),
      )

  pub least_shown : (n : ℕ) → example_size g pair ≡ Some n → n ≤ 512 → IsLeastShown g pair 512 (example_tree g pair n)
  least_shown n e small =
      let grows = example_grown g law pair is n e in
      let nodes = grows.3 in
      record {
        tree = grows.0;
        bare = grows.1;
        shows = grows.2;
        fewest = λ u shows.
            let a = none_smaller g law pair is u shows in
            let same = some_same n a.0 (sym e ∙ a.1) in
            let le = a.2 in
            omega (arith, nodes, same, le);
        few = omega (arith, nodes, small);
      }
