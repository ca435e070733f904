-- What a cursor does to what is left.
use Rattle.std.proofs.Common.{◌≡◌, ℕ, zero, suc, ◌+◌, ◌-◌, ◌<◌, ◌≤◌, List, [], ◌∷◌, ◌++◌, drop, flat_map, get_or, length, map, Option, Some, None, refl, sym, ◌∙◌, ap, arith, append_assoc, add-one}
use Rattle.std.specs.List.{cons_option, range_with_len}
use Rattle.std.specs.Option.{option_to_list}
use Rattle.std.proofs.Math.Seq.{drop-cons}
use Rattle.std.proofs.lemmas.List.{map-append}
use Rattle.ftl_model.proofs.lists.Elements.{here_in, later_in}
use Rattle.ftl_model.specs.layout.AttributeGrammar.{Occurrence, Read, occurrences, seen_by}
use Rattle.ftl_deps.specs.parts.RuleParts.{read_meant}
use Rattle.ftl_deps.specs.declared.parts.part_read.PartRead.{PartRead}
use Rattle.ftl_visit.specs.step_reads.StepReads.{kids_in}
use Rattle.ftl_tree.specs.trees.CheckedTree.{CheckedTree}
use Rattle.ftl_step_value.specs.cells.Cursor.{IsThereFromHere, seen_from_here}
use Rattle.ftl_step_value.specs.cells.Seen.{IsThere, cell_seen}

-- one read, and those after it
pub reads_first : (reads : List PartRead) (place : ℕ) (d : PartRead) → place < length reads
    → map read_meant (drop place reads)
    ≡ read_meant (get_or reads place d) ∷ map read_meant (drop (place + 1) reads)
reads_first reads place d within =
    ap (map read_meant)
    (drop-cons reads place d within ∙ ap (λ n. get_or reads place d ∷ drop n reads) (sym (add-one place)))

-- past the last there is none
pub reads_end : (reads : List PartRead) (place : ℕ) → length reads ≤ place → map read_meant (drop place reads) ≡ []
reads_end reads place past = ap (map read_meant) (none reads place past)
  where
    none : (reads : List PartRead) (place : ℕ) → length reads ≤ place → drop place reads ≡ []
    none [] zero past = refl
    none [] (suc place) past = refl
    none (r ∷ reads) zero past = absurd (let z : ⊥ = omega (arith, past) in z)
    none (r ∷ reads) (suc place) past = none reads place (let z : length reads ≤ place = omega (arith, past) in z)

-- one cell and the others
cells_cons : (f : Occurrence → ℕ) (cell : Option ℕ) (os rest : List Occurrence)
    → option_to_list cell ≡ map f os → map f (os ++ rest) ≡ cons_option cell (map f rest)
cells_cons f cell os rest is = map-append f os rest ∙ ap (λ xs. xs ++ map f rest) (sym is) ∙ by cell
  where
    by : (cell : Option ℕ) → option_to_list cell ++ map f rest ≡ cons_option cell (map f rest)
    by None = refl
    by (Some x) = refl

module _ (t : CheckedTree) (node k : ℕ) (step : List Read) (next n : ℕ) where
  -- the first read is there
  pub read_there : (r : Read) (rest : List Read) → IsThereFromHere t node k (r ∷ rest) step next n
      → IsThere t node k r
  read_there r rest there = there.here r (here_in r rest)

  -- and so are the others
  pub rest_there : (r : Read) (rest : List Read) → IsThereFromHere t node k (r ∷ rest) step next n
      → IsThereFromHere t node k rest step next n
  rest_there r rest there =
      record {
        node_known = there.node_known;
        here = λ q h. there.here q (later_in r q rest h);
        later = there.later;
        few = there.few;
      }

  -- and those of the next kid
  pub next_there : (reads : List Read) → 0 < n → IsThereFromHere t node k reads step next n
      → IsThereFromHere t node next step step (next + 1) (n - 1)
  next_there reads some there =
      record {
        node_known = there.node_known;
        here = there.later next (let z : next ≤ next = omega arith in z)
            (let z : next < next + n = omega (arith, some) in z);
        later = λ kid from below.
            there.later kid (let z : next ≤ kid = omega (arith, from) in z)
            (let z : kid < next + n = omega (arith, below, some) in z);
        few = (let f = there.few in let z : next + 1 + (n - 1) < 4294967296 = omega (arith, f, some) in z);
      }

  -- the cell of the first read, if there is one, and those of the others
  pub cells_first : (r : Read) (rest : List Read) (cell : Option ℕ)
      → option_to_list cell ≡ map (cell_seen t node) (occurrences (kids_in t node) k r)
      → map (cell_seen t node) (seen_from_here t node k (r ∷ rest) step next n)
      ≡ cons_option cell (map (cell_seen t node) (seen_from_here t node k rest step next n))
  cells_first r rest cell is =
      ap (map (cell_seen t node))
      (append_assoc (occurrences (kids_in t node) k r) (seen_by (kids_in t node) k rest)
      (flat_map (λ kid. seen_by (kids_in t node) kid step) (range_with_len next n)))
      ∙ cells_cons (cell_seen t node) cell (occurrences (kids_in t node) k r)
      (seen_from_here t node k rest step next n) is

  -- after the reads at hand come those of the next kid
  pub seen_next : 0 < n → seen_from_here t node k [] step next n ≡ seen_from_here t node next step step (next + 1) (n - 1)
  seen_next some =
      ap (λ m. flat_map (λ kid. seen_by (kids_in t node) kid step) (range_with_len next m))
      (let z : n ≡ suc (n - 1) = omega (arith, some) in z)
