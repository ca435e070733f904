-- The values of the words of a solution.
use Rattle.std.proofs.Common.{◌≡◌, ◌∙◌, ◌+◌, ◌<◌, ap, ap₂, sym, subst, ℕ, List, ◌∷◌, length, get_or, map, drop, arith, add-one}
use Rattle.std.proofs.Math.Seq.{drop-cons}
use Rattle.std.proofs.lemmas.List.{ext_get_or, get_or-map, length-map}
use Rattle.std.proofs.lemmas.Simd.{map-map}
use Rattle.ftl_demand.specs.demand.Solved.{IsSolvedBy}
use Rattle.ftl_deps.specs.reads.Meant.{meant}
use Rattle.ftl_meaning.specs.faults.Checked.{CheckedGrammar}
use Rattle.ftl_model.specs.layout.Table.{SolvesList}
use Rattle.ftl_model.specs.layout.Values.{IsValue, Value, overflow, word_of_value}
use Rattle.ftl_tree.specs.boxes.WordValues.{WordsAreUndone, value_of_word}
use Rattle.ftl_tree.specs.trees.CheckedTree.{CheckedTree}

-- one entry more
pub map_step : {X Y : Type 0} (f : X → Y) (xs : List X) (i : ℕ) (d : X) (y : Y) → y ≡ f (get_or xs i d) → i < length xs
    → y ∷ map f (drop (i + 1) xs) ≡ map f (drop i xs)
map_step f xs i d y is within =
    ap₂ (λ z n. z ∷ map f (drop n xs)) is (add-one i) ∙ ap (map f) (sym (drop-cons xs i d within))

back : WordsAreUndone → (values : List Value) → ((i : ℕ) → i < length values → IsValue (get_or values i overflow))
    → map value_of_word (map word_of_value values) ≡ values
back undone values in_range =
    let long = length-map values (λ v. value_of_word (word_of_value v)) in
    map-map value_of_word word_of_value values
    ∙ ext_get_or overflow (map (λ v. value_of_word (word_of_value v)) values) values long
    (λ i within.
    let known : i < length values = omega (arith, within, long) in
    get_or-map (λ v. value_of_word (word_of_value v)) values i overflow overflow known
    ∙ undone (get_or values i overflow) (in_range i known))

-- they solve the tree
pub values_solve : WordsAreUndone → (t : CheckedTree) (k : CheckedGrammar) → t.checked ≡ k → (words : List ℕ)
    → IsSolvedBy t words → SolvesList (meant k) t.tree (map value_of_word words)
values_solve undone t k grammar words x =
    subst (λ (c : CheckedGrammar). SolvesList (meant c) t.tree (map value_of_word words)) grammar
    (subst (SolvesList (meant t.checked) t.tree)
    (sym (ap (map value_of_word) x.held ∙ back undone x.values x.in_range)) x.solves)
