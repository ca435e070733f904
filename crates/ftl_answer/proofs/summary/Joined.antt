-- The line of a summary, part by part.
use Rattle.std.proofs.Common.{◌≡◌, ℕ, ℤ, List, ◌++◌, filter, length, append_assoc, ap, ◌∙◌}
use Rattle.std.specs.Prelude.{codes}
use Rattle.std.specs.Fmt.{decimal, signed_decimal}
use Rattle.ftl_model.specs.layout.AttributeGrammar.{AttributeGrammar}
use Rattle.ftl_model.specs.layout.Boxes.{Names, is_overflow}
use Rattle.ftl_model.specs.layout.Solves.{Instance}
use Rattle.ftl_model.specs.layout.Table.{instance_count}
use Rattle.ftl_model.specs.layout.Tree.{Forest, size}
use Rattle.ftl_model.specs.layout.Values.{Value}
use Rattle.ftl_answer.specs.answers.Summary.{field, once, shown_values, summary, weighted_sum}
use Rattle.ftl_answer.specs.summary.Summed.{AreSumsOf, summary_line}
use Rattle.ftl_answer.specs.declared.summary.sums.Sums.{Sums}

regrouped : (a b c d x : List ℕ) → (a ++ (b ++ (c ++ d))) ++ x ≡ a ++ (b ++ (c ++ (d ++ x)))
regrouped a b c d x =
    append_assoc a (b ++ (c ++ d)) x
    ∙ ap (λ y. a ++ y) (append_assoc b (c ++ d) x ∙ ap (λ y. b ++ y) (append_assoc c d x))

-- by its numbers
abbrev line : (grammar : List ℕ) → (nodes instances shown overflows : ℕ) → (sum mix : ℤ) → List ℕ
line grammar nodes instances shown overflows sum mix =
    codes "grammar=" ++ (grammar
    ++ (field (codes "nodes") (decimal nodes)
    ++ (field (codes "instances") (decimal instances)
    ++ (field (codes "shown") (decimal shown)
    ++ (field (codes "overflow") (decimal overflows)
    ++ (field (codes "sum") (signed_decimal sum)
    ++ (field (codes "mix") (signed_decimal mix) ++ codes "\n")))))))

-- it is the summary of a table whose shown values have these sums
pub line_is : (grammar : List ℕ) (g : AttributeGrammar) (names : Names) (t : Forest) (s : Instance → Value)
    (nodes instances : ℕ) (sums : Sums) → nodes ≡ size t → instances ≡ instance_count g t
    → AreSumsOf (shown_values names t s) sums
    → summary_line grammar nodes instances sums ≡ summary grammar g names t s
line_is grammar g names t s nodes instances sums e_nodes e_instances are =
    let values = shown_values names t s in
    let over = length (filter is_overflow values) in
    ap (λ x. codes "grammar=" ++ (grammar ++ x))
    (regrouped (field (codes "nodes") (decimal nodes)) (field (codes "instances") (decimal instances))
    (field (codes "shown") (decimal sums.shown)) (field (codes "overflow") (decimal sums.overflows))
    (field (codes "sum") (signed_decimal sums.sum) ++ (field (codes "mix") (signed_decimal sums.mix) ++ codes "\n")))
    ∙ ap (λ n. line grammar n instances sums.shown sums.overflows sums.sum sums.mix) e_nodes
    ∙ ap (λ n. line grammar (size t) n sums.shown sums.overflows sums.sum sums.mix) e_instances
    ∙ ap (λ n. line grammar (size t) (instance_count g t) n sums.overflows sums.sum sums.mix) are.shown
    ∙ ap (λ n. line grammar (size t) (instance_count g t) (length values) n sums.sum sums.mix) are.overflows
    ∙ ap (λ n. line grammar (size t) (instance_count g t) (length values) over n sums.mix) are.sum
    ∙ ap (λ n. line grammar (size t) (instance_count g t) (length values) over (weighted_sum once 0 values) n) are.mix
