use Rattle.std.proofs.Common.{ℕ, List, [], ◌∷◌, ◌++◌, take, subst, arith}
use Rattle.std.proofs.lemmas.List.{take_all}
use Rattle.ftl_model.specs.layout.Values.{Value}
use Rattle.ftl_answer.specs.summary.Summed.{AreSumsOf, values_of}
use Rattle.ftl_answer.proofs.summary.Nodes.{one_more}
use Rattle.ftl_answer.proofs.summary.adding.with_node.Goals as goal

pub loop-attr-preserved : goal.loop-attr-preserved
loop-attr-preserved c =
    let t = c.args.tree.now in
    let words = c.args.words.now in
    let n = c.args.node in
    let shown = c.args.shown.now in
    let k = c.loop-attr.attr-index in
    let count = c.with_word-all.ensures.shown in
    let before = c.loop-attr.invariant.shown_more in
    record {
      more = λ values are.
          one_more t words n shown k 0 values c.with_word-all.result c.loop-attr-test.true
          (subst
          (λ (v : Value).
          AreSumsOf ((values ++ values_of t words n (take k shown)) ++ (v ∷ [])) c.with_word-all.result)
          c.word_at.ensures.value
          (c.with_word-all.ensures.more (values ++ values_of t words n (take k shown))
          (c.loop-attr.invariant.more values are)));
      within = c.with_word-all.ensures.within;
      shown_more = omega (arith, count, before);
    }

pub returns-clause-more : goal.returns-clause-more
returns-clause-more c =
    let t = c.args.tree.now in
    let words = c.args.words.now in
    let n = c.args.node in
    let shown = c.args.shown.now in
    let past = c.loop-attr-test.false in
    λ values are.
    subst (λ (xs : List ℕ). AreSumsOf (values ++ values_of t words n xs) c.loop-attr.all)
    (take_all c.loop-attr.attr-index shown (omega (arith, past))) (c.loop-attr.invariant.more values are)
