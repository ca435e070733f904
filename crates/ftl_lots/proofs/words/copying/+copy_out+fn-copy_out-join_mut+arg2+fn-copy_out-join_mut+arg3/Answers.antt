use Rattle.std.proofs.Common.{rules, ◌≡◌, ◌≤◌, ◌++◌, length, ap, sym, ◌∙◌, arith}
use Rattle.ftl_lots.specs.words.Parts.{all_words}
use Rattle.ftl_lots.proofs.words.Cuts.{both_count, both_words}
use Rattle.ftl_lots.proofs.words.copying.+copy_out+fn-copy_out-join_mut+arg2+fn-copy_out-join_mut+arg3.Goals as goal

pub word_count-requires : goal.word_count-requires
word_count-requires g t c =
    let all = both_count c.args.parts.now c.split_at.result.0.now c.split_at.result.1.now c.split_at.ensures.by_index.0 in
    let within : length (all_words c.split_at.result.0.now) ≤ length c.args.words.now =
    omega (arith, all, c.requires.count) in
    search rules

pub split_at_mut-left-requires : goal.split_at_mut-left-requires
split_at_mut-left-requires g t c =
    let all = both_count c.args.parts.now c.split_at.result.0.now c.split_at.result.1.now c.split_at.ensures.by_index.0 in
    omega (arith, all, c.requires.count, c.word_count.ensures.count)

pub join_mut-requires-after_bounds : goal.join_mut-requires-after_bounds
join_mut-requires-after_bounds g t c κs within =
    let front = c.split_at.result.0.now in
    let back = c.split_at.result.1.now in
    let all = both_count c.args.parts.now front back c.split_at.ensures.by_index.0 in
    let left : length c.split_at_mut-left.result.0.now ≡ length (all_words front) =
    omega (arith, c.split_at_mut-left.ensures.front_len, c.word_count.ensures.count) in
    let right : length c.split_at_mut-left.result.1.now ≡ length (all_words back) =
    omega (
      arith,
      c.split_at_mut-left.ensures.back_len,
      c.word_count.ensures.count,
      all,
      c.requires.count,
    ) in
    search rules

pub returns : goal.returns
returns g t c =
    let front = c.split_at.result.0.now in
    let back = c.split_at.result.1.now in
    let whole = both_words c.args.parts.now front back c.split_at.ensures.by_index.0 in
    let left : c.left-1.given.0 ≡ all_words front = search rules in
    let right : c.right-1.given.0 ≡ all_words back = search rules in record {
      words = ap (λ xs. xs ++ c.right-1.given.0) left ∙ ap (λ ys. all_words front ++ ys) right ∙ sym whole;
    }
