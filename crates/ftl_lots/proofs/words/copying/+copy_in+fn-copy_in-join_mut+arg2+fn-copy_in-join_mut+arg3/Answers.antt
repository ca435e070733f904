use Rattle.std.proofs.Common.{rules, ◌≡◌, ◌<◌, ◌≤◌, ◌+◌, ◌*◌, ◌^◌, ◌/◌, ◌++◌, ◌⊎◌, inl, inr, ⊎_elim, length, length-append, ap, subst, sym, ◌∙◌, arith}
use Rattle.ftl_lots.specs.words.Parts.{HaveRoom, IsCutInto}
use Rattle.ftl_lots.proofs.words.Cuts.{both_cut, least_is, plus_mul, room_left, room_right}
use Rattle.ftl_lots.proofs.words.copying.+copy_in+fn-copy_in-join_mut+arg2+fn-copy_in-join_mut+arg3.Goals as goal

pub join_mut-requires-after_bounds : goal.join_mut-requires-after_bounds
join_mut-requires-after_bounds g t c κs within =
    let size = c.args.size in
    let front = c.split_at_mut-front.result.0.now in
    let back = c.split_at_mut-front.result.1.now in
    let parts = c.args.parts.now in
    let left : HaveRoom size front =
    room_left size parts front back c.split_at_mut-front.ensures.value c.requires.room in
    let right : HaveRoom size back =
    room_right size parts front back c.split_at_mut-front.ensures.value c.requires.room in
    let count : length parts ≡ length front + length back =
    ap length c.split_at_mut-front.ensures.value ∙ length-append front back in
    let all : length parts * size ≡ length front * size + length back * size =
    ap (λ n. n * size) count ∙ plus_mul (length front) (length back) size in
    let half = ap (λ n. n * size) c.split_at_mut-front.ensures.front_len in
    let left_cover : length c.split_at.result.0.now ≤ length front * size =
    omega (arith, c.split_at.ensures.front_len, c.min.ensures, c.saturating_mul.ensures, half) in
    let short : length c.args.words.now < 2 ^ 64 = search rules in
    let right_cover : length c.split_at.result.1.now ≤ length back * size =
    omega (
      arith,
      c.split_at.ensures.back_len,
      c.min.ensures,
      c.saturating_mul.ensures,
      half,
      all,
      c.requires.cover,
      short,
    ) in
    search rules

pub returns : goal.returns
returns g t c =
    let size = c.args.size in
    let front = c.split_at_mut-front.result.0.now in
    let back = c.split_at_mut-front.result.1.now in
    let parts = c.args.parts.now in
    let xs = c.split_at.result.0.now in
    let ys = c.split_at.result.1.now in
    let half = ap (λ n. n * size) c.split_at_mut-front.ensures.front_len in
    let short : length c.args.words.now < 2 ^ 64 = search rules in
    let which = least_is (length parts / 2 * size) 18446744073709551615 (length c.args.words.now) c.min.result
    (omega (arith, c.min.ensures, c.saturating_mul.ensures)) (omega (arith, short)) in
    let or : (length xs ≡ length front * size) ⊎ (length ys ≡ 0) =
    ⊎_elim (λ full. inl (omega (arith, full, c.split_at.ensures.front_len, half)))
    (λ all. inr (omega (arith, all, c.split_at.ensures.back_len))) which in
    let left : IsCutInto size xs (length front) c.front-1.given.0 = search rules in
    let right : IsCutInto size ys (length back) c.back-1.given.0 = search rules in
    let count : length front + length back ≡ length parts =
    sym (ap length c.split_at_mut-front.ensures.value ∙ length-append front back) in record {
      cut = subst (λ n. IsCutInto size c.args.words.now n (c.front-1.given.0 ++ c.back-1.given.0)) count
          (both_cut size c.args.words.now xs ys (length front) (length back) c.front-1.given.0 c.back-1.given.0
          c.split_at.ensures.by_index.0 or left right);
    }
