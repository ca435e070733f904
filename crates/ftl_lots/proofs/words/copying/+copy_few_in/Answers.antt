use Rattle.std.proofs.Common.{rules, ◌≡◌, ◌<◌, ◌≤◌, ◌*◌, suc, [], ◌∷◌, length, ap, arith}
use Rattle.std.proofs.Math.Nat.{suc-mul}
use Rattle.ftl_lots.specs.words.Parts.{HaveRoom}
use Rattle.ftl_lots.proofs.words.Cuts.{room_right}
use Rattle.ftl_lots.proofs.words.copying.+copy_few_in.Goals as goal

pub copy_few_in-requires : goal.copy_few_in-requires
copy_few_in-requires t c =
    let two = c.in-Some.ensures.cases in
    let rest = c.in-Some.rest.now in
    let fewer : length rest < length c.args.parts.now = omega (arith, two.1) in
    let room : HaveRoom c.args.size rest =
    room_right c.args.size c.args.parts.now (c.in-Some.part.now ∷ []) rest two.0 c.requires.room in
    let all : length c.args.parts.now * c.args.size ≡ suc (length rest) * c.args.size =
    ap (λ n. n * c.args.size) (ap length two.0) in
    let cover : length c.split_at.result.1.now ≤ length rest * c.args.size =
    omega (
      arith,
      c.requires.cover,
      all,
      suc-mul (length rest) c.args.size,
      c.split_at.ensures.back_len,
      c.min.ensures,
    ) in
    search rules
