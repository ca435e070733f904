use Rattle.std.proofs.Common.{◌+◌, ◌≤◌, ◌≡◌, false, length, drop, sym, ap, ◌∙◌, arith, refl, get_or}
use Rattle.std.proofs.Common.{length-drop}
use Rattle.std.specs.List.{prefix_len}
use Rattle.std.proofs.lemmas.List.Sums.{prefix_len-le-length}
use Rattle.std.proofs.lemmas.Str.{IsCharBoundary-start, IsCharBoundary-after_ascii}
use Rattle.std.proofs.lemmas.Bool.{and_parts, ltb-true}
use Rattle.ftl_tokens.specs.declared.scanner.run.Run.TheVariants.{White, Comment}
use Rattle.ftl_tokens.specs.scanner.Run.{byte_goes_on}
use Rattle.ftl_document.proofs.plain.GapSteps.{past_white, past_comment, boundary_past, slice_behind}
use Rattle.ftl_document.proofs.plain.gaps.gap_length.Goals as goal
use Rattle.ftl_document.proofs.plain.gaps.gap_length.Goals.{After-comment_length}

-- how far the comment goes
count : (c : After-comment_length)
    → c.comment_length.result ≡ prefix_len (byte_goes_on Comment) (drop (c.loop-at.at + 1) c.args.bytes.now)
count c =
    c.comment_length.ensures.length
    ∙ ap (prefix_len (byte_goes_on Comment)) (slice_behind c.args.bytes.now (c.loop-at.at + 1))

within : (c : After-comment_length)
    → c.loop-at.at + (1 + c.comment_length.result) ≤ length c.args.bytes.now
within c =
    let bs = c.args.bytes.now in
    let at = c.loop-at.at in
    omega (arith, count c, prefix_len-le-length (byte_goes_on Comment) (drop (at + 1) bs), length-drop (at + 1) bs, c.loop-at-test.true)

pub loop-at-init : goal.loop-at-init
loop-at-init c = record {
  within = omega arith;
  boundary = λ utf8. IsCharBoundary-start _ utf8;
  same = λ greatest. refl;
}

pub loop-at-preserved-then-is_white : goal.loop-at-preserved-then-is_white
loop-at-preserved-then-is_white c =
    let bs = c.args.bytes.now in
    let at = c.loop-at.at in
    let white : byte_goes_on White (get_or bs at 0) ≡ _ = sym c.is_white.ensures.white ∙ c.if-is_white.true in
    record {
      within = omega (arith, c.loop-at-test.true);
      boundary = λ utf8.
          IsCharBoundary-after_ascii bs at utf8 c.loop-at-test.true
          (ltb-true (get_or bs at 0) 128 (and_parts _ _ white).0);
      same = λ greatest. c.loop-at.invariant.same greatest ∙ past_white greatest bs at c.loop-at-test.true white;
    }

pub overflow_add-at-then-byte-eq35-2 : goal.overflow_add-at-then-byte-eq35-2
overflow_add-at-then-byte-eq35-2 c = omega (arith, within c)

pub overflow_add-at-then-byte-eq35-3 : goal.overflow_add-at-then-byte-eq35-3
overflow_add-at-then-byte-eq35-3 c = omega (arith, within c)

pub loop-at-preserved : goal.loop-at-preserved
loop-at-preserved c =
    let bs = c.args.bytes.now in
    let at = c.loop-at.at in
    let white : byte_goes_on White (get_or bs at 0) ≡ false = sym c.is_white.ensures.white ∙ c.if-is_white.false in
    record {
      within = within c;
      boundary = λ utf8.
          boundary_past Comment bs at c.comment_length.result utf8 c.loop-at-test.true
          (omega (arith, c.if-byte-eq35.true)) (count c);
      same = λ greatest.
          c.loop-at.invariant.same greatest
          ∙ past_comment greatest bs at c.comment_length.result c.loop-at-test.true white c.if-byte-eq35.true (count c);
    }
