use Rattle.std.proofs.Common.{w64, true, eqb, not, refl, sym, ◌∙◌, arith}
use Rattle.std.proofs.lemmas.Bool.{both_ways}
use Rattle.std.proofs.lemmas.Simd.{bitmask_splat}
use Rattle.lane_rows.specs.Words.{row_of}
use Rattle.lane_rows.proofs.Lowest.{least_by_mask, row_of-no_lane, not_empty}
use Rattle.lane_rows.proofs.words.first.Goals as goal

pub returns-then-mask-eq0-clause-none : goal.returns-then-mask-eq0-clause-none
returns-then-mask-eq0-clause-none c =
    let mask = bitmask_splat w64 (λ a b. not (eqb a b)) c.args.words 32 0 c.fits-words.0 (omega arith) in
    (λ _. row_of-no_lane c.args.words (sym mask ∙ c.if-mask-eq0.true), λ _. refl)

pub bounds-words-lane : goal.bounds-words-lane
bounds-words-lane c =
    let mask = bitmask_splat w64 (λ a b. not (eqb a b)) c.args.words 32 0 c.fits-words.0 (omega arith) in
    (least_by_mask c.args.words _ c.fits-words.0 c.fits-words.1 mask c.if-mask-eq0.false).0

pub returns-clause-least : goal.returns-clause-least
returns-clause-least c =
    let mask = bitmask_splat w64 (λ a b. not (eqb a b)) c.args.words 32 0 c.fits-words.0 (omega arith) in
    (least_by_mask c.args.words _ c.fits-words.0 c.fits-words.1 mask c.if-mask-eq0.false).1

pub returns-clause-none : goal.returns-clause-none
returns-clause-none c =
    let mask = bitmask_splat w64 (λ a b. not (eqb a b)) c.args.words 32 0 c.fits-words.0 (omega arith) in
    let least = (least_by_mask c.args.words _ c.fits-words.0 c.fits-words.1 mask c.if-mask-eq0.false).1 in
    (λ e. absurd (both_ways true e refl), not_empty (row_of c.args.words) _ least)
