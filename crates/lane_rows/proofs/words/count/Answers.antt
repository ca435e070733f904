use Rattle.std.proofs.Common.{arith}
use Rattle.lane_rows.proofs.Counts.{len-row_of, sum_fits}
use Rattle.lane_rows.proofs.words.count.Goals as goal

pub overflow_cast-result-2 : goal.overflow_cast-result-2
overflow_cast-result-2 c = sum_fits c.args.words c.fits-words.0 c.fits-words.1

pub returns-clause-numbers : goal.returns-clause-numbers
returns-clause-numbers c = (len-row_of c.args.words c.fits-words.1 (omega (arith, c.fits-words.0))).0

pub returns-clause-few : goal.returns-clause-few
returns-clause-few c =
    let all = len-row_of c.args.words c.fits-words.1 (omega (arith, c.fits-words.0)) in
    omega (arith, all.0, all.1, c.fits-words.0)
