use Rattle.std.proofs.lemmas.Bool.Decides.{Decides-eqb}
use Rattle.std.proofs.lemmas.Slice.Eq.{strip_prefix_is}
use Rattle.maugzeris.proofs.refusals.place.after.Goals as goal

pub returns : goal.returns
returns c =
    record {
      rest = strip_prefix_is Decides-eqb c.args.text.now c.args.beginning.now c.strip_prefix.result
          c.strip_prefix.ensures.cases;
    }
