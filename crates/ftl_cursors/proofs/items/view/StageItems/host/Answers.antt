use Rattle.std.proofs.Common.{arith, length, None, sym, ◌∙◌}
use Rattle.std.proofs.lemmas.List.{get_or-map}
use Rattle.ftl_cursors.specs.items.HostRows.{host_at}
use Rattle.ftl_cursors.proofs.items.RowsByHost.{number_known}
use Rattle.ftl_cursors.proofs.items.view.StageItems.host.Goals as goal

pub bounds-self-pass : goal.bounds-self-pass
bounds-self-pass c =
    let long = c.args.self.now.numbers.count_is in
    let known = c.requires.known in
    omega (arith, long, known)

pub numbered-requires : goal.numbered-requires
numbered-requires c =
    let s = c.args.self.now in
    record { known = number_known s.rows.now (length s.passes.now) s.cuts.now s.numbers c.args.pass c.requires.known }

pub returns : goal.returns
returns c =
    let s = c.args.self.now in
    let long = s.numbers.count_is in
    let known = c.requires.known in
    record {
      host =
          c.numbered.ensures.rows.host_is
          ∙ sym (get_or-map (host_at s.rows.now) s.cuts.now c.args.pass 0 None (omega (arith, long, known)));
    }
