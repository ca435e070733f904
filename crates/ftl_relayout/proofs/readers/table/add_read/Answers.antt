use Rattle.std.proofs.Common.{◌≡◌, [], ◌∷◌, ap, ◌∙◌, arith, set, get_or, ◌++◌}
use Rattle.ftl_relayout.specs.declared.readers.reader.Reader.{Reader}
use Rattle.ftl_relayout.specs.readers.Tables.{IsOfReads, list_of}
use Rattle.ftl_relayout.proofs.queue.Trails.{on_ok}
use Rattle.ftl_relayout.proofs.readers.Comings.{comes_as, comes_none, comes_one, is_reader, reader_is}
use Rattle.ftl_relayout.proofs.readers.table.add_read.Goals as goal

pub returns-then-list-lists : goal.returns-then-list-lists
returns-then-list-lists c = record {
  comes =
      comes_none c.args.classes c.args.lists.now (IsOfReads c.args.info c.args.when (c.args.read ∷ []))
      (λ e is below.
      let same = ap (λ (r : Reader). list_of c.args.classes r) (reader_is c.args.info c.args.when c.args.read e is) in
      let past = c.if-list-lists.true in
      let place = c.list_of-list.ensures.place in
      omega (arith, same, past, place, below));
}

pub returns : goal.returns
returns c =
    let r : Reader = record { info = c.args.info; when = c.args.when; read = c.args.read } in
    let place = c.list_of-list.ensures.place in
    let below = c.if-list-lists.false in
    record {
      comes =
          on_ok c.add_reader.result
          (λ is.
          comes_as c.args.classes c.args.lists.now c.add_reader.new.lists (λ e. e ≡ r)
          (IsOfReads c.args.info c.args.when (c.args.read ∷ []))
          (comes_one c.args.classes c.args.lists.now c.add_reader.new.lists r (omega (arith, place, below))
          (is ∙ ap (λ n. set c.args.lists.now n (get_or c.args.lists.now n [] ++ r ∷ [])) place))
          (reader_is c.args.info c.args.when c.args.read) (is_reader c.args.info c.args.when c.args.read))
          c.add_reader.ensures.list;
    }
