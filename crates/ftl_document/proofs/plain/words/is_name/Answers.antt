use Rattle.std.proofs.Common.{◌<◌, sym, subst, List, ℕ, slice_index_or}
use Rattle.ftl_document.proofs.plain.SmallLetters.{name_by_first}
use Rattle.ftl_document.proofs.plain.words.is_name.Goals as goal

pub returns-then-bytes-lt97 : goal.returns-then-bytes-lt97
returns-then-bytes-lt97 c =
    record {
      name = sym
          (name_by_first c.args.word.now
          (subst (λ (bytes : List ℕ). slice_index_or bytes 0 0 < 97) c.as_bytes-bytes.ensures.value c.if-bytes-lt97.true));
    }
