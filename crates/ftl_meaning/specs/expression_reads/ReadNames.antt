-- What a read with borrowed names reads.
use Rattle.ftl_meaning.specs.declared.formulas.read_name.ReadName.{ReadName}
use Rattle.ftl_meaning.specs.declared.formulas.read_name.ReadName.TheVariants as names
use Rattle.ftl_meaning.specs.declared.expression_reads.read_ref.ReadKind.{ReadKind}
use Rattle.ftl_meaning.specs.declared.expression_reads.read_ref.ReadKind.TheVariants as kinds

-- the read with the names themselves
abbrev pub name_of : ReadKind → ReadName
name_of (kinds.Own a) = names.Own a.now
name_of (kinds.This a) = names.This a.now
name_of (kinds.Prev a) = names.Prev a.now
name_of (kinds.Of c a) = names.Of c.now a.now
name_of (kinds.Last c a) = names.Last c.now a.now
name_of kinds.Acc = names.Acc
