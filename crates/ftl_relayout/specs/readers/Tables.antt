-- How the table of readers is filled.
use Rattle.std.specs.Prelude.{◌≡◌, ◌⊎◌, ℕ, ◌<◌, List, [], Contains, length, slice_index_or}
use Rattle.ftl_deps.specs.declared.parts.part_read.PartRead.{PartRead}
use Rattle.ftl_deps.specs.parts.RuleParts.{read_meant}
use Rattle.ftl_meaning.specs.declared.faults.info.RuleInfo.{RuleInfo}
use Rattle.ftl_meaning.specs.faults.Checked.{CheckedGrammar, rule_info_at}
use Rattle.ftl_model.specs.layout.AttributeGrammar.{Parts, plain}
use Rattle.ftl_relayout.specs.declared.readers.reader.Reader.{Reader}
use Rattle.ftl_relayout.specs.declared.readers.reader.When.{When}
use Rattle.ftl_relayout.specs.readers.Readers.{IsReadWhen, attribute_read, list_at, whose_read}

-- the number of the list that a reader is in, among those for so many classes
abbrev pub list_of : (classes : ℕ) → Reader → ℕ
list_of n e = list_at n (attribute_read e.read) e.info.class (whose_read e.read)

-- a read among these, of a part that is read then
pub record IsOfReads (info : RuleInfo) (time : When) (reads : List PartRead) (e : Reader) : Type 0 where
  pub info_is : e.info ≡ info
  pub time_is : e.when ≡ time
  pub among : Contains reads e.read

-- a read of a rule with these parts
pub record IsOfParts (info : RuleInfo) (parts : Parts) (e : Reader) : Type 0 where
  pub info_is : e.info ≡ info
  pub reads : IsReadWhen parts e.when (read_meant e.read)

-- such readers came, each into its list, where there is one
pub record Comes (classes : ℕ) (before after : List (List Reader)) (P : Reader → Type 0) : Type 0 where
  pub long : length after ≡ length before
  pub kept :
      (n : ℕ) (e : Reader) → Contains (slice_index_or before n []) e → Contains (slice_index_or after n []) e
  pub has :
      (e : Reader) → P e → list_of classes e < length after → Contains (slice_index_or after (list_of classes e) []) e
  pub only :
      (n : ℕ) (e : Reader) → Contains (slice_index_or after n []) e
      → Contains (slice_index_or before n []) e ⊎ (P e × (list_of classes e ≡ n))

-- no list has anything in it
abbrev pub HasNone : List (List Reader) → Type 0
HasNone lists = (n : ℕ) (e : Reader) → Contains (slice_index_or lists n []) e → ⊥

-- a read of one of the rules before this one, with these parts
pub record IsOfRules (c : CheckedGrammar) (parts : List Parts) (n : ℕ) (e : Reader) : Type 0 where
  pub rule : ℕ
  pub below : rule < n
  pub of : IsOfParts (rule_info_at c.grammar rule) (slice_index_or parts rule (plain [])) e
