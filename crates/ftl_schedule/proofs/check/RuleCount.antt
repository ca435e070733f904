-- Rules by number, and how many reads each has.
use Rattle.std.proofs.Common.{◌≡◌, ℕ, ◌+◌, ◌<◌, ◌≤◌, length, get_or, map, List, [], Option, Some, None, refl, sym, ◌∙◌, ap, subst, Bool, true, false, if◌then◌else◌, arith, length-append}
use Rattle.std.proofs.lemmas.List.{get_or-map, length-map}
use Rattle.ftl_base.specs.Widths.{greatest_of_width}
use Rattle.ftl_model.specs.layout.AttributeGrammar.{AttributeGrammar, Part, Parts, Read, RuleName, first_part, first_then, fold_over}
use Rattle.ftl_model.specs.layout.AttributeGrammar.{for_self, from_part, plain, plain_part, reads_in, then_part, with_part}
use Rattle.ftl_model.specs.layout.Solves.{rule_named}
use Rattle.ftl_order.specs.orders.Lawful.{IsRule, class_of_rule}
use Rattle.ftl_order.specs.orders.Ordered.{VisitPlace, visit_place}
use Rattle.ftl_meaning.specs.faults.Checked.{CheckedGrammar, all_rules, rule_info_at}
use Rattle.ftl_meaning.specs.declared.faults.info.RuleInfo.{RuleInfo}
use Rattle.ftl_meaning.specs.faults.FirstFault.{first_fault}
use Rattle.ftl_order.specs.dependencies.DepReads.{dep_read, dep_table, reads_of_parts, rule_reads}
use Rattle.ftl_order.specs.dependencies.Writers.{first_writer}
use Rattle.ftl_order.specs.declared.dependencies.dep_read.DepRead.{DepRead}
use Rattle.ftl_meaning.proofs.lawful.WithinLimits.{within_limits}
use Rattle.ftl_deps.specs.reads.DepRows.{DepRows, dep_rows, reads_at, rule_writers, writer_at}
use Rattle.ftl_deps.specs.reads.Meant.{meant}
use Rattle.ftl_deps.specs.reads.Products.{name_of_child, name_of_info}
use Rattle.ftl_deps.proofs.reads.RuleNumbers.{rules_long, info_is, info_rule}
use Rattle.std.proofs.lemmas.List.Quantifiers.{position-Some}
use Rattle.ftl_order.specs.dependencies.Writers.{is_writer}
use Rattle.ftl_order.specs.orders.Schedule.{Placing}
use Rattle.ftl_order.specs.faults.FirstFault.{fault_by, unordered_writer}
use Rattle.ftl_order.specs.faults.OrderedReads.{is_ordered_read}
use Rattle.ftl_order.specs.declared.faults.fault.VerifyFault.{VerifyFault}
use Rattle.ftl_order.specs.declared.faults.fault.VerifyFault.TheVariants.{Unordered}
use Rattle.ftl_schedule.specs.check.RuleAt.{read_at, rule_at}
use Rattle.ftl_schedule.proofs.check.FirstWriters.{first_tells, late_writer}
use Rattle.ftl_schedule.proofs.check.FaultsAlong.{numbered_here, numbered_later, numbered_end}

-- how many rules there are
pub rules_counted : (c : CheckedGrammar) → first_fault c.grammar ≡ None
    → length (all_rules c.grammar) ≡ length (meant c).rules
rules_counted c none = sym (rules_long c none)

pub few_parts : (x : Parts) → ((part : Part) → length (reads_in x part) ≤ 256) → length (reads_of_parts x) ≤ 512
few_parts (plain reads) few = let one = few plain_part in omega (arith, one)
few_parts (first_then first later) few =
    let one = few first_part in
    let more = few then_part in
    omega (arith, length-append first later, one, more)
few_parts (fold_over child start step) few =
    let one = few from_part in
    let more = few with_part in
    omega (arith, length-append start step, one, more)

module _ (c : CheckedGrammar) (none : first_fault c.grammar ≡ None) (n : ℕ) (within : n < length (all_rules c.grammar)) where
  known : n < length (meant c).rules
  known = subst (λ m. n < m) (rules_counted c none) within

  is_rule : IsRule (meant c) (rule_at (meant c) n)
  is_rule = subst (IsRule (meant c)) (sym (info_is c none n within)) (info_rule c none n within)

  -- its reads are few
  pub few_reads : length (rule_reads (meant c) (rule_at (meant c) n)) ≤ 512
  few_reads =
      let parts = (rule_named (meant c) (rule_at (meant c) n)).parts in
      let few = few_parts parts
      (λ part. (within_limits c.grammar none (greatest_of_width c.width)).reads (rule_at (meant c) n) part is_rule) in
      omega (arith, length-map (reads_of_parts parts) (dep_read (meant c)), few)

  -- its row in the table
  pub reads_there : reads_at (dep_rows (meant c)) n ≡ rule_reads (meant c) (rule_at (meant c) n)
  reads_there = get_or-map (rule_reads (meant c)) (meant c).rules n (for_self 0 0) [] known

  pub row_there : n < length (dep_table (meant c))
  row_there = subst (λ m. n < m) (sym (length-map (meant c).rules (rule_reads (meant c)))) known

  -- the first writer of one of its reads
  pub writer_there : (k : ℕ) → k < length (rule_reads (meant c) (rule_at (meant c) n))
      → writer_at (dep_rows (meant c)) n k
      ≡ first_writer (meant c) (class_of_rule (rule_at (meant c) n)) (read_at (rule_reads (meant c) (rule_at (meant c) n)) k)
  writer_there k place =
      let w = rule_at (meant c) n in
      ap (λ (row : List (Option ℕ)). get_or row k None)
      (get_or-map (rule_writers (meant c)) (meant c).rules n (for_self 0 0) [] known)
      ∙ get_or-map (first_writer (meant c) (class_of_rule w)) (rule_reads (meant c) w) k (read_at [] 0) None place

  -- the table that a grammar has
  module _ (t : DepRows) (is : t ≡ dep_rows (meant c)) where
    pub row_in : n < length t.reads
    row_in = subst (λ (x : DepRows). n < length x.reads) (sym is) row_there

    pub reads_in_row : reads_at t n ≡ rule_reads (meant c) (rule_at (meant c) n)
    reads_in_row = ap (λ (x : DepRows). reads_at x n) is ∙ reads_there

    pub few_in_row : length (reads_at t n) ≤ 512
    few_in_row = subst (λ (xs : List DepRead). length xs ≤ 512) (sym reads_in_row) few_reads

    module _ (k : ℕ) (place : k < length (rule_reads (meant c) (rule_at (meant c) n))) where
      pub place_in_row : k < length (reads_at t n)
      place_in_row = subst (λ (xs : List DepRead). k < length xs) (sym reads_in_row) place

      -- the read at this place
      abbrev read : DepRead
      read = read_at (rule_reads (meant c) (rule_at (meant c) n)) k

      first_is : first_writer (meant c) (class_of_rule (rule_at (meant c) n)) read ≡ writer_at t n k
      first_is = sym (ap (λ (x : DepRows). writer_at x n k) is ∙ writer_there k place)

      -- the first writer is a rule
      pub writer_known : (v : ℕ) → writer_at t n k ≡ Some v → v < length (all_rules c.grammar)
      writer_known v at =
          subst (λ m. v < m) (rules_long c none)
          (position-Some (is_writer (meant c) (class_of_rule (rule_at (meant c) n)) read) (meant c).rules v (for_self 0 0) (first_is ∙ at)).0

      module _ (at : Placing) where
        -- the fault of the read
        abbrev fault : Option VerifyFault
        fault = fault_by n (unordered_writer (meant c) at (rule_at (meant c) n) read)

        fault_is : (o : Option ℕ) → writer_at t n k ≡ o → fault ≡ fault_by n (late_writer (meant c) at (rule_at (meant c) n) read o)
        fault_is o writer =
            ap (fault_by n)
            (first_tells (meant c) at (rule_at (meant c) n) read
            ∙ ap (late_writer (meant c) at (rule_at (meant c) n) read) (first_is ∙ writer))

        pub no_writer : writer_at t n k ≡ None → fault ≡ None
        no_writer writer = fault_is None writer

        pub by_writer : (v : ℕ) → writer_at t n k ≡ Some v
            → fault ≡ (if is_ordered_read (meant c) at read (rule_at (meant c) v) (rule_at (meant c) n) then None else Some (Unordered n v))
        by_writer v writer = fault_is (Some v) writer ∙ by (is_ordered_read (meant c) at read (rule_at (meant c) v) (rule_at (meant c) n))
          where
            by : (b : Bool) → fault_by n (if b then None else Some v) ≡ (if b then None else Some (Unordered n v))
            by true = refl
            by false = refl

  -- what is known of it, and where it stands
  module _ (i : RuleInfo) (told : i ≡ rule_info_at c.grammar n) where
    named : visit_place (meant c) (name_of_child i.class i.attr i.child) ≡ visit_place (meant c) (rule_at (meant c) n)
    named = ap (visit_place (meant c)) (ap name_of_info told ∙ sym (info_is c none n within))

    pub stands : (o : Option ℕ) → i.child ≡ o
        → visit_place (meant c) (name_of_child i.class i.attr o) ≡ visit_place (meant c) (rule_at (meant c) n)
    stands o is = ap (λ x. visit_place (meant c) (name_of_child i.class i.attr x)) (sym is) ∙ named

-- the steps of a loop over all rules
pub ruleset rule_steps = (numbered_here, numbered_later, numbered_end, rules_counted)
