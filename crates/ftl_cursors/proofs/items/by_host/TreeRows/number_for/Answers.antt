use Rattle.std.proofs.Common.{◌≡◌, ℕ, ◌<◌, List, Option, None, ap, get_or, length, ⊎_elim, ◌∙◌, sym, subst, arith}
use Rattle.std.proofs.lemmas.Bool.{cases_lt}
use Rattle.std.proofs.lemmas.List.{get_or-map, length-map}
use Rattle.ftl_cursors.specs.items.HostRows.{host_at, hosts_of, is_one_host}
use Rattle.ftl_cursors.specs.declared.items.by_host.TreeRows.{TreeRows}
use Rattle.ftl_cursors.specs.declared.items.columns.ItemRows.{ItemRows}
use Rattle.ftl_cursors.proofs.items.RowsByHost.{none_there, same_host}
use Rattle.ftl_cursors.proofs.items.by_host.TreeRows.number_for.Goals as goal

-- the host class of the rows that were read
host_read : (s : TreeRows) (rows : List ItemRows) (n : ℕ) (r : ItemRows) → rows ≡ s.by_host.items → n < length rows
    → (get_or rows n r).host ≡ host_at s n
host_read s rows n r these below =
    ap (λ (rs : List ItemRows). (get_or rs n r).host) these
    ∙ sym
    (get_or-map (λ (x : ItemRows). x.host) s.by_host.items n r None
    (subst (λ (rs : List ItemRows). n < length rs) these below))

pub loop-number-init : goal.loop-number-init
loop-number-init c = λ k less. absurd (omega (arith, less))

pub returns-then-is_one_host : goal.returns-then-is_one_host
returns-then-is_one_host c =
    let s = c.args.self.now in
    let rows = c.as_slice-rows.result.now in
    let n = c.loop-number.number in
    let r = c.index-rows-number.result in
    let these = c.as_slice-rows.ensures.value in
    let below = c.loop-number-test.true in
    let host = host_read s rows n r these below in
    record {
      number = record {
        known = subst (λ (rs : List ItemRows). n < length rs) these below;
        host_is = sym host ∙ same_host (get_or rows n r).host c.args.host (sym c.is_one_host.ensures.one ∙ c.if-is_one_host.true);
      };
    }

pub loop-number-preserved : goal.loop-number-preserved
loop-number-preserved c =
    let s = c.args.self.now in
    let rows = c.as_slice-rows.result.now in
    let n = c.loop-number.number in
    let r = c.index-rows-number.result in
    let host = host_read s rows n r c.as_slice-rows.ensures.value c.loop-number-test.true in
    λ k less.
    ⊎_elim (λ before. c.loop-number.invariant k before)
    (λ more.
    let same : k ≡ n = omega (arith, less, more) in
    ap (λ m. is_one_host (host_at s m) c.args.host) same
    ∙ ap (λ (h : Option ℕ). is_one_host h c.args.host) (sym host)
    ∙ sym c.is_one_host.ensures.one
    ∙ c.if-is_one_host.false)
    (cases_lt k n)

pub unreachable-requires : goal.unreachable-requires
unreachable-requires c =
    let s = c.args.self.now in
    let past = c.loop-number-test.false in
    let long =
    ap (λ (rs : List ItemRows). length rs) c.as_slice-rows.ensures.value
    ∙ sym (length-map s.by_host.items (λ (r : ItemRows). r.host)) in
    none_there (hosts_of s) c.args.host
    (λ k below. c.loop-number.invariant k (omega (arith, below, past, long))) c.requires.known
