use Rattle.std.proofs.Common.{arith, ◌<◌, get_or, sym, ap, subst, ◌∙◌, ◌≡◌, take, drop, length, ◌++◌}
use Rattle.std.proofs.Math.Seq.{take-append_seam}
use Rattle.ftl_noncircular.specs.walks.WalkTables.{AreLed, AreNearly, AreSameRows, AreWalks, IsFrom}
use Rattle.ftl_noncircular.proofs.walks.LedTables.{nearly, no_further, walks_now}
use Rattle.ftl_noncircular.proofs.walks.table.Walks.put.Goals as goal

pub lead_all_on-requires-clause-nearly : goal.lead_all_on-requires-clause-nearly
lead_all_on-requires-clause-nearly c =
    subst (AreNearly c.put.new.self c.args.from c.args.to) (sym c.deref_mut.ensures.value)
    (nearly c.self.inside.edges c.put.new.self c.args.from c.args.to c.put.ensures.added c.put.ensures.size
    c.self.invariant.ends c.self.inside.starts.items c.self.inside.rows.items c.self.invariant)

pub invariant_of-self : goal.invariant_of-self
invariant_of-self c =
    let count : length c.lead_all_on.new.rows ≡ length c.self.inside.rows.items =
    c.lead_all_on.ensures.count ∙ ap length c.deref_mut.ensures.value in
    let walks : AreWalks c.put.new.self c.self.inside.starts.items c.lead_all_on.new.rows =
    walks_now c.self.inside.edges c.put.new.self c.args.from c.args.to c.put.ensures.added c.put.ensures.size
    (omega (arith, c.requires.to, ap (λ w. length w.edges) c.self.view_is)) c.self.inside.starts.items
    c.self.inside.rows.items c.lead_all_on.new.rows c.self.invariant count
    (subst (λ rows. AreLed c.put.new.self rows c.lead_all_on.new.rows) c.deref_mut.ensures.value
    c.lead_all_on.ensures.led) in
    let all : c.self.inside.rows.len ≡ length c.lead_all_on.new.rows =
    omega (arith, c.deref_mut.ensures.len, c.lead_all_on.ensures.count) in
    subst (λ rows. AreWalks c.put.new.self c.self.inside.starts.items rows)
    (sym (ap (λ n. take n (c.lead_all_on.new.rows
    ++ drop (length c.lead_all_on.new.rows) c.self.inside.rows.items)) all
    ∙ take-append_seam c.lead_all_on.new.rows (drop (length c.lead_all_on.new.rows) c.self.inside.rows.items))) walks

pub returns-clause-same : goal.returns-clause-same
returns-clause-same c e k b below from =
    let count : length c.lead_all_on.new.rows ≡ length c.self.inside.rows.items =
    c.lead_all_on.ensures.count ∙ ap length c.deref_mut.ensures.value in
    let walks : AreWalks c.put.new.self c.self.inside.starts.items c.lead_all_on.new.rows =
    walks_now c.self.inside.edges c.put.new.self c.args.from c.args.to c.put.ensures.added c.put.ensures.size
    (omega (arith, c.requires.to, ap (λ w. length w.edges) c.self.view_is)) c.self.inside.starts.items
    c.self.inside.rows.items c.lead_all_on.new.rows c.self.invariant count
    (subst (λ rows. AreLed c.put.new.self rows c.lead_all_on.new.rows) c.deref_mut.ensures.value
    c.lead_all_on.ensures.led) in
    subst (λ w. IsFrom w.edges (get_or w.starts k 0) b) c.self.view_is
    (no_further c.self.inside.edges c.put.new.self c.args.from c.args.to c.put.ensures.added
    c.self.inside.starts.items c.self.inside.rows.items c.lead_all_on.new.rows c.self.invariant walks
    (subst (λ rows. AreSameRows rows c.lead_all_on.new.rows) c.deref_mut.ensures.value (c.lead_all_on.ensures.same e))
    k b (subst (λ w. k < length w.starts) (sym c.self.view_is) below) from)
