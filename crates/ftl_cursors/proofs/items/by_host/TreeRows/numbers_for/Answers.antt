use Rattle.std.proofs.Common.{◌<◌, ◌++◌, ◌∷◌, [], ℕ, List, Option, None, length, ap, ap₂, sym, ◌∙◌, subst, arith}
use Rattle.std.specs.List.{All}
use Rattle.std.proofs.lemmas.List.{length-map, map_push, take_all, take_more}
use Rattle.std.proofs.lemmas.List.Elements.{All-get_or, All-nil, All-push}
use Rattle.std.specs.Prelude.{Contains}
use Rattle.ftl_cursors.specs.items.HostRows.{host_at, hosts_by, hosts_of}
use Rattle.ftl_cursors.proofs.items.by_host.TreeRows.numbers_for.Goals as goal

pub loop-host-init : goal.loop-host-init
loop-host-init c =
    let s = c.args.self.now in
    let none = c.in_ok-numbers.ensures.items in
    record {
      known =
          subst (All (λ n. n < length s.by_host.items)) (sym none) (All-nil (λ n. n < length s.by_host.items));
      hosts = ap (hosts_by s) none;
    }

pub number_for-requires : goal.number_for-requires
number_for-requires c =
    record {
      known =
          All-get_or (Contains (hosts_of c.args.self.now)) c.args.hosts.now c.loop-host.host-index None
          c.loop-host-test.true c.requires.known;
    }

pub loop-host-preserved : goal.loop-host-preserved
loop-host-preserved c =
    let s = c.args.self.now in
    let n = c.loop-host.host-index in
    let old = c.loop-host.numbers.items in
    let found = c.number_for.ensures.number in
    let grown = c.in_ok-push.ensures.items in
    record {
      known =
          subst (All (λ n. n < length s.by_host.items)) (sym grown)
          (All-push (λ n. n < length s.by_host.items) old c.number_for.result c.loop-host.invariant.known found.known);
      hosts =
          ap (hosts_by s) grown
          ∙ map_push (host_at s) old c.number_for.result
          ∙ ap₂ (λ (hs : List (Option ℕ)) h. hs ++ h ∷ []) c.loop-host.invariant.hosts found.host_is
          ∙ sym (take_more c.args.hosts.now n None c.loop-host-test.true);
    }

pub returns : goal.returns
returns c =
    let s = c.args.self.now in
    let hosts = c.args.hosts.now in
    let past = c.loop-host-test.false in
    let are = c.loop-host.invariant.hosts ∙ take_all c.loop-host.host-index hosts (omega (arith, past)) in
    record {
      numbers = record {
        numbers_are = record {
          count_is = sym (length-map c.loop-host.numbers.items (host_at s)) ∙ ap (λ (hs : List (Option ℕ)). length hs) are;
          known = c.loop-host.invariant.known;
        };
        hosts_are = are;
      };
    }
