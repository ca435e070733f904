use Rattle.std.proofs.Common.{◌+◌, [], ◌∷◌, ◌++◌, sym, refl, ap, ◌∙◌, subst, arith, false-eqb, rules}
use Rattle.std.specs.Str.{chars}
use Rattle.ftl_tokens.specs.scanner.Scan.{front_of}
use Rattle.ftl_tokens.specs.declared.scanner.fault.TokenFault.TheVariants.{BadChar, NumberTooLarge}
use Rattle.ftl_tokens.proofs.scanner.ScanLemmas.{HasRead, Advances, has_read_nothing, has_read_all, has_fault, has_char}
use Rattle.ftl_tokens.proofs.scanner.ScanLemmas.{large_step, nothing_step, gap_advances, token_advances, advanced_boundary}
use Rattle.ftl_tokens.proofs.scanner.ScanLemmas.{advanced_some, advanced_within, has_read_next}
use Rattle.ftl_tokens.proofs.scanner.scan.token_list.Goals as goal
use Rattle.ftl_tokens.proofs.scanner.scan.token_list.Goals.{in-Gap, in-Token+in_ok-push-in-Token}

pub loop-rest-init : goal.loop-rest-init
loop-rest-init c = record {
  is_text = c.utf8.text;
  read = subst (λ l. HasRead c.args.greatest c.args.text.now l 0 c.args.text.now) (sym c.new-list.ensures.items) (has_read_nothing c.args.greatest c.args.text.now c.utf8.text);
}

-- a token ends within the text
pub overflow_add-at : goal.overflow_add-at
overflow_add-at c =
    let turn : Advances c.args.greatest c.loop-rest.list.items (c.loop-rest.list.items ++ (record { kind = c.in-Token.kind; start = c.loop-rest.at; end = c.loop-rest.at + c.in-Token.len } ∷ [])) c.loop-rest.at c.in-Token.len c.loop-rest.rest.now =
    token_advances c.args.greatest _ _ _ _ c.in-Token.len c.in-Token.kind c.loop-rest.rest.now c.in-Token.ensures.piece refl refl
    in
    omega (arith, advanced_within c.loop-rest.invariant.read turn, c.requires.short)

pub overflow_cast-at-in-Token : goal.overflow_cast-at-in-Token
overflow_cast-at-in-Token c =
    let turn : Advances c.args.greatest c.loop-rest.list.items (c.loop-rest.list.items ++ (record { kind = c.in-Token.kind; start = c.loop-rest.at; end = c.loop-rest.at + c.in-Token.len } ∷ [])) c.loop-rest.at c.in-Token.len c.loop-rest.rest.now =
    token_advances c.args.greatest _ _ _ _ c.in-Token.len c.in-Token.kind c.loop-rest.rest.now c.in-Token.ensures.piece refl refl
    in
    omega (arith, advanced_within c.loop-rest.invariant.read turn, c.requires.short)

pub returns-in-LargeNumber : goal.returns-in-LargeNumber
returns-in-LargeNumber c =
    let read = c.loop-rest.invariant.read in
    record { exact = λ _. has_fault read (NumberTooLarge c.loop-rest.at) (large_step c.args.greatest c.loop-rest.at (chars c.loop-rest.rest.now) (front_of (chars c.loop-rest.rest.now)) refl c.in-LargeNumber.ensures.piece (has_char c.loop-rest.rest.now read.utf8 (omega (arith, false-eqb _ 0 c.loop-rest-test.ensures)))) }

pub returns-in-Nothing : goal.returns-in-Nothing
returns-in-Nothing c =
    let read = c.loop-rest.invariant.read in
    record { exact = λ _. has_fault read (BadChar c.loop-rest.at) (nothing_step c.args.greatest c.loop-rest.at (chars c.loop-rest.rest.now) (front_of (chars c.loop-rest.rest.now)) refl c.in-Nothing.ensures.piece (has_char c.loop-rest.rest.now read.utf8 (omega (arith, false-eqb _ 0 c.loop-rest-test.ensures)))) }

-- the front ends within the text
pub overflow_add-at-in-loop-rest : goal.overflow_add-at-in-loop-rest
overflow_add-at-in-loop-rest c =
    let turn : Advances c.args.greatest c.loop-rest.list.items c.match-piece_of.list.items c.loop-rest.at c.match-piece_of.len c.loop-rest.rest.now =
    elim c.match-piece_of.branch [
      | in-Gap w ↦ gap_advances c.args.greatest _ _ _ _ w.in-Gap.len c.loop-rest.rest.now w.in-Gap.ensures.piece w.len-is (ap (λ l. l.items) w.list-is)
      | in-Token+in_ok-push-in-Token w ↦ token_advances c.args.greatest _ _ _ _ w.in-Token.len w.in-Token.kind c.loop-rest.rest.now w.in-Token.ensures.piece w.len-is (ap (λ l. l.items) w.list-is ∙ w.in_ok-push-in-Token.ensures.items)
    ]
    in
    omega (arith, advanced_within c.loop-rest.invariant.read turn, c.requires.short)

-- and between characters
pub range_from-rest-requires : goal.range_from-rest-requires
range_from-rest-requires c =
    let turn : Advances c.args.greatest c.loop-rest.list.items c.match-piece_of.list.items c.loop-rest.at c.match-piece_of.len c.loop-rest.rest.now =
    elim c.match-piece_of.branch [
      | in-Gap w ↦ gap_advances c.args.greatest _ _ _ _ w.in-Gap.len c.loop-rest.rest.now w.in-Gap.ensures.piece w.len-is (ap (λ l. l.items) w.list-is)
      | in-Token+in_ok-push-in-Token w ↦ token_advances c.args.greatest _ _ _ _ w.in-Token.len w.in-Token.kind c.loop-rest.rest.now w.in-Token.ensures.piece w.len-is (ap (λ l. l.items) w.list-is ∙ w.in_ok-push-in-Token.ensures.items)
    ]
    in
    λ _. advanced_boundary c.loop-rest.invariant.read turn

pub loop-rest-smaller : goal.loop-rest-smaller
loop-rest-smaller c =
    let turn : Advances c.args.greatest c.loop-rest.list.items c.match-piece_of.list.items c.loop-rest.at c.match-piece_of.len c.loop-rest.rest.now =
    elim c.match-piece_of.branch [
      | in-Gap w ↦ gap_advances c.args.greatest _ _ _ _ w.in-Gap.len c.loop-rest.rest.now w.in-Gap.ensures.piece w.len-is (ap (λ l. l.items) w.list-is)
      | in-Token+in_ok-push-in-Token w ↦ token_advances c.args.greatest _ _ _ _ w.in-Token.len w.in-Token.kind c.loop-rest.rest.now w.in-Token.ensures.piece w.len-is (ap (λ l. l.items) w.list-is ∙ w.in_ok-push-in-Token.ensures.items)
    ]
    in
    omega (arith, c.range_from-rest.ensures.len, advanced_some c.loop-rest.invariant.read turn, (advanced_boundary c.loop-rest.invariant.read turn).0)

pub loop-rest-preserved : goal.loop-rest-preserved
loop-rest-preserved c =
    let turn : Advances c.args.greatest c.loop-rest.list.items c.match-piece_of.list.items c.loop-rest.at c.match-piece_of.len c.loop-rest.rest.now =
    elim c.match-piece_of.branch [
      | in-Gap w ↦ gap_advances c.args.greatest _ _ _ _ w.in-Gap.len c.loop-rest.rest.now w.in-Gap.ensures.piece w.len-is (ap (λ l. l.items) w.list-is)
      | in-Token+in_ok-push-in-Token w ↦ token_advances c.args.greatest _ _ _ _ w.in-Token.len w.in-Token.kind c.loop-rest.rest.now w.in-Token.ensures.piece w.len-is (ap (λ l. l.items) w.list-is ∙ w.in_ok-push-in-Token.ensures.items)
    ]
    in
    record {
      is_text = c.range_from-rest.utf8;
      read = has_read_next c.loop-rest.invariant.read turn c.range_from-rest.result.now c.range_from-rest.ensures.value;
    }

-- nothing is left
pub returns : goal.returns
returns c = record { exact = has_read_all c.loop-rest.invariant.read (search rules) }
