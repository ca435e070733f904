-- The bytes that are answered, and what is answered to them.
use Rattle.std.proofs.Common.{◌≡◌, ◌≢◌, ◌∙◌, refl, sym, ap, subst, inl, inr, ℕ, suc, ◌<◌, ◌≤◌, Bool, true, false, List, [], Option, Some, None, Result, Ok, Err, IfOk, arith}
use Rattle.std.specs.Prelude.{IfSome, length, nat_lt, if◌then◌else◌, replicate}
use Rattle.std.proofs.lemmas.Bool.{lt-ltb}
use Rattle.std.proofs.lemmas.List.{length-replicate}
use Rattle.ftl_page.specs.commands.Commands.{answer_by}
use Rattle.ftl_page.specs.declared.commands.command.Command.{Command}
use Rattle.ftl_page.specs.declared.commands.command.Command.TheVariants as command
use Rattle.ftl_page.specs.declared.commands.command.CommandFault.{CommandFault}
use Rattle.ftl_page.specs.declared.commands.command.CommandFault.TheVariants.{BadWords, OutOfMemory}
use Rattle.ftl_page.specs.declared.workers.solving.Solving.{Solving}
use Rattle.ftl_boxes.specs.SamplePage.{sample_page_of}
use Rattle.ftl_boxes.specs.declared.fault.SampleFault.{SampleFault}
use Rattle.ftl_page.specs.declared.sections.page.Need.{Need}
use Rattle.ftl_page.specs.sections.Page.{page_of}
use Rattle.ftl_answer.specs.refusals.PageLines.{page_line, too_long_line, words_line}
use Rattle.ftl_answer.specs.answers.Answer.{Answer, refused}
use Rattle.ftl_answer.specs.answers.Answers.{command_in, obeyed, solved, solved_anew, summary_of}
use Rattle.ftl_answer.specs.answers.Stages.{Is, Stage, Then, ends, result_outcome}
use Rattle.ftl_answer.specs.answers.Texts.{page}
use Rattle.ftl_edge.specs.Counts.{raised}
use Rattle.ftl_answer.specs.headline.Headline.{OfTheBytes, bytes_answered, may_read, reads_page}
use Rattle.ftl_answer.specs.reading.sections.Outcomes.{answer_of}
use Rattle.ftl_answer.specs.declared.reading.sections.decision.Decided.{Decided}
use Rattle.ftl_answer.specs.reading.requests.Requests.{MayEndAs, IsAsked, evaluated, problem_stage}
use Rattle.ftl_answer.specs.reading.requests.ShownTexts.{text_shown}
use Rattle.ftl_answer.specs.declared.reading.requests.request.EditedPage.{EditedPage}
use Rattle.ftl_answer.specs.declared.reading.requests.request.Evaluation.{Evaluation}
use Rattle.ftl_answer.specs.declared.reading.requests.request.Evaluation.TheVariants.{Scheduled}
use Rattle.ftl_answer.specs.declared.reading.requests.request.Problem.{Problem}
use Rattle.ftl_answer.specs.declared.reading.requests.request.Request.{Request}
use Rattle.ftl_answer.specs.declared.reading.requests.request.Request.TheVariants.{Answered, Edit, Solve}
use Rattle.ftl_answer.specs.declared.reading.requests.shown.Shown.{Shown}
use Rattle.ftl_answer.specs.declared.reading.requests.shown.Shown.TheVariants.{Summary}

-- the bytes that were read are those that are told
pub of_whole : (told : Option (List ℕ)) (bytes : List ℕ) (P : List ℕ → Type 0) → IfSome told (λ left. bytes ≡ left)
    → P bytes → OfTheBytes told P
of_whole None bytes P are holds = (bytes, tt, holds)
of_whole (Some left) bytes P are holds = (bytes, are, holds)

-- ---- pages that are too long

too_long_page : (need : Need) (bytes : List ℕ) → nat_lt 67108864 (length bytes) ≡ true
    → page need bytes (ends (refused 4 too_long_line))
too_long_page need bytes long =
    sym
    (ap
    (λ (b : Bool). if b then ends (refused 4 too_long_line)
    else result_outcome (λ fault. refused 4 (page_line fault)) (page_of bytes need))
    long)

too_long_answer : (c : Command) (bytes : List ℕ) → reads_page c ≡ true → nat_lt 67108864 (length bytes) ≡ true
    → obeyed c bytes (ends (refused 4 too_long_line))
too_long_answer (command.Run how) bytes reads long = inl (_, too_long_page _ bytes long, refl)
too_long_answer command.Check bytes reads long = inl (_, too_long_page _ bytes long, refl)
too_long_answer command.Schedule bytes reads long = inl (_, too_long_page _ bytes long, refl)
too_long_answer command.Explain bytes reads long = inl (_, too_long_page _ bytes long, refl)
too_long_answer command.Demand bytes reads long = inl (_, too_long_page _ bytes long, refl)
too_long_answer (command.Edit how) bytes reads long = inl (_, too_long_page _ bytes long, refl)
too_long_answer (command.Sample pieces name how) bytes reads long = absurd cc

-- some bytes are longer than this
longer : (n : ℕ) → (bytes : List ℕ) × (nat_lt n (length bytes) ≡ true)
longer n = (
  replicate (suc n) 0,
  subst (λ (m : ℕ). nat_lt n m ≡ true) (sym (length-replicate (suc n) 0)) (lt-ltb n (suc n) (omega arith)),
)

of_too_long : (told : Option (List ℕ)) (c : Command) → reads_page c ≡ true
    → IfSome told (λ left. 67108864 < length left)
    → OfTheBytes told (λ bytes. obeyed c bytes (ends (refused 4 too_long_line)))
of_too_long None c reads long =
    let x = longer 67108864 in (x.0, tt, too_long_answer c x.0 reads x.1)
of_too_long (Some left) c reads long = (left, refl, too_long_answer c left reads (lt-ltb 67108864 (length left) long))

-- a page that is too long is asked for
pub too_long_asked : (told : Option (List ℕ)) (c : Command) (d : Decided) (old new : ℕ) → reads_page c ≡ true
    → IfSome told (λ left. 67108864 < length left) → raised old 67108865 ≤ new
    → answer_of d ≡ refused 4 too_long_line
    → OfTheBytes told (λ bytes. IsAsked (obeyed c bytes) bytes true old new (Answered d))
unfolding MayEndAs
too_long_asked told c d old new reads long over is =
    let x = of_too_long told c reads long in (
      x.0,
      x.1,
      record {
        comes = λ a same. subst (λ (b : Answer). obeyed c x.0 (ends b)) (sym (same ∙ is)) x.2;
        counted = λ read short. absurd (short is);
        over = λ read many. over;
      },
    )

-- ---- words and commands

-- the command that was read
pub command_back : (o : Option Command) (c : Command) → answer_by o ≡ Ok c → o ≡ Some c
command_back None c is = absurd cc
command_back (Some d) c is = ap Some cc

-- no command was read
pub no_command_back : (o : Option Command) (fault : CommandFault) → fault ≡ BadWords
    → (fault ≢ OutOfMemory → answer_by o ≡ Err fault) → o ≡ None
no_command_back None fault bad is = refl
no_command_back (Some c) fault bad is =
    let same : answer_by (Some c) ≡ Err BadWords =
    subst (λ (f : CommandFault). f ≢ OutOfMemory → answer_by (Some c) ≡ Err f) bad is (λ e. absurd cc) in
    absurd cc

-- a command that reads the page
pub of_read : (reads : Bool) (old : Option (List ℕ)) (P : List ℕ → Type 0) → reads ≡ true → OfTheBytes old P
    → OfTheBytes (bytes_answered reads old) P
of_read true old P is holds = holds
of_read false old P is holds = absurd cc

-- a command that reads none
pub of_unread : (reads : Bool) (old : Option (List ℕ)) (P : List ℕ → Type 0) → reads ≡ false → P []
    → OfTheBytes (bytes_answered reads old) P
of_unread false old P is holds = ([], refl, holds)
of_unread true old P is holds = absurd cc

-- words that are this command
pub of_words : (o : Option Command) (c : Command) (told : Option (List ℕ)) (old new : ℕ) (q : Request) → o ≡ Some c
    → OfTheBytes (bytes_answered (reads_page c) told) (λ bytes. IsAsked (obeyed c bytes) bytes (reads_page c) old new q)
    → OfTheBytes (bytes_answered (may_read o) told)
    (λ bytes. IsAsked (Then (Is (command_in o)) (λ d. obeyed d bytes)) bytes (may_read o) old new q)
unfolding MayEndAs
of_words o c told old new q is (bytes, are, asked) =
    subst
    (λ (x : Option Command).
    OfTheBytes (bytes_answered (may_read x) told)
    (λ bytes. IsAsked (Then (Is (command_in x)) (λ d. obeyed d bytes)) bytes (may_read x) old new q))
    (sym is)
    (bytes, are, record { comes = λ a answers. inr (c, refl, asked.comes a answers); counted = asked.counted; over = asked.over })

-- words that are no command
pub of_no_words : (o : Option Command) (told : Option (List ℕ)) (old new : ℕ) (d : Decided) → o ≡ None
    → answer_of d ≡ refused 2 words_line
    → OfTheBytes (bytes_answered (may_read o) told)
    (λ bytes. IsAsked (Then (Is (command_in o)) (λ k. obeyed k bytes)) bytes (may_read o) old new (Answered d))
unfolding MayEndAs
of_no_words None told old new d is same = (
  [],
  refl,
  record {
    comes =
        λ a e.
        subst (λ (b : Answer). Then (Is (command_in None)) (λ k. obeyed k []) (ends b)) (sym (e ∙ same))
        (inl (_, refl, refl));
    counted = λ reads. absurd cc;
    over = λ reads. absurd cc;
  },
)
of_no_words (Some c) told old new d is same = absurd cc

-- what holds of a value where the call succeeds
pub if_ok : {X E : Type 0} {P Q : X → Type 0} (r : Result X E) → ((x : X) → P x → Q x) → IfOk r P → IfOk r Q
if_ok (Ok x) each holds = each x holds
if_ok (Err e) each holds = tt

-- ---- commands

-- what was decided is what is asked for
pub answered_comes : (stage : Stage ⊥) (d : Decided) → stage (ends (answer_of d)) → MayEndAs stage (Answered d)
unfolding MayEndAs
answered_comes stage d holds = λ a same. subst (λ (b : Answer). stage (ends b)) (sym same) holds

-- a page is asked for that is to be solved
pub page_comes : (p : Problem) → MayEndAs (problem_stage p) (Solve p)
unfolding MayEndAs
page_comes p = λ a answers. answers

-- a page is asked for that is to be edited
pub edit_comes : (p : EditedPage) → MayEndAs (solved_anew p.bytes.items) (Edit p)
unfolding MayEndAs
edit_comes p = λ a answers. answers

-- the sample that is to be solved
pub sample_comes : (pieces : ℕ) (name told : List ℕ) (how : Solving) (bytes text : List ℕ) (p : Problem)
    → sample_page_of told pieces ≡ Ok text → told ≡ name → p.bytes.items ≡ text → p.shown ≡ Summary name
    → p.evaluation ≡ Scheduled how → MayEndAs (obeyed (command.Sample pieces name how) bytes) (Solve p)
unfolding MayEndAs
sample_comes pieces name told how bytes text p is named same shown scheduled = λ a answers.
    inr (
      text,
      sym
          (ap (result_outcome (λ fault. refused 2 words_line))
          (subst (λ (n : List ℕ). sample_page_of n pieces ≡ Ok text) named is)),
      subst (λ (t : List ℕ). solved t (summary_of name) (ends a)) same
          (subst (λ (what : Shown). solved p.bytes.items (text_shown what) (ends a)) shown
          (subst (λ (e : Evaluation). evaluated e p.bytes.items (text_shown p.shown) (ends a)) scheduled answers)),
    )

-- there is no such sample
pub no_sample_comes : (pieces : ℕ) (name told : List ℕ) (how : Solving) (bytes : List ℕ) (fault : SampleFault) (d : Decided)
    → sample_page_of told pieces ≡ Err fault → told ≡ name → answer_of d ≡ refused 2 words_line
    → MayEndAs (obeyed (command.Sample pieces name how) bytes) (Answered d)
no_sample_comes pieces name told how bytes fault d is named same =
    answered_comes (obeyed (command.Sample pieces name how) bytes) d
    (subst (λ (b : Answer). obeyed (command.Sample pieces name how) bytes (ends b)) (sym same)
    (inl (
      _,
      sym
          (ap (result_outcome (λ fault. refused 2 words_line))
          (subst (λ (n : List ℕ). sample_page_of n pieces ≡ Err fault) named is)),
      refl,
    )))
