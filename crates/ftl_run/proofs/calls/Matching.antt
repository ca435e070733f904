-- From what was asked for, answered and written to how the call ends.
use Rattle.std.proofs.Common.{◌≡◌, ◌≢◌, ⊎_elim, refl, sym, ◌∙◌, ap, subst, inl, inr, ℕ, true, arith}
use Rattle.std.proofs.Common.{List, [], Option, Some, None, Result, Ok, Err, IfOk}
use Rattle.std.specs.Prelude.{IfSome}
use Rattle.std.specs.Result.{IsErrOf}
use Rattle.ftl_answer.specs.answers.Answer.{Answer, refused}
use Rattle.ftl_answer.specs.answers.Answers.{HasOneAnswer, IsAnswer, answered}
use Rattle.ftl_answer.specs.answers.Stages.{Stage, ends}
use Rattle.ftl_answer.specs.headline.Headline.{AreTold, Call, GivesTheAnswer, HasCauses, IsAnswered, MatchesAnswer, OfTheBytes}
use Rattle.ftl_answer.specs.headline.Headline.{SinkFailed, SourceFailed, bytes_answered, words_read}
use Rattle.ftl_answer.specs.refusals.PageLines.{too_long_line}
use Rattle.ftl_answer.specs.reading.sections.Outcomes.{answer_of}
use Rattle.ftl_answer.specs.declared.reading.sections.decision.Decided.{Decided}
use Rattle.ftl_answer.specs.reading.requests.Requests.{MayEndAs, IsAnswerTo, IsAnsweredBy, IsAsked, IsTooLong, IsWritten}
use Rattle.ftl_answer.specs.declared.reading.requests.request.Request.{Request}
use Rattle.ftl_answer.specs.declared.reading.requests.request.Request.TheVariants.{Answered, Edit, Solve}
use Rattle.ftl_answer.specs.declared.reading.requests.request.Undone.{Undone}
use Rattle.ftl_answer.specs.declared.reading.requests.request.Undone.TheVariants.{OutOfMemory, ReadFault}

-- the bytes that are told; where none are, none
abbrev bytes_or_none : Option (List ℕ) → List ℕ
bytes_or_none None = []
bytes_or_none (Some bytes) = bytes

are_those : (told : Option (List ℕ)) → AreTold told (bytes_or_none told)
are_those None = tt
are_those (Some bytes) = refl

-- a page that is answered otherwise is not too long
not_long : (r : Request) (a : Answer) → IsAnswerTo r a → a ≢ refused 4 too_long_line → IsTooLong r → ⊥
not_long (Answered d) a is other long = other (is ∙ long)
not_long (Solve p) a is other long = long
not_long (Edit p) a is other long = long

-- the laws that are asked for
abbrev pub HaveStatuses : Type 0
HaveStatuses = (words : List (List ℕ)) (bytes : List ℕ) (a : Answer) → IsAnswer words bytes a → IsAnswered a.status

abbrev pub HaveOneAnswer : Type 0
HaveOneAnswer = (words : List (List ℕ)) (bytes : List ℕ) → HasOneAnswer words bytes

module _ (k : Call) (statuses : HaveStatuses) (one : HaveOneAnswer) where
  abbrev Written : Result Decided Undone → Type 0
  Written d = IsWritten d k.status k.written_before k.written_after (SinkFailed k)

  abbrev matches_of : (bytes : List ℕ) → Answer → Type 0
  matches_of =
      MatchesAnswer k.status k.written_before k.written_after (words_read k.words) k.left_before k.left_after
      k.counts_before k.counts_after (SinkFailed k)

  abbrev OfTheRequest : Request → Type 0
  OfTheRequest r =
      OfTheBytes (bytes_answered (words_read k.words) k.left_before)
      (λ bytes. IsAsked (answered k.words bytes) bytes (words_read k.words) k.counts_before.taken k.counts_after.taken r)

  abbrev ToTheEnd : Request → Type 0
  ToTheEnd r = (IsTooLong r → ⊥) → IfSome k.left_before (λ _. k.left_after ≡ Some [])

  -- ---- nothing was decided

  of_any : ((bytes : List ℕ) (a : Answer) → IsAnswered a.status
      → matches_of bytes a) → GivesTheAnswer k
  of_any holds =
      let told = bytes_answered (words_read k.words) k.left_before in
      let bytes = bytes_or_none told in
      let x = (one k.words bytes).some in
      (bytes, are_those told, (x.0, x.1, holds bytes x.0 (statuses k.words bytes x.0 x.1)))

  undone_matches : (u : Undone) → (u ≡ ReadFault → SourceFailed k)
      → Written (Err u) → GivesTheAnswer k
  undone_matches ReadFault rose (is, same) =
      of_any
      (λ bytes a fine. record {
        status = inr (inr (inl is));
        no_excuse = λ no_write no_read. absurd (no_read (rose refl));
        text = λ e. absurd (fine.no_read_fault (sym e ∙ is));
        front = λ e. absurd (omega (arith, e, is));
        to_its_end = λ reads no_fault no_want other. absurd (no_fault is);
        counted = λ reads no_fault no_want other. absurd (no_fault is);
        over = λ reads no_fault no_want many. absurd (no_fault is);
      })
  undone_matches OutOfMemory rose (is, same) =
      of_any
      (λ bytes a fine. record {
        status = inr (inr (inr is));
        no_excuse = λ no_write no_read. inr is;
        text = λ e. absurd (fine.no_want (sym e ∙ is));
        front = λ e. absurd (omega (arith, e, is));
        to_its_end = λ reads no_fault no_want other. absurd (no_want is);
        counted = λ reads no_fault no_want other. absurd (no_want is);
        over = λ reads no_fault no_want many. absurd (no_want is);
      })

  undone_causes : (u : Undone) → (u ≡ ReadFault → SourceFailed k)
      → Written (Err u) → HasCauses k
  undone_causes ReadFault rose (is, same) = record {
    write = λ e. absurd (omega (arith, e, is));
    read = λ e. rose refl;
    nothing = λ e. same;
  }
  undone_causes OutOfMemory rose (is, same) = record {
    write = λ e. absurd (omega (arith, e, is));
    read = λ e. absurd (omega (arith, e, is));
    nothing = λ e. same;
  }

  undone_reads : (u : Undone) → (u ≡ ReadFault → ⊥) → Written (Err u) → k.status ≢ 3
  undone_reads ReadFault never (is, same) e = never refl
  undone_reads OutOfMemory never (is, same) e = omega (arith, e, is)

  -- ---- an answer was decided

  module _ (r : Request) (d : Decided) (answers : IsAnswerTo r (answer_of d)) where
    comes_back : (stage : Stage ⊥) → MayEndAs stage r → stage (ends (answer_of d))
    unfolding MayEndAs
    comes_back stage comes = comes (answer_of d) answers

    answer_matches : OfTheRequest r → (words_read k.words ≡ true → ToTheEnd r) → Written (Ok d) → GivesTheAnswer k
    answer_matches (bytes, are, asked) end (inl (is, whole)) =
        let answer = comes_back (answered k.words bytes) asked.comes in
        let fine = statuses k.words bytes (answer_of d) answer in (
          bytes,
          are,
          (
            answer_of d,
            answer,
            record {
              status = inl is;
              no_excuse = λ no_write no_read. inl is;
              text = λ e. whole;
              front = λ e. absurd (fine.no_write_fault (sym is ∙ e));
              to_its_end = λ reads no_fault no_want other. end reads (not_long r (answer_of d) answers other);
              counted = λ reads no_fault no_want other. asked.counted reads (not_long r (answer_of d) answers other);
              over = λ reads no_fault no_want many. asked.over reads many;
            },
          ),
        )
    answer_matches (bytes, are, asked) end (inr (is, rose, front)) =
        let answer = comes_back (answered k.words bytes) asked.comes in
        let fine = statuses k.words bytes (answer_of d) answer in (
          bytes,
          are,
          (
            answer_of d,
            answer,
            record {
              status = inr (inl is);
              no_excuse = λ no_write no_read. absurd (no_write rose);
              text = λ e. absurd (fine.no_write_fault (sym e ∙ is));
              front = λ e. front;
              to_its_end = λ reads no_fault no_want other. end reads (not_long r (answer_of d) answers other);
              counted = λ reads no_fault no_want other. asked.counted reads (not_long r (answer_of d) answers other);
              over = λ reads no_fault no_want many. asked.over reads many;
            },
          ),
        )

    status_fine : OfTheRequest r → IsAnswered d.status.0
    status_fine (bytes, are, asked) = statuses k.words bytes (answer_of d) (comes_back (answered k.words bytes) asked.comes)

    answer_causes : IsAnswered d.status.0 → Written (Ok d) → HasCauses k
    answer_causes fine (inl (is, whole)) = record {
      write = λ e. absurd (fine.no_write_fault (sym is ∙ e));
      read = λ e. absurd (fine.no_read_fault (sym is ∙ e));
      nothing =
          ⊎_elim (λ e. absurd (fine.no_read_fault (sym is ∙ e))) (λ e. absurd (fine.no_want (sym is ∙ e)));
    }
    answer_causes fine (inr (is, rose, front)) = record {
      write = λ e. rose;
      read = λ e. absurd (omega (arith, e, is));
      nothing = ⊎_elim (λ e. absurd (omega (arith, e, is))) (λ e. absurd (omega (arith, e, is)));
    }

    answer_reads : IsAnswered d.status.0 → Written (Ok d) → k.status ≢ 3
    answer_reads fine (inl (is, whole)) e = fine.no_read_fault (sym is ∙ e)
    answer_reads fine (inr (is, rose, front)) e = omega (arith, e, is)

  -- ---- either

  abbrev failed : Undone → Result Request Undone
  failed u = Err u

  abbrev stays : Undone → Result Decided Undone
  stays u = Err u

  pub matches : (q : Result Request Undone) (d : Result Decided Undone) → IfOk q OfTheRequest
      → (words_read k.words ≡ true → IfOk q ToTheEnd)
      → (IsErrOf q ReadFault → SourceFailed k) → IsAnsweredBy q d → Written d → GivesTheAnswer k
  matches (Ok r) (Ok d) asked end fault answers writes = answer_matches r d answers asked end writes
  matches (Ok r) (Err u) asked end fault answers writes =
      undone_matches OutOfMemory (λ e. absurd cc) (subst (λ (x : Undone). Written (stays x)) answers writes)
  matches (Err u) d asked end fault answers writes =
      undone_matches u (λ e. fault (ap failed e)) (subst Written answers writes)

  pub causes : (q : Result Request Undone) (d : Result Decided Undone) → IfOk q OfTheRequest
      → (IsErrOf q ReadFault → SourceFailed k) → IsAnsweredBy q d → Written d → HasCauses k
  causes (Ok r) (Ok d) asked fault answers writes =
      answer_causes r d answers (status_fine r d answers asked) writes
  causes (Ok r) (Err u) asked fault answers writes =
      undone_causes OutOfMemory (λ e. absurd cc) (subst (λ (x : Undone). Written (stays x)) answers writes)
  causes (Err u) d asked fault answers writes =
      undone_causes u (λ e. fault (ap failed e)) (subst Written answers writes)

  pub no_read_fault : (q : Result Request Undone) (d : Result Decided Undone) → IfOk q OfTheRequest
      → (IsErrOf q ReadFault → ⊥) → IsAnsweredBy q d → Written d → k.status ≢ 3
  no_read_fault (Ok r) (Ok d) asked none answers writes =
      answer_reads r d answers (status_fine r d answers asked) writes
  no_read_fault (Ok r) (Err u) asked none answers writes =
      undone_reads OutOfMemory (λ e. absurd cc) (subst (λ (x : Undone). Written (stays x)) answers writes)
  no_read_fault (Err u) d asked none answers writes =
      undone_reads u (λ e. none (ap failed e)) (subst Written answers writes)
