-- What one line of a step script tells: a call that begins, a call of a rank that the world doesn't have, and steps.
use Rattle.std.proofs.Common.{◌≡◌, ◌⊎◌, ℕ, ◌<◌, ◌≤◌, ◌==◌, Bool, true, false, List, [], ◌∷◌, ◌++◌, length, find, get_or, set, Option, Some, None, is_some, refl, ap, sym, ◌∙◌, subst, arith, append-nil, inl, inr, IsTrue}
use Rattle.std.specs.Prelude.{slice_get}
use Rattle.std.proofs.lemmas.Bool.{eqb-true}
use Rattle.ulfm_laws.specs.{Flags.{flag_meld}, declared.flag_and.FlagAnd.{FlagAnd}}
use Rattle.ulfm_model.specs.declared.call.Call.TheVariants as call
use Rattle.ulfm_model.specs.declared.{call.Call.{Call}, event.Caller.{Caller}, refusal.Refusal.{Refusal}, reply.Reply.{Reply}}
use Rattle.ulfm_model.specs.{Answers.{rank_of, traits_of}, Records.{Record}}
use Rattle.ulfm_comm.specs.Phase.{UnderWay}
use Rattle.ulfm_words.specs.Steps.{view_at, IsView, Name, Sight}
use Rattle.ulfm_model.specs.declared.{line.Line.{Line}, step_line.StepLine.TheVariants.{Called}}
use Rattle.ulfm_model.specs.{Follows.{AreOf, IsPiece}, Traces.{AnswersRank, AreLegalAfter, IsOpen, MayCome, Told, Traced, Under, after, after_reply, call_by, caller_of, record_in, said_by, same_caller, taken_in}}
use Rattle.ulfm_model.proofs.Callers.{same_rank}
use Rattle.ulfm_lines.specs.{LineTexts.{lines_text}, Progress.{IsReached}, StepLines.{IsByRank}, Stepped.{TellsStep}, Walked.{TellsSteps}}
use Rattle.ulfm_lines.specs.declared.step_machine.Reach.{Reach}
use Rattle.ulfm_lines.specs.declared.step_machine.Taken.TheVariants.{Open, Run}
use Rattle.ulfm_lines.proofs.Bystanders.{find_push}
use Rattle.ulfm_run.specs.Stepping.{reply_told}
use Rattle.ulfm_run.specs.{Seats.{Sits, SitsAt as SitsWith, begun_piece, next_in, reply_piece}, declared.told.Answer.{Answer}}
use Rattle.ulfm_run.specs.{StepLines.{BeginsCall, unknown_piece}, Table.{IsNobody, StandsFor}, Walks.{FlagSeat, flag_words, SitsOn, WalksUntil}}
use Rattle.std.proofs.lemmas.Option.{slice_get-get_or}
use Rattle.ulfm_run.proofs.{Pieces.{AllBy, are_by, find_no_record, others_of, piece_call, piece_entries, piece_history}, Standing.{ranks_differ, reply_frees, stands_on, stands_seat, tells_step}}
use Rattle.ulfm_run.specs.Walks.{stage}

-- a call of a rank is its own
pub by_its_rank : (asked : Call FlagAnd) → IsByRank asked → (traits_of asked).by ≡ Caller.Rank (rank_of asked)
by_its_rank (call.Fail rank) own = absurd (own rank refl)
by_its_rank _ own = refl

module _ (name : Name) (pass : Sight FlagAnd) (seats : List FlagSeat) (now : Traced FlagAnd) (stands : StandsFor name pass seats now) where
  -- a call of a rank that the world doesn't have
  module _ (r : ℕ) (asked : Call FlagAnd) (padded : Bool) (above : name.limits.ranks ≤ r) (mine : (traits_of asked).by ≡ Caller.Rank r) where
    abbrev unknown : List (Told FlagAnd)
    unknown = unknown_piece r (length pass.seen) asked padded

    abbrev begun : Traced FlagAnd
    begun = after now (Line.Called asked padded)

    abbrev refused : Reply FlagAnd
    refused = Reply.Refused Refusal.NoSuchRank

    abbrev u : Under FlagAnd
    u = record { asked = asked; begun = length now.history; look = None; own = [] }

    nobody : IsNobody now r
    nobody = stands.beyond r above

    call_is : call_by begun (Caller.Rank r) ≡ Some u
    call_is = find_push (λ (v : Under FlagAnd). same_caller (caller_of v) (Caller.Rank r)) now.calls u nobody.free (ap (λ c. same_caller c (Caller.Rank r)) mine ∙ same_rank r)

    may_refuse : MayCome flag_meld begun [] (Line.Replied (Caller.Rank r) (length pass.seen) (Some refused))
    may_refuse =
        let as_long : length now.history ≡ length pass.seen = ap length stands.history in
        record {
          call = u;
          is_open = call_is;
          since_begin = omega (arith, as_long);
          by_now = omega (arith, as_long);
          answers = subst (λ o. AnswersRank flag_meld begun u (length pass.seen) refused o) (sym nobody.record_is) refl;
          lists = refl;
        }

    unknown_legal : AreLegalAfter flag_meld now unknown
    unknown_legal = (ap (call_by now) mine ∙ nobody.free, (may_refuse, tt))

    unknown_by : AllBy (Caller.Rank r) unknown
    unknown_by = (mine, (refl, tt))

    unknown_is : IsPiece now (Called asked padded) unknown
    unknown_is = (reply_told r (length pass.seen) [] refused ∷ [], refl, inr (reply_told r (length pass.seen) [] refused, refl, ap (λ c. same_caller (Caller.Rank r) c) mine ∙ same_rank r))

    no_record : (t : Traced FlagAnd) (point : ℕ) (answered : Option (Under FlagAnd)) → record_in t r ≡ None → record_in (after_reply t (Caller.Rank r) point refused answered) r ≡ None
    no_record t point None none = none
    no_record t point (Some v) none = ap (λ (rs : List Record). find (λ x. x.number == r) rs) (find_no_record r (taken_in t v point refused) t.records none) ∙ none

    still_nobody : (s : ℕ) → same_caller (Caller.Rank r) (Caller.Rank s) ≡ true → IsNobody (said_by now unknown) s
    still_nobody s same =
        subst (IsNobody (said_by now unknown)) (eqb-true r s same)
        (record { record_is = no_record begun (length pass.seen) (call_by begun (Caller.Rank r)) nobody.record_is; free = reply_frees begun (Caller.Rank r) (length pass.seen) refused })

    pub unknown_tells : (text more : List ℕ) → more ≡ text ++ lines_text unknown → TellsStep (StandsFor name pass seats) now (Called asked padded) Run text more
    unknown_tells text more told =
        tells_step (StandsFor name pass seats) now (Called asked padded) unknown text more unknown_legal unknown_is
        (stands_on name pass seats now stands unknown (Caller.Rank r) unknown_by pass (piece_history now unknown ∙ (append-nil now.history ∙ stands.history)) stands.of (omega arith) ([], append-nil pass.cached)
        (piece_call now unknown Caller.Outside (others_of (Caller.Rank r) Caller.Outside unknown unknown_by refl) ∙ stands.no_declaration) (λ s below. ranks_differ r s (λ same. absurd (omega (arith, same, below, above)))) (λ s over same. still_nobody s same))
        told

  -- a rank that the world has
  module _ (r : ℕ) (seat : FlagSeat) (there : slice_get seats r ≡ Some seat) where
    number : seat.own.number ≡ r
    number = (stands.each r seat there).number

    -- a call that begins
    pub begin_tells : (asked : Call FlagAnd) (padded : Bool) (left : FlagSeat) (text more : List ℕ) → (traits_of asked).by ≡ Caller.Rank seat.own.number → BeginsCall (view_at (flag_words name) pass) asked padded seat text left more
        → TellsStep (StandsFor name pass (set seats r left)) now (Called asked padded) Run text more
    begin_tells asked padded left text more mine b =
        tells_step (StandsFor name pass (set seats r left)) now (Called asked padded) piece text more (b.tells.legal now sits) (reply_piece seat.own.number [] b.answer, refl, b.tells.at_once)
        (stands_seat name pass seats now stands piece (Caller.Rank seat.own.number) (mine, all b.answer) pass (piece_history now piece ∙ (ap (λ h. now.history ++ h) (none b.answer) ∙ (append-nil now.history ∙ stands.history)))
        stands.of (omega arith) ([], append-nil pass.cached) r (ap Caller.Rank number) seat left there b.tells.number (b.tells.sits now sits))
        b.told
      where
        piece : List (Told FlagAnd)
        piece = begun_piece seat.own.number asked padded b.answer

        sits : Sits flag_meld (flag_words name) now pass seat
        sits = (stands.each r seat there).sits

        all : (answer : Option (Answer FlagAnd)) → AllBy (Caller.Rank seat.own.number) (reply_piece seat.own.number [] answer)
        all None = tt
        all (Some answer) = (refl, tt)

        none : (answer : Option (Answer FlagAnd)) → piece_entries (reply_piece seat.own.number [] answer) ≡ []
        none None = refl
        none (Some answer) = refl

    -- a call is under way exactly where the seat has one
    open_there : (t : Traced FlagAnd) (later : Sight FlagAnd) (own : Record) (found : ℕ) (call : Option (UnderWay FlagAnd)) → SitsWith flag_meld (flag_words name) t later own found call → IsOpen t (Caller.Rank own.number) → IsTrue (is_some call)
    open_there t later own found None sits is_open = absurd (cc (ap is_some sits.said.call_is, is_open))
    open_there t later own found (Some doing) sits is_open = refl

    there_open : (t : Traced FlagAnd) (later : Sight FlagAnd) (own : Record) (found : ℕ) (call : Option (UnderWay FlagAnd)) → SitsWith flag_meld (flag_words name) t later own found call → IsTrue (is_some call) → IsOpen t (Caller.Rank own.number)
    there_open t later own found None sits is = absurd (cc is)
    there_open t later own found (Some doing) (inl begun) is = ap is_some begun.known.said.call_is
    there_open t later own found (Some doing) (inr called) is = ap is_some called.known.said.call_is

    -- a call of a rank that has one under way
    pub open_tells : (asked : Call FlagAnd) (padded : Bool) (text : List ℕ) (left : List FlagSeat) → (traits_of asked).by ≡ Caller.Rank r → IsTrue (is_some seat.call) → TellsStep (StandsFor name pass left) now (Called asked padded) Open text text
    open_tells asked padded text left mine is =
        ((asked, (padded, refl), subst (IsOpen now) (ap Caller.Rank number ∙ sym mine) (there_open now pass seat.own seat.found seat.call (stands.each r seat there).sits is)), refl)

    -- what lines say is what the pass has seen
    said_seen : (t : Traced FlagAnd) (later : Sight FlagAnd) (own : Record) (found : ℕ) (call : Option (UnderWay FlagAnd)) → SitsWith flag_meld (flag_words name) t later own found call → t.history ≡ later.seen
    said_seen t later own found None sits = sits.said.history
    said_seen t later own found (Some doing) (inl begun) = begun.known.said.history
    said_seen t later own found (Some doing) (inr called) = called.known.said.history

    -- no step of a rank without a call
    pub closed_there : seat.call ≡ None → ¬ IsOpen now (Caller.Rank r)
    closed_there none is_open =
        let is = open_there now pass seat.own seat.found seat.call (stands.each r seat there).sits (subst (λ n. IsOpen now (Caller.Rank n)) (sym number) is_open) in
        absurd (cc (ap is_some none, is))

    -- steps of its call
    module _ (later : Sight FlagAnd) (left : FlagSeat) (of : IsView flag_meld (view_at (flag_words name) later)) (text more : List ℕ) (reach : Reach) (made : ℕ) (w : WalksUntil reach made name (stage pass seat text) (stage later left more))
        (is_open : IsTrue (is_some seat.call)) (few : length later.seen ≤ 4294967295) where
      abbrev said : Traced FlagAnd
      said = said_by now w.walks.piece

      goes : SitsOn name now w.walks.piece later left
      goes = w.walks.goes now (stands.each r seat there).sits

      left_number : left.own.number ≡ r
      left_number = w.walks.number ∙ number

      still_open : IsTrue (is_some left.call) → IsOpen said (Caller.Rank r)
      still_open is = subst (λ n. IsOpen said (Caller.Rank n)) left_number (there_open said later left.own left.found left.call goes.sits is)

      over : (call : Option (UnderWay FlagAnd)) → left.call ≡ call → ¬ IsOpen said (Caller.Rank r) → call ≡ None
      over None is closed = refl
      over (Some doing) is closed = absurd (closed (still_open (ap is_some is)))

      closed_now : left.call ≡ None → ¬ IsOpen said (Caller.Rank r)
      closed_now none is =
          let some = open_there said later left.own left.found left.call goes.sits (subst (λ n. IsOpen said (Caller.Rank n)) (sym left_number) is) in
          absurd (cc (ap is_some none, some))

      stops : reach.name ≡ None → (left.call ≡ None) ⊎ IsReached reach made (next_in left.call) → (¬ IsOpen said (Caller.Rank r)) ⊎ (reach.most ≡ Some made)
      stops unnamed (inl none) = inl (closed_now none)
      stops unnamed (inr (inl reached)) = inr reached
      stops unnamed (inr (inr named)) = absurd (cc (unnamed, named.1))

      history : said.history ≡ later.seen
      history = said_seen said later left.own left.found left.call goes.sits

      pub until_tells : TellsSteps (StandsFor name later (set seats r left)) now r reach made text more
      until_tells = record {
        piece = w.walks.piece;
        count = length w.names;
        told = w.walks.told;
        by = subst (λ n. AreOf (Caller.Rank n) w.walks.piece) number w.walks.by;
        legal = goes.legal;
        few = w.walks.few;
        counted = w.counted;
        within = w.within;
        before = λ n is. w.walks.others n (w.before n is);
        idle = λ closed. absurd (closed (subst (λ n. IsOpen now (Caller.Rank n)) number (there_open now pass seat.own seat.found seat.call (stands.each r seat there).sits is_open)));
        ends = λ was closed. w.walks.ends is_open (over left.call refl closed);
        stops = λ unnamed. stops unnamed w.stops;
        room = omega (arith, few, ap length history);
        stands = stands_seat name pass seats now stands w.walks.piece (Caller.Rank seat.own.number) (are_by (Caller.Rank seat.own.number) w.walks.piece w.walks.by) later history of w.walks.onward w.walks.keeps
            r (ap Caller.Rank number) seat left there w.walks.number goes.sits;
      }

  -- no steps of a rank that has no call under way
  pub none_tell : (r : ℕ) (reach : Reach) (text : List ℕ) → length pass.seen ≤ 4294967295 → ¬ IsOpen now (Caller.Rank r) → TellsSteps (StandsFor name pass seats) now r reach 0 text text
  none_tell r reach text few closed = record {
    piece = [];
    count = 0;
    told = sym (append-nil text);
    by = tt;
    legal = tt;
    few = omega arith;
    counted = inl (refl, omega arith);
    within = λ most is. omega arith;
    before = λ n is. tt;
    idle = λ c. refl;
    ends = λ was c. absurd (closed was);
    stops = λ unnamed. inl closed;
    room = omega (arith, few, ap length stands.history);
    stands = stands;
  }

  -- a rank that the world doesn't have is one
  pub nobody_open : (r : ℕ) → name.limits.ranks ≤ r → ¬ IsOpen now (Caller.Rank r)
  nobody_open r above is = absurd (cc (ap is_some (stands.beyond r above).free, is))

-- the seat of a rank that the world has
module _ (name : Name) (pass : Sight FlagAnd) (seats : List FlagSeat) (now : Traced FlagAnd) (stands : StandsFor name pass seats now) (r : ℕ) (d : FlagSeat) where
  pub above_all : length seats ≤ r → name.limits.ranks ≤ r
  above_all over = omega (arith, over, stands.size)

  pub number_there : r < length seats → (get_or seats r d).own.number ≡ r
  number_there below = (stands.each r (get_or seats r d) (slice_get-get_or seats r d below)).number

  pub sits_there : r < length seats → Sits flag_meld (flag_words name) now pass (get_or seats r d)
  sits_there below = (stands.each r (get_or seats r d) (slice_get-get_or seats r d below)).sits

-- a seat without a call
pub no_call : {X : Type 0} (call : Option X) → is_some call ≡ false → call ≡ None
no_call None is = refl
no_call (Some x) is = absurd (cc is)
