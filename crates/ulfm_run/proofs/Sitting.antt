-- What a call's begin and each of its steps tell, of a rank that sits as the lines so far say.
use Rattle.std.proofs.Common.{◌≡◌, ◌⊎◌, ℕ, ◌<◌, ◌≤◌, ◌^◌, ◌||◌, not, Bool, true, false, List, [], ◌∷◌, ◌++◌, length, take, Option, Some, None, is_some, refl, ap, sym, ◌∙◌, subst, arith, append-nil, append_assoc, length-append, inl, inr, IsTrue, IsFalse, if◌then◌else◌}
use Rattle.std.specs.Prelude.{⊤, MatchOption, slice_get}
use Rattle.ulfm_model.specs.declared.{call.Call.{Call}, event.Caller.{Caller}, event.Caller.TheVariants.{Rank}, event.Entry.{Entry}, event.Event.{Event}, refusal.Refusal.TheVariants.{SelfFailed}, reply.Reply.{Reply}, reply.Reply.TheVariants.{Refused}}
use Rattle.ulfm_model.specs.declared.step_name.StepName.TheVariants as step
use Rattle.ulfm_model.specs.declared.step_name.StepName.{StepName}
use Rattle.ulfm_model.specs.{Answers.{comm_of, polled_by, traits_of}, History.{History, failures}, Records.{Fits, Record, is_shrink}}
use Rattle.ulfm_model.proofs.Lists.{in_list}
use Rattle.ulfm_words.specs.Steps.{IsView, Sight, Over, view_at, over}
use Rattle.ulfm_words.proofs.Ranks.{failures_le}
use Rattle.ulfm_comm.specs.{Calls.{RepliedAs, HasReplied, wants_memory}, Ends.{IsRefusedAgain}, Phase.{Answered, Idles, MayStep, Stands, StandsAt, UnderWay, Waits, is_checking, is_looking, next_of, next_step}, Step.{StepAdds, Stepped}, StepsLeft.{FewerLeft, steps_left}}
use Rattle.ulfm_comm.specs.declared.phases.phase.{Phase.{Phase}, Phase.TheVariants.{Begun}}
use Rattle.ulfm_comm.proofs.AmongOthers.{waits_none}
use Rattle.ulfm_comm.specs.Local.{local}
use Rattle.ulfm_model.specs.declared.line.Line.TheVariants.{Happened, Looked}
use Rattle.ulfm_model.specs.Follows.{AreOf, EndsInReply, step_of, steps_in}
use Rattle.ulfm_model.specs.Traces.{AreLegalAfter, Told, Traced, after, listed, said_by, same_caller}
use Rattle.ulfm_model.proofs.Callers.{same_rank}
use Rattle.ulfm_run.specs.declared.told.{Answer.{Answer}, StepTold.{StepTold}}
use Rattle.ulfm_run.specs.{Seats.{AreToldBy, GoesOrEnds, MayList, Seated, Sits, SitsAt, TellsBegin, TellsPiece, entries_of, event_piece, group_in, has_looked, call_steps_left, look_piece, piece_of, reply_piece, wants_in}, Stepping.{HasBegun, HasCalled, point_of, reply_told}}
use Rattle.ulfm_run.proofs.{Beginning.{begun, may_call, refused}, ByName.{event_named, get_last, look_named}, ByPhase.{in_look}, LooksOn.{looks_on, no_event}, Nexts.{reply_next}, Reseen.{reseen}, Stepped.{comes}, Turns.{EndsSo, LooksOn, NextAt, SaysStep}}
use Rattle.ulfm_comm.specs.Prepared.{Prepared}

-- The lines of a call that begins.
module _ {P : Type 0} (meld : P → P → P) (name : Over P) (own : Record) (found : ℕ) (pass : Sight P) (asked : Call P) (mine : (traits_of asked).by ≡ Rank own.number) where
  abbrev idle : Seated P
  idle = record { own = own; call = None; found = found }

  -- of a rank that was refused for good before
  pub begins_over : own.refused ≡ true → (point : ℕ) → point ≡ length pass.seen → TellsBegin meld name idle pass asked (Some (record { point = point; reply = Refused SelfFailed })) idle
  begins_over is point point_is =
      let told : ℕ → Told P = λ n. reply_told own.number n [] (Refused SelfFailed) in
      subst (λ n. TellsBegin meld name idle pass asked (Some (record { point = n; reply = Refused SelfFailed })) idle) (sym point_is) (record {
        number = refl;
        at_once = inr (told (length pass.seen), refl, ap (same_caller (Rank own.number)) mine ∙ same_rank own.number);
        legal = λ now sits. (may_call meld name now pass own sits asked mine, ((refused meld name now pass own sits asked mine is).may, tt));
        sits = λ now sits. (refused meld name now pass own sits asked mine is).idle;
        next = refl;
      })

  -- of any other
  pub begins_open : (doing : UnderWay P) → doing.asked ≡ asked → own.refused ≡ false → doing.phase ≡ Begun → IsView meld (view_at name pass)
      → ((alone : Bool) (other : Over P) (before : Sight P) → IsView meld (view_at other before) → Fits meld other.limits before.seen own → Stands meld alone (local own (view_at other before)) doing (local own (view_at other before)))
      → TellsBegin meld name idle pass asked None (record { own = own; call = Some doing; found = found })
  begins_open doing asked_is in_use phase of stands =
      record {
        number = refl;
        at_once = inl refl;
        legal = λ now sits. (may_call meld name now pass own sits asked mine, tt);
        sits = λ now sits. inl (begun meld name now pass own sits asked mine doing asked_is in_use phase (stands false name pass of sits.fits));
        next = (doing, refl, asked_is);
      }

-- the event that was read off the pass behind so many, if there is one
abbrev pub ReadsEvent : {P : Type 0} → History P → ℕ → Option (Event P) → Type 0
ReadsEvent {P} seen count event = MatchOption event (length seen ≤ count) (λ e. (by : Caller) × (slice_get seen count ≡ Some (record { by = by; event = e })))

read_none : {P : Type 0} (old new : History P) (event : Option (Event P)) → ReadsEvent new (length old) event → old ≡ new → event ≡ None
read_none old new None reads same = refl
read_none old new (Some e) reads same = let below = in_list new (length old) _ reads.1 in absurd (omega (arith, below, ap length same))

read_one : {P : Type 0} (by : Caller) (one : Event P) (old new : History P) (event : Option (Event P)) → ReadsEvent new (length old) event → old ++ record { by = by; event = one } ∷ [] ≡ new → event ≡ Some one
read_one by one old new None reads more = absurd (omega (arith, reads, ap length more, length-append old (record { by = by; event = one } ∷ [])))
read_one {P} by one old new (Some e) reads more =
    let is = sym reads.1 ∙ (ap (λ h. slice_get h (length old)) (sym more) ∙ get_last old (record { by = by; event = one })) in
    let same : record { by = reads.0; event = e } ≡ record { by = by; event = one } = cc is in
    ap (λ (x : Entry P). Some x.event) same

-- the failures that a look's end found, where a step was it
abbrev pub look_end : {P : Type 0} → Bool → Option (Reply P) → Phase P → Record → Option ℕ
look_end looking result phase own = if has_looked looking result phase then Some (length own.seen) else None

-- the lines of a step, whatever it tells
module _ {P : Type 0} (r : ℕ) where
  pub all_of : (group : List ℕ) (told : StepTold P) → AreOf (Rank r) (piece_of r told group)
  all_of group told = looks told.look
    where
      replies : (reply : Option (Answer P)) → AreOf (Rank r) (reply_piece r group reply)
      replies None = tt
      replies (Some answer) = (same_rank r, tt)

      events : (event : Option (Event P)) → AreOf (Rank r) (event_piece r event ++ reply_piece r group told.reply)
      events None = replies told.reply
      events (Some event) = (same_rank r, replies told.reply)

      looks : (look : Option ℕ) → AreOf (Rank r) (look_piece r look ++ (event_piece r told.event ++ reply_piece r group told.reply))
      looks None = events told.event
      looks (Some count) = (same_rank r, events told.event)

  pub one_step : (group : List ℕ) (look : Option ℕ) (event : Option (Event P)) (reply : Option (Answer P)) → (look ≡ None) ⊎ (event ≡ None) → steps_in (look_piece r look ++ (event_piece r event ++ reply_piece r group reply)) ≤ 1
  one_step group None None None apart = omega arith
  one_step group None None (Some answer) apart = omega arith
  one_step group None (Some event) None apart = omega arith
  one_step group None (Some event) (Some answer) apart = omega arith
  one_step group (Some count) None None apart = omega arith
  one_step group (Some count) None (Some answer) apart = omega arith
  one_step group (Some count) (Some event) reply (inl none) = absurd (cc none)
  one_step group (Some count) (Some event) reply (inr none) = absurd (cc none)

  -- what tells the look and the event tells all lines
  pub all_by : (group : List ℕ) (told : StepTold P) (next : Option StepName) → ((count : ℕ) → told.look ≡ Some count → next ≡ Some step.List)
      → ((e : Event P) (n : StepName) → told.event ≡ Some e → step_of e ≡ Some n → next ≡ Some n) → AreToldBy next (piece_of r told group)
  all_by group told next list made = looks told.look refl
    where
      replies : (reply : Option (Answer P)) → AreToldBy next (reply_piece r group reply)
      replies None = tt
      replies (Some answer) = ((λ n is. absurd (cc is)), tt)

      events : (event : Option (Event P)) → told.event ≡ event → AreToldBy next (event_piece r event ++ reply_piece r group told.reply)
      events None is = replies told.reply
      events (Some e) is = ((λ n by. made e n is by), replies told.reply)

      looks : (look : Option ℕ) → told.look ≡ look → AreToldBy next (look_piece r look ++ (event_piece r told.event ++ reply_piece r group told.reply))
      looks None is = events told.event refl
      looks (Some count) is = ((λ n by. list count is ∙ by), events told.event refl)

  pub last_reply : (group : List ℕ) (look : Option ℕ) (event : Option (Event P)) (answer : Answer P) → EndsInReply (look_piece r look ++ (event_piece r event ++ reply_piece r group (Some answer)))
  last_reply group look event answer = (look_piece r look ++ event_piece r event, reply_told r answer.point group answer.reply, sym (append_assoc (look_piece r look) (event_piece r event) (reply_piece r group (Some answer))), refl)

-- a look makes no load of a barrier's poll
not_checking : {P : Type 0} (phase : Phase P) → is_looking phase ≡ true → is_checking phase ≡ false
not_checking {P} = in_look (λ (phase : Phase P). is_checking phase ≡ false) refl refl

-- One step of a call, by what `Rank::step` promises, and by what was read off it.
module _ {P : Type 0} (meld : P → P → P) (name : Over P) (before later : Sight P) (own own' : Record) (found : ℕ) (doing doing' : UnderWay P) (result : Option (Reply P)) (of : IsView meld (view_at name before)) (s : Stepped meld true doing (local own (view_at name before)) (next_of result doing'.phase) (local own' (view_at name later)))
    (asked' : doing'.asked ≡ doing.asked)
    (stands : (alone : Bool) → (IsTrue alone → IsTrue true) → (old : Record) → (start : Sight P) → (stood : Sight P) → Stands meld alone (local old (view_at name start)) doing (local own (view_at name stood)) → Waits alone stood before
    → MatchOption result (Stands meld alone (local old (view_at name start)) doing' (local own' (view_at name later))) (λ reply. Answered meld alone doing.asked (local old (view_at name start)) reply (local own' (view_at name later))))
    (look : Option ℕ) (look_is : look ≡ look_end (is_looking doing.phase) result doing'.phase own') (event : Option (Event P)) (reads : ReadsEvent later.seen (length before.seen) event)
    (has_memory : (reply : Reply P) → result ≡ Some reply → wants_memory reply ≡ false) (found' : ℕ) (found_is : found' ≡ length later.seen) (point : ℕ)
    (point_is : (reply : Reply P) → result ≡ Some reply → point ≡ point_of found (length later.seen) (is_checking doing.phase) reply) where
  abbrev r : ℕ
  r = own.number

  abbrev c : ℕ
  c = comm_of doing.asked

  adds : StepAdds true own doing.asked doing.phase result before.seen later.seen
  adds = subst (λ q. StepAdds true own doing.asked doing.phase q before.seen later.seen) (reply_next result doing'.phase) s.adds

  -- the end of a look comes with no event
  apart : (look ≡ None) ⊎ (event ≡ None)
  apart = go (is_looking doing.phase) refl
    where
      go : (b : Bool) → is_looking doing.phase ≡ b → (look ≡ None) ⊎ (event ≡ None)
      go true looking = inr (read_none before.seen later.seen event reads (sym (no_event own doing.asked doing.phase result before.seen later.seen looking adds)))
      go false past = inl (look_is ∙ ap (λ b. look_end b result doing'.phase own') past)

  -- a look has ended by a load of the list
  list_is : (count : ℕ) → look ≡ Some count → next_step doing.phase ≡ Some step.List
  list_is count is = go (is_looking doing.phase) refl
    where
      go : (b : Bool) → is_looking doing.phase ≡ b → next_step doing.phase ≡ Some step.List
      go true looking = look_named doing.phase looking
      go false past = let none : look ≡ None = look_is ∙ ap (λ b. look_end b result doing'.phase own') past in absurd (cc (none, is))

  -- the event was made by the step that was named
  event_is : (now : Traced P) → SitsAt meld name now before own found (Some doing) → before.seen ++ entries_of r event ≡ later.seen → (e : Event P) (n : StepName) → event ≡ Some e → step_of e ≡ Some n → next_step doing.phase ≡ Some n
  event_is now (inl h) seen e n is by =
      let none : event ≡ None = read_none before.seen later.seen event reads (sym (no_event own doing.asked doing.phase result before.seen later.seen h.looking adds)) in absurd (cc (none, is))
  event_is now (inr h) seen e n is by =
      event_named meld name doing.asked h.old h.before doing.prepared own h.stood own result before.seen later.seen e (ap (λ v. before.seen ++ entries_of r v) (sym is) ∙ seen) n by doing.phase h.stands.at adds

  abbrev Then : Option (Reply P) → Traced P → Type 0
  Then q t = NextAt meld name r c point found' q later own' doing' t

  -- the lines that a step tells, before `rest`, and what holds later them
  pub record Comes (now : Traced P) (rest : List (Told P)) (After : Traced P → Type 0) : Type 0 where
    pub number : own'.number ≡ r
    pub seen : before.seen ++ entries_of r event ≡ later.seen
    pub legal : AreLegalAfter meld now (look_piece r look ++ (event_piece r event ++ rest))
    pub after_them : After (said_by now (look_piece r look ++ (event_piece r event ++ rest)))

  module _ (now : Traced P) (rest : List (Told P)) (After : Traced P → Type 0) where
    build : (l : Option ℕ) (e : Option (Event P)) → look ≡ l → event ≡ e → own'.number ≡ r → before.seen ++ entries_of r e ≡ later.seen → AreLegalAfter meld now (look_piece r l ++ (event_piece r e ++ rest))
        → After (said_by now (look_piece r l ++ (event_piece r e ++ rest))) → Comes now rest After
    build l e l_is e_is number seen legal after_them =
        record {
          number = number;
          seen = subst (λ v. before.seen ++ entries_of r v ≡ later.seen) (sym e_is) seen;
          legal = subst (λ v. AreLegalAfter meld now (look_piece r v ++ (event_piece r event ++ rest))) (sym l_is) (subst (λ v. AreLegalAfter meld now (look_piece r l ++ (event_piece r v ++ rest))) (sym e_is) legal);
          after_them = subst (λ v. After (said_by now (look_piece r v ++ (event_piece r event ++ rest)))) (sym l_is) (subst (λ v. After (said_by now (look_piece r l ++ (event_piece r v ++ rest)))) (sym e_is) after_them);
        }

    -- behind the look, or at its end, the call goes on, or is answered
    module _ (follows : (t : Traced P) → Then result t → (own'.number ≡ r) × AreLegalAfter meld t rest × After (said_by t rest))
        (looking : result ≡ None → own'.number ≡ r → HasBegun meld name now later own' doing' → AreLegalAfter meld now rest × After (said_by now rest)) where
      behind : HasCalled meld name now before own found doing → Comes now rest After
      behind h = go (comes meld name now before later own found doing h of result own' doing' s asked' (stands false (λ alone. absurd (cc alone)) h.old h.before h.stood h.stands h.waits) has_memory found' found_is point point_is)
        where
          no_look : look ≡ None
          no_look = look_is ∙ ap (λ b. look_end b result doing'.phase own') h.past

          go : SaysStep meld now r before.seen later.seen (Then result) → Comes now rest After
          go (inl (same, next)) =
              let both = follows now next in build None None no_look (read_none before.seen later.seen event reads same) both.0 (append-nil before.seen ∙ same) both.1 both.2
          go (inr (e, more, may, next)) =
              let both = follows (after now (Happened (Rank r) (Some e))) next in build None (Some e) no_look (read_one (Rank r) e before.seen later.seen event reads more) both.0 more (may, both.1) both.2

      at_look : HasBegun meld name now before own doing → Comes now rest After
      at_look h = go (looks_on meld name now before later own doing h s.of result own' doing' adds asked' found' found_is has_memory (stands false (λ alone. absurd (cc alone)) h.old before before h.stands (waits_none before)))
        where
          still : before.seen ≡ later.seen
          still = sym (no_event own doing.asked doing.phase result before.seen later.seen h.looking adds)

          no_more : event ≡ None
          no_more = read_none before.seen later.seen event reads still

          same : before.seen ++ [] ≡ later.seen
          same = append-nil before.seen ∙ still

          -- the point is the present one
          at_present : (q : Option (Reply P)) → result ≡ q → (t : Traced P) → NextAt meld name r c (length later.seen) found' q later own' doing' t → Then q t
          at_present None is t next = next
          at_present (Some reply) is t next =
              subst (λ n. EndsSo meld name t later r c n reply own') (sym (point_is reply is ∙ ap (λ b. point_of found (length later.seen) b reply) (not_checking doing.phase h.looking))) next

          looked : (q : Option (Reply P)) (t : Traced P) → Then q t → (is_some q || not (is_looking doing'.phase)) ≡ true
          looked None t next = ap not next.1.past
          looked (Some reply) t next = refl

          go : LooksOn meld name r c (length later.seen) found' now result later own' doing' → Comes now rest After
          go (inl (none, number, begins)) =
              let both = looking none number begins in
              let no_look : look ≡ None =
              look_is ∙ (ap (λ b. look_end b result doing'.phase own') h.looking ∙ (ap (λ q. look_end true q doing'.phase own') none ∙ ap (λ (b : Bool). if not b then Some (length own'.seen) else None) begins.looking)) in
              build None None no_look no_more number same both.0 both.1
          go (inr (may, next)) =
              let t = after now (Looked r (length own'.seen)) in
              let here = at_present result refl t next in
              let both = follows t here in
              let ended : look ≡ Some (length own'.seen) =
              look_is ∙ (ap (λ b. look_end b result doing'.phase own') h.looking ∙ ap (λ (b : Bool). if b then Some (length own'.seen) else None) (looked result t here)) in
              build (Some (length own'.seen)) None ended no_more both.0 same (may, both.1) both.2

      pub comes_at : SitsAt meld name now before own found (Some doing) → Comes now rest After
      comes_at (inl h) = at_look h
      comes_at (inr h) = behind h

  abbrev taken : Seated P
  taken = record { own = own; call = Some doing; found = found }

  -- what it tells, with this reply or none, where so much more is known then, and where the rank sits
  module _ (answer : Option (Answer P)) (call : Option (UnderWay P)) (since : ℕ) (Known : Type 0) where
    abbrev group : List ℕ
    group = group_in name.limits.ranks later.seen c answer

    abbrev told : StepTold P
    told = record { look = look; event = event; reply = answer }

    abbrev left : Seated P
    left = record { own = own'; call = call; found = since }

    abbrev After : Traced P → Type 0
    After t = Sits meld name t later left × Known

    tells : ((now : Traced P) → Sits meld name now before taken → Comes now (reply_piece r group answer) After)
        → (Known → GoesOrEnds name.limits later.seen (piece_of r told group) taken left answer) → (now : Traced P) → Sits meld name now before taken → TellsPiece meld name taken before told left later
    tells at next witness sits =
        let first = at witness sits in
        record {
          number = first.number;
          named = s.named;
          keeps = s.cached;
          seen = first.seen;
          piece = piece_of r told group;
          piece_is = refl;
          of = all_of r group told;
          few = one_step r group look event answer apart;
          by_step = all_by r group told (next_step doing.phase) list_is (event_is witness sits first.seen);
          legal = λ now there. (at now there).legal;
          sits = λ now there. (at now there).after_them.0;
          next = next first.after_them.1;
        }

  -- it goes on
  pub goes : result ≡ None → (now : Traced P) → Sits meld name now before taken → TellsPiece meld name taken before (record { look = look; event = event; reply = None }) (record { own = own'; call = Some doing'; found = found' }) later
  goes none = tells None (Some doing') found' ⊤ at (λ known. (refl, nearer))
    where
      at : (now : Traced P) → Sits meld name now before taken → Comes now [] (After None (Some doing') found' ⊤)
      at now there =
          comes_at now [] (After None (Some doing') found' ⊤) (λ t next. let on = subst (λ q. Then q t) none next in (on.0, tt, (inr on.1, tt))) (λ is number begins. (tt, (inl begins, tt))) there

      nearer : call_steps_left name.limits own' (Some doing') < call_steps_left name.limits own (Some doing)
      nearer =
          subst (λ a. steps_left name.limits own' a doing'.phase < steps_left name.limits own doing.asked doing.phase) (sym asked')
          (subst (λ q. FewerLeft (steps_left name.limits own doing.asked doing.phase) name.limits own' doing.asked (next_of q doing'.phase)) none s.nearer)

  -- it is answered
  pub ends : (reply : Reply P) → result ≡ Some reply → (now : Traced P) → Sits meld name now before taken
      → TellsPiece meld name taken before (record { look = look; event = event; reply = Some (record { point = point; reply = reply }) }) (record { own = own'; call = None; found = found }) later
  ends reply is = tells (Some answer) None found May at (λ list. record { over = refl; in_reply = last_reply r (listed name.limits.ranks (take point later.seen) c reply) look event answer; may_list = list })
    where
      answer : Answer P
      answer = record { point = point; reply = reply }

      May : Type 0
      May = MayList name.limits.ranks (take point later.seen) c reply own'

      at : (now : Traced P) → Sits meld name now before taken → Comes now (reply_piece r (group (Some answer) None found May) (Some answer)) (After (Some answer) None found May)
      at now there =
          comes_at now (reply_piece r (group (Some answer) None found May) (Some answer)) (After (Some answer) None found May)
          (λ t next. let e = subst (λ q. Then q t) is next in (e.number, (e.may, tt), (e.idle, e.list))) (λ none number begins. absurd (cc (is, none))) there

-- a call that is under way may take its next step
pub may_step : {P : Type 0} (meld : P → P → P) (name : Over P) (now : Traced P) (pass : Sight P) (own : Record) (found : ℕ) (doing : UnderWay P) → SitsAt meld name now pass own found (Some doing) → MayStep meld doing (local own (view_at name pass))
may_step meld name now pass own found doing (inl h) = (h.old, pass, pass, h.stands, waits_none pass)
may_step meld name now pass own found doing (inr h) = (h.old, h.before, h.stood, h.stands, h.waits)

-- in a look of a record only what was seen is new
begun_same : {P : Type 0} (meld : P → P → P) (name : Over P) (asked : Call P) (old : Record) (before : Sight P) (prepared : Prepared) (own : Record) (now : Sight P) (phase : Phase P) → is_looking phase ≡ true → StandsAt meld false asked (local old (view_at name before)) phase prepared (local own (view_at name now)) → own ≡ reseen old own.seen
begun_same {P} meld name asked old before prepared own now =
    in_look (λ (phase : Phase P). StandsAt meld false asked (local old (view_at name before)) phase prepared (local own (view_at name now)) → own ≡ reseen old own.seen) (λ p. p.1 ∙ ap (λ (w : Record). reseen old w.seen) (sym p.1)) (λ p. p.1)

-- only the poll of a shrink runs out of memory
module _ {P : Type 0} (meld : P → P → P) (name : Over P) (before later : Sight P) (own own' : Record) (found : ℕ) (doing doing' : UnderWay P) (result : Option (Reply P))
    (stands : (alone : Bool) → (IsTrue alone → IsTrue true) → (old : Record) → (start : Sight P) → (stood : Sight P) → Stands meld alone (local old (view_at name start)) doing (local own (view_at name stood)) → Waits alone stood before
    → MatchOption result (Stands meld alone (local old (view_at name start)) doing' (local own' (view_at name later))) (λ reply. Answered meld alone doing.asked (local old (view_at name start)) reply (local own' (view_at name later))))
    (reply : Reply P) (is : result ≡ Some reply) (wants : wants_memory reply ≡ true) where
  shrinks : (old : Record) (start : Sight P) → IsFalse old.refused → own ≡ reseen old own.seen → MatchOption result (Stands meld false (local old (view_at name start)) doing' (local own' (view_at name later))) (λ answer. Answered meld false doing.asked (local old (view_at name start)) answer (local own' (view_at name later)))
      → IsTrue (is_shrink (polled_by own doing.asked))
  shrinks old start in_use same ends = go (subst (λ q. MatchOption q (Stands meld false (local old (view_at name start)) doing' (local own' (view_at name later))) (λ answer. Answered meld false doing.asked (local old (view_at name start)) answer (local own' (view_at name later)))) is ends).ends
    where
      go : (IsRefusedAgain old reply own' × Idles false start later) ⊎ HasReplied meld false doing.asked (local old (view_at name start)) reply (local own' (view_at name later)) → IsTrue (is_shrink (polled_by own doing.asked))
      go (inl again) = absurd (cc (again.0.refused, in_use))
      go (inr e) = let polls = (subst (λ b. RepliedAs meld false doing.asked (local old (view_at name start)) reply b (local own' (view_at name later))) wants e).1 in ap (λ w. is_shrink (polled_by w doing.asked)) same ∙ polls

  pub polls_shrink : (now : Traced P) → SitsAt meld name now before own found (Some doing) → IsTrue (is_shrink (polled_by own doing.asked))
  polls_shrink now (inl h) =
      shrinks h.old before h.known.in_use (begun_same meld name doing.asked h.old before doing.prepared own before doing.phase h.looking h.stands.at)
      (stands false (λ alone. absurd (cc alone)) h.old before before h.stands (waits_none before))
  polls_shrink now (inr h) = shrinks h.old h.before h.known.in_use h.own_same (stands false (λ alone. absurd (cc alone)) h.old h.before h.stood h.stands h.waits)

-- so many failures as a look found are fewer than can be counted
module _ {P : Type 0} (meld : P → P → P) (name : Over P) (before later : Sight P) (own own' : Record) (found : ℕ) (doing doing' : UnderWay P) (result : Option (Reply P)) (of : IsView meld (view_at name before)) (s : Stepped meld true doing (local own (view_at name before)) (next_of result doing'.phase) (local own' (view_at name later)))
    (asked' : doing'.asked ≡ doing.asked)
    (stands : (alone : Bool) → (IsTrue alone → IsTrue true) → (old : Record) → (start : Sight P) → (stood : Sight P) → Stands meld alone (local old (view_at name start)) doing (local own (view_at name stood)) → Waits alone stood before
    → MatchOption result (Stands meld alone (local old (view_at name start)) doing' (local own' (view_at name later))) (λ reply. Answered meld alone doing.asked (local old (view_at name start)) reply (local own' (view_at name later))))
    (has_memory : (reply : Reply P) → result ≡ Some reply → wants_memory reply ≡ false) (ended : has_looked (is_looking doing.phase) result doing'.phase ≡ true) where
  pub look_fits : (now : Traced P) → SitsAt meld name now before own found (Some doing) → length own'.seen < 2 ^ 16
  look_fits now (inr h) = let none = ap (λ b. has_looked b result doing'.phase) h.past in absurd (cc (none, ended))
  look_fits now (inl h) =
      go (looks_on meld name now before later own doing h s.of result own' doing' (subst (λ q. StepAdds true own doing.asked doing.phase q before.seen later.seen) (reply_next result doing'.phase) s.adds) asked' (length later.seen) refl has_memory
      (stands false (λ alone. absurd (cc alone)) h.old before before h.stands (waits_none before)))
    where
      go : LooksOn meld name own.number (comm_of doing.asked) (length later.seen) (length later.seen) now result later own' doing' → length own'.seen < 2 ^ 16
      go (inl (none, number, begins)) =
          let stays = ap (λ b. has_looked b result doing'.phase) h.looking ∙ (ap (λ q. has_looked true q doing'.phase) none ∙ ap not begins.looking) in absurd (cc (stays, ended))
      go (inr (may, next)) =
          let range = of.may_open.in_range.ranks in
          let few = failures_le meld name.limits before.seen of.legal in omega (arith, may.1, ap (λ (w : History P). length (failures w)) h.known.said.history, few, range)

-- a step that doesn't lack memory
pub memory_is : {P : Type 0} (result : Option (Reply P)) → wants_in result ≡ false → (reply : Reply P) → result ≡ Some reply → wants_memory reply ≡ false
memory_is result has reply is = ap wants_in (sym is) ∙ has

pub memory_lacks : {P : Type 0} (result : Option (Reply P)) → wants_in result ≡ true → (reply : Reply P) × (result ≡ Some reply) × (wants_memory reply ≡ true)
memory_lacks None lacks = absurd (cc lacks)
memory_lacks (Some reply) lacks = (reply, refl, lacks)
