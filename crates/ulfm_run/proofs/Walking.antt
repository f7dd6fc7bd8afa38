-- Steps of one rank's call, one after another.
use Rattle.std.proofs.Common.{◌≡◌, ◌≢◌, ℕ, suc, ◌+◌, ◌≤◌, ◌<◌, IsTrue, Option, Some, None, List, [], ◌∷◌, ◌++◌, length, is_some, refl, ap, sym, ◌∙◌, subst, arith, append-nil, append_assoc, length-append, inl, inr}
use Rattle.std.specs.{List.{AllByRecursion}, Prelude.{OnOk, Result, Ok, Err}}
use Rattle.ulfm_laws.specs.{Flags.{flag_meld}, declared.flag_and.FlagAnd.{FlagAnd}}
use Rattle.ulfm_model.specs.declared.event.Caller.{Caller}
use Rattle.ulfm_words.specs.Steps.{Name, Sight}
use Rattle.ulfm_model.proofs.Lists.{prefix_trans}
use Rattle.ulfm_model.specs.{Follows.{AreOf, EndsInReply, NoneBy}, Traces.{Told, Traced, said_by}}
use Rattle.ulfm_model.proofs.Parts.{legal_append, said_append}
use Rattle.ulfm_lines.proofs.Joined.{all_append, ends_append, lines_append, steps_append as pieces_append}
use Rattle.ulfm_lines.specs.LineTexts.{lines_text}
use Rattle.ulfm_model.specs.declared.{call.Call.{Call}, limits.Limits.{Limits}, step_name.StepName.{StepName}}
use Rattle.ulfm_model.specs.{Answers.{comm_of}, History.{History}, Records.{Record}}
use Rattle.ulfm_comm.specs.Phase.{UnderWay}
use Rattle.ulfm_run.specs.declared.told.{Answer.{Answer}, StepTold.{StepTold}}
use Rattle.ulfm_run.specs.Seats.{AreToldBy, GoesOrEnds, Sits, TellsPiece, asked_in, comm_in, group_in, call_steps_left, next_in, piece_of}
use Rattle.ulfm_lines.specs.declared.step_machine.Reach.{Reach}
use Rattle.ulfm_lines.specs.Walked.{IsCountOf}
use Rattle.ulfm_run.specs.Walks.{stage, AreOther, FlagSeat, flag_words, SitsOn, KnowsGroup, MakesNamedSteps, SeatWalks}

-- how many steps a call has still to go, with its reply
abbrev pub to_go : Limits → Record → Option (UnderWay FlagAnd) → ℕ
to_go limits own None = 0
to_go limits own (Some doing) = suc (call_steps_left limits own (Some doing))

-- a step brings a call nearer to its end
pub goes_nearer : (limits : Limits) (old : Record) (was : Option (UnderWay FlagAnd)) (new : Record) (call : Option (UnderWay FlagAnd)) → IsTrue (is_some was)
    → (IsTrue (is_some call) → call_steps_left limits new call < call_steps_left limits old was) → to_go limits new call < to_go limits old was
goes_nearer limits old None new call is less = absurd (cc is)
goes_nearer limits old (Some doing) new None is less = omega arith
goes_nearer limits old (Some doing) new (Some next) is less = let nearer = less refl in omega (arith, nearer)

-- steps, and then further steps
steps_append : (names others : List (Option StepName)) (pass : Sight FlagAnd) (seat : FlagSeat) (after : Sight FlagAnd) (left : FlagSeat) (later : Sight FlagAnd) (last : FlagSeat) → MakesNamedSteps names pass seat after left → MakesNamedSteps others after left later last
    → MakesNamedSteps (names ++ others) pass seat later last
steps_append [] others pass seat after left later last none more =
    subst (λ (p : Sight FlagAnd). MakesNamedSteps others p seat later last) none.0 (subst (λ (s : FlagSeat). MakesNamedSteps others after s later last) none.1 more)
steps_append (x ∷ names) others pass seat after left later last (is, between, mid, made, rest) more =
    (is, between, mid, made, steps_append names others between mid after left later last rest more)

-- what holds of each of both holds of each of one
first_all : {X : Type 0} (Q : X → Type 0) (xs ys : List X) → AllByRecursion Q (xs ++ ys) → AllByRecursion Q xs
first_all Q [] ys all = tt
first_all Q (x ∷ xs) ys all = (all.0, first_all Q xs ys all.1)

last_all : {X : Type 0} (Q : X → Type 0) (xs ys : List X) → AllByRecursion Q (xs ++ ys) → AllByRecursion Q ys
last_all Q [] ys all = all
last_all Q (x ∷ xs) ys all = last_all Q xs ys all.1

-- lines that are told by the next step alone are told by no other
none_by : (next : Option StepName) (name : StepName) (piece : List (Told FlagAnd)) → AreToldBy next piece → next ≢ Some name → NoneBy name piece
none_by next name [] all other = tt
none_by next name (told ∷ rest) all other = ((λ is. other (all.0 name is)), none_by next name rest all.1 other)

module _ (name : Name) (pass : Sight FlagAnd) (seat : FlagSeat) (text : List ℕ) where
  -- no step
  pub walks_none : SeatWalks name [] (stage pass seat text) (stage pass seat text)
  walks_none =
      record {
        piece = [];
        told = sym (append-nil text);
        makes = (refl, refl);
        by = tt;
        few = omega arith;
        others = λ n all. tt;
        ends = λ is_open over. absurd (cc (is_open, ap is_some over));
        number = refl;
        onward = omega arith;
        keeps = ([], append-nil pass.cached);
        goes = λ now sits. record { legal = tt; sits = sits };
      }

  module _ (after : Sight FlagAnd) (left : FlagSeat) (more : List ℕ) where
    -- one step
    pub walks_one : (told : StepTold FlagAnd) → TellsPiece flag_meld (flag_words name) seat pass told left after → pass.steps ≤ after.steps → (asked : Call FlagAnd) → asked_in seat.call ≡ Some asked
        → ((ranks : ℕ) (h : History FlagAnd) → KnowsGroup ranks h (comm_of asked) told.reply left.own → more ≡ text ++ lines_text (piece_of left.own.number told (group_in ranks h (comm_of asked) told.reply)))
        → SeatWalks name (next_in seat.call ∷ []) (stage pass seat text) (stage after left more)
    walks_one told t onward asked asked_is tells =
        record {
          piece = t.piece;
          told = tells name.limits.ranks after.seen (subst (λ n. KnowsGroup name.limits.ranks after.seen n told.reply left.own) comm_is (knows told.reply t.next))
              ∙ ap (λ p. text ++ lines_text p) (ap (λ r. piece_of r told (group_in name.limits.ranks after.seen (comm_of asked) told.reply)) t.number
              ∙ (ap (λ n. piece_of seat.own.number told (group_in name.limits.ranks after.seen n told.reply)) (sym comm_is) ∙ sym t.piece_is));
          makes = (refl, after, left, t.named, (refl, refl));
          by = t.of;
          few = t.few;
          others = λ n all. none_by (next_in seat.call) n t.piece t.by_step all.0;
          ends = λ is_open over. ends told.reply t.next over;
          number = t.number;
          onward = onward;
          keeps = t.keeps;
          goes = λ now sits. record { legal = t.legal now sits; sits = t.sits now sits };
        }
      where
        comm_from : (call : Option (UnderWay FlagAnd)) → asked_in call ≡ Some asked → comm_in call ≡ comm_of asked
        comm_from None is = absurd (cc is)
        comm_from (Some doing) is = let same : doing.asked ≡ asked = cc is in ap comm_of same

        comm_is : comm_in seat.call ≡ comm_of asked
        comm_is = comm_from seat.call asked_is

        knows : (reply : Option (Answer FlagAnd)) → GoesOrEnds name.limits after.seen t.piece seat left reply → KnowsGroup name.limits.ranks after.seen (comm_in seat.call) reply left.own
        knows None next = tt
        knows (Some answer) next = next.may_list

        ends : (reply : Option (Answer FlagAnd)) → GoesOrEnds name.limits after.seen t.piece seat left reply → left.call ≡ None → EndsInReply t.piece
        ends None next over = absurd (cc (next.0, ap is_some over))
        ends (Some answer) next over = next.in_reply

    -- and then further steps
    module _ (later : Sight FlagAnd) (last : FlagSeat) (all : List ℕ) (names others : List (Option StepName)) (w : SeatWalks name names (stage pass seat text) (stage after left more)) (is_open : IsTrue (is_some left.call)) (v : SeatWalks name others (stage after left more) (stage later last all)) where
      pub walks_then : SeatWalks name (names ++ others) (stage pass seat text) (stage later last all)
      walks_then =
          let few_w = w.few in
          let few_v = v.few in
          let on_w = w.onward in
          let on_v = v.onward in
          record {
            piece = w.piece ++ v.piece;
            told = v.told ∙ (ap (λ t. t ++ lines_text v.piece) w.told ∙ (append_assoc text (lines_text w.piece) (lines_text v.piece) ∙ ap (λ t. text ++ t) (sym (lines_append w.piece v.piece))));
            makes = steps_append names others pass seat after left later last w.makes v.makes;
            by = all_append _ w.piece v.piece w.by (subst (λ r. AreOf (Caller.Rank r) v.piece) w.number v.by);
            few = omega (arith, few_w, few_v, pieces_append w.piece v.piece, length-append names others);
            others = λ n none. all_append _ w.piece v.piece (w.others n (first_all _ names others none)) (v.others n (last_all _ names others none));
            ends = λ was_open over. ends_append w.piece v.piece (v.ends is_open over);
            number = v.number ∙ w.number;
            onward = omega (arith, on_w, on_v);
            keeps = prefix_trans pass.cached after.cached later.cached w.keeps v.keeps;
            goes = λ now sits. goes now (w.goes now sits);
          }
        where
          goes : (now : Traced FlagAnd) → SitsOn name now w.piece after left → SitsOn name now (w.piece ++ v.piece) later last
          goes now g =
              let h = v.goes (said_by now w.piece) g.sits in
              record {
                legal = legal_append flag_meld now w.piece v.piece g.legal h.legal;
                sits = subst (λ t. Sits flag_meld (flag_words name) t later last) (sym (said_append now w.piece v.piece)) h.sits;
              }

-- one step more is counted
pub counts_on : (names : List (Option StepName)) (name : Option StepName) (made more : ℕ) → IsCountOf (length names) made → IsCountOf (made + 1) more → IsCountOf (length (names ++ name ∷ [])) more
counts_on names name made more counted one_more = go counted one_more (length-append names (name ∷ []))
  where
    go : IsCountOf (length names) made → IsCountOf (made + 1) more → length (names ++ name ∷ []) ≡ length names + 1 → IsCountOf (length (names ++ name ∷ [])) more
    go (inl is) (inl next) size = inl (omega (arith, is.0, next.0, size), omega (arith, is.0, next.1, size))
    go (inl is) (inr full) size = inr (full.0, omega (arith, is.0, full.1, size))
    go (inr is) (inl next) size = absurd (omega (arith, is.0, next.1))
    go (inr is) (inr full) size = inr (full.0, omega (arith, is.1, size))

-- and is still within what may be made, where that wasn't reached
pub still_within : (reach : Reach) (names : List (Option StepName)) (name : Option StepName) (made : ℕ) → ((most : ℕ) → reach.most ≡ Some most → length names ≤ most)
    → ((most : ℕ) → reach.most ≡ Some most → made ≢ most × (most ≤ 4294967295)) → IsCountOf (length names) made → (most : ℕ) → reach.most ≡ Some most
    → length (names ++ name ∷ []) ≤ most
still_within reach names name made within fewer counted most is = go counted (within most is) (fewer most is) (length-append names (name ∷ []))
  where
    go : IsCountOf (length names) made → length names ≤ most → made ≢ most × (most ≤ 4294967295) → length (names ++ name ∷ []) ≡ length names + 1 → length (names ++ name ∷ []) ≤ most
    go (inl all) below other size = omega (arith, all.0, below, other.0, size)
    go (inr full) below other size = absurd (omega (arith, full.0, full.1, below, other.0, other.1))

-- a step of another name is one more of other names
pub still_other : (reach : Reach) (names : List (Option StepName)) (next : Option StepName) → ((name : StepName) → reach.name ≡ Some name → AreOther name names)
    → ((name : StepName) → reach.name ≡ Some name → next ≢ Some name) → (name : StepName) → reach.name ≡ Some name → AreOther name (names ++ next ∷ [])
still_other reach names next before other name is = all_append _ names (next ∷ []) (before name is) (other name is, tt)

-- a fact at Ok leads to another
pub on_ok : {T E : Type 0} {P Q : Type 0} (r : Result T E) → (P → Q) → OnOk r P → OnOk r Q
on_ok (Ok v) f p = f p
on_ok (Err e) f p = tt
