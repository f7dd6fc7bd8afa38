-- What others do leaves a rank where it sits.
use Rattle.std.proofs.Common.{◌≡◌, ℕ, ◌≤◌, false, List, [], ◌++◌, length, Option, Some, None, is_some, ap, sym, ◌∙◌, subst, IsTrue, arith, append-nil, append_assoc, length-append, inl, inr}
use mathlib.Core.List.{IsPrefix}
use Rattle.ulfm_model.specs.declared.{call.Call.{Call}, event.Caller.TheVariants.{Rank}, limits.Limits.{Limits}}
use Rattle.ulfm_model.specs.{Answers.{comm_of}, History.{History}, Records.{Record}}
use Rattle.ulfm_model.proofs.{Lists.{prefix_trans}, Stable.{fits_stays}}
use Rattle.ulfm_model.specs.Records.{moment}
use Rattle.ulfm_words.specs.Steps.{IsView, Sight, Over, view_at}
use Rattle.ulfm_words.proofs.Trails.{did_wait}
use Rattle.ulfm_steps.specs.declared.arrivals.Missing.{Missing}
use Rattle.ulfm_comm.specs.Phase.{UnderWay, Waits}
use Rattle.ulfm_comm.specs.declared.phases.phase.{Phase.{Phase}, Phase.TheVariants.{Checking}}
use Rattle.ulfm_comm.proofs.{Stands.{stands_lasts}, AmongOthers.{did_among}}
use Rattle.ulfm_model.specs.Follows.{AreOf}
use Rattle.ulfm_model.specs.Traces.{Told, Traced, Under, call_by, record_in, said_by, same_caller}
use Rattle.ulfm_model.proofs.Kept.{limits_stay}
use Rattle.ulfm_run.specs.{Seats.{AreOthers, Seated, Sits, SitsAt}, Stepping.{FoundAt, HasBegun, HasCalled, IsIdle, IsSaid, KnowsCall, events_by}}
use Rattle.ulfm_run.proofs.{ByPhase.{found_by_check}, LookedAt.{begins_again}, Pieces.{are_by, others_of, piece_call, piece_entries, piece_events, piece_history, piece_record}, Replying.{by_append}}

-- what a line of another changes for rank n: nothing but the history, which gets no event of its
record Stays {P : Type 0} (n : ℕ) (now t : Traced P) : Type 0 where
  pub call : call_by t (Rank n) ≡ call_by now (Rank n)
  pub record_is : record_in t n ≡ record_in now n
  pub more : History P
  pub grown : now.history ++ more ≡ t.history
  pub others : events_by (Rank n) more ≡ []

stays_along : {P : Type 0} (n : ℕ) (now : Traced P) (piece : List (Told P)) → AreOthers (Rank n) piece → Stays n now (said_by now piece)
stays_along n now piece others = record {
  call = piece_call now piece (Rank n) others;
  record_is = piece_record now piece n others;
  more = piece_entries piece;
  grown = sym (piece_history now piece);
  others = piece_events (Rank n) piece others;
}

-- who is missing in a barrier was found at a beginning of what is seen later, too
found_lasts : {P : Type 0} (meld : P → P → P) (limits : Limits) (c : ℕ) (old : Record) (before : History P) (own : Record) (now later : History P) (found : ℕ) → IsPrefix now later → (phase : Phase P) → FoundAt meld limits c (moment old before) (moment own now) found phase
    → FoundAt meld limits c (moment old before) (moment own later) found phase
found_lasts meld limits c old before own now later found begins =
    found_by_check (FoundAt meld limits c (moment old before) (moment own now) found) meld limits c old before own later found go
  where
    go : (missing : Missing) → FoundAt meld limits c (moment old before) (moment own now) found (Checking missing) → FoundAt meld limits c (moment old before) (moment own later) found (Checking missing)
    go missing (earlier, i, is) =
        (earlier, record { x = i.x; k = i.k; waits = i.waits; are = i.are; legal = i.legal; waited = did_wait false [] earlier now later i.waited (did_among now later begins) }, is)

-- others' lines led from `now` to `t`, and the pass has seen their events since
module _ {P : Type 0} (meld : P → P → P) (name : Over P) (now t : Traced P) (pass later : Sight P) (own : Record) (of : IsView meld (view_at name later)) (limits_t : t.limits ≡ now.limits) (history_t : t.history ≡ later.seen) (s : Stays own.number now t) (onward : pass.steps ≤ later.steps) (keeps : IsPrefix pass.cached later.cached) where
  grown_from : now.history ≡ pass.seen → pass.seen ++ s.more ≡ later.seen
  grown_from history = ap (λ h. h ++ s.more) (sym history) ∙ (s.grown ∙ history_t)

  waits_from : now.history ≡ pass.seen → Waits false pass later
  waits_from history = record { did = did_among pass.seen later.seen (s.more, grown_from history); cached = keeps; onward = onward }

  said_lasts : {call : Option (Under P)} {old : Record} → IsSaid name now pass own.number call old → IsSaid name t later own.number call old
  said_lasts k = record { limits = limits_t ∙ k.limits; history = history_t; call_is = s.call ∙ k.call_is; seen = k.seen; record_is = s.record_is ∙ k.record_is }

  idle_lasts : IsIdle meld name now pass own → IsIdle meld name t later own
  idle_lasts h =
      record { said = said_lasts h.said; fits = fits_stays meld name.limits pass.seen later.seen own (s.more, grown_from h.said.history) of.legal h.fits }

  known_lasts : {asked : Call P} {u : Under P} {old : Record} → KnowsCall name now pass own asked u old → KnowsCall name t later own asked u old
  known_lasts k = record { said = said_lasts k.said; asked_is = k.asked_is; in_use = k.in_use }

  called_lasts : (found : ℕ) (doing : UnderWay P) → HasCalled meld name now pass own found doing → HasCalled meld name t later own found doing
  called_lasts found doing h =
      let first = h.waits.onward in
      let grown = grown_from h.known.said.history in
      let waits = waits_from h.known.said.history in
      record {
        known = known_lasts h.known;
        waits = record {
          did = did_wait false [] h.stood.seen pass.seen later.seen h.waits.did waits.did;
          cached = prefix_trans h.stood.cached pass.cached later.cached h.waits.cached keeps;
          onward = omega (arith, first, onward);
        };
        rest = h.rest ++ s.more;
        since = sym (append_assoc h.before.seen h.rest s.more) ∙ (ap (λ w. w ++ s.more) h.since ∙ grown);
        own_is = by_append (Rank own.number) h.rest s.more ∙ (ap (λ es. events_by (Rank own.number) h.rest ++ es) s.others ∙ (append-nil (events_by (Rank own.number) h.rest) ∙ h.own_is));
        found_at = found_lasts meld name.limits (comm_of doing.asked) h.old h.before.seen own pass.seen later.seen found (s.more, grown) doing.phase h.found_at;
        u = h.u;
        old = h.old;
        before = h.before;
        stood = h.stood;
        stands = h.stands;
        past = h.past;
        own_same = h.own_same;
        sees = h.sees;
        begun = h.begun;
        look = h.look;
        no_own = h.no_own;
        not_declared = h.not_declared;
        not_refused = h.not_refused;
      }

  begun_lasts : (doing : UnderWay P) → HasBegun meld name now pass own doing → HasBegun meld name t later own doing
  begun_lasts doing h =
      let grown = grown_from h.known.said.history in
      let still = stands_lasts meld false name h.old pass doing own pass later h.stands (waits_from h.known.said.history) of in
      let longer : length pass.seen ≤ length later.seen = omega (arith, ap length grown, length-append pass.seen s.more) in
      let first = h.begun in
      record {
        known = known_lasts h.known;
        stands = begins_again meld name h.old pass doing own later h.looking still of (s.more, grown);
        begun = omega (arith, first, longer);
        u = h.u;
        old = h.old;
        number = h.number;
        looking = h.looking;
        look = h.look;
        own_is = h.own_is;
      }

  at_lasts : (found : ℕ) (call : Option (UnderWay P)) → SitsAt meld name now pass own found call → SitsAt meld name t later own found call
  at_lasts found None idle = idle_lasts idle
  at_lasts found (Some doing) (inl h) = inl (begun_lasts doing h)
  at_lasts found (Some doing) (inr h) = inr (called_lasts found doing h)

-- lines of others leave a rank where it sits
pub sits_lasts : {P : Type 0} (meld : P → P → P) (name : Over P) (now : Traced P) (piece : List (Told P)) (pass later : Sight P) (seat : Seated P) → AreOthers (Rank seat.own.number) piece → (said_by now piece).history ≡ later.seen → IsView meld (view_at name later)
    → pass.steps ≤ later.steps → IsPrefix pass.cached later.cached → Sits meld name now pass seat → Sits meld name (said_by now piece) later seat
sits_lasts meld name now piece pass later seat others history of onward keeps sits =
    at_lasts meld name now (said_by now piece) pass later seat.own of (limits_stay meld now piece) history (stays_along seat.own.number now piece others) onward keeps seat.found seat.call sits

-- lines in one rank's name are others' to every other rank
pub of_others : {P : Type 0} (r n : ℕ) → same_caller (Rank r) (Rank n) ≡ false → (piece : List (Told P)) → AreOf (Rank r) piece → AreOthers (Rank n) piece
of_others r n differ piece of = others_of (Rank r) (Rank n) piece (are_by (Rank r) piece of) differ

-- where a rank sits, the lines have said what the pass has seen
pub sits_history : {P : Type 0} (meld : P → P → P) (name : Over P) (now : Traced P) (pass : Sight P) (seat : Seated P) → Sits meld name now pass seat → (now.limits ≡ name.limits) × (now.history ≡ pass.seen)
sits_history {P} meld name now pass seat sits = go seat.call sits
  where
    go : (call : Option (UnderWay P)) → SitsAt meld name now pass seat.own seat.found call → (now.limits ≡ name.limits) × (now.history ≡ pass.seen)
    go None h = (h.said.limits, h.said.history)
    go (Some doing) (inl h) = (h.known.said.limits, h.known.said.history)
    go (Some doing) (inr h) = (h.known.said.limits, h.known.said.history)

-- and no call is under way that the seat doesn't have
pub sits_free : {P : Type 0} (meld : P → P → P) (name : Over P) (now : Traced P) (pass : Sight P) (seat : Seated P) → Sits meld name now pass seat → seat.call ≡ None → call_by now (Rank seat.own.number) ≡ None
sits_free {P} meld name now pass seat sits none = let h = subst (SitsAt meld name now pass seat.own seat.found) none sits in h.said.call_is

-- nor none where it has one
pub sits_open : {P : Type 0} (meld : P → P → P) (name : Over P) (now : Traced P) (pass : Sight P) (seat : Seated P) → Sits meld name now pass seat → IsTrue (is_some seat.call) → IsTrue (is_some (call_by now (Rank seat.own.number)))
sits_open {P} meld name now pass seat sits some = go seat.call sits some
  where
    go : (call : Option (UnderWay P)) → SitsAt meld name now pass seat.own seat.found call → IsTrue (is_some call) → IsTrue (is_some (call_by now (Rank seat.own.number)))
    go None h some = absurd (cc some)
    go (Some doing) (inl h) some = ap is_some h.known.said.call_is
    go (Some doing) (inr h) some = ap is_some h.known.said.call_is
