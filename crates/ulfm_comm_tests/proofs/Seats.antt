-- A rank whose calls are taken step by step, among others over one pass.
use Rattle.std.proofs.Common.{◌⊎◌, ℕ, zero, suc, ◌<◌, ◌∷◌, length, get_or, Bool, true, false, List, [], Some, None, sym, subst, arith, append-nil, inl, inr, set}
use Rattle.std.specs.{List.{AllByRecursion}, Prelude.{MatchOption, Option}}
use Rattle.ulfm_model.specs.declared.{call.Call.{Call}, event.Caller.TheVariants.{Rank}, reply.Reply.{Reply}}
use Rattle.ulfm_model.specs.{History.{IsLegal, entries_by}, Records.{Fits, Record}}
use Rattle.ulfm_model.proofs.{LeftRuns.{call_legal, fail_legal}, Lists.{each_from, prefix_trans}, Stable.{fits_stays}}
use Rattle.ulfm_words.specs.Steps.{view_at, IsView, Over, Sight}
use Rattle.ulfm_words.proofs.Trails.{did_prefix, did_wait}
use Rattle.ulfm_comm.specs.{Calls.{Calls, RepliedAs, HasReplied, wants_memory}, Fails.{Fails}, Ends.{IsRefusedAgain}}
use Rattle.ulfm_comm.specs.{Counts.{Counted}, Phase.{Answered, Idles, Stands, UnderWay, Waits, next_of, reply_in}, Step.{Stepped}}
use Rattle.ulfm_comm.proofs.{StepAdds.{step_did}, CallRuns.{called_run}, InOrder.{each_set}, AmongOthers.{did_among, waits_none}}
use Rattle.ulfm_comm_tests.specs.Playing.{HasStood, IsPlay, Playing, Plays}
use Rattle.ulfm_comm.specs.Local.{local}
use mathlib.Core.List.{IsPrefix}

-- what holds of each holds at an index
pub each_at : {X : Type 0} (Q : X → Type 0) (xs : List X) (i : ℕ) (d : X) → AllByRecursion Q xs → i < length xs → Q (get_or xs i d)
each_at Q [] i d all below = absurd (omega (arith, below))
each_at Q (x ∷ xs) zero d all below = all.0
each_at Q (x ∷ xs) (suc i) d all below = each_at Q xs i d all.1 (omega (arith, below))

module _ {P : Type 0} (meld : P → P → P) (name : Over P) where
  -- what was seen has grown
  waits_begin : (now after : Sight P) → Waits false now after → IsPrefix now.seen after.seen
  waits_begin now after waits = did_prefix false [] now.seen after.seen waits.did

  -- more has come
  waits_on : (stood now after : Sight P) → Waits false stood now → Waits false now after → Waits false stood after
  waits_on stood now after p q = record { did = did_wait false [] stood.seen now.seen after.seen p.did q.did; cached = prefix_trans stood.cached now.cached after.cached p.cached q.cached; onward = omega (arith, p.onward, q.onward) }

  -- for the others a rank's steps are others' events
  pub step_waits : (quiet : Bool) (was : UnderWay P) (own : Record) (now : Sight P) (reply : Option (Reply P)) (is : UnderWay P) (new : Record) (after : Sight P) → Stepped meld quiet was (local own (view_at name now)) (next_of reply is.phase) (local new (view_at name after)) → Waits false now after
  step_waits quiet was own now reply is new after step =
      let did = step_did quiet own was.asked (reply_in (next_of reply is.phase)) now.seen after.seen was.phase step.adds in
      record { did = did_among now.seen after.seen (did_prefix quiet (entries_by (Rank own.number) did.0) now.seen after.seen did.1); cached = step.cached; onward = step.onward }

  -- and so are those of a whole call
  pub call_waits : (quiet : Bool) (asked : Call P) (own : Record) (now : Sight P) (reply : Reply P) (new : Record) (after : Sight P) → IsLegal meld name.limits now.seen → Calls meld quiet asked (local own (view_at name now)) reply (local new (view_at name after)) → Waits false now after
  call_waits quiet asked own now reply new after legal called =
      let run = called_run meld quiet name asked own now reply new after called in
      record { did = did_among now.seen after.seen (call_legal meld name.limits quiet now.seen after.seen own asked reply new legal run).0; cached = called.blocks.cached; onward = called.linearizes.onward }

  -- a call that has just begun
  pub stood_first : (own : Record) (now : Sight P) (doing : Counted P) → Stands meld false (local own (view_at name now)) doing.way (local own (view_at name now)) → HasStood meld name own now doing
  stood_first own now doing stands = record { old = own; before = now; stood = now; stands = stands; waits = waits_none now; begins = ([], append-nil now.seen) }

  module _ (own : Record) (now : Sight P) (doing : Counted P) (was : HasStood meld name own now doing) (after : Sight P) (waits : Waits false now after) where
    still_begins : IsPrefix was.before.seen after.seen
    still_begins = prefix_trans was.before.seen now.seen after.seen was.begins (waits_begin now after waits)

    -- others step
    pub stood_on : HasStood meld name own after doing
    stood_on = record { old = was.old; before = was.before; stood = was.stood; stands = was.stands; waits = waits_on was.stood now after was.waits waits; begins = still_begins }

    -- its own step leads on
    pub stood_next : (own' : Record) (doing' : Counted P) → ((old : Record) (before stood : Sight P) → Stands meld false (local old (view_at name before)) doing.way (local own (view_at name stood)) → Waits false stood now → Stands meld false (local old (view_at name before)) doing'.way (local own' (view_at name after))) → HasStood meld name own' after doing'
    stood_next own' doing' turns =
        record { old = was.old; before = was.before; stood = after; stands = turns was.old was.before was.stood was.stands was.waits; waits = waits_none after; begins = still_begins }

    ends_fit : (asked : Call P) (reply : Reply P) (old own' : Record) (before : Sight P) (b : Bool) → RepliedAs meld false asked (local old (view_at name before)) reply b (local own' (view_at name after)) → Fits meld name.limits after.seen own'
    ends_fit asked reply old own' before true ends = ends.0.fits
    ends_fit asked reply old own' before false ends = ends.fits

    -- it is the last one
    pub answered_fits : (own' : Record) (asked : Call P) (reply : Reply P) → IsLegal meld name.limits after.seen
        → ((old : Record) (before stood : Sight P) → Stands meld false (local old (view_at name before)) doing.way (local own (view_at name stood)) → Waits false stood now → Answered meld false asked (local old (view_at name before)) reply (local own' (view_at name after))) → Fits meld name.limits after.seen own'
    answered_fits own' asked reply legal turns = go (turns was.old was.before was.stood was.stands was.waits).ends
      where
        go : (IsRefusedAgain was.old reply own' × Idles false was.before after) ⊎ HasReplied meld false asked (local was.old (view_at name was.before)) reply (local own' (view_at name after)) → Fits meld name.limits after.seen own'
        go (inl (again, waited)) = subst (λ r. Fits meld name.limits after.seen r) (sym again.record_is) (fits_stays meld name.limits was.before.seen after.seen was.old still_begins legal was.stands.fits)
        go (inr ends) = ends_fit asked reply was.old own' was.before (wants_memory reply) ends

  -- others step
  pub sits_on : (now after : Sight P) → IsLegal meld name.limits after.seen → Waits false now after → (seat : Playing P) → Plays meld name now seat → Plays meld name after seat
  sits_on now after legal waits seat sits = go seat.own seat.doing sits
    where
      go : (own : Record) (doing : Option (Counted P)) → MatchOption doing (Fits meld name.limits now.seen own) (HasStood meld name own now) → MatchOption doing (Fits meld name.limits after.seen own) (HasStood meld name own after)
      go own None fits = fits_stays meld name.limits now.seen after.seen own (waits_begin now after waits) legal fits
      go own (Some doing) stood = stood_on own now doing stood after waits

  -- all sit on, among others' steps
  pub play_on : (now after : Sight P) (seats : List (Playing P)) → IsPlay meld name now seats → IsView meld (view_at name after) → Waits false now after → IsPlay meld name after seats
  play_on now after seats play of waits = record { of = of; sits = each_from (Plays meld name now) (Plays meld name after) (sits_on now after of.legal waits) seats play.sits }

  -- a rank is declared
  pub play_failed : (now after : Sight P) (seats : List (Playing P)) (quiet : Bool) (rank : ℕ) (reply : Reply P) → IsPlay meld name now seats → Fails meld quiet rank (view_at name now) reply (view_at name after) → IsPlay meld name after seats
  play_failed now after seats quiet rank reply play fails =
      play_on now after seats play fails.of (record { did = did_among now.seen after.seen (fail_legal meld name.limits quiet now.seen after.seen rank reply fails.run).0; cached = fails.cached; onward = fails.onward })

  -- one of them has made its step
  pub play_next : (now after : Sight P) (seats : List (Playing P)) (i : ℕ) (seat : Playing P) → IsPlay meld name now seats → IsView meld (view_at name after) → Waits false now after → Plays meld name after seat → IsPlay meld name after (set seats i seat)
  play_next now after seats i seat play of waits sits =
      record { of = of; sits = each_set (Plays meld name after) seats i seat (play_on now after seats play of waits).sits sits }
