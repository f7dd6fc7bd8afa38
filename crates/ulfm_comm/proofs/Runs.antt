-- Whole calls: their turns one after the other, up to the reply.
use Rattle.std.proofs.Common.{◌≡◌, ◌⊎◌, ◌<◌, ◌≤◌, ℕ, Bool, true, false, [], length, IsTrue, arith, append-nil, inl, inr, refl, ap, subst, sym, ◌∙◌}
use Rattle.std.proofs.lemmas.Bool.{false≢true}
use mathlib.Core.List.{IsPrefix}
use Rattle.ulfm_model.specs.declared.{call.Call.{Call}, event.Caller.TheVariants.{Rank}, reply.Reply.{Reply}}
use Rattle.ulfm_model.specs.{Answers.{polled_by, traits_of}, History.{failures, has}, Records.{Fits, Record, held_at, is_shrink}}
use Rattle.ulfm_model.proofs.Lists.{prefix_trans}
use Rattle.ulfm_words.proofs.Trails.{did_none, did_prefix}
use Rattle.ulfm_words.specs.Steps.{Over, Sight, view_at}
use Rattle.ulfm_comm.specs.{Calls.{EndsReply, HasReplied}, Counts.{IsLook, MakesSteps}, Ends.{IsRefusedAgain}, Known.{KnowsIn}, Local.{local}, Polls.{PendsIn}}
use Rattle.ulfm_comm.specs.Phase.{Answered, Idles, IsPast, NextIs, Stands, StillStands, is_looking, under_way}
use Rattle.ulfm_comm.specs.Step.{HasReadOn, RunsFrom, RunsOn, RunsThrough, TakesTurn, coming}
use Rattle.ulfm_comm.specs.declared.{phases.phase.Next.{Next}, phases.phase.Next.TheVariants.{Ends, Goes}, phases.phase.Phase.{Phase}, phases.phase.Phase.TheVariants.{Begun}}
use Rattle.ulfm_comm.proofs.{AlsoLeft.{also_behind, also_ended}, Known.{blocks_later, blocks_of, knows_same, sees_next, whole_ends}, Stands.{stands_own, stands_shrinks}}
use Rattle.ulfm_comm.proofs.{StepsLeft.{begun_bound}, Wings.{turns_then}}
use Rattle.ulfm_comm.specs.Prepared.{Prepared, unprepared}

-- two records of one rank that differ by what was seen alone
seen_since : (old own mid : Record) → own ≡ record old { seen = own.seen } → mid ≡ record old { seen = mid.seen } → mid ≡ record own { seen = mid.seen }
seen_since old own mid first last = last ∙ sym (ap (λ (w : Record). record w { seen = mid.seen }) first)

-- a call that stands in a phase behind its look
module _ {P : Type 0} {meld : P → P → P} {alone whole : Bool} {name : Over P} {asked : Call P} {phase : Phase P} {prepared : Prepared} {own : Record} {start : Sight P}
    (still : StillStands meld (under_way asked phase prepared) (local own (view_at name start))) (past : is_looking phase ≡ false) where
  -- it is answered by its turn there
  pub turn_ends : {next : Next P} {left : Prepared} {reply : Reply P} {new : Record} {after : Sight P} → next ≡ Ends reply
      → TakesTurn meld alone whole (under_way asked phase prepared) (local own (view_at name start)) (coming next left) (local new (view_at name after))
      → RunsOn meld alone (under_way asked phase prepared) (local own (view_at name start)) reply (local new (view_at name after))
  turn_ends {left = left} {reply = reply} {new = new} {after = after} is taken =
      let turn = subst (λ next. TakesTurn meld alone whole (under_way asked phase prepared) (local own (view_at name start)) (coming next left)
      (local new (view_at name after))) is taken in
      let spends = turn.spends in
      record {
        of = turn.walks.of;
        begins = did_prefix alone _ start.seen after.seen turn.walks.did;
        cached = turn.walks.cached;
        beside = turn.beside;
        onward = turn.walks.onward;
        spends = omega (arith, spends);
        also = λ sets. let few = (also_behind name.limits asked phase own start (Ends reply) new after past turn.also sets).few in omega (arith, few);
        sees = λ known. sees_next own asked start.cached after.cached turn.walks.cached own.seen own.seen new.seen phase past turn.sees
            (λ reads. stands_shrinks meld false name asked still.0 still.1 prepared own start phase reads still.2.at) known (inl refl);
        knows = λ known. turn.knows known;
        turns = λ old before u. turn.turns alone (λ here. here) old before u;
      }

  -- it goes on by its turn there
  module _ {comes : Next P} {next : Phase P} {left : Prepared} {mid : Record} {now : Sight P} (is : comes ≡ Goes next)
      (taken : TakesTurn meld alone whole (under_way asked phase prepared) (local own (view_at name start)) (coming comes left) (local mid (view_at name now))) where
    turn : TakesTurn meld alone whole (under_way asked phase prepared) (local own (view_at name start)) (coming (Goes next) left) (local mid (view_at name now))
    turn = subst (λ next. TakesTurn meld alone whole (under_way asked phase prepared) (local own (view_at name start)) (coming next left)
        (local mid (view_at name now))) is taken

    goes : Stands meld false (local still.0 (view_at name still.1)) (under_way asked next left) (local mid (view_at name now))
    goes = turn.turns false (λ here. absurd (false≢true here)) still.0 still.1 still.2

    -- it stands there
    pub turn_stands : StillStands meld (under_way asked next left) (local mid (view_at name now))
    turn_stands = (still.0, still.1, goes)

    kept : mid ≡ record own { seen = mid.seen }
    kept = seen_since still.0 own mid (stands_own meld false name asked still.0 still.1 prepared own start phase still.2.at)
        (stands_own meld false name asked still.0 still.1 left mid now next goes.at)

    held : (comm : ℕ) → held_at own comm ≡ held_at mid comm
    held comm = sym (ap (λ (w : Record). held_at w comm) kept)

    knows : KnowsIn own asked start.cached phase → KnowsIn mid asked now.cached next
    knows known = knows_same own mid asked now.cached (λ comm. sym (held comm)) next (turn.knows known)

    -- what was seen by the turn, and behind it
    sees : (new : Record) (after : Sight P) → IsPrefix now.cached after.cached → (mid.seen ≡ own.seen) ⊎ HasReadOn own asked own.seen mid.seen now.cached
        → (new.seen ≡ mid.seen) ⊎ HasReadOn mid asked mid.seen new.seen after.cached → (new.seen ≡ own.seen) ⊎ HasReadOn own asked own.seen new.seen after.cached
    sees new after cached (inl none) (inl same) = inl (same ∙ none)
    sees new after cached (inr read) (inl same) = inr (record {
      shrinks = read.shrinks;
      goes_on = subst (IsPrefix own.seen) (sym same) read.goes_on;
      known = blocks_later own asked now.cached after.cached cached read.known;
    })
    sees new after cached (inl none) (inr read) =
        let polled : polled_by {P = P} mid asked ≡ polled_by own asked = ap (λ (w : Record). polled_by w asked) kept in
        inr (record {
          shrinks = ap is_shrink (sym polled) ∙ read.shrinks;
          goes_on = subst (λ xs. IsPrefix xs new.seen) none read.goes_on;
          known = blocks_of mid own asked after.cached after.cached held ([], append-nil after.cached) read.known;
        })
    sees new after cached (inr first) (inr last) = inr (record {
      shrinks = first.shrinks;
      goes_on = prefix_trans own.seen mid.seen new.seen first.goes_on last.goes_on;
      known = blocks_of mid own asked after.cached after.cached held ([], append-nil after.cached) last.known;
    })

    -- what comes next is run to the reply
    pub turn_goes : {reply : Reply P} {new : Record} {after : Sight P}
        → RunsOn meld alone (under_way asked next left) (local mid (view_at name now)) reply (local new (view_at name after))
        → RunsOn meld alone (under_way asked phase prepared) (local own (view_at name start)) reply (local new (view_at name after))
    turn_goes {reply = reply} {new = new} {after = after} run =
        let spends = turn.spends in
        let more = run.spends in
        let first = turn.walks.onward in
        let last = run.onward in
        record {
          of = run.of;
          begins = prefix_trans start.seen now.seen after.seen (did_prefix alone _ start.seen now.seen turn.walks.did) run.begins;
          cached = prefix_trans start.cached now.cached after.cached turn.walks.cached run.cached;
          beside = turns_then alone asked phase next prepared left _ _ (Ends reply) _ kept turn.beside run.beside;
          onward = omega (arith, first, last);
          spends = omega (arith, spends, more);
          also = λ sets.
              let then = also_behind name.limits asked phase own start (Goes next) mid now past turn.also sets in
              let few = then.few in
              let rest = run.also then.sets in
              omega (arith, few, rest);
          sees = λ known.
              sees new after run.cached (sees_next own asked start.cached now.cached turn.walks.cached own.seen own.seen mid.seen phase past turn.sees
              (λ reads. stands_shrinks meld false name asked still.0 still.1 prepared own start phase reads still.2.at) known (inl refl)) (run.sees (knows known));
          knows = λ known of. blocks_of mid own asked after.cached after.cached held ([], append-nil after.cached) (run.knows (knows known) of);
          turns = λ old before u. run.turns old before (turn.turns alone (λ here. here) old before u);
        }

-- a whole call of a rank that was in use and hasn't seen all ranks
module _ {P : Type 0} (meld : P → P → P) (alone : Bool) (name : Over P) (asked : Call P) (own : Record) (before : Sight P) (fits : Fits meld name.limits before.seen own)
    (mine : (traits_of asked).by ≡ Rank own.number) (used : own.refused ≡ false) (some : length own.seen < name.limits.ranks) (comms : 0 < name.limits.comms) where
  -- it begins here
  begins : (quiet : Bool) → Stands meld quiet (local own (view_at name before)) (under_way asked Begun unprepared) (local own (view_at name before))
  begins quiet = record { fits = fits; mine = mine; onward = omega arith; at = (used, refl, did_none quiet before.seen) }

  -- where a call stands behind it
  then : (next : Next P) (mid : Record) (looked : Sight P)
      → TakesTurn meld alone true (under_way asked Begun unprepared) (local own (view_at name before)) (coming next unprepared) (local mid (view_at name looked))
      → (quiet : Bool) → (IsTrue quiet → IsTrue alone) → NextIs meld quiet asked (local own (view_at name before)) next unprepared (local mid (view_at name looked))
  then next mid looked turn quiet only = turn.turns quiet only own before (begins quiet)

  -- a rank that was in use isn't refused again: its call has ended
  has_ended : (reply : Reply P) (new : Record) (after : Sight P) → Answered meld alone asked (local own (view_at name before)) reply (local new (view_at name after))
      → HasReplied meld alone asked (local own (view_at name before)) reply (local new (view_at name after))
  has_ended reply new after answered = by_ends answered.ends
    where
      by_ends : (IsRefusedAgain own reply new × Idles alone before after) ⊎ HasReplied meld alone asked (local own (view_at name before)) reply (local new (view_at name after))
          → HasReplied meld alone asked (local own (view_at name before)) reply (local new (view_at name after))
      by_ends (inl again) = absurd (false≢true (sym used ∙ again.0.refused))
      by_ends (inr ends) = ends

  -- the look, with what comes after it
  looks : (next : Next P) (mid : Record) (looked : Sight P)
      → TakesTurn meld alone true (under_way asked Begun unprepared) (local own (view_at name before)) (coming next unprepared) (local mid (view_at name looked)) → IsPast next
      → (new : Record) (after : Sight P) → IsPrefix looked.seen after.seen × IsPrefix looked.cached after.cached × (looked.steps ≤ after.steps)
      → (IsTrue (has (failures looked.seen) own.number) → after ≡ looked)
      → (new.seen ≡ mid.seen) ⊎ HasReadOn own asked (failures looked.seen) new.seen after.cached
      → IsLook name.limits asked own before looked new after
  looks next mid looked turn past new after goes_on ends sees =
      let look = turn.looks refl in
      let all = look.sees past in
      let few = look.few in
      let found = look.found some in
      record {
        begins = (did_prefix alone _ before.seen looked.seen turn.walks.did, turn.walks.cached, turn.walks.onward);
        goes_on = goes_on;
        few = omega (arith, few, some);
        found = omega (arith, found, ap length all);
        ends = ends;
        sees = λ in_use. elim sees as (λ _. (new.seen ≡ failures looked.seen) ⊎ HasReadOn own asked (failures looked.seen) new.seen after.cached)
            [ inl same ↦ inl (same ∙ all) | inr read ↦ inr read ];
      }

  -- the look ended the call
  module _ (answer : Reply P) (mid : Record) (looked : Sight P)
      (turn : TakesTurn meld alone true (under_way asked Begun unprepared) (local own (view_at name before)) (coming (Ends answer) unprepared) (local mid (view_at name looked))) where
    answered : Answered meld alone asked (local own (view_at name before)) answer (local mid (view_at name looked))
    answered = then (Ends answer) mid looked turn alone (λ here. here)

    ends_early : EndsReply meld alone asked (local own (view_at name before)) answer (local mid (view_at name looked))
    ends_early =
        whole_ends meld alone name asked own before answer mid looked (has_ended answer mid looked answered) turn.walks.cached turn.beside.caches
        (λ here wings. turn.beside.wings here wings) (turn.knows tt)

    steps_early : MakesSteps name.limits asked own before mid looked
    steps_early =
        let spends = turn.spends in
        let few = turn.also.few in
        record {
          looked = looked;
          look = looks (Ends answer) mid looked turn tt mid looked (([], append-nil looked.seen), ([], append-nil looked.cached), omega arith) (λ declared. refl) (inl refl);
          steps = omega (arith, spends, begun_bound name.limits own asked used some);
          also = λ stand. also_ended name.limits asked own mid before looked used some comms (omega (arith, few));
        }

  -- the call goes on behind its look
  module _ (phase : Phase P) (mid : Record) (looked : Sight P)
      (turn : TakesTurn meld alone true (under_way asked Begun unprepared) (local own (view_at name before)) (coming (Goes phase) unprepared) (local mid (view_at name looked)))
      (past : is_looking phase ≡ false) (reply : Reply P) (new : Record) (after : Sight P)
      (run : RunsOn meld alone (under_way asked phase unprepared) (local mid (view_at name looked)) reply (local new (view_at name after))) where
    -- it has changed nothing of the record but what was seen
    keeps : mid ≡ record own { seen = mid.seen }
    keeps = stands_own meld false name asked own before unprepared mid looked phase (then (Goes phase) mid looked turn false (λ here. absurd (false≢true here))).at

    knows_mid : KnowsIn mid asked looked.cached phase
    knows_mid = knows_same own mid asked looked.cached (λ comm. ap (λ (w : Record). held_at w comm) keeps) phase (turn.knows tt)

    replied : Answered meld alone asked (local own (view_at name before)) reply (local new (view_at name after))
    replied = run.turns own before (then (Goes phase) mid looked turn alone (λ here. here))

    ends_late : EndsReply meld alone asked (local own (view_at name before)) reply (local new (view_at name after))
    ends_late =
        let beside = turns_then alone asked Begun phase unprepared unprepared _ _ (Ends reply) _ keeps turn.beside run.beside in
        whole_ends meld alone name asked own before reply new after (has_ended reply new after replied)
        (prefix_trans before.cached looked.cached after.cached turn.walks.cached run.cached) beside.caches beside.wings
        (λ of.
        blocks_of mid own asked after.cached after.cached (λ comm. sym (ap (λ (w : Record). held_at w comm) keeps)) ([], append-nil after.cached)
        (run.knows knows_mid of))

    -- what was read on, by the record before
    read_on : HasReadOn mid asked mid.seen new.seen after.cached → HasReadOn own asked (failures looked.seen) new.seen after.cached
    read_on read =
        let all = (turn.looks refl).sees past in
        let polled : polled_by {P = P} mid asked ≡ polled_by own asked = ap (λ (w : Record). polled_by w asked) keeps in
        record {
          shrinks = ap is_shrink (sym polled) ∙ read.shrinks;
          goes_on = subst (λ xs. IsPrefix xs new.seen) all read.goes_on;
          known = blocks_of mid own asked after.cached after.cached (λ comm. sym (ap (λ (w : Record). held_at w comm) keeps)) ([], append-nil after.cached) read.known;
        }

    steps_late : MakesSteps name.limits asked own before new after
    steps_late =
        let all = (turn.looks refl).sees past in
        let spends = turn.spends in
        let few = turn.also.few in
        let more = run.spends in
        record {
          looked = looked;
          look = looks (Goes phase) mid looked turn past new after (run.begins, run.cached, run.onward)
              (λ declared. let over = (turn.looks refl).ends past (subst (λ xs. IsTrue (has xs own.number)) (sym all) declared) in absurd (cc over))
              (elim (run.sees knows_mid) as (λ _. (new.seen ≡ mid.seen) ⊎ HasReadOn own asked (failures looked.seen) new.seen after.cached) [
                | inl same ↦ inl same
                | inr read ↦ inr (read_on read)
              ]);
          steps = omega (arith, spends, more, begun_bound name.limits own asked used some);
          also = λ stand.
              let rest = run.also (turn.also.sets stand) in
              also_ended name.limits asked own new before after used some comms (omega (arith, few, rest));
        }

  -- what a whole call is to be
  abbrev is_whole : Reply P → Record → Sight P → Type 0
  is_whole reply new after =
      EndsReply meld alone asked (local own (view_at name before)) reply (local new (view_at name after))
      × PendsIn meld alone asked (local own (view_at name before)) reply (local new (view_at name after))
      × MakesSteps name.limits asked own before new after

  pub whole_call : (reply : Reply P) (new : Record) (after : Sight P)
      → RunsThrough meld alone (under_way asked Begun unprepared) (local own (view_at name before)) reply (local new (view_at name after))
      → EndsReply meld alone asked (local own (view_at name before)) reply (local new (view_at name after))
      × PendsIn meld alone asked (local own (view_at name before)) reply (local new (view_at name after))
      × MakesSteps name.limits asked own before new after
  whole_call reply new after through = by through.next through.turn through.past through.runs
    where
      by : (next : Next P)
          → TakesTurn meld alone true (under_way asked Begun unprepared) (local own (view_at name before)) (coming next unprepared) (local through.mid (view_at name through.looked)) → IsPast next
          → RunsFrom meld alone asked (local through.mid (view_at name through.looked)) next reply (local new (view_at name after))
          → is_whole reply new after
      by (Goes phase) turn past run = (
        ends_late phase through.mid through.looked turn past reply new after run,
        (replied phase through.mid through.looked turn past reply new after run).pending,
        steps_late phase through.mid through.looked turn past reply new after run,
      )
      by (Ends answer) turn past same =
          subst (λ (at : Sight P). is_whole reply new at) same.2
          (subst (λ (w : Record). is_whole reply w through.looked) same.1
          (subst (λ (r : Reply P). is_whole r through.mid through.looked) same.0 (
            ends_early answer through.mid through.looked turn,
            (answered answer through.mid through.looked turn).pending,
            steps_early answer through.mid through.looked turn,
          )))
