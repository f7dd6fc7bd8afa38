-- The steps of the sequential object's program, over what it keeps.
use Rattle.std.proofs.Common.{◌≡◌, ℕ, Bool, true, false, ◌==◌, List, ◌++◌, map, Option, Some, None, get_or, set, refl, ap, ap₂, sym, ◌∙◌, subst, nat_eq, Result, Ok, Err, if◌then◌else◌}
use Rattle.std.specs.Prelude.{IfOk, OnOk, OnErr}
use Rattle.std.specs.List.{IsDistinct, position}
use Rattle.std.proofs.lemmas.List.{map-set}
use Rattle.std.proofs.lemmas.Simd.{map-map}
use Rattle.std.proofs.Math.Seq.{map-set_same}
use Rattle.std.specs.declared.alloc.AllocError.{AllocError}
use Rattle.ulfm_model.specs.declared.{call.Call.{Call}, limits.Limits.{Limits}, event.Caller.TheVariants.{Rank}, refusal.Refusal.TheVariants.{NoSuchRank, SelfFailed}, reply.Reply.{Reply}, reply.Reply.TheVariants.{Refused}}
use Rattle.ulfm_model.specs.declared.record.RankRecord.{RankRecord}
use Rattle.ulfm_model.specs.declared.call.Call.TheVariants as call
use Rattle.ulfm_model.specs.{Answers.{left_by, rank_of, traits_of}, History.{History, entries_by, failures, first_ranks}, Records.{Record}, Runs.{IsSound, IsStep, State}, Words.{MayOpen}}
use Rattle.ulfm_model.specs.Computed.{Next, next, next_by, next_of_rank, outcome_of}
use Rattle.ulfm_model.specs.Terms.{record_at}
use Rattle.ulfm_object.specs.Objects.{IsFew, TakesStep, state_of}
use Rattle.ulfm_model.specs.Kept.{record_of}
use Rattle.ulfm_model.proofs.LeftSound.{step_sound}
use Rattle.ulfm_object.proofs.ObjectSteps.{few_of, next_of_call, replaced}
use Rattle.ulfm_model.proofs.Ranks.{ranks_distinct}
use Rattle.ulfm_model.proofs.Places.{find_no_place, find_place}
use Rattle.ulfm_model.proofs.OnlyStep.{step_is_next}
use Rattle.ulfm_model.proofs.StepsNext.{next_is_step}

module _ {P A : Type 0} (meld : P → P → P) (limits : Limits) (log : History P) (records : List (RankRecord A)) (asked : Call P) where
  abbrev old : State P
  old = state_of limits log records

  abbrev r : ℕ
  r = rank_of asked

  abbrev out : Next P
  out = next_of_rank meld old r (record_at old r) asked

  abbrev IsAt : Option ℕ → Type 0
  IsAt found = position (λ own. own.number == r) records ≡ found

  -- a rank that the world doesn't have
  pub answers_nobody : IsAt None → (Refused NoSuchRank ≡ out.reply) × (old ≡ out.state)
  answers_nobody at =
      let none : record_at old r ≡ None = find_no_place (record_of limits) (λ (x : Record). x.number == r) records at in
      (ap (λ o. (next_of_rank meld old r o asked).reply) (sym none), ap (λ o. (next_of_rank meld old r o asked).state) (sym none))

  module _ (i : ℕ) (d : RankRecord A) (at : IsAt (Some i)) where
    abbrev own : RankRecord A
    own = get_or records i d

    found : (b : Bool) → own.refused ≡ b → next_by meld old r (record_of limits own) asked b ≡ out
    found b is =
        let here : record_at old r ≡ Some (record_of limits own) = find_place (record_of limits) (λ (x : Record). x.number == r) records i d at in
        sym (ap (λ o. next_of_rank meld old r o asked) here ∙ ap (next_by meld old r (record_of limits own) asked) is)

    -- a rank that was refused for good before
    pub answers_refused : own.refused ≡ true → (Refused SelfFailed ≡ out.reply) × (state_of limits log (set records i own) ≡ out.state)
    answers_refused refused =
        let same = found true refused in
        let kept : map (record_of limits) (set records i own) ≡ map (record_of limits) records = map-set_same (record_of limits) records i own d refl in
        let with_records : List Record → State P = λ rs. record { limits = limits; history = log; records = rs } in
        (ap (λ n. n.reply) same, ap with_records kept ∙ ap (λ n. n.state) same)

    -- any other
    pub answers_in_use : (new : RankRecord A) (after : History P) (reply : Reply P) → IsDistinct nat_eq (map (λ x. x.number) records) → own.refused ≡ false
        → reply ≡ (outcome_of meld limits log (record_of limits own) asked).reply → after ≡ log ++ entries_by (Rank own.number) (outcome_of meld limits log (record_of limits own) asked).own
        → record_of limits new ≡ left_by limits.ranks after (record (record_of limits own) { seen = failures log }) asked reply
        → (reply ≡ out.reply) × (state_of limits after (set records i new) ≡ out.state)
    answers_in_use new after reply distinct in_use reply_is after_is left_is =
        let same = found false in_use in
        let with_both : History P → List Record → State P = λ h rs. record { limits = limits; history = h; records = rs } in
        let put : Record → List Record = λ y. map (λ x. if x.number == r then y else x) (map (record_of limits) records) in
        let left = left_is ∙ ap₂ (λ h p. left_by limits.ranks h (record (record_of limits own) { seen = failures log }) asked p) after_is reply_is in
        let all : map (record_of limits) (set records i new) ≡ put (record_of limits new) =
        map-set (record_of limits) records i new ∙ sym (replaced (record_of limits) (λ (x : Record). x.number) records r i d (record_of limits new) distinct at) in
        (reply_is ∙ ap (λ n. n.reply) same, ap₂ with_both after_is (all ∙ ap put left) ∙ ap (λ n. n.state) same)

    -- the same by the result
    pub answers_ok : (new : RankRecord A) (after : History P) (result : Result (Reply P) AllocError) → map (λ x. x.number) records ≡ first_ranks limits.ranks → own.refused ≡ false
        → IfOk result (λ reply. reply ≡ (outcome_of meld limits log (record_of limits own) asked).reply)
        → OnOk result (after ≡ log ++ entries_by (Rank own.number) (outcome_of meld limits log (record_of limits own) asked).own)
        → IfOk result (λ reply. record_of limits new ≡ left_by limits.ranks after (record (record_of limits own) { seen = failures log }) asked reply)
        → IfOk result (λ reply. (reply ≡ out.reply) × (state_of limits after (set records i new) ≡ out.state))
    answers_ok new after (Ok reply) numbers in_use reply_is after_is left_is =
        answers_in_use new after reply (subst (IsDistinct nat_eq) (sym numbers) (ranks_distinct limits.ranks)) in_use reply_is after_is left_is
    answers_ok new after (Err e) numbers in_use reply_is after_is left_is = tt

    -- an error leaves all as it was
    pub answers_err : (new : RankRecord A) (after : History P) (result : Result (Reply P) AllocError) → OnErr result ((after ≡ log) × (record_of limits new ≡ record_of limits own)) → OnErr result (state_of limits after (set records i new) ≡ old)
    answers_err new after (Ok reply) kept = tt
    answers_err new after (Err e) kept =
        let with_both : History P → List Record → State P = λ h rs. record { limits = limits; history = h; records = rs } in
        ap₂ with_both kept.0 (map-set_same (record_of limits) records i new d kept.1)

  -- a log that an error left as it was
  pub log_kept : (after : History P) (result : Result (Reply P) AllocError) → OnErr result (after ≡ log) → OnErr result (state_of limits after records ≡ old)
  log_kept after (Ok reply) kept = tt
  log_kept after (Err e) kept = let with_log : History P → State P = λ h. state_of limits h records in ap with_log kept

  module _ (may : MayOpen limits) (sound : IsSound meld old) where
    -- what a call of a rank requires of the state
    pub numbers_of : map (λ (x : RankRecord A). x.number) records ≡ first_ranks limits.ranks
    numbers_of = sym (map-map (λ (x : Record). x.number) (record_of limits) records) ∙ sound.numbers

    pub few_here : IsFew log
    few_here = few_of meld limits log may sound.legal

    -- the computed step is a step, and leads to a sound state
    step_of : (reply : Reply P) (new : State P) → reply ≡ (next meld old asked).reply → new ≡ (next meld old asked).state → IsStep meld old (traits_of asked).by asked reply new
    step_of reply new reply_is new_is =
        let step = next_is_step meld old sound may.in_range.ranks may.in_range.some_comms asked in
        subst (λ p. IsStep meld old (traits_of asked).by asked p new) (sym reply_is) (subst (IsStep meld old (traits_of asked).by asked (next meld old asked).reply) (sym new_is) step)

    -- by the result of a call
    pub takes_step : (new : State P) (result : Result (Reply P) AllocError) → IfOk result (λ reply. (reply ≡ (next meld old asked).reply) × (new ≡ (next meld old asked).state))
        → IfOk result (TakesStep meld old asked new)
    takes_step new (Ok reply) is = record {
      step = step_of reply new is.0 is.1;
      only = λ other next step. (let one = step_is_next meld old sound asked other next step in (one.0 ∙ sym is.0, one.1 ∙ sym is.1));
    }
    takes_step new (Err e) is = tt

    pub stays_sound : (new : State P) (result : Result (Reply P) AllocError) → IfOk result (λ reply. (reply ≡ (next meld old asked).reply) × (new ≡ (next meld old asked).state)) → OnErr result (new ≡ old) → IsSound meld new
    stays_sound new (Ok reply) is kept = step_sound meld old (traits_of asked).by asked reply new sound (step_of reply new is.0 is.1)
    stays_sound new (Err e) is kept = subst (IsSound meld) (sym kept) sound

    -- what a call of a rank answered, by the next step of the whole state
    pub is_next : (new : State P) (result : Result (Reply P) AllocError) → ((x : ℕ) → asked ≡ call.Fail x → ⊥) → IfOk result (λ reply. (reply ≡ out.reply) × (new ≡ out.state)) → IfOk result (λ reply. (reply ≡ (next meld old asked).reply) × (new ≡ (next meld old asked).state))
    is_next new result of_rank is = subst (λ (n : Next P). IfOk result (λ reply. (reply ≡ n.reply) × (new ≡ n.state))) (next_of_call meld old asked of_rank) is
