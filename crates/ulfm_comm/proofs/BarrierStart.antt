-- The start of a barrier.
use Rattle.std.proofs.Common.{◌≡◌, ℕ, ◌≤◌, ◌<◌, Bool, true, false, [], ◌∷◌, Some, None, refl, ap, ap₂, sym, ◌∙◌, subst, inl, inr, IsTrue, MatchBool}
use mathlib.Core.List.{IsPrefix}
use Rattle.ulfm_model.specs.declared.call.Call.TheVariants as call
use Rattle.ulfm_model.specs.declared.{call.Request.TheVariants.{Barrier}, event.Caller.TheVariants.{Rank}, event.Event.TheVariants.{Arrive}}
use Rattle.ulfm_model.specs.declared.{limits.Limits.{Limits}, refusal.Refusal.TheVariants.{Twice}, reply.Reply.TheVariants.{Refused, Started}}
use Rattle.ulfm_model.specs.{Answers.{first_refusal, opened}, History.{History, IsLegal, IsPlace, has, has_arrived}}
use Rattle.ulfm_model.specs.{Records.{Fits, Held, Record, held_at, with_held}, Runs.{Did}, Words.{MayOpen}}
use Rattle.ulfm_model.proofs.{Stable.{arrive_stays}}
use Rattle.ulfm_model.specs.Terms.{tests_of}
use Rattle.ulfm_words.specs.{Places.{IsCell}, Steps.{IsAdded, IsView, Over, Sight}, Tries.{MayArrive}}
use Rattle.ulfm_words.proofs.{Growing.{arrival_stays}, Ranks.{place_within}, Trails.{did_added}}
use Rattle.ulfm_words.specs.Steps.{view_at}
use Rattle.ulfm_comm.specs.{Calls.{Linearizes}, Look.{Looked}}
use Rattle.ulfm_comm.proofs.{CallRuns.{calls_is}, Helds.{change_alike}, Holding.{comm_is, exists_is, group_is, holds}, WholeCall.{held_before, replied}}
use Rattle.ulfm_comm.proofs.Refusals.{by_tests}
use Rattle.ulfm_comm.specs.Local.{local}

-- who hasn't arrived hadn't before
absent_before : {P : Type 0} (h longer : History P) (c k r : ℕ) → IsPrefix h longer → has_arrived longer c k r ≡ false → has_arrived h c k r ≡ false
absent_before h longer c k r begins absent = go (has_arrived h c k r) refl
  where
    go : (b : Bool) → has_arrived h c k r ≡ b → b ≡ false
    go false is = refl
    go true is = let there = arrival_stays h longer c k r begins is in absurd (cc (there, absent))

-- an exchange that was won, and one that was lost
pub when_won : (X Y : Type 0) (won : Bool) → won ≡ true → MatchBool won X Y → X
when_won X Y true is outcome = outcome
when_won X Y false is outcome = absurd (cc is)

pub when_lost : (X Y : Type 0) (won : Bool) → won ≡ false → MatchBool won X Y → Y
when_lost X Y true is outcome = absurd (cc is)
when_lost X Y false is outcome = outcome

-- what the exchange asks for
module _ {P : Type 0} (meld : P → P → P) (limits : Limits) (look : History P) (own : Record) (c : ℕ) (x : Held) (fits : Fits meld limits look own)
    (held : held_at own c ≡ Some x) (room : x.next_barrier < limits.rounds) where
  barrier_place : IsPlace limits look c x.next_barrier own.number
  barrier_place =
      record {
        exists = exists_is meld limits look own c x fits held;
        member = ap (λ group. has group own.number) (sym (group_is meld limits look own c x fits held)) ∙ (holds meld limits look own c x fits held).member;
        in_rounds = room;
      }

  -- the rank's own place is one of the world's
  pub barrier_within : IsLegal meld limits look → MayOpen limits → IsCell limits c x.next_barrier own.number
  barrier_within legal may = place_within meld limits look c x.next_barrier own.number legal may barrier_place

  -- and the rank may arrive there while it hasn't
  pub barrier_may_come : MayArrive meld limits look c x.next_barrier own.number
  barrier_may_come more begins legal absent = arrive_stays meld limits look more c x.next_barrier own.number begins legal
      (barrier_place, absent_before look more c x.next_barrier own.number begins absent) absent

module _ {P : Type 0} (meld : P → P → P) (alone : Bool) (name : Over P) (before look after : Sight P) (onward : before.steps ≤ after.steps) (rank c : ℕ)
    (old mid : Record) (fits : Fits meld name.limits before.seen old)
    (looked : Looked alone before.seen look.seen old mid) (now : Fits meld name.limits look.seen mid) (x : Held) (held : held_at mid c ≡ Some x)
    (passed : first_refusal (tests_of {P = P} old x (call.Barrier rank c)) ≡ None)
    (of : IsView meld (view_at name after)) (stands : IsTrue (has_arrived after.seen c x.next_barrier mid.number)) where
  mine : mid.number ≡ old.number
  mine = ap (λ (w : Record). w.number) looked.record_is

  at : x.comm ≡ c
  at = comm_is meld name.limits look.seen mid c x now held

  arrived : IsTrue (has_arrived after.seen x.comm x.next_barrier old.number)
  arrived = ap₂ (λ w n. has_arrived after.seen w x.next_barrier n) at (sym mine) ∙ stands

  -- the rank has arrived by this call
  pub calls_entered : (new : Record) → IsAdded alone (record {
    by = Rank mid.number;
    event = Arrive c x.next_barrier mid.number;
  }) look.seen after.seen → new ≡ with_held mid c (λ y. opened y (Some (Barrier x.next_barrier)))
      → Linearizes meld alone (call.Barrier rank c) (local old (view_at name before)) Started (local new (view_at name after))
  calls_entered new added is =
      calls_is meld alone name before after onward (call.Barrier rank c) old Started new of fits (λ is no. absurd (cc (is, no)))
      (replied meld name.limits alone before.seen look.seen old mid looked after.seen (Arrive x.comm x.next_barrier old.number ∷ [])
      (call.Barrier rank c) Started new x
      (did_added alone (record { by = Rank old.number; event = Arrive x.comm x.next_barrier old.number }) look.seen after.seen
      (subst (λ w. IsAdded alone (record { by = Rank old.number; event = Arrive w x.next_barrier old.number }) look.seen after.seen) (sym at)
      (subst (λ n. IsAdded alone (record { by = Rank n; event = Arrive c x.next_barrier n }) look.seen after.seen) mine added))) of.legal
      (held_before meld name.limits alone before.seen look.seen old mid looked c (Some x) held)
      (by_tests meld alone name before look (call.Barrier rank c) old mid fits looked x held None passed) (refl, tt)
      (arrived, inl (refl, refl))
      (is ∙ ap (λ hs. record mid { held = hs }) (change_alike mid.held c x (λ y. opened y (Some (Barrier x.next_barrier)))
      (λ y. opened y (Some (Barrier y.next_barrier))) held refl))
      (λ here polls. absurd (cc polls)))

  -- or before
  pub calls_entered_before : Did alone [] look.seen after.seen → Linearizes meld alone (call.Barrier rank c) (local old (view_at name before)) (Refused Twice) (local mid (view_at name after))
  calls_entered_before did =
      calls_is meld alone name before after onward (call.Barrier rank c) old (Refused Twice) mid of fits (λ is no. absurd (cc (is, no)))
      (replied meld name.limits alone before.seen look.seen old mid looked after.seen [] (call.Barrier rank c) (Refused Twice) mid x did of.legal
      (held_before meld name.limits alone before.seen look.seen old mid looked c (Some x) held)
      (by_tests meld alone name before look (call.Barrier rank c) old mid fits looked x held None passed) tt
      (arrived, inr (refl, refl)) refl (λ here polls. absurd (cc polls)))
