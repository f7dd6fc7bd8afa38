-- The end of a look's loads, however its call goes on.
use Rattle.std.proofs.Common.{◌≡◌, ◌∙◌, ◌+◌, ◌-◌, ◌≤◌, ◌<◌, ℕ, Bool, true, false, [], length, IsTrue, IsFalse, arith, ap, ap₂, subst, sym}
use Rattle.ulfm_model.specs.declared.{call.Call.{Call}, refusal.Refusal.TheVariants.{SelfFailed}, reply.Reply.TheVariants.{Refused}, limits.Limits.{Limits}}
use Rattle.ulfm_model.specs.{History.{IsLegal, failures, has}, Records.{Record}, Runs.{Did}}
use Rattle.ulfm_model.proofs.Marking.{failures_few}
use Rattle.ulfm_words.specs.Steps.{Goes, Over, Sight, View, view_at}
use Rattle.ulfm_words.proofs.Trails.{did_prefix, did_wait}
use Rattle.ulfm_steps.specs.Looks.{LookTakes, looks_left}
use Rattle.ulfm_comm.specs.{AlsoLeft.{AlsoFollows, AlsoLooks, also_left}, Known.{KnowsNext}, Look.{JustLooked}, Phase.{IsFurther, Stands, Turns, under_way}, Prepared.{Prepared}}
use Rattle.ulfm_comm.specs.{Local.{local, stance}, Step.{LooksOn, TakesTurn, Walks, coming}, StepsLeft.{FewerLeft, Spends, steps_left, with_look}}
use Rattle.ulfm_comm.specs.declared.phases.phase.{Next.{Next}, Next.TheVariants.{Ends}, Phase.TheVariants.{Looking}}
use Rattle.ulfm_comm.proofs.{AlsoLeft.{also_looks_over}, AmongOthers.{did_loosely}, StepsLeft.{looks_over}, Wings.{turn_same}}

-- they have found all failures, and of the record only what was seen is new; the last load has found none, or was saved
pub record LoadsEnd {P : Type 0} (limits : Limits) (own new : Record) (now after : Sight P) : Type 0 where
  pub kept : new ≡ record own { seen = new.seen }
  pub more : length own.seen < limits.ranks
  pub all : new.seen ≡ failures after.seen
  pub within : length new.seen ≤ limits.ranks
  pub turns : after.steps + (limits.ranks - length new.seen - 1) ≤ now.steps + (limits.ranks - length own.seen)

-- so the loads of a look say that has come to its end
pub loads_end : {P : Type 0} {own new : Record} {now after : Sight P} {whole done : Bool} (meld : P → P → P) (limits : Limits) → done ≡ true → new ≡ record own { seen = new.seen }
    → length own.seen < limits.ranks → IsLegal meld limits after.seen → new.seen ≡ failures after.seen
    → LookTakes whole limits own.seen done new.seen now after → LoadsEnd limits own new now after
loads_end {own = own} {new = new} {now = now} {after = after} meld limits done kept more legal all takes =
    let few = failures_few meld limits after.seen legal in
    record {
      kept = kept;
      more = more;
      all = all;
      within = omega (arith, few, ap length all);
      turns = subst (λ b. after.steps + looks_left limits b new.seen ≤ now.steps + looks_left limits false own.seen) done takes.turns;
    }

module _ {P : Type 0} {limits : Limits} {own new : Record} {now after : Sight P} (end : LoadsEnd limits own new now after) where
  -- the loads that were saved are left for what comes next
  pub ends_look : (asked : Call P) (left : Record) (next : Next P) → FewerLeft (with_look limits new asked) limits left asked next
      → Spends (steps_left limits own asked Looking) limits left asked next now after
  ends_look asked = looks_over limits own new asked end.kept now after end.turns

  -- also beside the failures that were found
  pub ends_also : (asked : Call P) (left : Record) (next : Next P) → AlsoFollows limits asked new next left
      → AlsoLooks (also_left limits own asked Looking) limits asked (stance own now) next (stance left after)
  ends_also asked = also_looks_over limits own new new.seen asked end.kept now after end.more end.within end.turns

  pub ends_loads : (left : Record) → left.seen ≡ new.seen → (next : Next P) → (IsTrue (has left.seen own.number) → next ≡ Ends (Refused SelfFailed))
      → LooksOn limits own now next left after
  ends_loads left same next declared =
      let within = end.within in
      let turns = end.turns in
      record {
        few = omega (arith, turns);
        found = λ more. omega (arith, turns, within, ap length same, more);
        sees = λ past. same ∙ end.all;
        ends = λ past. declared;
      }

-- a call that was in its look has just looked, where its rank isn't among what was found
pub has_looked : {P : Type 0} {meld : P → P → P} {name : Over P} {limits : Limits} {alone quiet : Bool} {asked : Call P} {old own new : Record} {before now after : Sight P}
    {prepared : Prepared} → LoadsEnd limits own new now after → (IsTrue alone → IsTrue quiet) → Did quiet [] now.seen after.seen
    → now.steps ≤ after.steps → IsFalse (has new.seen new.number)
    → Stands meld alone (local old (view_at name before)) (under_way asked Looking prepared) (local own (view_at name now))
    → JustLooked meld alone asked (local old (view_at name before)) (local new (view_at name after))
has_looked {alone = alone} {quiet = quiet} {old = old} {own = own} {new = new} {before = before} {now = now} {after = after} end only did onward undeclared u =
    let kept = end.kept in
    let all = end.all in
    let number = ap (λ (w : Record). w.number) kept ∙ ap (λ (w : Record). w.number) u.at.1 in
    let is : new ≡ record old { seen = new.seen } = kept ∙ ap (λ (w : Record). record w { seen = new.seen }) u.at.1 in
    record {
      fits = u.fits;
      mine = u.mine;
      onward = omega (arith, u.onward, onward);
      looked = record {
        in_use = u.at.0;
        did = did_wait alone [] before.seen now.seen after.seen u.at.2 (did_loosely alone quiet only [] now.seen after.seen did);
        not_declared = ap₂ has (sym all) (sym number) ∙ undeclared;
        record_is = is ∙ ap (λ s. record old { seen = s }) all;
      };
    }

-- loads of a list are steps of the rank without an event
pub walked : {P : Type 0} {meld : P → P → P} {quiet : Bool} {most rank : ℕ} {old new : View P} → Goes meld quiet false most old new → Walks meld quiet rank old new
walked goes = record { of = goes.of; own = []; did = goes.did; onward = goes.onward; cached = goes.cached }

-- the turn of a whole look that has come to its end, where this comes next
pub look_turns : {P : Type 0} {meld : P → P → P} {name : Over P} {quiet : Bool} {most : ℕ} {own new : Record} {now after : Sight P}
    → Goes meld quiet false most (view_at name now) (view_at name after) → LoadsEnd name.limits own new now after
    → (asked : Call P) (prepared : Prepared) (left : Record) (next : Next P)
    → FewerLeft (with_look name.limits new asked) name.limits left asked next → AlsoFollows name.limits asked new next left → left.seen ≡ new.seen
    → (IsTrue (has left.seen own.number) → next ≡ Ends (Refused SelfFailed)) → IsFurther Looking next → KnowsNext own asked after.cached next
    → Turns meld quiet (under_way asked Looking prepared) (local own (view_at name now)) next prepared (local left (view_at name after))
    → TakesTurn meld quiet true (under_way asked Looking prepared) (local own (view_at name now)) (coming next prepared) (local left (view_at name after))
look_turns {quiet = quiet} goes end asked prepared left next nearer also same declared further knows turns =
    record {
      walks = walked goes;
      beside = turn_same _ _ _ _ _ (λ w. w) (did_prefix quiet _ _ _ goes.did) goes.caches;
      named = λ single. absurd (cc single);
      nearer = λ single. absurd (cc single);
      spends = ends_look end asked left next nearer;
      also = ends_also end asked left next also;
      further = λ whole. further;
      adds = λ single. absurd (cc single);
      sees = tt;
      looks = λ here. ends_loads end left same next declared;
      knows = λ known. knows;
      leads = tt;
      turns = turns;
    }
