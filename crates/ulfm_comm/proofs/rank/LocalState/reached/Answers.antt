use Rattle.std.proofs.Common.{◌≡◌, ◌<◌, ◌≤◌, ◌-◌, ℕ, Bool, true, false, Some, if◌then◌else◌, min, take, sym, ap, ap₂, ◌∙◌, subst, arith}
use Rattle.std.proofs.Math.Nat.{min-le_left, min-le_right}
use Rattle.ulfm_words.specs.Steps.{over}
use Rattle.std.specs.Prelude.{IfOk, Result, Ok, Err}
use Rattle.std.specs.Result.{is_err}
use Rattle.ulfm_model.specs.Answers.{closed}
use Rattle.ulfm_model.specs.History.{has, without}
use Rattle.ulfm_model.specs.Records.{Held, held_at}
use Rattle.ulfm_model.specs.declared.event.Caller.TheVariants.{Rank as ByRank}
use Rattle.ulfm_steps.specs.Appends.{Passed, room}
use Rattle.ulfm_steps.specs.declared.append.Append.{Append}
use Rattle.ulfm_steps.specs.declared.item.Item.{Item}
use Rattle.ulfm_steps.specs.declared.item.Item.TheVariants.{Comm as OfComm}
use Rattle.ulfm_model.specs.declared.limits.Limits.{Limits}
use Rattle.ulfm_model.specs.Terms.{comm_of}
use Rattle.ulfm_comm.proofs.Agreement.{polls_stand}
use Rattle.ulfm_comm.proofs.Spawning.{ends_full, ends_out, ends_self_failed, full_alone, held_is, number_is, passes_parent}
use Rattle.ulfm_comm.specs.Prepared.{HasPlaces}
use Rattle.ulfm_comm.proofs.rank.LocalState.reached.Goals as goal
use Rattle.ulfm_comm.proofs.rank.LocalState.reached.Goals.{After-has_rank, After-is_err}

-- the place from which the list is read: behind no child of the parent, and in the list
first_place : (whole : Bool) (parent comms n : ℕ) → n ≡ (if whole then min parent (comms - 2) else 0) → (n ≤ parent) × (1 < comms → n < comms - 1)
first_place true parent comms n is = (omega (arith, is, min-le_left parent (comms - 2)), λ several. omega (arith, is, min-le_right parent (comms - 2), several))
first_place false parent comms n is = (omega (arith, is), λ several. omega (arith, is, several))

-- whether the rank is among the failures that reach so far
among : (g : _) (c : After-has_rank g) → c.has_rank.result ≡ has (take c.args.reach c.args.self.now.seen) c.args.self.now.number
among g c = c.has_rank.ensures ∙ ap₂ (λ s n. has (take c.args.reach s) n) c.failures.ensures c.number-number.ensures

-- what holds of a result that isn't an error
ok_of : {T E : Type 0} (result : Result T E) (Q : Type 0) → IfOk result (λ _. Q) → is_err result ≡ false → Q
ok_of (Ok x) Q q right = q
ok_of (Err e) Q q right = absurd (cc right)

pub returns-then-has_rank-clause-turns : goal.returns-then-has_rank-clause-turns
returns-then-has_rank-clause-turns g c = λ alone old before r.
    ends_self_failed g.P.Meld.meld alone (over g.P.Packed.pack (g.W.Words.name c.args.words.now)) c.args.asked.now c.args.made.round c.args.made.mask r.x c.args.made.count
    c.args.reach old before c.args.self.now (g.W.Words.sight c.args.pass.now)
    c.requires.of r.on.onward r.on.fits r.on.polls r.decided r.reads c.refuse.new.self
    (sym (among g (goal.at.returns-then-has_rank-clause-turns g c).After-has_rank) ∙ c.if-has_rank.true) c.refuse.ensures

pub returns-then-is_err-clause-turns : goal.returns-then-is_err-clause-turns
returns-then-is_err-clause-turns g c = λ alone old before r.
    let now = g.W.Words.sight c.args.pass.now in
    let name = over g.P.Packed.pack (g.W.Words.name c.args.words.now) in
    ends_out g.P.Meld.meld alone name c.args.asked.now c.args.made.round c.args.made.mask r.x c.args.made.count c.args.reach old before c.args.self.now now
    c.requires.of r.on.onward r.on.fits r.on.polls r.decided r.reads
    (sym (among g (goal.at.returns-then-is_err-clause-turns g c).After-has_rank) ∙ c.if-has_rank.false)

pub returns-then-limits-eq1-clause-turns : goal.returns-then-limits-eq1-clause-turns
returns-then-limits-eq1-clause-turns g c = λ alone old before r.
    let now = g.W.Words.sight c.args.pass.now in
    let name = over g.P.Packed.pack (g.W.Words.name c.args.words.now) in
    let one : name.limits.comms ≡ 1 = ap (λ (l : Limits). l.comms) (sym c.limits.ensures.limits) ∙ c.if-limits-eq1.true in
    let there = among g (goal.at.returns-then-limits-eq1-clause-turns g c).After-has_rank in
    ends_full g.P.Meld.meld alone name c.args.asked.now c.args.made.round c.args.made.mask r.x c.args.made.count c.args.reach old before c.args.self.now now
    c.requires.of r.on.onward r.on.fits r.on.polls r.decided r.reads alone (λ same. same) c.close.new.self now
    (full_alone g.P.Meld.meld alone name (comm_of c.args.asked.now) c.args.made.round now c.requires.of one) (sym there ∙ c.if-has_rank.false)
    (c.close.ensures ∙ ap (closed c.args.self.now) c.comm_of-comm.ensures)

-- what was prepared, where the memory was there
prepares : (g : _) (c : After-is_err g) → c.is_err.result ≡ false
    → ((x : Held) → held_at c.args.self.now (comm_of c.args.asked.now) ≡ Some x
    → c.make_room.new.prepared.members ≡ without x.group (take c.args.reach c.args.self.now.seen))
    × HasPlaces c.args.self.now.held c.make_room.new.prepared.places
prepares g c right =
    let ok = sym c.is_err.ensures.value ∙ right in (
      λ x held. ok_of c.make_room.result _ c.make_room.ensures.members ok x (ap (held_at c.args.self.now) c.comm_of-comm.ensures ∙ held),
      ok_of c.make_room.result _ c.make_room.ensures.places ok,
    )

pub returns-then-limits-eq1-clause-memory : goal.returns-then-limits-eq1-clause-memory
returns-then-limits-eq1-clause-memory g c = λ is x held.
    let there = prepares g (goal.at.returns-then-limits-eq1-clause-memory g c).After-is_err c.if-is_err.false in (there.0 x held, there.1)

pub returns-clause-turns : goal.returns-clause-turns
returns-clause-turns g c = λ alone old before r.
    let now = g.W.Words.sight c.args.pass.now in
    let name = over g.P.Packed.pack (g.W.Words.name c.args.words.now) in
    let there = among g (goal.at.returns-clause-turns g c).After-has_rank in
    let held = held_is g.P.Meld.meld name.limits alone (comm_of c.args.asked.now) c.args.made.round c.args.made.mask r.x c.args.made.count old before.seen
    c.args.self.now now.seen r.decided in
    let number = number_is g.P.Meld.meld name.limits alone (comm_of c.args.asked.now) c.args.made.round c.args.made.mask r.x c.args.made.count old before.seen
    c.args.self.now now.seen r.decided in
    let item : c.new-append.result.item ≡ OfComm (comm_of c.args.asked.now) c.args.made.round = ap (λ (a : Append). a.item) c.new-append.ensures
    ∙ ap (λ n. OfComm n c.args.made.round) c.comm_of-comm.ensures in
    let index = c.first_place-index.result in
    let first = first_place c.args.whole (comm_of c.args.asked.now) name.limits.comms index
    (c.first_place-index.ensures ∙ ap₂ (λ parent comms. if c.args.whole then min parent (comms - 2) else 0) c.comm_of-comm.ensures
    (ap (λ (l : Limits). l.comms) c.limits-2.ensures.limits)) in
    let some = c.requires.of.may_open.in_range.some_comms in
    let limits = ap (λ (l : Limits). l.comms) c.limits.ensures.limits in
    let several = c.if-limits-eq1.false in
    let prepared = prepares g (goal.at.returns-clause-turns g c).After-is_err c.if-is_err.false in
    polls_stand r.on.fits r.on.polls r.on.onward (
      r.on.polls,
      record {
        x = r.x;
        round = c.args.made.round;
        mask = c.args.made.mask;
        count = c.args.made.count;
        decided = r.decided;
        lowest = c.lowest_id.ensures;
        reads = r.reads;
        stays = sym there ∙ c.if-has_rank.false;
        left = prepared.0 r.x held;
        item = item;
        mine = ap (λ (a : Append). a.by) c.new-append.ensures ∙ ap ByRank (c.number-number.ensures ∙ number);
        passed = subst (λ (i : Item). Passed now.seen i index) (sym item) (passes_parent g.P.Meld.meld name.limits alone (comm_of c.args.asked.now)
            c.args.made.round c.args.made.mask r.x c.args.made.count old before.seen c.args.self.now now.seen r.decided c.requires.of.legal index first.0);
        more = subst (λ (i : Item). index < room i name.limits) (sym item) (first.1 (omega (arith, some, limits, several)));
      },
      prepared.1,
    )
