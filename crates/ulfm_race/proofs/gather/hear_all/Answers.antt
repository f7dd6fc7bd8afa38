use Rattle.std.proofs.Common.{◌≡◌, ◌+◌, ◌<◌, [], ap, sym, ◌∙◌, subst, length, append-nil, below_more, map, IfSome, arith, refl}
use Rattle.ulfm_laws.specs.Flags.{flag_meld}
use Rattle.ulfm_model.specs.History.{IsLegal}
use Rattle.ulfm_model.proofs.Lists.{prefix_trans}
use Rattle.ulfm_race.specs.Races.{AreAnswered, IsDeclared, IsEnded, IsHeard, IsStarted, Numbered, StartIs, WasLet, limits_of}
use Rattle.ulfm_race.proofs.Gathering.{ended_stays, faults_go_on, few_more, gathered_by, gathered_none, gathered_stays, heard_if, heard_ok, lets_go_on, ok_parts, plan_stays, starts_later}
use Rattle.ulfm_race.proofs.gather.hear_all.Goals as goal

pub loop-one-init : goal.loop-one-init
loop-one-init g c =
    let items = c.into_iter-one-iterator.ensures.into_iter_gives.0 in
    let nothing = c.requires.nothing in
    let all = c.requires.all in (
      refl,
      refl,
      refl,
      refl,
      c.requires.of,
      ([], append-nil c.args.outside.now.seen),
      c.requires.room,
      λ fault met. absurd (cc (nothing.2, met)),
      (
        0,
        omega (arith, ap length items, all),
        omega (arith, ap length nothing.0, c.args.gathered.replies.ok.0),
        λ none. (subst (Numbered (λ i v. WasLet (g.G.Gate.may_say c.args.gate.now i) v.items) 0) (sym nothing.0) tt, ap length nothing.0),
        subst (Numbered (λ i one. StartIs (λ h. IsStarted c.args.world.now c.args.said.now c.args.gate.now c.args.gathered.plan i h.promise) c.args.outside.now.seen i one) 0) (sym items) c.requires.started,
        gathered_none _ c.args.gathered.plan c.args.outside.now.seen c.args.gathered.replies.items c.args.gathered.group.items c.args.gathered.fault nothing.0 nothing.1,
        λ i below. absurd (omega (arith, below)),
      ),
      refl,
      refl,
    )

pub hear-heard-requires-clause-one : goal.hear-heard-requires-clause-one
hear-heard-requires-clause-one g c =
    let mine = c.loop-one.invariant.8 in
    let starts = subst (Numbered (λ i one. StartIs (λ h. IsStarted c.args.world.now c.args.said.now c.args.gate.now c.args.gathered.plan i h.promise) c.loop-one.outside.seen i one) mine.0) c.in-Some.ensures.steps.0 mine.4 in
    (mine.0, starts.0)

pub loop-one-preserved : goal.loop-one-preserved
loop-one-preserved g c =
    let plan = c.args.gathered.plan in
    let here = c.loop-one.gathered.plan in
    let inv = c.loop-one.invariant in
    let same = inv.3 in
    let mine = inv.8 in
    let r = mine.0 in
    let was = c.loop-one.outside.seen in
    let seen = c.hear-heard.new.outside.seen in
    let begins = c.hear-heard.ensures.seen in
    let steps = c.in-Some.ensures.steps.0 in
    let starts = subst (Numbered (λ i one. StartIs (λ h. IsStarted c.args.world.now c.args.said.now c.args.gate.now plan i h.promise) was i one) r) steps mine.4 in
    let legal = subst (λ l. IsLegal flag_meld l seen) c.requires.limits c.hear-heard.ensures.of.legal in
    let below : r < plan.ranks = omega (arith, ap length steps, mine.1) in
    let told = c.hear-heard.ensures.heard r starts.0 in
    let before = gathered_stays plan was seen begins legal r _ _ _ mine.5 in
    let parts = ok_parts (λ x. IsHeard plan seen r x.replies.items x.made x.group.items) (λ x. WasLet (g.G.Gate.may_say c.args.gate.now r) x.replies.items) c.hear-heard.result (heard_ok _ _ c.hear-heard.result told) in
    let heard = heard_if plan here seen r r (sym same) refl c.hear-heard.result parts.0 in (
      refl,
      refl,
      refl,
      c.take_in.ensures.plan ∙ same,
      c.hear-heard.ensures.of,
      prefix_trans c.args.outside.now.seen was seen inv.5 begins,
      c.take_in.ensures.room ∙ inv.6,
      faults_go_on plan (g.G.Gate.may_say c.args.gate.now) r _ below c.hear-heard.result c.loop-one.gathered.fault c.take_in.new.self.fault told c.take_in.ensures.goes_on c.take_in.ensures.stops inv.7,
      (
        r + 1,
        omega (arith, ap length steps, mine.1),
        omega (arith, few_more (λ x. x.replies) c.hear-heard.result c.loop-one.gathered.replies.items c.take_in.new.self.replies.items r c.take_in.ensures.items (omega (arith, mine.2, c.loop-one.gathered.replies.ok.0)), c.take_in.new.self.replies.ok.0),
        lets_go_on (λ x. x.replies) (λ i v. WasLet (g.G.Gate.may_say c.args.gate.now i) v.items) r c.hear-heard.result c.loop-one.gathered.fault c.take_in.new.self.fault c.loop-one.gathered.replies.items c.take_in.new.self.replies.items c.take_in.ensures.items c.take_in.ensures.goes_on c.take_in.ensures.stops parts.1 mine.3,
        starts_later plan was seen begins legal (λ i h. IsStarted c.args.world.now c.args.said.now c.args.gate.now plan i h.promise) (r + 1) c.next.new.self.rest.items starts.1,
        gathered_by here plan seen (r + 1) _ _ _ same (c.take_in.ensures.takes seen r heard (gathered_by plan here seen r _ _ _ (sym same) before)),
        below_more (IsEnded plan seen) r (λ i lt. ended_stays plan was seen begins legal i (mine.6 i lt)) (c.hear-heard.ensures.ended r starts.0),
      ),
      c.hear-heard.ensures.still ∙ inv.9,
      refl,
    )

pub returns-in-None-fault-clause-answered : goal.returns-in-None-fault-clause-answered
returns-in-None-fault-clause-answered g c =
    let plan = c.args.gathered.plan in
    let inv = c.loop-one.invariant in
    let mine = inv.8 in
    let seen = c.loop-one.outside.seen in
    let here = (c.told.ensures.all refl).0 in
    let legal = subst (λ l. IsLegal flag_meld l seen) c.requires.limits inv.4.legal in
    let all : mine.0 ≡ plan.ranks = omega (arith, mine.1, c.in-None.ensures.steps.0, c.loop-one.one-iterator.rest.ok.0) in
    let replies = map (λ v. v.items) c.loop-one.gathered.replies.items in
    let group = c.loop-one.gathered.group.items in
    let was = subst (λ n. AreAnswered plan seen n replies group) all (mine.5 c.in-None-fault.is) in
    record {
      legal = subst (IsLegal flag_meld (limits_of plan)) (sym here) legal;
      answered = subst (λ h. AreAnswered plan h plan.ranks replies group) (sym here) was;
      declared = subst (λ h. IfSome plan.fail (IsDeclared h)) (sym here) (plan_stays plan c.args.outside.now.seen seen inv.5 legal plan.fail c.requires.declared);
    }

pub returns-in-None-fault-clause-asked : goal.returns-in-None-fault-clause-asked
returns-in-None-fault-clause-asked g c = (c.loop-one.invariant.8.3 c.in-None-fault.is).0
