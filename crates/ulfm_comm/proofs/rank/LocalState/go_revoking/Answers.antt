use Rattle.std.proofs.Common.{rules, ◌≡◌, arith, Bool, [], IsTrue, MatchBool, ap, refl, subst, sym, ◌∙◌}
use Rattle.ulfm_words.proofs.Trails.{did_prefix}
use Rattle.ulfm_comm.proofs.Wings.{turn_same}
use Rattle.std.proofs.lemmas.Bool.{false≢true}
use Rattle.ulfm_model.specs.declared.{event.Caller.TheVariants.{Rank}, event.Event.TheVariants.{Revoke}, reply.Reply.{Reply}}
use Rattle.ulfm_model.specs.declared.reply.Reply.TheVariants.{AlreadyRevoked, Revoked}
use Rattle.ulfm_model.specs.{History.{is_revoked}, Runs.{Did}, Terms.{comm_of}}
use Rattle.ulfm_model.specs.Records.{moment}
use Rattle.ulfm_words.specs.Steps.{view_of, IsAdded, view_at, over}
use Rattle.ulfm_comm.specs.{Revokes.{revoked}, Phase.{Answered, Turns}, Look.{HasLooked}, Step.{TakesTurn, Walks}}
use Rattle.ulfm_comm.specs.declared.{phases.phase.Next.TheVariants.{Ends}, phases.phase.Phase.TheVariants.{Revoking}}
use Rattle.ulfm_comm.proofs.{AlsoLeft.{also_ends}, Exchange.{asked_below, asked_may_end, revoke_answered, walks_tried}, Known.{revoked_of_none}}
use Rattle.ulfm_comm.proofs.StepAdds.{adds_revoked}
use Rattle.ulfm_comm.proofs.rank.LocalState.go_revoking.Goals as goal
use Rattle.ulfm_comm.proofs.rank.LocalState.go_revoking.Goals.{After-set_revocation}
use Rattle.ulfm_comm.specs.Local.{frame, local}
use Rattle.ulfm_comm.specs.Phase.{under_way}
use Rattle.ulfm_comm.specs.Step.{coming}
use Rattle.ulfm_model.specs.declared.event.Event.{Event}
use Rattle.ulfm_comm.proofs.Wins.{Comes, tried_comes}
use Rattle.ulfm_comm.specs.Prepared.{Prepared}

pub set_revocation-requires-clause-within : goal.set_revocation-requires-clause-within
set_revocation-requires-clause-within g c = rw c.comm_of.ensures (asked_below _ _ _ _ _ _ _ _ c.requires.stands.1.2.at.0 c.requires.of.legal
    c.requires.of.may_open)

pub set_revocation-requires-clause-may : goal.set_revocation-requires-clause-may
set_revocation-requires-clause-may g c = rw c.comm_of.ensures (asked_may_end _ _ _ _ _ _ _ _ c.requires.stands.1.2.at.0 c.requires.of.legal)

-- what the exchange did
outcome : (g : _) (c : After-set_revocation g)
    → MatchBool c.set_revocation.result (IsAdded g.W.Words.alone (record {
      by = Rank c.args.self.now.number;
      event = Revoke (comm_of c.args.asked.now);
    }) (g.W.Words.sight c.args.pass.now).seen (g.W.Words.sight c.set_revocation.new.pass).seen)
    (Did g.W.Words.alone [] (g.W.Words.sight c.args.pass.now).seen (g.W.Words.sight c.set_revocation.new.pass).seen)
outcome g c = rw (← c.number.ensures, ← c.comm_of.ensures) c.set_revocation.ensures.tries.outcome

walks : (g : _) (c : After-set_revocation g) → Walks g.P.Meld.meld g.W.Words.alone c.args.self.now.number (view_of g.P.Packed.pack (g.W.Words.name c.args.words.now) (g.W.Words.sight c.args.pass.now)) (view_of g.P.Packed.pack (g.W.Words.name c.args.words.now) (g.W.Words.sight c.set_revocation.new.pass))
walks g c =
    walks_tried g.P.Meld.meld g.W.Words.alone (over g.P.Packed.pack (g.W.Words.name c.args.words.now)) c.args.self.now.number (g.W.Words.sight c.args.pass.now)
    (g.W.Words.sight c.set_revocation.new.pass)
    c.set_revocation.ensures.tries.of c.set_revocation.ensures.tries.steps c.set_revocation.ensures.tries.cached c.set_revocation.result
    (Revoke (comm_of c.args.asked.now)) (outcome g c)

-- the revocation is answered by whether this call made it
answered : (g : _) (c : After-set_revocation g) (prepared : Prepared)
    → Turns g.P.Meld.meld g.W.Words.alone (under_way c.args.asked.now Revoking prepared) (local c.args.self.now (view_of g.P.Packed.pack (g.W.Words.name c.args.words.now) (g.W.Words.sight c.args.pass.now))) (Ends (revoked c.set_revocation.result)) prepared (local c.args.self.now (view_of g.P.Packed.pack (g.W.Words.name c.args.words.now) (g.W.Words.sight c.set_revocation.new.pass)))
answered g c =
    λ prepared alone only old before stands.
    let name = over g.P.Packed.pack (g.W.Words.name c.args.words.now) in
    let own = c.args.self.now in
    let now = g.W.Words.sight c.args.pass.now in
    let after = g.W.Words.sight c.set_revocation.new.pass in
    let there : IsTrue (is_revoked after.seen (comm_of c.args.asked.now)) = rw (← c.comm_of.ensures) c.set_revocation.ensures.stands in
    subst (λ asked. HasLooked (frame g.P.Meld.meld name.limits alone) asked (moment old before.seen) (moment own now.seen)
    → Answered g.P.Meld.meld alone asked (local old (view_at name before)) (revoked c.set_revocation.result) (local own (view_at name after))) (sym stands.at.1)
    (λ p. revoke_answered g.P.Meld.meld alone g.W.Words.alone only name (comm_of c.args.asked.now) old before own now after
    (omega (arith, stands.onward, c.set_revocation.ensures.tries.steps)) stands.fits c.set_revocation.ensures.tries.of p c.set_revocation.result
    (outcome g c) there)
    stands.at.0

-- the exchange ends the call, with this reply
ends : (g : _) (c : After-set_revocation g) (reply : Reply g.row.P.Denot) → revoked c.set_revocation.result ≡ reply → (prepared : Prepared) (whole : Bool)
    → TakesTurn g.P.Meld.meld g.W.Words.alone whole (under_way c.args.asked.now Revoking prepared) (local c.args.self.now (view_of g.P.Packed.pack (g.W.Words.name c.args.words.now) (g.W.Words.sight c.args.pass.now))) (coming (Ends reply) prepared) (local c.args.self.now (view_of g.P.Packed.pack (g.W.Words.name c.args.words.now) (g.W.Words.sight c.set_revocation.new.pass)))
ends g c reply is = λ prepared whole.
    let name = over g.P.Packed.pack (g.W.Words.name c.args.words.now) in
    let own = c.args.self.now in
    let now = g.W.Words.sight c.args.pass.now in
    let after = g.W.Words.sight c.set_revocation.new.pass in
    let s = c.requires.stands.1 in
    subst (λ r. TakesTurn g.P.Meld.meld g.W.Words.alone whole (under_way c.args.asked.now Revoking prepared) (local own (view_at name now)) (coming (Ends r) prepared) (local own (view_at name after))) is (record {
      walks = walks g c;
      beside = turn_same _ _ _ _ _ (λ w. w) (did_prefix g.W.Words.alone _ _ _ (walks g c).did) c.set_revocation.ensures.tries.caches;
      named = search rules;
      nearer = λ not. tt;
      spends = omega (arith, c.set_revocation.ensures.tries.steps);
      also = λ all. also_ends 1 name.limits c.args.asked.now own own now after _ (omega (arith, c.set_revocation.ensures.tries.steps)) refl;
      further = λ all. tt;
      adds = λ not. adds_revoked g.P.Meld.meld g.W.Words.alone name.limits c.args.asked.now s.0 s.1.seen own now.seen after.seen c.requires.of.legal s.2.at.0
          s.0.number s.2.at.1 c.set_revocation.result (outcome g c);
      sees = refl;
      looks = λ at. absurd (cc at);
      knows = λ known of. absurd (false≢true (sym (revoked_of_none g.row.P.Denot c.set_revocation.result) ∙ of));
      leads = tt;
      turns = answered g c prepared;
    })

pub returns-then-set_revocation-clause-turn : goal.returns-then-set_revocation-clause-turn
returns-then-set_revocation-clause-turn g c = ends g (goal.at.returns-then-set_revocation-clause-turn g c).After-set_revocation Revoked (ap revoked c.if-set_revocation.true)

pub returns-else-set_revocation-clause-turn : goal.returns-else-set_revocation-clause-turn
returns-else-set_revocation-clause-turn g c = ends g (goal.at.returns-else-set_revocation-clause-turn g c).After-set_revocation AlreadyRevoked (ap revoked c.if-set_revocation.false)

-- the revocation comes where it may
wins : (g : _) (c : After-set_revocation g) → IsTrue g.W.Words.alone → (event : Event g.row.P.Denot) → event ≡ Revoke (comm_of c.args.asked.now)
    → Comes g.P.Meld.meld (g.W.Words.name c.args.words.now).limits (Rank c.args.self.now.number) event (g.W.Words.sight c.args.pass.now).seen
    (g.W.Words.sight c.set_revocation.new.pass).seen
wins g c here event is =
    let limits = (g.W.Words.name c.args.words.now).limits in
    let now = (g.W.Words.sight c.args.pass.now).seen in
    let after = (g.W.Words.sight c.set_revocation.new.pass).seen in
    let by = Rank c.args.self.now.number in
    let there : IsTrue (is_revoked after (comm_of c.args.asked.now)) = rw (← c.comm_of.ensures) c.set_revocation.ensures.stands in
    subst (λ e. Comes g.P.Meld.meld limits by e now after) (sym is)
    (tried_comes g.P.Meld.meld limits by now after c.set_revocation.ensures.tries.of.legal g.W.Words.alone here (Revoke (comm_of c.args.asked.now))
    c.set_revocation.result (outcome g c)
    (λ same may. let clash = sym there ∙ (ap (λ w. is_revoked w (comm_of c.args.asked.now)) same ∙ may.1) in absurd (cc clash)))

pub returns-then-set_revocation-clause-wins : goal.returns-then-set_revocation-clause-wins
returns-then-set_revocation-clause-wins g c = λ here wings some. wins g (goal.at.returns-then-set_revocation-clause-wins g c).After-set_revocation here

pub returns-else-set_revocation-clause-wins : goal.returns-else-set_revocation-clause-wins
returns-else-set_revocation-clause-wins g c = λ here wings some. wins g (goal.at.returns-else-set_revocation-clause-wins g c).After-set_revocation here
