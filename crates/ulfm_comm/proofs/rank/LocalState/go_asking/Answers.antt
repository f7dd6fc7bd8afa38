use Rattle.std.proofs.Common.{rules, arith, ap, refl, subst, sym, ◌∙◌}
use Rattle.ulfm_words.proofs.Trails.{did_prefix}
use Rattle.ulfm_model.specs.Records.{moment}
use Rattle.ulfm_model.specs.{declared.reply.Reply.TheVariants.{Standing}, History.{is_revoked}, Terms.{comm_of}}
use Rattle.ulfm_words.specs.Steps.{over, view_at}
use Rattle.ulfm_comm.specs.{Local.{frame, local}, Look.{HasLooked}, Phase.{Answered}}
use Rattle.ulfm_comm.proofs.{AlsoLeft.{also_ends}, Exchange.{asked_answered, asked_below, walks_none}, Turning.{turn_past}, Wings.{turn_same}}
use Rattle.ulfm_comm.proofs.rank.LocalState.go_asking.Goals as goal

pub load_revocation-revoked-requires-clause-within : goal.load_revocation-revoked-requires-clause-within
load_revocation-revoked-requires-clause-within g c = rw c.comm_of.ensures (asked_below _ _ _ _ _ _ _ _ c.requires.stands.1.2.at.0 c.requires.of.legal
    c.requires.of.may_open)

pub returns : goal.returns
returns g c = λ prepared whole.
    let name = over g.P.Packed.pack (g.W.Words.name c.args.words.now) in
    let own = c.args.self.now in
    let now = g.W.Words.sight c.args.pass.now in
    let after = g.W.Words.sight c.load_revocation-revoked.new.pass in
    let loads = c.load_revocation-revoked.ensures.loads in
    turn_past refl (walks_none g.P.Meld.meld g.W.Words.alone name own.number now after loads.of loads.steps loads.cached loads.did)
    (turn_same _ _ _ _ _ (λ w. w) (did_prefix g.W.Words.alone _ _ _ loads.did) loads.caches) (λ not. (search rules, tt)) (omega (arith, loads.steps))
    (λ all. also_ends 1 name.limits c.args.asked.now own own now after _ (omega (arith, loads.steps)) refl) (λ all. tt) loads.did refl
    (λ known of. absurd (cc of)) tt (λ alone only old before stands.
    let found = c.load_revocation-revoked.result in
    let is = c.load_revocation-revoked.ensures.revoked ∙ ap (is_revoked after.seen) c.comm_of.ensures in
    subst (λ asked. HasLooked (frame g.P.Meld.meld name.limits alone) asked (moment old before.seen) (moment own now.seen)
    → Answered g.P.Meld.meld alone asked (local old (view_at name before)) (Standing found) (local own (view_at name after))) (sym stands.at.1)
    (λ p. asked_answered g.P.Meld.meld alone g.W.Words.alone only name (comm_of c.args.asked.now) old before own now after
    (omega (arith, stands.onward, loads.steps)) stands.fits loads.of p found loads.did is)
    stands.at.0)
