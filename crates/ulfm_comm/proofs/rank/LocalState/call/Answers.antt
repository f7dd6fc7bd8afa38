use Rattle.std.proofs.Common.{◌≡◌, false, [], arith, append-nil, refl, inl, ap, sym, ◌∙◌}
use Rattle.ulfm_words.proofs.Tried.{tries_none}
use Rattle.std.proofs.lemmas.Bool.{eqb-true, false≢true}
use Rattle.ulfm_model.specs.declared.{refusal.Refusal.TheVariants.{SelfFailed}, reply.Reply.TheVariants.{Refused}}
use Rattle.ulfm_model.specs.Records.{Record}
use Rattle.ulfm_words.specs.Steps.{over, view_at}
use Rattle.ulfm_words.proofs.Trails.{did_none}
use Rattle.ulfm_comm.specs.{Calls.{EndsReply}, Counts.{MakesSteps}, Local.{local}, Polls.{PendsIn}}
use Rattle.ulfm_comm.proofs.{Known.{whole_ends}, Look.{full_seen, has_place_left, has_seen_all}, Counts.{makes_none}, Runs.{whole_call}}
use Rattle.ulfm_comm.proofs.rank.LocalState.call.Goals as goal
use Rattle.ulfm_comm.proofs.rank.LocalState.call.Goals.{After-run_begun, After-is_refused}

-- it wasn't refused before
in_use : (g : _) (c : After-is_refused g) → c.is_refused.result ≡ false → c.args.self.now.refused ≡ false
in_use g c is = sym c.is_refused.ensures ∙ is

-- the call has just begun
pub run_begun-requires-clause-stands : goal.run_begun-requires-clause-stands
run_begun-requires-clause-stands g c =
    let now = g.W.Words.sight c.args.pass.now in (
      c.args.self.now,
      now,
      record {
        fits = c.requires.fits;
        mine = c.requires.mine;
        onward = omega arith;
        at = (in_use g (goal.at.run_begun-requires-clause-stands g c).After-is_refused c.if-is_refused.false, refl, did_none false now.seen);
      },
    )

pub run_begun-requires-clause-some : goal.run_begun-requires-clause-some
run_begun-requires-clause-some g c =
    has_place_left g.P.Meld.meld (over g.P.Packed.pack (g.W.Words.name c.args.words.now)) c.args.self.now (g.W.Words.sight c.args.pass.now) c.requires.of c.requires.fits
    (sym c.has_seen_all.ensures.all ∙ c.if-has_seen_all.false)

-- it is made whole
made : (g : _) (c : After-run_begun g) → c.is_refused.result ≡ false → c.has_seen_all.result ≡ false
    → let name = over g.P.Packed.pack (g.W.Words.name c.args.words.now) in
    let old = local c.args.self.now (view_at name (g.W.Words.sight c.args.pass.now)) in
    let new = local c.run_begun.new.self (view_at name (g.W.Words.sight c.run_begun.new.pass)) in
    EndsReply g.P.Meld.meld g.W.Words.alone c.args.asked old c.run_begun.result new × PendsIn g.P.Meld.meld g.W.Words.alone c.args.asked old c.run_begun.result new
    × MakesSteps name.limits c.args.asked c.args.self.now (g.W.Words.sight c.args.pass.now) c.run_begun.new.self (g.W.Words.sight c.run_begun.new.pass)
made g c unrefused unseen =
    let name = over g.P.Packed.pack (g.W.Words.name c.args.words.now) in
    let own = c.args.self.now in
    let before = g.W.Words.sight c.args.pass.now in
    whole_call g.P.Meld.meld g.W.Words.alone name c.args.asked own before c.requires.fits c.requires.mine
    (in_use g (goal.at.After-run_begun g c).After-is_refused unrefused)
    (has_place_left g.P.Meld.meld name own before c.requires.of c.requires.fits (sym c.has_seen_all.ensures.all ∙ unseen))
    c.requires.of.may_open.in_range.some_comms c.run_begun.result c.run_begun.new.self (g.W.Words.sight c.run_begun.new.pass) c.run_begun.ensures

pub returns-clause-ends : goal.returns-clause-ends
returns-clause-ends g c = (made g (goal.at.returns-clause-ends g c).After-run_begun c.if-is_refused.false c.if-has_seen_all.false).0

pub returns-clause-pending : goal.returns-clause-pending
returns-clause-pending g c = (made g (goal.at.returns-clause-pending g c).After-run_begun c.if-is_refused.false c.if-has_seen_all.false).1

pub returns-clause-steps : goal.returns-clause-steps
returns-clause-steps g c = (made g (goal.at.returns-clause-steps g c).After-run_begun c.if-is_refused.false c.if-has_seen_all.false).2

-- a rank that was refused for good makes no step
pub returns-then-is_refused-clause-ends : goal.returns-then-is_refused-clause-ends
returns-then-is_refused-clause-ends g c =
    let now = g.W.Words.sight c.args.pass.now in
    whole_ends g.P.Meld.meld g.W.Words.alone (over g.P.Packed.pack (g.W.Words.name c.args.words.now)) c.args.asked c.args.self.now now (Refused SelfFailed) c.args.self.now now
    (record {
      of = c.requires.of;
      onward = omega arith;
      fits = c.requires.fits;
      twice = λ is. absurd (cc is);
      ends = inl (record { refused = sym c.is_refused.ensures ∙ c.if-is_refused.true; reply_is = refl; record_is = refl }, refl);
    })
    ([], append-nil now.cached) (tries_none now.caches now.caches refl) (λ here wings. wings) (λ of. absurd (cc of))

pub returns-then-is_refused-clause-steps : goal.returns-then-is_refused-clause-steps
returns-then-is_refused-clause-steps g c =
    makes_none (λ used. absurd (false≢true (sym used ∙ (sym c.is_refused.ensures ∙ c.if-is_refused.true))))

-- nor does one that has seen all
pub returns-then-has_seen_all-clause-ends : goal.returns-then-has_seen_all-clause-ends
returns-then-has_seen_all-clause-ends g c =
    let at = (goal.at.returns-then-has_seen_all-clause-ends g c).After-is_refused in
    let name = over g.P.Packed.pack (g.W.Words.name c.args.words.now) in
    let now = g.W.Words.sight c.args.pass.now in
    whole_ends g.P.Meld.meld g.W.Words.alone name c.args.asked c.args.self.now now (Refused SelfFailed) c.refuse.new.self now
    (has_seen_all g.P.Meld.meld g.W.Words.alone name c.args.asked c.args.self.now c.refuse.new.self now c.requires.of c.requires.fits
    (in_use g at c.if-is_refused.false)
    c.has_seen_all.ensures.below (eqb-true _ _ (sym c.has_seen_all.ensures.all ∙ c.if-has_seen_all.true)) c.refuse.ensures)
    ([], append-nil now.cached) (tries_none now.caches now.caches refl) (λ here wings. wings) (λ of. absurd (cc of))

pub returns-then-has_seen_all-clause-steps : goal.returns-then-has_seen_all-clause-steps
returns-then-has_seen_all-clause-steps g c =
    let name = over g.P.Packed.pack (g.W.Words.name c.args.words.now) in
    let now = g.W.Words.sight c.args.pass.now in
    let all = full_seen g.P.Meld.meld name c.args.self.now now c.requires.of c.requires.fits
    (eqb-true _ _ (sym c.has_seen_all.ensures.all ∙ c.if-has_seen_all.true)) in
    makes_none (λ used. inl (ap (λ (w : Record). w.seen) c.refuse.ensures ∙ all))
