use Rattle.std.proofs.Common.{arith, refl, subst, true, [], ap, ap₂, sym, ◌∙◌}
use Rattle.ulfm_words.specs.Steps.{over, view_at}
use Rattle.std.proofs.lemmas.Bool.{false≢true}
use Rattle.ulfm_model.specs.{History.{has}, Records.{Record, held_at}}
use Rattle.ulfm_model.specs.declared.{refusal.Refusal.TheVariants.{SelfFailed}, reply.Reply.TheVariants.{Refused}}
use Rattle.ulfm_words.proofs.Trails.{did_wait}
use Rattle.ulfm_steps.specs.Looks.{LookIs}
use Rattle.ulfm_comm.specs.{Local.{local}, Prepared.{unprepared}, Step.{RunsBehind}}
use Rattle.ulfm_comm.specs.declared.phases.phase.Next.TheVariants.{Ends}
use Rattle.ulfm_comm.proofs.{AlsoLeft.{follows_ends}, AmongOthers.{did_loosely}, Known.{below_past, next_same}, Look.{just_declared}}
use Rattle.ulfm_comm.proofs.LookEnds.{LoadsEnd, has_looked, loads_end, look_turns}
use Rattle.ulfm_comm.proofs.rank.LocalState.run_looking.Goals as goal
use Rattle.ulfm_comm.proofs.rank.LocalState.run_looking.Goals.{After-look_on}

-- the whole look has come to its end
ended : (g : _) (c : After-look_on g)
    → LoadsEnd (g.W.Words.name c.args.words.now).limits c.args.self.now c.look_on.new.self (g.W.Words.sight c.args.pass.now) (g.W.Words.sight c.look_on.new.pass)
ended g c =
    let limits = (g.W.Words.name c.args.words.now).limits in
    let done = c.look_on.ensures.done refl in
    let all = subst (λ done. LookIs limits done c.look_on.new.self.seen (g.W.Words.sight c.look_on.new.pass).seen) done c.look_on.ensures.look in
    loads_end g.P.Meld.meld limits done c.look_on.ensures.kept c.requires.stands.2.at.3.1 c.look_on.ensures.goes.of.legal all c.look_on.ensures.takes

pub returns-then-finds_itself : goal.returns-then-finds_itself
returns-then-finds_itself g c =
    let name = over g.P.Packed.pack (g.W.Words.name c.args.words.now) in
    let now = g.W.Words.sight c.args.pass.now in
    let after = g.W.Words.sight c.look_on.new.pass in
    let end = ended g (goal.at.returns-then-finds_itself g c).After-look_on in
    let refused = c.refuse.ensures ∙ ap (λ (w : Record). record w { refused = true }) c.finds_itself.ensures.kept in
    let same = ap (λ (w : Record). w.seen) refused in
    record {
      next = Ends (Refused SelfFailed);
      mid = c.refuse.new.self;
      looked = after;
      turn = look_turns c.look_on.ensures.goes end c.args.asked.now unprepared c.refuse.new.self (Ends (Refused SelfFailed)) tt
          (follows_ends name.limits c.look_on.new.self c.args.asked.now (Refused SelfFailed) c.refuse.new.self same) same
          (λ declared. refl) tt (λ of. absurd (cc of)) (λ alone only old before u.
          let goes = did_loosely alone g.W.Words.alone only [] now.seen after.seen c.look_on.ensures.goes.did in
          let number = ap (λ (w : Record). w.number) c.look_on.ensures.kept ∙ ap (λ (w : Record). w.number) u.at.1 in
          let own = c.look_on.ensures.kept ∙ ap (λ (w : Record). record w { seen = c.look_on.new.self.seen }) u.at.1 in
          just_declared g.P.Meld.meld alone name c.args.asked.now old before c.refuse.new.self after (omega (arith, u.onward, c.look_on.ensures.goes.onward))
          c.look_on.ensures.goes.of u.fits u.at.0 (did_wait alone [] before.seen now.seen after.seen u.at.2 goes)
          (ap₂ has (sym end.all) (sym number) ∙ (sym c.finds_itself.ensures.found ∙ c.if-finds_itself.true))
          (refused ∙ (ap (λ (w : Record). record w { refused = true }) own ∙ ap (λ s. record old { seen = s; refused = true }) end.all)));
      past = tt;
      runs = (refl, refl, refl);
    }

pub returns : goal.returns
returns g c =
    let name = over g.P.Packed.pack (g.W.Words.name c.args.words.now) in
    let after = g.W.Words.sight c.look_on.new.pass in
    let end = ended g (goal.at.returns g c).After-look_on in
    let r = subst (λ (w : Record). RunsBehind g.P.Meld.meld g.W.Words.alone c.args.asked.now (local w (view_at name after)) c.run_looked.result
    (local c.run_looked.new.self (view_at name (g.W.Words.sight c.run_looked.new.pass)))) c.finds_itself.ensures.kept c.run_looked.ensures in
    record {
      next = r.next;
      mid = r.mid;
      looked = after;
      turn = look_turns c.look_on.ensures.goes end c.args.asked.now unprepared r.mid r.next r.behind.nearer r.behind.also r.behind.also.sees
          (λ declared. absurd (false≢true (sym c.if-finds_itself.false ∙ (c.finds_itself.ensures.found ∙
          (ap₂ has (sym r.behind.also.sees) (ap (λ (w : Record). w.number) c.look_on.ensures.kept) ∙ declared))))) r.behind.further
          (next_same c.look_on.new.self c.args.self.now c.args.asked.now after.cached (λ comm. sym (ap (λ (w : Record). held_at w comm) c.look_on.ensures.kept))
          r.next (r.behind.knows after.cached))
          (λ alone only old before u.
          r.behind.turns unprepared alone old before
          (has_looked end only c.look_on.ensures.goes.did c.look_on.ensures.goes.onward (sym c.finds_itself.ensures.found ∙ c.if-finds_itself.false) u));
      past = below_past r.next r.behind.further;
      runs = r.runs;
    }
