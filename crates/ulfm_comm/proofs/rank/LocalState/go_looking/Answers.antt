use Rattle.std.proofs.Common.{rules, ◌≡◌, ◌+◌, ◌-◌, ◌≤◌, arith, refl, subst, length, [], true, false, ap, ap₂, sym, ◌∙◌}
use Rattle.ulfm_comm.proofs.Wings.{turn_same}
use Rattle.ulfm_words.specs.Steps.{over}
use Rattle.std.proofs.lemmas.Bool.{false≢true}
use Rattle.ulfm_model.specs.{History.{failures, has}, Records.{Record, held_at}}
use mathlib.Core.List.{IsPrefix}
use Rattle.ulfm_model.proofs.{Histories.{failures_begin}, Lists.{length_prefix, prefix_trans}}
use Rattle.ulfm_words.proofs.Trails.{did_prefix, did_wait}
use Rattle.ulfm_steps.specs.Looks.{looks_left}
use Rattle.ulfm_comm.specs.declared.{phases.phase.Next.TheVariants.{Ends}}
use Rattle.ulfm_model.specs.declared.{refusal.Refusal.TheVariants.{SelfFailed}, reply.Reply.TheVariants.{Refused}}
use Rattle.ulfm_comm.proofs.StepsLeft.{fewer_more, looks_on, looks_up}
use Rattle.ulfm_comm.proofs.AlsoLeft.{also_looks_on, follows_ends}
use Rattle.ulfm_comm.proofs.LookEnds.{LoadsEnd, ends_also, ends_loads, ends_look, has_looked, loads_end, walked}
use Rattle.ulfm_comm.proofs.{Known.{below_past, next_same}, Look.{just_declared}, AmongOthers.{did_loosely}}
use Rattle.ulfm_comm.proofs.rank.LocalState.go_looking.Goals as goal
use Rattle.ulfm_comm.proofs.rank.LocalState.go_looking.Goals.{After-look_on}

-- its loads have ended
ended : (g : _) (c : After-look_on g) → c.look_on.result ≡ true → c.look_on.new.self.seen ≡ failures (g.W.Words.sight c.look_on.new.pass).seen
    → LoadsEnd (g.W.Words.name c.args.words.now).limits c.args.self.now c.look_on.new.self (g.W.Words.sight c.args.pass.now)
    (g.W.Words.sight c.look_on.new.pass)
ended g c done all =
    loads_end g.P.Meld.meld (g.W.Words.name c.args.words.now).limits done c.look_on.ensures.kept c.requires.stands.1.2.at.3.1
    c.look_on.ensures.goes.of.legal all c.look_on.ensures.takes

pub returns-then-not-look_on-clause-turn : goal.returns-then-not-look_on-clause-turn
returns-then-not-look_on-clause-turn g c =
    λ prepared.
    let limits = (g.W.Words.name c.args.words.now).limits in
    let now = g.W.Words.sight c.args.pass.now in
    let after = g.W.Words.sight c.look_on.new.pass in
    let still = c.if-not-look_on.ensures.look.1 in
    let turns : after.steps + (limits.ranks - length c.look_on.new.self.seen) ≤ now.steps + (limits.ranks - length c.args.self.now.seen) =
    subst (λ done. after.steps + looks_left limits done c.look_on.new.self.seen ≤ now.steps + looks_left limits false c.args.self.now.seen)
    c.if-not-look_on.true c.look_on.ensures.takes.turns in
    record {
      walks = walked c.look_on.ensures.goes;
      beside = turn_same _ _ _ _ _ (λ w. w) (did_prefix g.W.Words.alone _ _ _ c.look_on.ensures.goes.did) c.look_on.ensures.goes.caches;
      named = search rules;
      nearer = search rules;
      spends = looks_on limits c.args.self.now c.look_on.new.self c.args.asked.now c.look_on.ensures.kept now.steps after.steps turns;
      also = also_looks_on limits c.args.self.now c.look_on.new.self c.look_on.new.self.seen c.args.asked.now c.look_on.ensures.kept now after
          c.requires.stands.1.2.at.3.1 c.if-not-look_on.ensures.look.1 turns;
      further = search rules;
      adds = search rules;
      sees = search rules;
      looks = λ at. record {
        few = omega (arith, turns);
        found = λ more. omega (arith, turns, still, more);
        sees = λ past. absurd (cc past);
        ends = λ past. absurd (cc past);
      };
      knows = λ known. tt;
      leads = search rules;
      turns = λ alone only old before u.
          let now = g.W.Words.sight c.args.pass.now in
          let after = g.W.Words.sight c.look_on.new.pass in
          let goes = did_loosely alone g.W.Words.alone only [] now.seen after.seen c.look_on.ensures.goes.did in
          let own = c.look_on.ensures.kept ∙ ap (λ (w : Record). record w { seen = c.look_on.new.self.seen }) u.at.1 in
          record {
            fits = u.fits;
            mine = u.mine;
            onward = omega (arith, u.onward, c.look_on.ensures.goes.onward);
            at = (u.at.0, own, did_wait alone [] before.seen now.seen after.seen u.at.2 goes, c.if-not-look_on.ensures.look);
          };
    }

pub returns-then-has_rank-clause-turn : goal.returns-then-has_rank-clause-turn
returns-then-has_rank-clause-turn g c =
    λ prepared.
    let end = ended g (goal.at.returns-then-has_rank-clause-turn g c).After-look_on c.if-not-look_on.false c.if-not-look_on.ensures.look in
    record {
      walks = walked c.look_on.ensures.goes;
      beside = turn_same _ _ _ _ _ (λ w. w) (did_prefix g.W.Words.alone _ _ _ c.look_on.ensures.goes.did) c.look_on.ensures.goes.caches;
      named = search rules;
      nearer = search rules;
      spends = ends_look end c.args.asked.now c.refuse.new.self (Ends (Refused SelfFailed)) tt;
      also = ends_also end c.args.asked.now c.refuse.new.self (Ends (Refused SelfFailed))
          (follows_ends (g.W.Words.name c.args.words.now).limits c.look_on.new.self c.args.asked.now (Refused SelfFailed) c.refuse.new.self
          (ap (λ (w : Record). w.seen) c.refuse.ensures));
      further = search rules;
      adds = search rules;
      sees = search rules;
      looks = λ at. ends_loads end c.refuse.new.self (ap (λ (w : Record). w.seen) c.refuse.ensures) (Ends (Refused SelfFailed)) (λ declared. refl);
      knows = λ known of. absurd (cc of);
      leads = search rules;
      turns = let name = over g.P.Packed.pack (g.W.Words.name c.args.words.now) in
          let now = g.W.Words.sight c.args.pass.now in
          let after = g.W.Words.sight c.look_on.new.pass in
          λ alone only old before u.
          let goes = did_loosely alone g.W.Words.alone only [] now.seen after.seen c.look_on.ensures.goes.did in
          let found : c.look_on.new.self.seen ≡ failures after.seen = c.if-not-look_on.ensures.look in
          let number = c.number.ensures ∙ (ap (λ (w : Record). w.number) c.look_on.ensures.kept ∙ ap (λ (w : Record). w.number) u.at.1) in
          let own = c.look_on.ensures.kept ∙ ap (λ (w : Record). record w { seen = c.look_on.new.self.seen }) u.at.1 in
          just_declared g.P.Meld.meld alone name c.args.asked.now old before c.refuse.new.self after (omega (arith, u.onward, c.look_on.ensures.goes.onward))
          c.look_on.ensures.goes.of u.fits u.at.0 (did_wait alone [] before.seen now.seen after.seen u.at.2 goes)
          (ap₂ has (sym (c.failures.ensures ∙ found)) (sym number) ∙ (sym c.has_rank.ensures ∙ c.if-has_rank.true))
          (c.refuse.ensures ∙ (ap (λ (w : Record). record w { refused = true }) own ∙ ap (λ s. record old { seen = s; refused = true }) found));
    }

pub returns-clause-turn : goal.returns-clause-turn
returns-clause-turn g c =
    λ prepared.
    let end = ended g (goal.at.returns-clause-turn g c).After-look_on c.if-not-look_on.false c.if-not-look_on.ensures.look in
    record {
      walks = walked c.look_on.ensures.goes;
      beside = turn_same _ _ _ _ _ (λ w. w) (did_prefix g.W.Words.alone _ _ _ c.look_on.ensures.goes.did) c.look_on.ensures.goes.caches;
      named = search rules;
      nearer = λ single.
          let name = over g.P.Packed.pack (g.W.Words.name c.args.words.now) in
          let now = g.W.Words.sight c.args.pass.now in
          let after = g.W.Words.sight c.look_on.new.pass in
          let own = c.args.self.now in
          let new = c.look_on.new.self in
          let at = c.requires.stands.1.2.at in
          let grown = failures_begin now.seen after.seen (did_prefix g.W.Words.alone [] now.seen after.seen c.look_on.ensures.goes.did) in
          let found : new.seen ≡ failures after.seen = c.if-not-look_on.ensures.look in
          let begins = subst (IsPrefix own.seen) (sym found) (prefix_trans own.seen (failures now.seen) (failures after.seen) at.3.0 grown) in
          fewer_more name.limits c.looked.new.self c.args.asked.now _ _
          (looks_up name.limits own new c.args.asked.now c.look_on.ensures.kept at.3.1 (length_prefix own.seen new.seen begins)) c.looked.result
          c.looked.ensures.nearer;
      spends = ends_look end c.args.asked.now c.looked.new.self c.looked.result c.looked.ensures.nearer;
      also = ends_also end c.args.asked.now c.looked.new.self c.looked.result c.looked.ensures.also;
      further = search rules;
      adds = search rules;
      sees = search rules;
      looks = λ at. ends_loads end c.looked.new.self c.looked.ensures.also.sees c.looked.result
          (λ declared. absurd (false≢true (sym c.if-has_rank.false ∙ (c.has_rank.ensures ∙
          (ap₂ has (c.failures.ensures ∙ sym c.looked.ensures.also.sees) (c.number.ensures ∙ ap (λ (w : Record). w.number) c.look_on.ensures.kept)
          ∙ declared)))));
      knows = λ known.
          let cached = (g.W.Words.sight c.look_on.new.pass).cached in
          next_same c.look_on.new.self c.args.self.now c.args.asked.now cached (λ comm. sym (ap (λ (w : Record). held_at w comm) c.look_on.ensures.kept))
          c.looked.result (c.looked.ensures.knows cached);
      leads = search rules;
      turns = λ alone only old before u.
          c.looked.ensures.turns prepared alone old before
          (has_looked end only c.look_on.ensures.goes.did c.look_on.ensures.goes.onward
          (ap₂ has (sym c.failures.ensures) (sym c.number.ensures) ∙ (sym c.has_rank.ensures ∙ c.if-has_rank.false)) u);
    }

pub returns-then-not-look_on-clause-past : goal.returns-then-not-look_on-clause-past
returns-then-not-look_on-clause-past g c = λ all. absurd (false≢true (sym c.if-not-look_on.true ∙ c.look_on.ensures.done all))

pub returns-then-has_rank-clause-past : goal.returns-then-has_rank-clause-past
returns-then-has_rank-clause-past g c = λ all. tt

pub returns-clause-past : goal.returns-clause-past
returns-clause-past g c = λ all. below_past c.looked.result c.looked.ensures.further
