use Rattle.std.proofs.Common.{ap, refl, sym, ◌∙◌}
use Rattle.ulfm_words.specs.Steps.{over}
use Rattle.ulfm_model.specs.Records.{held_at}
use Rattle.ulfm_comm.proofs.{Behind.{ends_behind}, Known.{refused_stand}, Look.{just_missing, just_refused}}
use Rattle.ulfm_comm.proofs.rank.LocalState.looked.Goals as goal

pub returns-in_default : goal.returns-in_default
returns-in_default g c =
    ends_behind refl (λ cached of. absurd (cc of)) (λ prepared alone old before j.
    just_missing g.P.Meld.meld alone (over g.P.Packed.pack (g.W.Words.name c.args.words.now)) c.args.asked.now old before c.args.self.now
    (g.W.Words.sight c.args.pass.now) j c.requires.of
    (ap (held_at c.args.self.now) (sym c.comm_of.ensures) ∙ c.in_default.ensures.held))

pub returns-in-Some-refusal : goal.returns-in-Some-refusal
returns-in-Some-refusal g c =
    let held = ap (held_at c.args.self.now) (sym c.comm_of.ensures) ∙ c.in-Some.ensures.held in
    let refused = sym c.refusal.ensures ∙ c.in-Some-refusal.is in
    ends_behind refl (λ cached of. refused_stand c.args.self.now c.in-Some.x.now c.args.asked.now c.in-Some-refusal.refusal cached held refused)
    (λ prepared alone old before j.
    just_refused g.P.Meld.meld alone (over g.P.Packed.pack (g.W.Words.name c.args.words.now)) c.args.asked.now old before c.args.self.now
    (g.W.Words.sight c.args.pass.now) j c.requires.of c.in-Some.x.now held _ refused)

pub passed-requires-clause-passes : goal.passed-requires-clause-passes
passed-requires-clause-passes g c =
    record {
      x = c.in-Some.x.now;
      held = ap (held_at c.args.self.now) (sym c.comm_of.ensures) ∙ c.in-Some.ensures.held;
      passed = sym c.refusal.ensures ∙ c.in_default-refusal.is;
    }

pub returns : goal.returns
returns g c = c.passed.ensures
