use Rattle.std.proofs.Common.{rules, ◌≡◌, arith, Bool, false, refl, ap, sym, ◌∙◌, inl, inr}
use Rattle.ulfm_words.proofs.Trails.{did_prefix}
use Rattle.ulfm_comm.proofs.Wings.{turn_same}
use Rattle.ulfm_model.specs.{declared.reply.Reply.{Reply}, Records.{Record}}
use Rattle.std.proofs.lemmas.Bool.{false≢true}
use Rattle.ulfm_comm.specs.{Phase.{Turns}, Requests.{is_of_round}, Step.{TakesTurn}}
use Rattle.ulfm_comm.specs.declared.{phases.phase.Next.TheVariants.{Ends}, phases.phase.Phase.TheVariants.{Checking}}
use Rattle.ulfm_steps.specs.declared.arrivals.{Missing.{Missing}, Missing.TheVariants.{Nobody, Others, Declared}}
use Rattle.ulfm_comm.specs.Barrier.{missing_leaves, missing_reply}
use Rattle.ulfm_comm.proofs.AlsoLeft.{also_ends}
use Rattle.ulfm_comm.proofs.Barrier.{checking_early, checking_missing, checking_revoked, checking_within}
use Rattle.ulfm_comm.proofs.rank.LocalState.go_checking.Goals as goal
use Rattle.ulfm_comm.proofs.rank.LocalState.go_checking.Goals.{After-load_revocation}
use Rattle.ulfm_comm.specs.Local.{local}
use Rattle.ulfm_comm.specs.Phase.{under_way}
use Rattle.ulfm_comm.specs.Step.{coming}
use Rattle.ulfm_words.specs.Steps.{view_of, over}
use Rattle.ulfm_comm.specs.Prepared.{Prepared}

pub load_revocation-requires-clause-within : goal.load_revocation-requires-clause-within
load_revocation-requires-clause-within g c =
    let stands = c.requires.stands.1 in
    checking_within g.P.Meld.meld false (over g.P.Packed.pack (g.W.Words.name c.args.words.now)) c.args.asked.now c.args.missing c.requires.stands.0 c.args.self.now
    (g.W.Words.sight c.args.pass.now) c.requires.of stands.0 stands.1 stands.2
    c.comm_of-comm.result c.comm_of-comm.ensures

pub returns-then-load_revocation-clause-early : goal.returns-then-load_revocation-clause-early
returns-then-load_revocation-clause-early g c = λ prepared alone only found. inr (inl refl)

pub returns-in-Nobody-clause-early : goal.returns-in-Nobody-clause-early
returns-in-Nobody-clause-early g c = λ prepared alone only found. inl (c.in-Nobody.is, refl)

pub returns-in-Others-clause-early : goal.returns-in-Others-clause-early
returns-in-Others-clause-early g c = λ prepared alone only found.
    inr (inr (checking_early g.P.Meld.meld (g.W.Words.name c.args.words.now).limits alone g.W.Words.alone only c.args.asked.now c.args.missing
    found.earlier found.old found.before c.args.self.now (g.W.Words.sight c.args.pass.now).seen (g.W.Words.sight c.load_revocation.new.pass).seen
    found.polls found.checking c.load_revocation.ensures.loads.did c.comm_of-comm.result c.comm_of-comm.ensures
    (sym c.load_revocation.ensures.revoked ∙ c.if-load_revocation.false) Others c.in-Others.is c.args.self.now refl))

pub returns-in-Declared-clause-early : goal.returns-in-Declared-clause-early
returns-in-Declared-clause-early g c = λ prepared alone only found.
    inr (inr (checking_early g.P.Meld.meld (g.W.Words.name c.args.words.now).limits alone g.W.Words.alone only c.args.asked.now c.args.missing
    found.earlier found.old found.before c.args.self.now (g.W.Words.sight c.args.pass.now).seen (g.W.Words.sight c.load_revocation.new.pass).seen
    found.polls found.checking c.load_revocation.ensures.loads.did c.comm_of-comm.result c.comm_of-comm.ensures
    (sym c.load_revocation.ensures.revoked ∙ c.if-load_revocation.false) Declared c.in-Declared.is c.close-in-Declared.new.self
    c.close-in-Declared.ensures))

-- the call ends by its load, which leaves what the rank has seen
ends : (g : _) (c : After-load_revocation g) (reply : Reply g.row.P.Denot) (new : Record) → new.seen ≡ c.args.self.now.seen → is_of_round reply ≡ false
    → ((prepared : Prepared) → Turns g.P.Meld.meld g.W.Words.alone (under_way c.args.asked.now (Checking c.args.missing) prepared) (local c.args.self.now (view_of g.P.Packed.pack (g.W.Words.name c.args.words.now) (g.W.Words.sight c.args.pass.now))) (Ends reply) prepared (local new (view_of g.P.Packed.pack (g.W.Words.name c.args.words.now) (g.W.Words.sight c.load_revocation.new.pass))))
    → (prepared : Prepared) (whole : Bool) → TakesTurn g.P.Meld.meld g.W.Words.alone whole (under_way c.args.asked.now (Checking c.args.missing) prepared) (local c.args.self.now (view_of g.P.Packed.pack (g.W.Words.name c.args.words.now) (g.W.Words.sight c.args.pass.now))) (coming (Ends reply) prepared) (local new (view_of g.P.Packed.pack (g.W.Words.name c.args.words.now) (g.W.Words.sight c.load_revocation.new.pass)))
ends g c reply new sees none turns = λ prepared whole.
    record {
      walks = search rules;
      beside = turn_same _ _ _ _ _ (λ w. w) (did_prefix g.W.Words.alone _ _ _ c.load_revocation.ensures.loads.did) c.load_revocation.ensures.loads.caches;
      named = search rules;
      nearer = λ not. tt;
      spends = omega (arith, c.load_revocation.ensures.loads.steps);
      also = λ all. also_ends 1 (g.W.Words.name c.args.words.now).limits c.args.asked.now c.args.self.now new (g.W.Words.sight c.args.pass.now)
          (g.W.Words.sight c.load_revocation.new.pass) reply (omega (arith, c.load_revocation.ensures.loads.steps)) sees;
      further = search rules;
      adds = search rules;
      sees = sees;
      looks = λ at. absurd (cc at);
      knows = λ known of. absurd (false≢true (sym none ∙ of));
      leads = search rules;
      turns = turns prepared;
    }

pub returns-then-load_revocation-clause-turn : goal.returns-then-load_revocation-clause-turn
returns-then-load_revocation-clause-turn g c = ends g (goal.at.returns-then-load_revocation-clause-turn g c).After-load_revocation _ c.close.new.self
    (ap (λ (w : Record). w.seen) c.close.ensures) refl (λ prepared alone only old before stands.
    checking_revoked g.P.Meld.meld alone (over g.P.Packed.pack (g.W.Words.name c.args.words.now)) c.args.asked.now c.args.missing prepared c.args.self.now
    (g.W.Words.sight c.args.pass.now) c.requires.of old before stands
    g.W.Words.alone only (g.W.Words.sight c.load_revocation.new.pass) c.load_revocation.ensures.loads.of c.load_revocation.ensures.loads.did
    (omega (arith, c.load_revocation.ensures.loads.steps)) c.comm_of-comm.result c.comm_of-comm.ensures c.close.new.self
    (sym c.load_revocation.ensures.revoked ∙ c.if-load_revocation.true) c.close.ensures)

-- .. with who was missing, where it finds no revocation
ends_missing : (g : _) (c : After-load_revocation g) (which : Missing) (new : Record) → c.load_revocation.result ≡ false → c.args.missing ≡ which
    → new ≡ missing_leaves c.args.self.now c.comm_of-comm.result which → new.seen ≡ c.args.self.now.seen → is_of_round {P = g.row.P.Denot} (missing_reply which) ≡ false
    → (prepared : Prepared) (whole : Bool) → TakesTurn g.P.Meld.meld g.W.Words.alone whole (under_way c.args.asked.now (Checking c.args.missing) prepared) (local c.args.self.now (view_of g.P.Packed.pack (g.W.Words.name c.args.words.now) (g.W.Words.sight c.args.pass.now))) (coming (Ends (missing_reply which)) prepared) (local new (view_of g.P.Packed.pack (g.W.Words.name c.args.words.now) (g.W.Words.sight c.load_revocation.new.pass)))
ends_missing g c which new standing is left sees none = ends g c (missing_reply which) new sees none (λ prepared alone only old before stands.
    checking_missing g.P.Meld.meld alone (over g.P.Packed.pack (g.W.Words.name c.args.words.now)) c.args.asked.now c.args.missing prepared c.args.self.now
    (g.W.Words.sight c.args.pass.now) c.requires.of old before stands
    g.W.Words.alone only (g.W.Words.sight c.load_revocation.new.pass) c.load_revocation.ensures.loads.of c.load_revocation.ensures.loads.did
    (omega (arith, c.load_revocation.ensures.loads.steps)) c.comm_of-comm.result c.comm_of-comm.ensures new
    (sym c.load_revocation.ensures.revoked ∙ standing) which is left)

pub returns-in-Nobody-clause-turn : goal.returns-in-Nobody-clause-turn
returns-in-Nobody-clause-turn g c = ends_missing g (goal.at.returns-in-Nobody-clause-turn g c).After-load_revocation Nobody c.close-in-Nobody.new.self
    c.if-load_revocation.false c.in-Nobody.is c.close-in-Nobody.ensures (ap (λ (w : Record). w.seen) c.close-in-Nobody.ensures) refl

pub returns-in-Others-clause-turn : goal.returns-in-Others-clause-turn
returns-in-Others-clause-turn g c = ends_missing g (goal.at.returns-in-Others-clause-turn g c).After-load_revocation Others c.args.self.now
    c.if-load_revocation.false c.in-Others.is refl refl refl

pub returns-in-Declared-clause-turn : goal.returns-in-Declared-clause-turn
returns-in-Declared-clause-turn g c = ends_missing g (goal.at.returns-in-Declared-clause-turn g c).After-load_revocation Declared c.close-in-Declared.new.self
    c.if-load_revocation.false c.in-Declared.is c.close-in-Declared.ensures (ap (λ (w : Record). w.seen) c.close-in-Declared.ensures) refl
