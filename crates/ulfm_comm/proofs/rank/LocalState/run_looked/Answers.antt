use Rattle.std.proofs.Common.{Bool, false, true, ap, arith, refl, sym, ◌∙◌}
use Rattle.ulfm_words.specs.Steps.{over, view_of, Sight}
use Rattle.ulfm_model.specs.{Records.{Held, Record, held_at}}
use Rattle.ulfm_model.specs.declared.{call.Request.TheVariants.{Agree as OfAgree}, contribution.Offer.TheVariants.{Flag}, refusal.Refusal.TheVariants.{NoSuchComm}, reply.Reply.TheVariants.{Refused}}
use Rattle.ulfm_comm.specs.{Local.{local}, Look.{JustLooked, Passes}, Phase.{Stands, StillStands, under_way}}
use Rattle.ulfm_comm.specs.declared.phases.phase.Next.TheVariants.{Ends, Goes}
use Rattle.ulfm_comm.specs.declared.phases.phase.Phase.TheVariants.{Asking, Spreading}
use Rattle.ulfm_comm.proofs.{Behind.{ends_behind, goes_behind}, Known.{refused_stand}, Look.{just_missing, just_passed, just_refused, own_question, starts_agree}}
use Rattle.ulfm_comm.proofs.Runs.{turn_ends}
use Rattle.ulfm_comm.proofs.rank.LocalState.run_looked.Goals as goal
use Rattle.ulfm_comm.proofs.rank.LocalState.run_looked.Goals.{In-Agree, In-IsRevoked}
use Rattle.ulfm_comm.specs.Prepared.{Prepared, unprepared}

pub returns-in_default : goal.returns-in_default
returns-in_default g c = record {
  next = Ends (Refused NoSuchComm);
  mid = c.args.self.now;
  behind = ends_behind refl (λ cached of. absurd (cc of))
      (λ prepared alone old before j.
      just_missing g.P.Meld.meld alone (over g.P.Packed.pack (g.W.Words.name c.args.words.now)) c.args.asked.now old before c.args.self.now
      (g.W.Words.sight c.args.pass.now) j c.requires.of
      (ap (held_at c.args.self.now) (sym c.comm_of.ensures) ∙ c.in_default.ensures.held));
  runs = (refl, refl, refl);
}

pub returns-in-Some-refusal : goal.returns-in-Some-refusal
returns-in-Some-refusal g c = record {
  next = Ends (Refused c.in-Some-refusal.refusal);
  mid = c.args.self.now;
  behind = ends_behind refl (λ cached of. refused_stand c.args.self.now c.in-Some.x.now c.args.asked.now c.in-Some-refusal.refusal cached
      (ap (held_at c.args.self.now) (sym c.comm_of.ensures) ∙ c.in-Some.ensures.held) (sym c.refusal.ensures ∙ c.in-Some-refusal.is))
      (λ prepared alone old before j.
      just_refused g.P.Meld.meld alone (over g.P.Packed.pack (g.W.Words.name c.args.words.now)) c.args.asked.now old before c.args.self.now
      (g.W.Words.sight c.args.pass.now) j c.requires.of c.in-Some.x.now
      (ap (held_at c.args.self.now) (sym c.comm_of.ensures) ∙ c.in-Some.ensures.held) _ (sym c.refusal.ensures ∙ c.in-Some-refusal.is));
  runs = (refl, refl, refl);
}

-- the record doesn't refuse the start of an agree
passes : (g : _) (c : In-Agree g) → Passes c.args.self.now c.args.asked.now
passes g c = record {
  x = c.in-Some.x.now;
  held = ap (held_at c.args.self.now) (sym c.comm_of.ensures) ∙ c.in-Some.ensures.held;
  passed = sym c.refusal.ensures ∙ c.in_default-refusal.is;
}

-- so it stands before its first exchange
spreads : (g : _) (c : In-Agree g) (prepared : Prepared) (alone : Bool) (old : Record) (before : Sight g.row.P.Denot)
    → JustLooked g.P.Meld.meld alone c.args.asked.now (local old (view_of g.P.Packed.pack (g.W.Words.name c.args.words.now) before)) (local c.args.self.now (view_of g.P.Packed.pack (g.W.Words.name c.args.words.now) (g.W.Words.sight c.args.pass.now)))
    → Stands g.P.Meld.meld alone (local old (view_of g.P.Packed.pack (g.W.Words.name c.args.words.now) before)) (under_way c.args.asked.now (Spreading (OfAgree c.x.inside.next_agreement) (Flag c.in-Agree.value)) prepared) (local c.args.self.now (view_of g.P.Packed.pack (g.W.Words.name c.args.words.now) (g.W.Words.sight c.args.pass.now)))
unfolding passes
spreads g c prepared alone old before j =
    let may = passes g c in
    record {
      fits = j.fits;
      mine = j.mine;
      onward = j.onward;
      at = (
        just_passed g.P.Meld.meld alone (over g.P.Packed.pack (g.W.Words.name c.args.words.now)) c.args.asked.now old before c.args.self.now
            (g.W.Words.sight c.args.pass.now) j c.requires.of may.x may.held may.passed,
        starts_agree c.args.asked.now _ _ _ old may.x _ c.in-Agree.is (ap (λ (y : Held). y.next_agreement) c.x.view_is),
      );
    }

pub run_agree-requires-clause-stands : goal.run_agree-requires-clause-stands
run_agree-requires-clause-stands g c =
    let just = c.requires.just in
    (just.0, just.1, spreads g (goal.at.run_agree-requires-clause-stands g c).In-Agree unprepared false just.0 just.1 just.2)

pub returns-in-Agree : goal.returns-in-Agree
returns-in-Agree g c =
    let at = (goal.at.returns-in-Agree g c).In-Agree in
    let own = c.args.self.now in
    record {
      next = Goes (Spreading (OfAgree c.x.inside.next_agreement) (Flag c.in-Agree.value));
      mid = own;
      behind = goes_behind (passes g at) c.in-Agree.is (omega arith) refl refl (λ cached. tt) (λ cached. tt) (spreads g at);
      runs = c.run_agree.ensures;
    }

-- a question whether the communicator is revoked stands before its load
asks : (g : _) (c : In-IsRevoked g) (prepared : Prepared) (alone : Bool) (old : Record) (before : Sight g.row.P.Denot)
    → JustLooked g.P.Meld.meld alone c.args.asked.now (local old (view_of g.P.Packed.pack (g.W.Words.name c.args.words.now) before)) (local c.args.self.now (view_of g.P.Packed.pack (g.W.Words.name c.args.words.now) (g.W.Words.sight c.args.pass.now)))
    → Stands g.P.Meld.meld alone (local old (view_of g.P.Packed.pack (g.W.Words.name c.args.words.now) before)) (under_way c.args.asked.now Asking prepared) (local c.args.self.now (view_of g.P.Packed.pack (g.W.Words.name c.args.words.now) (g.W.Words.sight c.args.pass.now)))
asks g c prepared alone old before j = record {
  fits = j.fits;
  mine = j.mine;
  onward = j.onward;
  at = (
    just_passed g.P.Meld.meld alone (over g.P.Packed.pack (g.W.Words.name c.args.words.now)) c.args.asked.now old before c.args.self.now
        (g.W.Words.sight c.args.pass.now) j c.requires.of c.in-Some.x.now (ap (held_at c.args.self.now) (sym c.comm_of.ensures) ∙ c.in-Some.ensures.held)
        (sym c.refusal.ensures ∙ c.in_default-refusal.is),
    own_question c.args.asked.now _ _ old.number j.mine c.in-IsRevoked.is,
  );
}

pub go_asking-requires-clause-stands : goal.go_asking-requires-clause-stands
go_asking-requires-clause-stands g c =
    let just = c.requires.just in
    (unprepared, (just.0, just.1, asks g (goal.at.go_asking-requires-clause-stands g c).In-IsRevoked unprepared false just.0 just.1 just.2))

pub returns-in-IsRevoked : goal.returns-in-IsRevoked
returns-in-IsRevoked g c =
    let at = (goal.at.returns-in-IsRevoked g c).In-IsRevoked in
    let own = c.args.self.now in
    let just = c.requires.just in
    let may : Passes own c.args.asked.now = record {
      x = c.in-Some.x.now;
      held = ap (held_at own) (sym c.comm_of.ensures) ∙ c.in-Some.ensures.held;
      passed = sym c.refusal.ensures ∙ c.in_default-refusal.is;
    } in
    let still : StillStands g.P.Meld.meld (under_way c.args.asked.now Asking unprepared) (local own (view_of g.P.Packed.pack (g.W.Words.name c.args.words.now) (g.W.Words.sight c.args.pass.now))) =
    (just.0, just.1, asks g at unprepared false just.0 just.1 just.2) in
    record {
      next = Goes Asking;
      mid = own;
      behind = goes_behind may c.in-IsRevoked.is (omega arith) refl refl (λ cached. tt) (λ cached. tt) (asks g at);
      runs = turn_ends still refl refl (c.go_asking.ensures unprepared true);
    }
