use Rattle.std.proofs.Common.{◌≡◌, None, Some, sym, ap, ◌∙◌, arith}
use Rattle.ulfm_model.specs.declared.{contribution.Contribution.{Contribution}, contribution.MarkCount.{MarkCount}, event.Event.{Event}}
use Rattle.ulfm_replica.proofs.Wiring.{given_told, mark_told}
use Rattle.ulfm_replica.proofs.wire.Fields.event.Goals as goal

pub returns-in_err-given-in-2 : goal.returns-in_err-given-in-2
returns-in_err-given-in-2 g c = λ by event is.
    let told = given_told g.P.Packed.pack c.args.self.now by event is (omega arith) (omega arith) in
    let none : None ≡ Some told.given = sym c.in_err-given-in-2.was ∙ c.contribution.ensures told.given told.kind told.payload told.known told.acked in
    absurd (cc none)

pub returns-in_ok-given-in-2 : goal.returns-in_ok-given-in-2
returns-in_ok-given-in-2 g c = λ by event is.
    let told = given_told g.P.Packed.pack c.args.self.now by event is (omega arith) (omega arith) in
    let some : Some c.in_ok-given-in-2.given ≡ Some told.given = sym c.in_ok-given-in-2.was ∙ c.contribution.ensures told.given told.kind told.payload told.known told.acked in
    let given : c.in_ok-given-in-2.given ≡ told.given = cc some in
    ap Some (ap (λ (x : Contribution g.row.P.Denot). Event.Settle c.args.self.now.comm c.args.self.now.round c.args.self.now.rank x) given ∙ told.is)

pub returns-in_err-known-in-4 : goal.returns-in_err-known-in-4
returns-in_err-known-in-4 g c = λ by event is.
    let told = mark_told g.P.Packed.pack c.args.self.now by event is c.in-4.is in
    let none : None ≡ Some told.0 = sym c.in_err-known-in-4.was ∙ c.mark.ensures (told.0) (told.1) in
    absurd (cc none)

pub returns-in_ok-known-in-4 : goal.returns-in_ok-known-in-4
returns-in_ok-known-in-4 g c = λ by event is.
    let told = mark_told g.P.Packed.pack c.args.self.now by event is c.in-4.is in
    let some : Some c.in_ok-known-in-4.known ≡ Some told.0 = sym c.in_ok-known-in-4.was ∙ c.mark.ensures (told.0) (told.1) in
    let same : c.in_ok-known-in-4.known ≡ told.0 = cc some in
    ap Some (ap (λ (x : MarkCount). Event.Mark c.args.self.now.comm c.args.self.now.round c.args.self.now.rank x) same ∙ told.2)
