use Rattle.std.proofs.Common.{◌≡◌, Ok, Err, ap, sym, refl, ◌∙◌}
use Rattle.std.specs.Prelude.{IsErrAnd, codes}
use Rattle.ulfm_model.specs.declared.event.Event.TheVariants.{Arrive, Fail, Revoke}
use Rattle.ulfm_script.specs.declared.line_kind.LineKind.{LineKind}
use Rattle.ulfm_lines.specs.EventReading.{ReadEvent, told}
use Rattle.ulfm_lines.proofs.Beginnings.{arrive_ahead, event_ahead, event_nowhere, fail_ahead, no_event, revoke_ahead}
use Rattle.ulfm_lines.proofs.events.read_event.Goals as goal

-- a fault that was handed on
handed : (r : ReadEvent) (kind : LineKind) → IsErrAnd r (λ e. e ≡ kind) → r ≡ Err kind
handed (Ok event) kind h = absurd h
handed (Err e) kind h = ap (λ (k : LineKind). let x : ReadEvent = Err k in x) h

pub returns-in_default : goal.returns-in_default
returns-in_default c = rw c.in_default.is (sym event_nowhere)

pub returns-in-Some-behind : goal.returns-in-Some-behind
returns-in-Some-behind c = rw c.in-Some.is (c.read_settle.ensures ∙ event_ahead (codes "settle") _ _ refl c.in-Some-behind.ensures)

pub returns-in_ok-comm : goal.returns-in_ok-comm
returns-in_ok-comm c = rw c.in-Some.is (ap (told (λ x. Arrive x.0 x.1.0 x.1.1)) (c.in_ok-comm.ensures _ c.place_field.ensures) ∙ arrive_ahead _ _ c.in-Some-behind-2.ensures)

pub returns-in_err-comm : goal.returns-in_err-comm
returns-in_err-comm c = rw (handed c.from_residual.result c.in_err-comm.field-0.0 c.from_residual.ensures.1, c.in-Some.is) (ap (told (λ x. Arrive x.0 x.1.0 x.1.1)) (c.in_err-comm.ensures _ c.place_field.ensures) ∙ arrive_ahead _ _ c.in-Some-behind-2.ensures)

pub returns-in-Some-behind-3 : goal.returns-in-Some-behind-3
returns-in-Some-behind-3 c = rw c.in-Some.is (c.read_mark.ensures ∙ event_ahead (codes "mark") _ _ refl c.in-Some-behind-3.ensures)

pub returns-in_ok-rank : goal.returns-in_ok-rank
returns-in_ok-rank c = rw c.in-Some.is (ap (told Fail) (c.in_ok-rank.ensures _ c.rank_field.ensures) ∙ fail_ahead _ _ c.in-Some-behind-4.ensures)

pub returns-in_err-rank : goal.returns-in_err-rank
returns-in_err-rank c = rw (handed c.from_residual-in_err-rank.result c.in_err-rank.field-0.0 c.from_residual-in_err-rank.ensures.1, c.in-Some.is) (ap (told Fail) (c.in_err-rank.ensures _ c.rank_field.ensures) ∙ fail_ahead _ _ c.in-Some-behind-4.ensures)

pub returns-in_ok-comm-2 : goal.returns-in_ok-comm-2
returns-in_ok-comm-2 c = rw c.in-Some.is (ap (told Revoke) (c.in_ok-comm-2.ensures _ c.comm_field.ensures) ∙ revoke_ahead _ _ c.in-Some-behind-5.ensures)

pub returns-in_err-comm-2 : goal.returns-in_err-comm-2
returns-in_err-comm-2 c = rw (handed c.from_residual-in_err-comm-2.result c.in_err-comm-2.field-0.0 c.from_residual-in_err-comm-2.ensures.1, c.in-Some.is) (ap (told Revoke) (c.in_err-comm-2.ensures _ c.comm_field.ensures) ∙ revoke_ahead _ _ c.in-Some-behind-5.ensures)

pub returns-in-Some-behind-6 : goal.returns-in-Some-behind-6
returns-in-Some-behind-6 c = rw c.in-Some.is (c.read_spawn.ensures ∙ event_ahead (codes "spawn") _ _ refl c.in-Some-behind-6.ensures)

pub returns-in_default-behind-6 : goal.returns-in_default-behind-6
returns-in_default-behind-6 c = rw c.in-Some.is (sym (no_event c.in-Some.text.now c.in_default-behind.ensures c.in_default-behind-2.ensures c.in_default-behind-3.ensures c.in_default-behind-4.ensures
    c.in_default-behind-5.ensures c.in_default-behind-6.ensures))
