use Rattle.std.proofs.Common.{◌≡◌, ◌<◌, length, filter, take, true, Some, ap, ap₂, ◌∙◌, sym, subst, vec_capacity}
use Rattle.ulfm_model.specs.declared.call.Call.TheVariants as call
use Rattle.ulfm_model.specs.declared.reply.Reply.TheVariants.{FailedGroup}
use Rattle.ulfm_model.specs.{History.{has}, Records.{Held, held_at}}
use Rattle.ulfm_words.specs.Steps.{over, view_of}
use Rattle.std.specs.List.Sorted.{IsStrictlyIncreasing}
use Rattle.ulfm_steps.specs.ReadsOn.{AtFailure}
use Rattle.ulfm_comm.specs.{Calls.{Calls}, Counts.{Ranked}, Local.{local}, Queries.{acked_in, acked_of}}
use Rattle.ulfm_comm.proofs.Typed.{HasCounted, counted_by, counted_call, err_of, ok_of}
use Rattle.ulfm_comm.proofs.LeftOut.{first_reached}
use Rattle.ulfm_comm.proofs.rank.Rank.failure_get_acked.Goals as goal
use Rattle.ulfm_comm.proofs.rank.Rank.failure_get_acked.Goals.{After-put_failed}

-- the communicator is held, since its acknowledged failures were counted
pub held_comm-x-requires : goal.held_comm-x-requires
held_comm-x-requires g c =
    let h = counted_by g.P.Meld.meld g.W.Words.alone (over g.P.Packed.pack c.args.world.now) true c.number-rank.result c.args.comm c.in_ok-count.count c.args.self.now.own (g.W.Words.sight c.args.pass.now)
    c.call.new.self.own (g.W.Words.sight c.call.new.pass) c.number-rank.ensures c.call.result c.in_ok-count.ensures c.call.ensures.ends c.requires.fits in
    (h.x, ap (λ (r : Ranked). held_at r.own c.args.comm) c.self.view_is ∙ h.held)

pub new-reach-requires : goal.new-reach-requires
new-reach-requires g c =
    let h = counted_by g.P.Meld.meld g.W.Words.alone (over g.P.Packed.pack c.args.world.now) true c.number-rank.result c.args.comm c.in_ok-count.count c.args.self.now.own (g.W.Words.sight c.args.pass.now)
    c.call.new.self.own (g.W.Words.sight c.call.new.pass) c.number-rank.ensures c.call.result c.in_ok-count.ensures c.call.ensures.ends c.requires.fits in
    let both : Some c.held_comm-x.result.now ≡ Some h.x = sym c.held_comm-x.ensures ∙ (ap (λ (r : Ranked). held_at r.own c.args.comm) c.self.view_is ∙ h.held) in
    let same : c.held_comm-x.result.now ≡ h.x = cc both in
    subst IsStrictlyIncreasing (sym (c.deref.ensures.value ∙ (ap (λ (y : Held). y.group) c.x.view_is ∙ ap (λ (y : Held). y.group) same))) h.rises

pub put_failed-requires-clause-held : goal.put_failed-requires-clause-held
put_failed-requires-clause-held g c =
    let h = counted_by g.P.Meld.meld g.W.Words.alone (over g.P.Packed.pack c.args.world.now) true c.number-rank.result c.args.comm c.in_ok-count.count c.args.self.now.own (g.W.Words.sight c.args.pass.now)
    c.call.new.self.own (g.W.Words.sight c.call.new.pass) c.number-rank.ensures c.call.result c.in_ok-count.ensures c.call.ensures.ends c.requires.fits in
    (h.x, ap (λ (r : Ranked). held_at r.own c.args.comm) c.self.view_is ∙ h.held, h.rises)

-- what it finds, once the whole call has counted
counted : (g : _) (c : After-put_failed g) → HasCounted g.P.Meld.meld g.W.Words.alone (over g.P.Packed.pack c.args.world.now) true
    c.args.self.now.own.number c.args.comm c.in_ok-count.count c.args.self.now.own (g.W.Words.sight c.args.pass.now) c.call.new.self.own
    (g.W.Words.sight c.call.new.pass)
counted g c = counted_by g.P.Meld.meld g.W.Words.alone (over g.P.Packed.pack c.args.world.now) true c.number-rank.result c.args.comm c.in_ok-count.count
    c.args.self.now.own (g.W.Words.sight c.args.pass.now) c.call.new.self.own (g.W.Words.sight c.call.new.pass) c.number-rank.ensures c.call.result
    c.in_ok-count.ensures c.call.ensures.ends c.requires.fits

held : (g : _) (c : After-put_failed g) → held_at c.self.inside.own c.args.comm ≡ Some (counted g c).x
held g c = ap (λ (r : Ranked). held_at r.own c.args.comm) c.self.view_is ∙ (counted g c).held

-- it lists the acknowledged ones
lists_acked : (g : _) (c : After-put_failed g) → filter (has (counted g c).x.group) (take c.new-reach.result.reach c.self.inside.own.seen)
    ≡ take (counted g c).x.acked (filter (has (counted g c).x.group) c.call.new.self.own.seen)
lists_acked g c =
    let h = counted g c in
    let both : Some c.held_comm-x.result.now ≡ Some h.x = sym c.held_comm-x.ensures ∙ held g c in
    let same : c.held_comm-x.result.now ≡ h.x = cc both in
    let group = c.deref.ensures.value ∙ (ap (λ (y : Held). y.group) c.x.view_is ∙ ap (λ (y : Held). y.group) same) in
    let at : AtFailure h.x.group c.in_ok-count.count c.new-reach.result c.call.new.self.own.seen =
    subst (λ s. AtFailure h.x.group c.in_ok-count.count c.new-reach.result s) c.failures.ensures
    (subst (λ w. AtFailure w c.in_ok-count.count c.new-reach.result c.failures.result.now) group c.new-reach.ensures) in
    ap (λ (r : Ranked). filter (has h.x.group) (take c.new-reach.result.reach r.own.seen)) c.self.view_is
    ∙ first_reached h.x.group c.in_ok-count.count h.x.acked c.new-reach.result c.call.new.self.own.seen at h.counted

acked_is : (g : _) (c : After-put_failed g) → filter (has (counted g c).x.group) (take c.new-reach.result.reach c.self.inside.own.seen)
    ≡ acked_in (local c.call.new.self.own (view_of g.P.Packed.pack c.args.world.now (g.W.Words.sight c.call.new.pass))) c.args.comm
acked_is g c = let h = counted g c in lists_acked g c ∙ ap₂ take (sym (ap acked_of h.held)) h.group

pub returns-then-is_err-clause-gets : goal.returns-then-is_err-clause-gets
returns-then-is_err-clause-gets g c = (counted g (goal.at.returns-then-is_err-clause-gets g c).After-put_failed).run_out

pub returns-then-is_err-clause-memory : goal.returns-then-is_err-clause-memory
returns-then-is_err-clause-memory g c = λ _.
    let at = (goal.at.returns-then-is_err-clause-memory g c).After-put_failed in
    subst (λ n. vec_capacity c.args.found.now < n) (ap length (acked_is g at))
    (err_of c.put_failed.result c.put_failed.ensures.lacks (sym c.is_err.ensures.value ∙ c.if-is_err.true) (counted g at).x (held g at))

pub returns-clause-gets : goal.returns-clause-gets
returns-clause-gets g c =
    let at = (goal.at.returns-clause-gets g c).After-put_failed in
    let items = ok_of c.put_failed.result c.put_failed.ensures.group (sym c.is_err.ensures.value ∙ c.if-is_err.false) (counted g at).x (held g at) in
    subst (λ n. Calls g.P.Meld.meld g.W.Words.alone (call.FailureGetAcked c.args.self.now.own.number c.args.comm) (local c.args.self.now.own (view_of g.P.Packed.pack c.args.world.now (g.W.Words.sight c.args.pass.now))) (FailedGroup n) (local c.call.new.self.own (view_of g.P.Packed.pack c.args.world.now (g.W.Words.sight c.call.new.pass))))
    ((counted g at).counted ∙ ap length (sym (items ∙ lists_acked g at)))
    (counted_call g.P.Meld.meld g.W.Words.alone (over g.P.Packed.pack c.args.world.now) true c.number-rank.result c.args.comm c.in_ok-count.count c.args.self.now.own (g.W.Words.sight c.args.pass.now)
    c.call.new.self.own (g.W.Words.sight c.call.new.pass) c.number-rank.ensures c.call.result c.in_ok-count.ensures c.call.ensures.ends)

pub returns-clause-group : goal.returns-clause-group
returns-clause-group g c =
    let at = (goal.at.returns-clause-group g c).After-put_failed in
    ok_of c.put_failed.result c.put_failed.ensures.group (sym c.is_err.ensures.value ∙ c.if-is_err.false) (counted g at).x (held g at) ∙ acked_is g at
