use Rattle.std.proofs.Common.{◌≡◌, ◌<◌, length, filter, take, false, Some, ap, ap₂, ◌∙◌, sym, subst, vec_capacity}
use Rattle.std.proofs.Math.Seq.{take-length}
use Rattle.ulfm_model.specs.declared.call.Call.TheVariants as call
use Rattle.ulfm_model.specs.declared.reply.Reply.TheVariants.{FailedGroup}
use Rattle.ulfm_model.specs.{History.{has}, Records.{held_at}}
use Rattle.ulfm_words.specs.Steps.{over, view_of}
use Rattle.ulfm_comm.specs.{Calls.{Calls}, Counts.{Ranked}, Local.{local}}
use Rattle.ulfm_comm.proofs.Typed.{HasCounted, counted_by, counted_call, err_of, ok_of}
use Rattle.ulfm_comm.proofs.rank.Rank.get_failed.Goals as goal
use Rattle.ulfm_comm.proofs.rank.Rank.get_failed.Goals.{After-put_failed}

-- what it finds, once the whole call has counted
counted : (g : _) (c : After-put_failed g) → HasCounted g.P.Meld.meld g.W.Words.alone (over g.P.Packed.pack c.args.world.now) false
    c.args.self.now.own.number c.args.comm c.in_ok-counted.field-0 c.args.self.now.own (g.W.Words.sight c.args.pass.now) c.call.new.self.own
    (g.W.Words.sight c.call.new.pass)
counted g c = counted_by g.P.Meld.meld g.W.Words.alone (over g.P.Packed.pack c.args.world.now) false c.number-rank.result c.args.comm c.in_ok-counted.field-0
    c.args.self.now.own (g.W.Words.sight c.args.pass.now) c.call.new.self.own (g.W.Words.sight c.call.new.pass) c.number-rank.ensures c.call.result
    c.in_ok-counted.ensures c.call.ensures.ends c.requires.fits

held : (g : _) (c : After-put_failed g) → held_at c.self.inside.own c.args.comm ≡ Some (counted g c).x
held g c = ap (λ (r : Ranked). held_at r.own c.args.comm) c.self.view_is ∙ (counted g c).held

-- it lists all failures that the rank has seen
lists_all : (g : _) (c : After-put_failed g) → take (length c.failures-all.result.now) c.self.inside.own.seen ≡ c.call.new.self.own.seen
lists_all g c =
    ap₂ (λ f s. take (length f) s) c.failures-all.ensures (ap (λ (r : Ranked). r.own.seen) c.self.view_is) ∙ take-length c.call.new.self.own.seen

pub put_failed-requires-clause-held : goal.put_failed-requires-clause-held
put_failed-requires-clause-held g c =
    let h = counted_by g.P.Meld.meld g.W.Words.alone (over g.P.Packed.pack c.args.world.now) false c.number-rank.result c.args.comm c.in_ok-counted.field-0 c.args.self.now.own (g.W.Words.sight c.args.pass.now)
    c.call.new.self.own (g.W.Words.sight c.call.new.pass) c.number-rank.ensures c.call.result c.in_ok-counted.ensures c.call.ensures.ends c.requires.fits in
    (h.x, ap (λ (r : Ranked). held_at r.own c.args.comm) c.self.view_is ∙ h.held, h.rises)

pub returns-then-is_err-clause-gets : goal.returns-then-is_err-clause-gets
returns-then-is_err-clause-gets g c = (counted g (goal.at.returns-then-is_err-clause-gets g c).After-put_failed).run_out

pub returns-then-is_err-clause-memory : goal.returns-then-is_err-clause-memory
returns-then-is_err-clause-memory g c = λ _.
    let at = (goal.at.returns-then-is_err-clause-memory g c).After-put_failed in
    let h = counted g at in
    subst (λ n. vec_capacity c.args.found.now < n) (ap length (ap (filter (has h.x.group)) (lists_all g at) ∙ h.group))
    (err_of c.put_failed.result c.put_failed.ensures.lacks (sym c.is_err.ensures.value ∙ c.if-is_err.true) h.x (held g at))

pub returns-clause-gets : goal.returns-clause-gets
returns-clause-gets g c =
    let at = (goal.at.returns-clause-gets g c).After-put_failed in
    let h = counted g at in
    let items = ok_of c.put_failed.result c.put_failed.ensures.group (sym c.is_err.ensures.value ∙ c.if-is_err.false) h.x (held g at) in
    subst (λ n. Calls g.P.Meld.meld g.W.Words.alone (call.GetFailed c.args.self.now.own.number c.args.comm) (local c.args.self.now.own (view_of g.P.Packed.pack c.args.world.now (g.W.Words.sight c.args.pass.now))) (FailedGroup n) (local c.call.new.self.own (view_of g.P.Packed.pack c.args.world.now (g.W.Words.sight c.call.new.pass))))
    (h.counted ∙ ap length (sym (items ∙ ap (filter (has h.x.group)) (lists_all g at))))
    (counted_call g.P.Meld.meld g.W.Words.alone (over g.P.Packed.pack c.args.world.now) false c.number-rank.result c.args.comm c.in_ok-counted.field-0 c.args.self.now.own (g.W.Words.sight c.args.pass.now)
    c.call.new.self.own (g.W.Words.sight c.call.new.pass) c.number-rank.ensures c.call.result c.in_ok-counted.ensures c.call.ensures.ends)

pub returns-clause-group : goal.returns-clause-group
returns-clause-group g c =
    let at = (goal.at.returns-clause-group g c).After-put_failed in
    let h = counted g at in
    ok_of c.put_failed.result c.put_failed.ensures.group (sym c.is_err.ensures.value ∙ c.if-is_err.false) h.x (held g at)
    ∙ (ap (filter (has h.x.group)) (lists_all g at) ∙ h.group)
