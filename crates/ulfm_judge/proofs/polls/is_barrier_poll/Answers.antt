use Rattle.std.proofs.Common.{◌≡◌, ℕ, Bool, List, filter, ap, ap₂, ◌∙◌}
use Rattle.std.specs.List.{list_all}
use Rattle.ulfm_model.specs.{History.{has}, Records.{Held}}
use Rattle.ulfm_judge.specs.ReplyTests.{barrier_test}
use Rattle.ulfm_numbers.specs.Telling.{seen_at}
use Rattle.ulfm_judge.proofs.polls.is_barrier_poll.Goals as goal

pub returns : goal.returns
returns g c =
    let x = c.args.x.now in
    let seen = seen_at c.args.view.now.numbers.now c.args.view.now.point in
    let arrived = λ (n : ℕ) (group : List ℕ). list_all (λ r. seen.arrived (n, c.args.round, r)) group in
    let comm : c.x.inside.comm ≡ x.comm = ap (λ (y : Held). y.comm) c.x.view_is in
    let group : c.deref.result.now ≡ x.group = c.deref.ensures.value ∙ ap (λ (y : Held). y.group) c.x.view_is in
    let other : c.deref-2.result.now ≡ x.group = c.deref-2.ensures.value ∙ ap (λ (y : Held). y.group) c.x.view_is in
    let found : c.deref-3.result.now ≡ filter (has x.group) c.args.view.now.look.now =
    c.deref-3.ensures.value ∙ (c.in_ok-found.ensures ∙ ap (λ members. filter (has members) c.args.view.now.look.now) other) in
    let revoked = c.is_revoked_at-revoked.ensures ∙ ap seen.revoked comm in
    let all = c.have_arrived-all.ensures ∙ ap₂ arrived comm group in
    let known = c.have_arrived-known.ensures ∙ ap₂ arrived comm found in
    c.is_barrier_reply.ensures
    ∙ (ap (λ b. barrier_test b c.have_arrived-all.result c.have_arrived-known.result c.args.reply.now) revoked
    ∙ ap₂ (λ (a b : Bool). barrier_test (seen.revoked x.comm) a b c.args.reply.now) all known)
