use Rattle.std.proofs.Common.{◌≡◌, ℕ, ◌+◌, ◌==◌, ◌&&◌, Option, Some, ap, ap₂, arith, length, sym, ◌∙◌}
use Rattle.std.specs.List.{position_from}
use Rattle.ulfm_model.specs.History.{members, spawns}
use Rattle.ulfm_model.specs.declared.{reply.Reply.{Reply}, reply.Reply.TheVariants.{Shrunk}}
use Rattle.ulfm_model.proofs.{RankGroups.{members_few}, OnlySpawned.{lowest_is}}
use Rattle.ulfm_model.specs.Computed.{shrunk_reply}
use Rattle.ulfm_object.proofs.Bounds.{place_within}
use Rattle.ulfm_object.proofs.replies.shrunk_reply.Goals as goal

pub overflow_cast-made : goal.overflow_cast-made
overflow_cast-made g c =
    let within = place_within (λ (of : ℕ × ℕ). (of.0 == c.args.round.now.comm) && (of.1 == c.args.round.now.number)) 0 (spawns c.args.round.now.history.now) c.in-Some.place (sym c.place_made.ensures ∙ c.in-Some.is) in
    omega (arith, within, c.requires.few.spawns)

pub overflow_add-made : goal.overflow_add-made
overflow_add-made g c =
    let within = place_within (λ (of : ℕ × ℕ). (of.0 == c.args.round.now.comm) && (of.1 == c.args.round.now.number)) 0 (spawns c.args.round.now.history.now) c.in-Some.place (sym c.place_made.ensures ∙ c.in-Some.is) in
    omega (arith, within, c.requires.few.spawns)

pub overflow_cast-result : goal.overflow_cast-result
overflow_cast-result g c =
    let same = ap length c.in_ok-group.ensures in
    omega (arith, c.len.ensures, c.in_ok-group.group.ok, same, members_few c.args.round.now.limits.ranks c.args.round.now.history.now (c.in-Some.place + 1))

pub returns : goal.returns
returns g c =
    let h = c.args.round.now.history.now in
    let made = c.in-Some.place + 1 in
    let same = ap length c.in_ok-group.ensures in
    let size : c.len.result ≡ length (members c.args.round.now.limits.ranks h made) = omega (arith, c.len.ensures, c.in_ok-group.group.ok, same) in
    let shrunk : ℕ → ℕ → Reply g.row.P.Denot = λ context size. Shrunk made context size in
    let by_place : Option ℕ → Reply g.row.P.Denot = λ place. shrunk_reply c.args.round.now.limits.ranks h c.args.mask.bits place in
    let at : position_from (λ (of : ℕ × ℕ). (of.0 == c.args.round.now.comm) && (of.1 == c.args.round.now.number)) 0 (spawns h) ≡ Some c.in-Some.place = sym c.place_made.ensures ∙ c.in-Some.is in
    ap₂ shrunk (lowest_is c.args.mask.bits c.lowest_id.result c.args.mask.fits c.lowest_id.ensures) size ∙ sym (ap by_place at)
