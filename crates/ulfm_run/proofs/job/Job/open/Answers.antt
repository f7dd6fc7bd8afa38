use Rattle.std.proofs.Common.{[], List, ap, ◌∙◌}
use Rattle.std.proofs.Common.{◌≡◌, length}
use Rattle.std.specs.List.{Contains}
use Rattle.ulfm_words.specs.Steps.{Name}
use Rattle.std.proofs.Common.{arith}
use Rattle.ulfm_model.specs.declared.limits.Limits.{Limits}
use Rattle.ulfm_model.specs.{History.{History, first_ranks}, Records.{Record}, Runs.{State}}
use Rattle.ulfm_model.proofs.LeftSound.{new_sound}
use Rattle.ulfm_words.specs.Steps.{over, view_of}
use Rattle.ulfm_comm.specs.Counts.{records_of}
use Rattle.ulfm_comm.proofs.Opening.{records_are}
use Rattle.ulfm_run.proofs.job.Job.open.Goals as goal

-- nothing is among none
none_tried : {X : Type 0} (xs : List X) (x : X) → xs ≡ [] → Contains xs x → ⊥
none_tried xs x none has = let below = has.1 in let few : length xs ≡ 0 = ap length none in omega (arith, below, few)

pub invariant_of-result : goal.invariant_of-result
invariant_of-result g c =
    let limits = (g.W.Words.name c.args.words).limits in
    rw (c.in_ok-world.ensures.world, c.in_ok-world.ensures.ranks, records_are limits (first_ranks limits.ranks)) (record {
      of = rw c.in_ok-world.ensures.world at c.in-Ok.ensures.of;
      sound = rw c.in-Ok.ensures.seen (new_sound g.P.Meld.meld limits);
      wings = λ here i k r tried. absurd (none_tried (g.W.Words.sight c.in-Ok.pass).caches _ c.in-Ok.ensures.caches tried);
    })

pub returns : goal.returns
returns g c =
    let limits = (g.W.Words.name c.args.words).limits in
    let seen = (g.W.Words.sight c.in-Ok.pass).seen in
    let records = records_of c.in_ok-world.ranks.items in
    let state : Limits → History g.row.P.Denot → List Record → State g.row.P.Denot = λ l h rs. record { limits = l; history = h; records = rs } in
    ap (λ (n : Name). state n.limits seen records) c.in_ok-world.ensures.world
    ∙ (ap (λ h. state limits h records) c.in-Ok.ensures.seen ∙ ap (state limits [])
    (ap records_of c.in_ok-world.ensures.ranks ∙ records_are limits (first_ranks limits.ranks)))
