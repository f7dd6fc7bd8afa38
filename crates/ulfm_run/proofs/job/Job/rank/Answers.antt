use Rattle.std.proofs.Common.{◌≡◌, length, map, Some, ap, sym, ◌∙◌, arith}
use Rattle.std.proofs.lemmas.List.{get_or-map, length-map}
use Rattle.ulfm_model.specs.{History.{first_ranks}, Records.{Record}}
use Rattle.ulfm_comm.specs.Counts.{Ranked, records_of}
use Rattle.ulfm_comm.proofs.InOrder.{count_is, rank_found}
use Rattle.ulfm_run.proofs.job.Job.rank.Goals as goal
use Rattle.ulfm_run.proofs.job.Job.rank.Goals.{After-as_slice-ranks}

-- the ranks stand in the order of their numbers
in_order : (g : _) (c : After-as_slice-ranks g) → map (λ (x : Record). x.number) (records_of c.as_slice-ranks.result.now) ≡ first_ranks
    c.self.inside.world.limits.ranks
in_order g c = ap (λ rs. map (λ (x : Record). x.number) (records_of rs)) c.as_slice-ranks.ensures.value ∙ c.self.invariant.sound.numbers

-- there are as many as the world has
count : (g : _) (c : After-as_slice-ranks g) → length c.as_slice-ranks.result.now ≡ c.self.inside.world.limits.ranks
count g c = sym (length-map c.as_slice-ranks.result.now (λ (r : Ranked). r.own)) ∙ count_is c.self.inside.world.limits.ranks
    (records_of c.as_slice-ranks.result.now) (in_order g c)

pub returns-then-number-ranks : goal.returns-then-number-ranks
returns-then-number-ranks g c =
    let all = count g (goal.at.returns-then-number-ranks g c).After-as_slice-ranks in
    rw (← c.self.view_is) (omega (arith, all, c.if-number-ranks.true))

pub returns : goal.returns
returns g c =
    let limits = c.self.inside.world.limits in
    let ranks = c.as_slice-ranks.result.now in
    let at = (goal.at.returns g c).After-as_slice-ranks in
    let found = rank_found limits.ranks (records_of ranks) (in_order g at) c.args.number c.index-ranks-number.result.own
    (omega (arith, length-map ranks (λ (r : Ranked). r.own), c.if-number-ranks.false)) in
    let is = get_or-map (λ (r : Ranked). r.own) ranks c.args.number c.index-ranks-number.result c.index-ranks-number.result.own c.if-number-ranks.false in
    rw (← c.self.view_is) (rw c.as_slice-ranks.ensures.value at (found ∙ ap Some (is ∙ ap (λ (r : Ranked). r.own) (sym c.index-ranks-number.is))))
