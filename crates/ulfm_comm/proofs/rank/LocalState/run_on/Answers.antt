use Rattle.std.proofs.Common.{rules, refl, subst}
use Rattle.ulfm_comm.specs.Phase.{IsPast, NextBelow, left}
use Rattle.ulfm_comm.proofs.{Known.{leads_past}, Runs.{turn_ends, turn_goes, turn_stands}}
use Rattle.ulfm_comm.proofs.rank.LocalState.run_on.Goals as goal

pub go-requires-clause-stands : goal.go-requires-clause-stands
go-requires-clause-stands g c = c.loop-next.invariant.still

pub loop-next-init : goal.loop-next-init
loop-next-init g c = record { of = c.requires.of; past = c.requires.past; still = search rules; runs = λ reply new after run. run }

pub loop-next-preserved : goal.loop-next-preserved
loop-next-preserved g c =
    let inv = c.loop-next.invariant in
    let turn = c.go.ensures.turn in
    record {
      of = turn.walks.of;
      past = subst (λ next. IsPast next) c.in-Goes.is (leads_past c.loop-next.phase c.go.result inv.past turn.leads);
      still = turn_stands inv.still inv.past c.in-Goes.is turn;
      runs = λ reply new after run. inv.runs reply new after (turn_goes inv.still inv.past c.in-Goes.is turn run);
    }

pub loop-next-smaller : goal.loop-next-smaller
loop-next-smaller g c = subst (λ next. NextBelow (left c.loop-next.phase) next) c.in-Goes.is (c.go.ensures.turn.further refl)

pub returns-in-Ends : goal.returns-in-Ends
returns-in-Ends g c =
    let inv = c.loop-next.invariant in
    inv.runs _ _ _ (turn_ends inv.still inv.past c.in-Ends.is c.go.ensures.turn)
