use Rattle.std.proofs.Common.{◌≡◌, false}
use Rattle.ulfm_model.specs.{Records.{Record}, declared.reply.Reply.{Reply}}
use Rattle.ulfm_words.specs.Steps.{over, IsView, Sight, view_at}
use Rattle.ulfm_comm.specs.{Local.{local}, Phase.{StillStands, is_looking, left, under_way}, Step.{RunsOn}}
use Rattle.ulfm_comm.proofs.rank.LocalState.run_on.Given as goal

-- the call stands in its phase, and whatever it runs on to from there it runs on to from its beginning
abbrev pub invariant-loop-next : goal.invariant-loop-next
invariant-loop-next g l =
    let name = over g.P.Packed.pack (g.W.Words.name l.words) in
    let start = g.W.Words.sight l.initial.pass in
    let now = g.W.Words.sight l.pass in
    record {
      of : IsView g.P.Meld.meld (view_at name now);
      past : is_looking l.phase ≡ false;
      still : StillStands g.P.Meld.meld (under_way l.asked l.phase l.prepared) (local l.self (view_at name now));
      runs : (reply : Reply g.row.P.Denot) (new : Record) (after : Sight g.row.P.Denot)
          → RunsOn g.P.Meld.meld g.W.Words.alone (under_way l.asked l.phase l.prepared) (local l.self (view_at name now)) reply (local new (view_at name after))
          → RunsOn g.P.Meld.meld g.W.Words.alone (under_way l.asked l.initial.phase l.initial.prepared) (local l.initial.self (view_at name start)) reply (local new (view_at name after));
    }

abbrev pub decreases-loop-next : goal.decreases-loop-next
decreases-loop-next g l = left l.phase
