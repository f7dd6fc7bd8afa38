use Rattle.std.proofs.Common.{◌≡◌, ◌++◌, [], map}
use Rattle.std.specs.Arc.{arc_value}
use Rattle.std.specs.List.{AllByRecursion}
use Rattle.ulfm_model.specs.Records.{Fits}
use Rattle.ulfm_comm.specs.Counts.{records_of}
use Rattle.ulfm_wait.specs.Members.{IsNewMember}
use Rattle.ulfm_wait.proofs.members.members_of.Given as goal

abbrev pub invariant-loop-rank : goal.invariant-loop-rank
invariant-loop-rank g l =
    let name = arc_value l.fn.world in
    (map (λ m. m.own) l.all.items ++ records_of l.rank-iterator.rest.items ≡ records_of l.fn.ranks.items)
    × AllByRecursion (IsNewMember g.P.Meld.meld g.P.Packed.pack name) l.all.items
    × AllByRecursion (Fits g.P.Meld.meld name.limits []) (records_of l.rank-iterator.rest.items)
    × AllByRecursion (λ r. r.last ≡ 0) l.rank-iterator.rest.items
