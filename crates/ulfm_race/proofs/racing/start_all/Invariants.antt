use Rattle.std.proofs.Common.{◌≡◌, ℕ, ◌+◌, ◌*◌, ◌≤◌, length, vec_capacity}
use Rattle.ulfm_laws.specs.Flags.{flag_meld}
use Rattle.ulfm_words.specs.Steps.{view_of, IsView}
use Rattle.ulfm_comm.specs.Counts.{records_of}
use Rattle.ulfm_race.specs.Races.{flag_pack}
use Rattle.ulfm_race.specs.{Races.{IsNewRank, IsStarted, Numbered, StartIs}, Worked.{steps_of}}
use Rattle.ulfm_race.proofs.racing.start_all.Given as goal

abbrev pub invariant-loop-rank : goal.invariant-loop-rank
invariant-loop-rank g l =
    let plan = l.fn.race.plan in
    let name = l.fn.race.world.now in
    let rest = l.rank-iterator.rest.items in
    (l.race ≡ l.fn.race)
    × IsView flag_meld (view_of flag_pack name l.outside)
    × ((r : ℕ)
    × (r + length rest ≡ length l.fn.ranks.items)
    × Numbered (IsNewRank plan) r (records_of rest)
    × Numbered (λ i one. StartIs (λ h. IsStarted name l.fn.race.said.now l.fn.race.gate.now plan i h.promise) l.outside.seen i one) 0 l.started.items
    × (length l.started.items ≡ r)
    × (length l.fn.ranks.items ≤ vec_capacity l.started))
    × (l.outside.steps ≤ l.fn.outside.steps + steps_of (2 * name.limits.ranks) l.started.items)
