use Rattle.std.proofs.Common.{◌≡◌, ℕ, ◌+◌, ◌<◌, ◌≤◌, map, length, vec_capacity, vec_len, Some, None}
use mathlib.Core.List.{IsPrefix}
use Rattle.ulfm_laws.specs.Flags.{flag_meld}
use Rattle.ulfm_words.specs.Steps.{view_of, IsView}
use Rattle.ulfm_race.specs.declared.plan.RaceFault.{RaceFault}
use Rattle.ulfm_race.specs.Races.{EndsFor, IsEnded, IsGathered, IsStarted, Numbered, StartIs, WasLet, flag_pack}
use Rattle.ulfm_race.proofs.gather.hear_all.Given as goal

abbrev pub invariant-loop-one : goal.invariant-loop-one
invariant-loop-one g l =
    let plan = l.fn.gathered.plan in
    let name = l.fn.world in
    let rest = l.one-iterator.rest.items in
    (l.world ≡ l.fn.world)
    × (l.gate ≡ l.fn.gate)
    × (l.plan ≡ plan)
    × (l.gathered.plan ≡ plan)
    × IsView flag_meld (view_of flag_pack name l.outside)
    × IsPrefix l.fn.outside.seen l.outside.seen
    × (vec_capacity l.gathered.replies ≡ plan.ranks)
    × ((fault : RaceFault) → l.gathered.fault ≡ Some fault → EndsFor plan (g.G.Gate.may_say l.fn.gate) fault)
    × ((r : ℕ)
    × (r + length rest ≡ plan.ranks)
    × (vec_len l.gathered.replies ≤ r)
    × (l.gathered.fault ≡ None → Numbered (λ i v. WasLet (g.G.Gate.may_say l.fn.gate i) v.items) 0 l.gathered.replies.items × (length l.gathered.replies.items ≡ r))
    × Numbered (λ i one. StartIs (λ h. IsStarted name l.fn.said l.fn.gate plan i h.promise) l.outside.seen i one) r rest
    × IsGathered plan l.outside.seen r (map (λ v. v.items) l.gathered.replies.items) l.gathered.group.items l.gathered.fault
    × ((i : ℕ) → i < r → IsEnded plan l.outside.seen i))
    × (l.outside.steps ≡ l.fn.outside.steps)
    × (l.said ≡ l.fn.said)
