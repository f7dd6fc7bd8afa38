-- How many handles a new world fills in.
use Rattle.std.proofs.Common.{◌≡◌, List, length, ap, sym, ◌∙◌}
use Rattle.std.specs.Prelude.{Option}
use Rattle.std.proofs.lemmas.List.{length-map}
use Rattle.ulfm_model.proofs.RankGroups.{first_length}
use Rattle.ulfm_model.specs.{History.{first_ranks}, Records.{new_record}}
use Rattle.ulfm_model.specs.declared.limits.Limits.{Limits}
use Rattle.ulfm_c.specs.Opens.{Opens}
use Rattle.ulfm_c.specs.declared.party.Party.{Party}
use Rattle.ulfm_c.specs.declared.party.Party.TheVariants.{Rank}
use Rattle.std.specs.declared.option.Option.TheVariants.{Some}

-- a world has a party for each of its ranks
pub party_for_each : (limits : Limits) (outside : Option Party) (parties : List (Option Party)) → Opens limits outside parties → length parties ≡ limits.ranks
party_for_each limits outside parties opened =
    ap length opened.parties_are ∙ (length-map opened.members (λ m. Some (Rank m)) ∙ (sym (length-map opened.members (λ m. m.own))
    ∙ (ap length opened.in_order ∙ (length-map (first_ranks limits.ranks) (new_record limits) ∙ first_length limits.ranks))))
