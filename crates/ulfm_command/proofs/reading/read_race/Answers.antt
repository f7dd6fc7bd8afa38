use Rattle.std.proofs.Common.{rules, ◌≡◌, ◌∙◌, ap, sym, codes, true, false, Some}
use Rattle.clap.specs.Words.{found_of, one_of, rows_of}
use Rattle.ulfm_command.specs.CommandLines.{IsOptional, is_in_range}
use Rattle.ulfm_command.specs.declared.asked.RaceOptions.{RaceOptions}
use Rattle.ulfm_command.proofs.Numbers.{same_race}
use Rattle.ulfm_command.proofs.reading.read_race.Goals as goal

pub returns-else-is_in_range : goal.returns-else-is_in_range
returns-else-is_in_range c =
    let rows = rows_of (found_of c.args.matches.now) in
    let read : RaceOptions = record { ranks = c.in-Ok-Some.ranks; rounds = c.in-Ok-Some-read_number.rounds; fail = c.in-Ok.fail } in
    let ranks : IsOptional 16 (one_of (codes "ranks") rows) (Some c.in-Ok-Some.ranks) = search rules in
    let rounds : IsOptional 16 (one_of (codes "rounds") rows) (Some c.in-Ok-Some-read_number.rounds) = search rules in
    let fail : IsOptional 16 (one_of (codes "fail") rows) c.in-Ok.fail = search rules in
    λ options given.
    let same = same_race rows read options ranks rounds fail given in
    let is : c.is_in_range.result ≡ true = c.is_in_range.ensures ∙ (ap is_in_range same ∙ given.in_range) in
    let bad : false ≡ true = sym c.if-is_in_range.false ∙ is in
    cc
