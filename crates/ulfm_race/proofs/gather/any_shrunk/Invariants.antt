use Rattle.std.proofs.Common.{◌≡◌, drop}
use Rattle.std.specs.List.{list_any}
use Rattle.ulfm_race.specs.Races.{is_shrunk}
use Rattle.ulfm_race.proofs.gather.any_shrunk.Given as goal

abbrev pub invariant-loop-reply : goal.invariant-loop-reply
invariant-loop-reply l = list_any is_shrunk (drop l.reply-index l.replies) ≡ list_any is_shrunk l.fn.replies
