use Rattle.std.proofs.Common.{◌≡◌, drop}
use Rattle.ulfm_filters.specs.RaceLines.{as_lists, reply_at}
use Rattle.ulfm_filters.proofs.race_text.reply_at.Given as goal

abbrev pub invariant-loop-said : goal.invariant-loop-said
invariant-loop-said l = reply_at l.place (as_lists (drop l.said-index l.replies)) ≡ reply_at l.place (as_lists l.replies)
