-- What replies say of their calls.
use Rattle.std.specs.Prelude.{Bool, true, false, if◌then◌else◌}
use Rattle.ulfm_laws.specs.declared.flag_and.FlagAnd.{FlagAnd}
use Rattle.ulfm_model.specs.declared.{refusal.Refusal.{Refusal}, reply.Reply.{Reply}}
use Rattle.ulfm_story.specs.declared.bars.Tone.{Tone}

-- what a call came to, by its reply
abbrev pub tone_of : Reply FlagAnd → Tone
tone_of Reply.Started = Tone.Started
tone_of Reply.Pending = Tone.Pending
tone_of (Reply.Agreed raised count value) = if raised then Tone.Raised else Tone.Answered
tone_of (Reply.Refused refusal) = Tone.Refused
tone_of _ = Tone.Answered

-- whether a refusal is what a round decided for all: flags and ids met, no id was free, or no number was left
abbrev pub is_round_refusal : Refusal → Bool
is_round_refusal Refusal.Mismatch = true
is_round_refusal Refusal.NoContext = true
is_round_refusal Refusal.NoRoom = true
is_round_refusal _ = false

-- .. a reply; that a rank had no memory is no decision
abbrev pub is_of_round : Reply FlagAnd → Bool
is_of_round (Reply.Agreed raised count value) = true
is_of_round (Reply.Shrunk comm context size) = true
is_of_round (Reply.Refused refusal) = is_round_refusal refusal
is_of_round _ = false
