-- The lines that replies are printed as.
use Rattle.std.specs.Prelude.{◌≡◌, ℕ, Bool, true, false, List, [], ◌∷◌, ◌++◌, codes}
use Rattle.std.specs.Fmt.{decimal}
use Rattle.ulfm_laws.specs.declared.flag_and.FlagAnd.{FlagAnd}
use Rattle.ulfm_model.specs.declared.reply.Reply.{Reply}
use Rattle.ulfm_model.specs.declared.reply.Reply.TheVariants as reply
use Rattle.ulfm_model.specs.declared.refusal.Refusal.{Refusal}
use Rattle.ulfm_model.specs.Answers.{printed}
use Rattle.ulfm_script.specs.Digits.{flag_text}

-- each rank of a group behind a space
abbrev pub ranks_text : List ℕ → List ℕ
ranks_text [] = []
ranks_text (rank ∷ group) = 32 ∷ (decimal rank ++ ranks_text group)

-- a failed group, in order
abbrev pub failed_text : List ℕ → List ℕ
failed_text [] = codes "failed none"
failed_text (rank ∷ group) = codes "failed" ++ ranks_text (rank ∷ group)

-- whether an agree raises an error
abbrev pub error_text : Bool → List ℕ
error_text true = codes " raised"
error_text false = codes " clean"

-- what was agreed on
abbrev pub agreed_text : FlagAnd → ℕ → Bool → List ℕ
agreed_text value failed raised = codes "agreed " ++ (flag_text value ++ (codes " failed " ++ (decimal failed ++ error_text raised)))

-- a new communicator, with its context id and its members
abbrev pub shrunk_text : ℕ → ℕ → List ℕ → List ℕ
shrunk_text comm context group = codes "shrunk " ++ (decimal comm ++ (codes " context " ++ (decimal context ++ (codes " members" ++ ranks_text group))))

-- how many failures are acknowledged
abbrev pub acked_text : ℕ → List ℕ
acked_text count = codes "acked " ++ decimal count

-- whether a communicator is revoked
abbrev pub standing_text : Bool → List ℕ
standing_text true = codes "yes"
standing_text false = codes "no"

-- a refusal's number and name
abbrev pub refused_text : Refusal → List ℕ
refused_text refusal = codes "refused " ++ (decimal (printed refusal).0 ++ 32 ∷ (printed refusal).1)

-- a reply, with the group that it is about: a communicator's failed group or its members
abbrev pub reply_text : List ℕ → Reply FlagAnd → List ℕ
reply_text group reply.Started = codes "started"
reply_text group reply.Pending = codes "pending"
reply_text group (reply.Agreed raised failed value) = agreed_text value failed raised
reply_text group (reply.Shrunk comm context size) = shrunk_text comm context group
reply_text group reply.Done = codes "done"
reply_text group (reply.FailedGroup count) = failed_text group
reply_text group (reply.Acked count) = acked_text count
reply_text group reply.Declared = codes "declared"
reply_text group reply.AlreadyFailed = codes "already-failed"
reply_text group reply.Revoked = codes "revoked"
reply_text group reply.AlreadyRevoked = codes "already-revoked"
reply_text group (reply.Standing revoked) = standing_text revoked
reply_text group reply.Freed = codes "freed"
reply_text group (reply.Refused refusal) = refused_text refusal

-- whether a reply is about a group
abbrev pub is_of_group : Reply FlagAnd → Bool
is_of_group (reply.Shrunk comm context size) = true
is_of_group (reply.FailedGroup count) = true
is_of_group _ = false

-- it is the line of this reply, whatever the group
abbrev pub IsLineOf : List ℕ → Reply FlagAnd → Type 0
IsLineOf line told = (group : List ℕ) → line ≡ reply_text group told ++ 10 ∷ []
