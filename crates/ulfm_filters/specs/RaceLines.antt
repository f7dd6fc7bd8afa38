-- The lines that a race prints, by what its ranks were answered.
use Rattle.std.specs.Prelude.{ℕ, zero, suc, List, [], ◌∷◌, ◌++◌, map, slice_get, Option, Some, None, codes, Vec}
use Rattle.std.specs.Fmt.{decimal}
use Rattle.ulfm_laws.specs.declared.flag_and.FlagAnd.{FlagAnd}
use Rattle.ulfm_model.specs.declared.reply.Reply.{Reply}
use Rattle.ulfm_model.specs.declared.reply.Reply.TheVariants.{Refused}
use Rattle.ulfm_script.specs.Printed.{reply_text}

-- for each rank, its replies in order
abbrev pub AllReplies : Type 0
AllReplies = List (List (Reply FlagAnd))

-- the same of the vectors that hold them
abbrev pub as_lists : {A : Type 0} → List (Vec (Reply FlagAnd) A) → AllReplies
as_lists {A} replies = map (λ (said : Vec (Reply FlagAnd) A). said.items) replies

-- a reply, unless it is a refusal
abbrev pub standing : Option (Reply FlagAnd) → Option (Reply FlagAnd)
standing None = None
standing (Some (Refused refusal)) = None
standing (Some reply) = Some reply

-- a reply, or else what comes next
abbrev pub or_next : Option (Reply FlagAnd) → Option (Reply FlagAnd) → Option (Reply FlagAnd)
or_next None next = next
or_next (Some reply) next = Some reply

-- the reply at this place of the first rank that has one there which isn't a refusal
abbrev pub reply_at : ℕ → AllReplies → Option (Reply FlagAnd)
reply_at place [] = None
reply_at place (said ∷ rest) = or_next (standing (slice_get said place)) (reply_at place rest)

-- a reply as it is printed, or this text where there is none
abbrev pub shown_text : List ℕ → List ℕ → Option (Reply FlagAnd) → List ℕ
shown_text nobody group None = nobody
shown_text nobody group (Some reply) = reply_text group reply

-- the line of round k
abbrev pub round_text : ℕ → AllReplies → List ℕ
round_text k replies = codes "round " ++ (decimal k ++ (32 ∷ (shown_text (codes "nobody") [] (reply_at k replies) ++ 10 ∷ [])))

-- the lines of the first rounds
abbrev pub rounds_text : ℕ → AllReplies → List ℕ
rounds_text zero replies = []
rounds_text (suc k) replies = rounds_text k replies ++ round_text k replies

-- the lines of a race: of its rounds, and of the shrink that comes behind them, which made a communicator with this group
abbrev pub race_text : ℕ → AllReplies → List ℕ → List ℕ
race_text rounds replies group = rounds_text rounds replies ++ (shown_text (codes "shrink nobody") group (reply_at rounds replies) ++ 10 ∷ [])
