-- What two ranks' own lines of a log tell of one round of the world's communicator, and when no legal trace has both.
use Rattle.std.specs.Prelude.{ℕ, ◌-◌, ◌==◌, ◌&&◌, ◌||◌, nat_lt, Bool, true, false, not, List, [], ◌∷◌, filter, Option, Some, None, if◌then◌else◌}
use Rattle.std.specs.{Option.{option_map_or}, Prelude.{bit_and}}
use Rattle.ulfm_laws.specs.declared.flag_and.FlagAnd.{FlagAnd}
use Rattle.ulfm_model.specs.declared.call.Call.{Call}
use Rattle.ulfm_model.specs.declared.call.Call.TheVariants as call
use Rattle.ulfm_model.specs.declared.event.Caller.TheVariants.{Rank}
use Rattle.ulfm_model.specs.declared.reply.Reply.TheVariants.{Started, Pending, Done, Refused}
use Rattle.ulfm_observed.specs.declared.log.{Item.{Item}, Item.TheVariants.{Called, Replied, Lost}, Log.{Log}}
use Rattle.ulfm_observed.specs.declared.log.{Seen.{Seen}, Seen.TheVariants.{Agreed, Shrunk, Whole}}
use Rattle.ulfm_observed.specs.declared.{shows.Whose.TheVariants.{Of}, step.Step.{Step}}
use Rattle.ulfm_observed.specs.{Explains.{Explains, is_heard_by, is_lost}, LogTexts.{Heard}}
use Rattle.ulfm_observed.specs.declared.walk.Walk.{Walk}

-- nothing of a rank's lines was read: so many rounds come before the one that is asked for
abbrev pub new_walk : ℕ → Walk
new_walk round = record { under_way = None; left = Some round; gave = None; waits = false; told = None }

-- whether the next round is the one that is asked for
abbrev pub is_due : Option ℕ → Bool
is_due None = false
is_due (Some left) = left == 0

-- how many rounds come before it, after one more was begun; none where it is begun or past
abbrev pub one_less : Option ℕ → Option ℕ
one_less None = None
one_less (Some left) = if left == 0 then None else Some (left - 1)

-- a rank behind a start that was answered `started`
abbrev pub begun : Call FlagAnd → Walk → Walk
begun (call.Agree r c flag) walk =
    if c == 0 then record walk { left = one_less walk.left; gave = if is_due walk.left then Some flag else walk.gave; waits = is_due walk.left } else walk
begun (call.Shrink r c) walk = if c == 0 then record walk { left = one_less walk.left; waits = false } else walk
begun (call.Barrier r c) walk = if c == 0 then record walk { waits = false } else walk
begun asked walk = walk

-- whether a log tells that a start was answered `started`
abbrev pub is_started : Seen → Bool
is_started (Whole Started) = true
is_started seen = false

-- whether it tells a refusal
abbrev pub is_refused : Seen → Bool
is_refused (Whole (Refused why)) = true
is_refused seen = false

-- a rank behind the reply to another call; after a refusal nothing more is concluded
abbrev pub went_on : Seen → Walk → Option Walk
went_on seen walk = if is_refused seen then None else Some walk

-- a rank behind the reply to its poll on the world's communicator
abbrev pub polled_world : Seen → Walk → Option Walk
polled_world (Agreed value failed raised) walk =
    Some (record walk { waits = false; told = if walk.waits then Some (Agreed value failed raised) else walk.told })
polled_world (Shrunk comm context) walk = Some (record walk { waits = false })
polled_world (Whole Done) walk = Some (record walk { waits = false })
polled_world (Whole Pending) walk = Some walk
polled_world seen walk = None

-- a rank behind the reply to its poll
abbrev pub polled : ℕ → Seen → Walk → Option Walk
polled c seen walk = if c == 0 then polled_world seen walk else went_on seen walk

-- a rank behind the reply to a start: `started`, or that of the poll behind it
abbrev pub start_answered : ℕ → Call FlagAnd → Seen → Walk → Option Walk
start_answered c asked seen walk = if is_started seen then Some (begun asked walk) else polled c seen (begun asked walk)

-- a rank behind the reply to its call
abbrev pub answered : Call FlagAnd → Seen → Walk → Option Walk
answered (call.Agree r c flag) seen walk = start_answered c (call.Agree r c flag) seen walk
answered (call.Shrink r c) seen walk = start_answered c (call.Shrink r c) seen walk
answered (call.Barrier r c) seen walk = start_answered c (call.Barrier r c) seen walk
answered (call.Poll r c) seen walk = polled c seen walk
answered (call.Free r c) seen walk = if c == 0 then None else went_on seen walk
answered (call.Fail r) seen walk = None
answered asked seen walk = went_on seen walk

-- a rank behind its call
abbrev pub called : Call FlagAnd → Walk → Option (Call FlagAnd) → Option Walk
called asked walk None = Some (record walk { under_way = Some asked })
called asked walk (Some other) = None

-- a rank behind a reply to its open call
abbrev pub replied : Seen → Walk → Option (Call FlagAnd) → Option Walk
replied seen walk None = None
replied seen walk (Some asked) = answered asked seen (record walk { under_way = None })

-- a rank behind a line of its own
abbrev pub passed : Item → Walk → Option Walk
passed (Called asked padded) walk = called asked walk walk.under_way
passed (Replied by seen) walk = replied seen walk walk.under_way
passed (Lost r) walk = None

-- a rank behind lines of its own, up to the first behind which nothing more is concluded
abbrev pub walked : List Heard → Walk → Walk
walked [] walk = walk
walked (heard ∷ log) walk = option_map_or (walked log) (passed heard.item walk) walk

-- what a rank's own lines tell of a round
abbrev pub walk_of : ℕ → ℕ → List Heard → Walk
walk_of r round log = walked (filter (λ heard. is_heard_by (Of (Rank r)) heard.item) log) (new_walk round)

-- whether two flags, two numbers and two errors were logged and differ
abbrev pub flags_differ : Option FlagAnd → Option FlagAnd → Bool
flags_differ (Some one) (Some other) = not (one.bits == other.bits)
flags_differ one other = false

abbrev pub counts_differ : Option ℕ → Option ℕ → Bool
counts_differ (Some one) (Some other) = not (one == other)
counts_differ one other = false

abbrev pub errors_differ : Bool → Bool → Bool
errors_differ true raised = not raised
errors_differ false raised = raised

-- whether two ranks were told two decisions
abbrev pub decisions_differ : Option Seen → Option Seen → Bool
decisions_differ (Some (Agreed one few clean)) (Some (Agreed other many raised)) =
    flags_differ one other || (counts_differ few many || errors_differ clean raised)
decisions_differ one other = false

-- whether a value has a bit that a flag lacks
abbrev pub exceeds : Option FlagAnd → Option FlagAnd → Bool
exceeds (Some value) (Some flag) = not (bit_and value.bits flag.bits == value.bits)
exceeds value flag = false

-- whether a rank was told a value with a bit that another's flag lacks
abbrev pub told_exceeds : Option Seen → Option FlagAnd → Bool
told_exceeds (Some (Agreed value failed raised)) flag = exceeds value flag
told_exceeds told flag = false

-- whether what two ranks' lines tell of one round can't stand together
abbrev pub walks_clash : Walk → Walk → Bool
walks_clash one other = decisions_differ one.told other.told || (told_exceeds one.told other.gave || told_exceeds other.told one.gave)

-- the rank is one of the world's, and no line tells that the end of its lines was lost
abbrev pub is_whole : ℕ → ℕ → List Heard → Bool
is_whole ranks r log = nat_lt r ranks && not (is_lost r log)

-- whether the lines of two ranks tell of one round what no legal trace has
abbrev pub clash_in : ℕ → List Heard → ℕ → ℕ → ℕ → Bool
clash_in ranks log one other round =
    is_whole ranks one log && (is_whole ranks other log && walks_clash (walk_of one round log) (walk_of other round log))

-- no trace explains the log
abbrev pub IsRefuted : {A : Type 0} → Log A → Type 0
IsRefuted {A} log = (steps : List (Step A)) → Explains log steps → ⊥
