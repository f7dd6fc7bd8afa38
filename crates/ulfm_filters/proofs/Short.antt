-- Texts of lines are short, and have no newline in them.
use Rattle.std.proofs.Common.{◌≡◌, ℕ, ◌+◌, ◌*◌, ◌<◌, ◌≤◌, ◌==◌, Bool, true, false, not, List, [], ◌∷◌, ◌++◌, length, Some, None, refl, subst, arith}
use Rattle.std.specs.{Prelude.{codes}, Fmt.{decimal}, List.{list_all}}
use Rattle.std.proofs.lemmas.{Fmt.{digits_decimal, length-decimal-le}}
use Rattle.ulfm_laws.specs.declared.flag_and.FlagAnd.{FlagAnd}
use Rattle.ulfm_model.specs.declared.{contribution.Offer.{Offer}, contribution.Offer.TheVariants.{Flag, Ctx}, event.Caller.{Caller}, event.Caller.TheVariants.{Outside, Rank}, limits.Limits.{Limits}}
use Rattle.ulfm_model.specs.declared.{event.Event.TheVariants.{Fail, Settle, Mark, Arrive, Revoke, Spawn}, refusal.Refusal.{Refusal}, reply.Reply.{Reply}}
use Rattle.ulfm_model.specs.declared.refusal.Refusal.TheVariants as refusal
use Rattle.ulfm_model.specs.declared.reply.Reply.TheVariants as reply
use Rattle.ulfm_model.specs.{Words.{MayOpen}}
use Rattle.ulfm_script.specs.declared.header_kind.HeaderKind.TheVariants.{Trace}
use Rattle.ulfm_script.specs.{Calls.{ScriptCall}, Digits.{flag_text}, Headers.{header_text}, Printed.{failed_text, ranks_text, refused_text, reply_text, shrunk_text}, Spelling.{IsSpelledAs, spelled_text}}
use Rattle.ulfm_script.proofs.{Numerals.{own}, Short.{Short, digits_free, header_short as any_header_short, joins, line_short as spelling_short, lit, none, num, spaced, spelled_short, wider}, Spelled.{spelled_as}}
use Rattle.ulfm_script.specs.declared.version.Version.TheVariants.{First}
use Rattle.ulfm_model.specs.declared.line.Line.TheVariants.{Called, Looked, Happened, Replied}
use Rattle.ulfm_lines.specs.{LineTexts.{TraceEvent, TraceLine, caller_text, event_text, given_text, line_text, mask_flag, offer_text, place_text}, Telling.{AreRanks, CallerFits, EventFits, LineFits, PlaceFits, ReplyFits}}

point : (n : ℕ) → n < 10000000 → Short 7 (decimal n)
point n lt = record { few = length-decimal-le 7 n (omega arith) (omega (arith, lt)) (omega (arith, lt)); free = digits_free (decimal n) (digits_decimal own n (omega (arith, lt))) }

flag_short : (flag : FlagAnd) → Short 16 (flag_text flag)
flag_short flag = spelled_short false flag

-- ranks, each behind a space
ranks_short : (group : List ℕ) → AreRanks group → Short (5 * length group) (ranks_text group)
ranks_short [] all = none
ranks_short (r ∷ group) all = wider (spaced (joins (num r (let lt = all.0 in omega (arith, lt))) (ranks_short group all.1))) (omega arith)

-- callers and places
caller_short : (by : Caller) → CallerFits by → Short 4 (caller_text by)
caller_short Outside fits = wider (lit (codes "-") refl) (omega arith)
caller_short (Rank r) fits = num r (omega (arith, fits))

place_short : (a b c : ℕ) → a < 10000 → b < 10000 → c < 10000 → Short 14 (place_text a b c)
place_short a b c x y z = joins (num a x) (spaced (joins (num b y) (spaced (num c z))))

-- a call
call_short : (padded : Bool) (asked : ScriptCall) → IsSpelledAs padded asked → Short 44 (spelled_text padded asked)
call_short padded asked is = subst (Short 44) (spelled_as padded is.0 asked is.1) (spelling_short First is.0 asked is.1.spells)

-- an event
offer_short : (offer : Offer FlagAnd) → Short 21 (offer_text offer)
offer_short (Flag flag) = joins (lit (codes "flag ") refl) (flag_short flag)
offer_short (Ctx mask) = wider (joins (lit (codes "ctx ") refl) (flag_short (mask_flag mask))) (omega arith)

given_short : (offer : Offer FlagAnd) (known acked : ℕ) → known < 10000 → acked < 10000 → Short 48 (given_text offer known acked)
given_short offer known acked x y =
    wider (joins (offer_short offer) (joins (lit (codes " known ") refl) (joins (num known x) (joins (lit (codes " acked ") refl) (num acked y))))) (omega arith)

at_place : (c k r : ℕ) → PlaceFits c k r → Short 14 (place_text c k r)
at_place c k r fits = let x = fits.0 in let z = fits.1.1 in place_short c k r (omega (arith, x)) fits.1.0 (omega (arith, z))

event_short : (event : TraceEvent) → EventFits event → Short 80 (event_text event)
event_short (Fail r) fits = wider (joins (lit (codes "fail ") refl) (num r (omega (arith, fits)))) (omega arith)
event_short (Settle c k r given) fits =
    let known : given.known.count < 10000 = omega (arith, given.known.in_range) in
    let acked : given.acked.count < 10000 = omega (arith, given.within, given.known.in_range) in
    wider (joins (lit (codes "settle ") refl) (joins (at_place c k r fits) (spaced (given_short given.offer given.known.count given.acked.count known acked)))) (omega arith)
event_short (Mark c k r mark) fits =
    let known : mark.known.count < 10000 = omega (arith, mark.known.in_range) in
    wider (joins (lit (codes "mark ") refl) (joins (at_place c k r fits) (joins (lit (codes " known ") refl) (num mark.known.count known)))) (omega arith)
event_short (Arrive c k r) fits = wider (joins (lit (codes "arrive ") refl) (at_place c k r fits)) (omega arith)
event_short (Revoke c) fits = wider (joins (lit (codes "revoke ") refl) (num c (omega (arith, fits)))) (omega arith)
event_short (Spawn j c k) fits =
    let x = fits.0 in let y = fits.1.0 in
    wider (joins (lit (codes "spawn ") refl) (place_short j c k (omega (arith, x)) (omega (arith, y)) fits.1.1)) (omega arith)

-- a refusal
refusal_short : (number : ℕ) (name : List ℕ) → number < 10000 → Short 20 name → Short 40 (codes "refused " ++ (decimal number ++ 32 ∷ name))
refusal_short number name lt short = wider (joins (lit (codes "refused ") refl) (joins (num number lt) (spaced short))) (omega arith)

refused_short : (one : Refusal) → Short 40 (refused_text one)
refused_short refusal.SelfFailed = refusal_short 1 (codes "self-failed") (omega arith) (wider (lit (codes "self-failed") refl) (omega arith))
refused_short refusal.NoSuchComm = refusal_short 2 (codes "no-such-comm") (omega arith) (wider (lit (codes "no-such-comm") refl) (omega arith))
refused_short refusal.Busy = refusal_short 3 (codes "busy") (omega arith) (wider (lit (codes "busy") refl) (omega arith))
refused_short refusal.ShrinkOpen = refusal_short 4 (codes "shrink-open") (omega arith) (wider (lit (codes "shrink-open") refl) (omega arith))
refused_short refusal.RoundsUsedUp = refusal_short 5 (codes "rounds-used-up") (omega arith) (wider (lit (codes "rounds-used-up") refl) (omega arith))
refused_short refusal.Idle = refusal_short 6 (codes "idle") (omega arith) (wider (lit (codes "idle") refl) (omega arith))
refused_short refusal.Mismatch = refusal_short 7 (codes "mismatch") (omega arith) (wider (lit (codes "mismatch") refl) (omega arith))
refused_short refusal.NoContext = refusal_short 8 (codes "no-context") (omega arith) (wider (lit (codes "no-context") refl) (omega arith))
refused_short refusal.NoRoom = refusal_short 9 (codes "no-room") (omega arith) (wider (lit (codes "no-room") refl) (omega arith))
refused_short refusal.IsRevoked = refusal_short 10 (codes "is-revoked") (omega arith) (wider (lit (codes "is-revoked") refl) (omega arith))
refused_short refusal.ProcFailed = refusal_short 11 (codes "proc-failed") (omega arith) (wider (lit (codes "proc-failed") refl) (omega arith))
refused_short refusal.WorldKept = refusal_short 12 (codes "world-kept") (omega arith) (wider (lit (codes "world-kept") refl) (omega arith))
refused_short refusal.NoSuchRank = refusal_short 13 (codes "no-such-rank") (omega arith) (wider (lit (codes "no-such-rank") refl) (omega arith))
refused_short refusal.OutOfMemory = refusal_short 14 (codes "out-of-memory") (omega arith) (wider (lit (codes "out-of-memory") refl) (omega arith))
refused_short refusal.Twice = refusal_short 15 (codes "twice") (omega arith) (wider (lit (codes "twice") refl) (omega arith))

-- a reply, which lists at most 1,024 ranks
raised_short : (value : FlagAnd) (count : ℕ) (raised : Bool) → count < 10000 → Short 48 (reply_text [] (reply.Agreed raised count value))
raised_short value count true lt = wider (joins (lit (codes "agreed ") refl) (joins (flag_short value) (joins (lit (codes " failed ") refl) (joins (num count lt) (lit (codes " raised") refl))))) (omega arith)
raised_short value count false lt = wider (joins (lit (codes "agreed ") refl) (joins (flag_short value) (joins (lit (codes " failed ") refl) (joins (num count lt) (lit (codes " clean") refl))))) (omega arith)

members_short : (comm context : ℕ) (group : List ℕ) → comm < 10000 → context < 10000 → AreRanks group → Short (32 + 5 * length group) (shrunk_text comm context group)
members_short comm context group x y all =
    wider (joins (lit (codes "shrunk ") refl) (joins (num comm x) (joins (lit (codes " context ") refl) (joins (num context y) (joins (lit (codes " members") refl) (ranks_short group all)))))) (omega arith)

failed_short : (group : List ℕ) → AreRanks group → Short (11 + 5 * length group) (failed_text group)
failed_short [] all = wider (lit (codes "failed none") refl) (omega arith)
failed_short (r ∷ group) all = wider (joins (lit (codes "failed") refl) (ranks_short (r ∷ group) all)) (omega arith)

word_short : (xs : List ℕ) → list_all (λ x. not (x == 10)) xs ≡ true → length xs ≤ 40 → Short 6000 xs
word_short xs free few = wider (lit xs free) (omega (arith, few))

reply_short : (group : List ℕ) (told : Reply FlagAnd) → ReplyFits told group → length group ≤ 1024 → Short 6000 (reply_text group told)
reply_short group reply.Started fits few = word_short (codes "started") refl (omega arith)
reply_short group reply.Pending fits few = word_short (codes "pending") refl (omega arith)
reply_short group (reply.Agreed raised count value) fits few = wider (raised_short value count raised fits.0) (omega arith)
reply_short group (reply.Shrunk comm context size) fits few =
    let x = fits.0 in let y = fits.1 in
    wider (members_short comm context group (omega (arith, x)) (omega (arith, y)) fits.4) (omega (arith, few))
reply_short group reply.Done fits few = word_short (codes "done") refl (omega arith)
reply_short group (reply.FailedGroup count) fits few = wider (failed_short group fits.1) (omega (arith, few))
reply_short group (reply.Acked count) fits few = wider (joins (lit (codes "acked ") refl) (num count fits.0)) (omega arith)
reply_short group reply.Declared fits few = word_short (codes "declared") refl (omega arith)
reply_short group reply.AlreadyFailed fits few = word_short (codes "already-failed") refl (omega arith)
reply_short group reply.Revoked fits few = word_short (codes "revoked") refl (omega arith)
reply_short group reply.AlreadyRevoked fits few = word_short (codes "already-revoked") refl (omega arith)
reply_short group (reply.Standing true) fits few = word_short (codes "yes") refl (omega arith)
reply_short group (reply.Standing false) fits few = word_short (codes "no") refl (omega arith)
reply_short group reply.Freed fits few = word_short (codes "freed") refl (omega arith)
reply_short group (reply.Refused one) fits few = wider (refused_short one) (omega arith)

-- a line that fits, and lists at most 1,024 ranks
pub line_short : (group : List ℕ) (line : TraceLine) → LineFits group line → length group ≤ 1024 → Short 8192 (line_text group line)
line_short group (Called asked padded) fits few = wider (joins (lit (codes "call ") refl) (call_short padded asked fits.0)) (omega arith)
line_short group (Looked r count) fits few =
    let x = fits.0 in wider (joins (lit (codes "look ") refl) (joins (num r (omega (arith, x))) (spaced (num count fits.1)))) (omega arith)
line_short group (Happened by None) fits few = absurd fits
line_short group (Happened by (Some event)) fits few =
    wider (joins (lit (codes "event ") refl) (joins (caller_short by fits.0) (spaced (event_short event fits.1)))) (omega arith)
line_short group (Replied by at None) fits few = absurd fits
line_short group (Replied by at (Some told)) fits few =
    wider (joins (lit (codes "reply ") refl) (joins (caller_short by fits.0) (spaced (joins (point at fits.1) (spaced (reply_short group told fits.2 few)))))) (omega arith)

-- a header
pub header_short : (limits : Limits) → MayOpen limits → Short 8192 (header_text Trace limits)
header_short limits wide = wider (any_header_short Trace limits wide) (omega arith)
