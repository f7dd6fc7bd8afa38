-- What is told of a stored log: the history that it makes, line by line.
use Rattle.std.specs.Prelude.{◌≡◌, ◌≢◌, ℕ, Bool, true, false, IfSome, List, [], ◌∷◌, ◌++◌, length, ⊤}
use Rattle.ulfm_laws.specs.{Flags.{flag_meld}, declared.flag_and.FlagAnd.{FlagAnd}}
use Rattle.ulfm_model.specs.declared.{event.Entry.{Entry}, limits.Limits.{Limits}}
use Rattle.ulfm_model.specs.{History.{History}, Words.{MayOpen}}
use Rattle.ulfm_numbers.specs.{declared.numbers.Numbers.{Numbers}, Seen.{seen_of}}
use Rattle.ulfm_replica.specs.Replays.{AreReplayed, Feeds}
use Rattle.ulfm_words.specs.Steps.{Sight, view_of}
use Rattle.ulfm_script.specs.Ends.{IsTextOf, KnownText}
use Rattle.ulfm_audit.specs.declared.auditing.{AuditFault.{AuditFault}, AuditFault.TheVariants.{Log, Memory, Read}}
use Rattle.ulfm_audit.specs.{Digests.{digest_of}, Logs.{IsHeadOf, IsLogOf, flag_bits, head_bytes, pieces_of, whole_of}, Texts.{end_text, entry_line, settled_lines}}

-- the lines of an entry that was taken, which made this history: its own, and that of the round that it decides; none of one that was left out
abbrev pub entry_lines : Limits → Entry FlagAnd → Bool → History FlagAnd → List ℕ
entry_lines limits e true h = entry_line e ++ settled_lines (seen_of limits.ranks h) e.event
entry_lines limits e false h = []

-- What a log makes of a history, and the lines of that: each entry that may come next comes and has its lines, in the log's order, and no other.
-- So the new history is what `Replays` of the log makes.
abbrev pub Shows : Limits → History FlagAnd → List (Entry FlagAnd) → History FlagAnd → List ℕ → Type 0
Shows limits h [] new lines = (new ≡ h) × (lines ≡ [])
Shows limits h (e ∷ log) new lines =
    (taken : Bool) × (mid : History FlagAnd) × (rest : List ℕ) × Feeds flag_meld limits e taken h mid × Shows limits mid log new rest
    × (lines ≡ entry_lines limits e taken mid ++ rest)

-- a text went on with the lines of what a log makes of a history
pub record Takes (limits : Limits) (log : List (Entry FlagAnd)) (old new : History FlagAnd) (before after : List ℕ) : Type 0 where
  pub lines : List ℕ
  pub shows : Shows limits old log new lines
  pub is : after ≡ before ++ lines

-- .. of what pieces of a stored log make of it
pub record TakesPieces (limits : Limits) (pieces : List (List ℕ)) (old new : History FlagAnd) (before after : List ℕ) : Type 0 where
  pub log : List (Entry FlagAnd)
  pub is_log : IsLogOf pieces log
  pub takes : Takes limits log old new before after

-- a pass over words of these limits and tables stand for what the pass has seen
pub record Stands {A : Type 0} {g : _} {k : _} (limits : Limits) (pass : Sight FlagAnd) (numbers : Numbers FlagAnd A g k) : Type 0 where
  pub limits_are : limits ≡ pass.name.limits
  pub replayed : AreReplayed flag_meld (view_of flag_bits pass.name pass) numbers

-- what is told of the bytes behind the head: the lines of the history that they make, how many pieces and events there are, and the digest
pub record AuditsEntries (limits : Limits) (bytes shown : List ℕ) : Type 0 where
  pub history : History FlagAnd
  pub lines : List ℕ
  pub takes : TakesPieces limits (pieces_of bytes) [] history [] lines
  pub shown_is : shown ≡ lines ++ end_text (length (pieces_of bytes)) (length history) (digest_of (whole_of bytes))

-- what is told of a reader's whole text, which begins with a head
pub record AuditsText (known : KnownText) (shown : List ℕ) : Type 0 where
  pub limits : Limits
  pub head : List ℕ
  pub entries : List ℕ
  pub whole : IsTextOf known (head ++ entries)
  pub is_head : IsHeadOf head limits
  pub audits : AuditsEntries limits entries shown

-- a text is no log: it begins with no head of a world that may be opened
abbrev pub IsNoLog : List ℕ → Type 0
IsNoLog text = (limits : Limits) (entries : List ℕ) → MayOpen limits → text ≢ head_bytes limits ++ entries

-- why a reader's text wasn't told: it is no log where that is said; memory and the reader may fail at any text
abbrev pub FailsFor : KnownText → AuditFault → Type 0
FailsFor known Log = IfSome known IsNoLog
FailsFor known Memory = ⊤
FailsFor known Read = ⊤
