-- The script of the second version that comes of one of the first.
use Rattle.std.specs.Prelude.{◌≡◌, ◌↔◌, ℕ, nat_le, nat_lt, Bool, false, if◌then◌else◌, List, [], ◌∷◌, ◌++◌, map, true, Some, None}
use Rattle.std.specs.Io.KnownBytes.{Appends}
use Rattle.ulfm_model.specs.{declared.limits.Limits.{Limits}, Answers.{most_failures}}
use Rattle.ulfm_model.specs.declared.call.Call.TheVariants.{Fail, GetFailed, Ack, FailureAck, FailureGetAcked, Agree, Shrink, Barrier, Poll, Revoke, IsRevoked, Free}
use Rattle.ulfm_script.specs.declared.{header_kind.HeaderKind.TheVariants.{Calls}, version.Version.TheVariants.{First, Second}}
use Rattle.ulfm_script.specs.{Calls.{ScriptCall, call_of}, Ends.{EndsAlone, IsTextOf, KnownText, PrintsAll, RunEnd}, Headers.{header_text, heading_of}}
use Rattle.ulfm_script.specs.{Runs.{call_scripts}, Scripts.{Language, script_of}, Spelling.{spelled_text}}

-- the call that a script of the second version makes for this one: an acknowledgement of all failures has its name of 2013
abbrev pub migrated : ScriptCall → ScriptCall
migrated (Fail rank) = Fail rank
migrated (GetFailed rank comm) = GetFailed rank comm
migrated (Ack rank comm count) = if nat_le most_failures count then FailureAck rank comm else Ack rank comm count
migrated (FailureAck rank comm) = FailureAck rank comm
migrated (FailureGetAcked rank comm) = FailureGetAcked rank comm
migrated (Agree rank comm flag) = Agree rank comm flag
migrated (Shrink rank comm) = Shrink rank comm
migrated (Barrier rank comm) = Barrier rank comm
migrated (Poll rank comm) = Poll rank comm
migrated (Revoke rank comm) = Revoke rank comm
migrated (IsRevoked rank comm) = IsRevoked rank comm
migrated (Free rank comm) = Free rank comm

-- whether each line of a call stays as it is: no flag of eight digits is in it, and no acknowledgement of all
abbrev pub stays : ScriptCall → Bool
stays (Fail rank) = true
stays (GetFailed rank comm) = true
stays (Ack rank comm count) = nat_lt count most_failures
stays (FailureAck rank comm) = true
stays (FailureGetAcked rank comm) = true
stays (Agree rank comm flag) = false
stays (Shrink rank comm) = true
stays (Barrier rank comm) = true
stays (Poll rank comm) = true
stays (Revoke rank comm) = true
stays (IsRevoked rank comm) = true
stays (Free rank comm) = true

-- its line: a flag has all its digits
abbrev pub migrated_line : ScriptCall → List ℕ
migrated_line call = spelled_text true (migrated call)

-- the lines of calls, each with its newline
abbrev pub migrated_lines : List ScriptCall → List ℕ
migrated_lines [] = []
migrated_lines (call ∷ calls) = (migrated_line call ++ 10 ∷ []) ++ migrated_lines calls

-- the script of the second version that makes these calls in a world of these limits
abbrev pub migrated_script : Limits → List ScriptCall → List ℕ
migrated_script limits calls = (header_text (Calls Second) limits ++ 10 ∷ []) ++ migrated_lines calls

-- scripts of calls of the first version, of which those of the second are printed
abbrev pub migrations : Language
migrations = record {
  Item = ScriptCall;
  heading = heading_of (Calls First);
  read = λ version. call_of;
  Prints = λ limits calls out. out ≡ migrated_script limits calls;
  Finds = λ limits calls number kind out. ⊥;
}

-- a run through a buffer of its own, which reads at most 8192 bytes ahead: what the reader had and has left, what the writer had and has
abbrev pub RunsMigration : KnownText → KnownText → KnownText → KnownText → RunEnd → Type 0
RunsMigration known left old new result = EndsAlone migrations known left old new result

-- A text and what came of it: a script of the first version without a fault, and one of the second without a fault. The second makes the migrated
-- calls of the first, in a world of the same limits. Whatever the first prints, the second prints, and the other way round.
pub record IsMigrated (text out : List ℕ) : Type 0 where
  pub limits : Limits
  pub calls : List ScriptCall
  pub read : script_of call_scripts text ≡ record { heading = Some (record { version = First; limits = limits }); items = calls; fault = None }
  pub out_is : out ≡ migrated_script limits calls
  pub written : script_of call_scripts out
      ≡ record { heading = Some (record { version = Second; limits = limits }); items = map migrated calls; fault = None }
  pub replies : (shown : List ℕ) → PrintsAll call_scripts text shown ↔ PrintsAll call_scripts out shown

-- A reader's whole text was migrated, and exactly what came of it was written.
pub record Migrates (known old new : KnownText) : Type 0 where
  pub text : List ℕ
  pub out : List ℕ
  pub whole : IsTextOf known text
  pub migrated : IsMigrated text out
  pub written : Appends old new out
