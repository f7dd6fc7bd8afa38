-- Verbs as a reader of lines tells them apart, and their words.
use Rattle.std.specs.Prelude.{ℕ, List, Option, Some, None, Result, Err}
use Rattle.ulfm_model.specs.declared.call.Call.TheVariants as call
use Rattle.ulfm_script.specs.declared.version.Version.{Version}
use Rattle.ulfm_script.specs.Calls.{ScriptCall, ack_of, agree_of, fail_of, of_second, read_plain_call}
use Rattle.ulfm_script.specs.declared.calls.Plain.{Plain}
use Rattle.ulfm_script.specs.declared.calls.Plain.TheVariants as plain
use Rattle.ulfm_script.specs.declared.calls.Verb.{Verb}
use Rattle.ulfm_script.specs.declared.calls.Verb.TheVariants as verb
use Rattle.ulfm_script.specs.declared.line_kind.LineKind.{LineKind}
use Rattle.ulfm_script.specs.declared.line_kind.LineKind.TheVariants as line_kind

-- the call of a verb with a rank and a communicator, and nothing else
abbrev pub call_at : Plain → ℕ → ℕ → ScriptCall
call_at plain.GetFailed rank comm = call.GetFailed rank comm
call_at plain.FailureAck rank comm = call.FailureAck rank comm
call_at plain.FailureGetAcked rank comm = call.FailureGetAcked rank comm
call_at plain.Shrink rank comm = call.Shrink rank comm
call_at plain.Barrier rank comm = call.Barrier rank comm
call_at plain.Poll rank comm = call.Poll rank comm
call_at plain.Revoke rank comm = call.Revoke rank comm
call_at plain.IsRevoked rank comm = call.IsRevoked rank comm
call_at plain.Free rank comm = call.Free rank comm

-- the call of a verb with a rank and a communicator, by its fields, in a script of this version
abbrev pub plain_in : Version → Plain → Option (List ℕ) → Result ScriptCall LineKind
plain_in version plain.FailureAck fields = of_second version (read_plain_call (call_at plain.FailureAck) fields)
plain_in version plain.FailureGetAcked fields = of_second version (read_plain_call (call_at plain.FailureGetAcked) fields)
plain_in version name fields = read_plain_call (call_at name) fields

-- the call of a verb, by its fields
abbrev pub verb_call : Version → Verb → Option (List ℕ) → Result ScriptCall LineKind
verb_call version verb.Fail fields = fail_of fields
verb_call version verb.Ack fields = ack_of fields
verb_call version verb.Agree fields = agree_of version fields
verb_call version (verb.Plain name) fields = plain_in version name fields

-- the call of a verb that was found, or the fault that there is none
abbrev pub found_call : Version → Option Verb → Option (List ℕ) → Result ScriptCall LineKind
found_call version None fields = Err line_kind.Verb
found_call version (Some found) fields = verb_call version found fields
