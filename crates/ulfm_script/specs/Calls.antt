-- What a line of a script asks for, or the first fault in it from the left.
use Rattle.std.specs.Prelude.{◌≡◌, ℕ, List, codes, Option, Result, Ok, Err, if◌then◌else◌}
use Rattle.std.specs.Str.{bytes_eq}
use Rattle.ulfm_laws.specs.declared.flag_and.FlagAnd.{FlagAnd}
use Rattle.ulfm_model.specs.declared.call.Call.{Call}
use Rattle.ulfm_model.specs.declared.call.Call.TheVariants.{Fail, GetFailed, Ack, FailureAck, FailureGetAcked, Agree, Shrink, Barrier, Poll, Revoke, IsRevoked, Free}
use Rattle.ulfm_script.specs.declared.line_kind.LineKind.{LineKind}
use Rattle.ulfm_script.specs.declared.line_kind.LineKind.TheVariants.{Verb}
use Rattle.ulfm_script.specs.declared.version.Version.{Version}
use Rattle.ulfm_script.specs.declared.version.Version.TheVariants.{First, Second}
use Rattle.ulfm_script.specs.Digits.{read_rank, read_comm, read_number, read_flag_in}
use Rattle.ulfm_script.specs.Steps.{◌>>=◌}
use Rattle.ulfm_script.specs.Words.{first_word, next_word, one_of, two_of, three_of}

-- a call of a script
abbrev pub ScriptCall : Type 0
ScriptCall = Call FlagAnd

-- a rank and a communicator, and nothing behind them
unfoldable pub read_rank_comm : Option (List ℕ) → Result (ℕ × ℕ) LineKind
read_rank_comm fields = do
  words ← two_of fields
  rank ← read_rank words.0
  comm ← read_comm words.1
  Ok (rank, comm)

-- a rank and a communicator, and what stands behind them
pub record StandAhead (fields : Option (List ℕ)) (rank comm : ℕ) (behind : Option (List ℕ)) : Type 0 where
  pub one : List ℕ
  pub two : List ℕ
  pub between : Option (List ℕ)
  pub first : next_word fields ≡ Ok (one, between)
  pub second : next_word between ≡ Ok (two, behind)
  pub rank_is : read_rank one ≡ Ok rank
  pub comm_is : read_comm two ≡ Ok comm

-- a rank, and nothing behind it
abbrev pub one_rank : Option (List ℕ) → Result ℕ LineKind
one_rank fields = one_of fields >>= read_rank

-- what is made of it
abbrev pub rank_alone : {A : Type 0} → (ℕ → A) → Option (List ℕ) → Result A LineKind
rank_alone made fields = one_rank fields >>= λ rank. Ok (made rank)

-- the fields of each verb
unfoldable pub fail_of : Option (List ℕ) → Result ScriptCall LineKind
fail_of fields = rank_alone Fail fields

unfoldable pub ack_of : Option (List ℕ) → Result ScriptCall LineKind
ack_of fields = do
  words ← three_of fields
  rank ← read_rank words.0
  comm ← read_comm words.1
  count ← read_number words.2
  Ok (Ack rank comm count)

unfoldable pub agree_of : Version → Option (List ℕ) → Result ScriptCall LineKind
agree_of version fields = do
  words ← three_of fields
  rank ← read_rank words.0
  comm ← read_comm words.1
  flag ← read_flag_in version words.2
  Ok (Agree rank comm flag)

-- a call of a rank and a communicator, and nothing behind them
abbrev pub read_plain_call : (ℕ → ℕ → ScriptCall) → Option (List ℕ) → Result ScriptCall LineKind
read_plain_call call_at fields = do
  place ← read_rank_comm fields
  Ok (call_at place.0 place.1)

-- a verb that the first version doesn't have
abbrev pub of_second : Version → Result ScriptCall LineKind → Result ScriptCall LineKind
of_second First read = Err Verb
of_second Second read = read

-- a verb, and the text behind it, in a script of this version
abbrev pub call_from : Version → List ℕ × Option (List ℕ) → Result ScriptCall LineKind
call_from version first =
    if bytes_eq first.0 (codes "fail") then fail_of first.1
    else (if bytes_eq first.0 (codes "get") then read_plain_call GetFailed first.1
    else (if bytes_eq first.0 (codes "ack") then ack_of first.1
    else (if bytes_eq first.0 (codes "agree") then agree_of version first.1
    else (if bytes_eq first.0 (codes "shrink") then read_plain_call Shrink first.1
    else (if bytes_eq first.0 (codes "barrier") then read_plain_call Barrier first.1
    else (if bytes_eq first.0 (codes "poll") then read_plain_call Poll first.1
    else (if bytes_eq first.0 (codes "revoke") then read_plain_call Revoke first.1
    else (if bytes_eq first.0 (codes "isrevoked") then read_plain_call IsRevoked first.1
    else (if bytes_eq first.0 (codes "free") then read_plain_call Free first.1
    else (if bytes_eq first.0 (codes "failure_ack") then of_second version (read_plain_call FailureAck first.1)
    else (if bytes_eq first.0 (codes "failure_get_acked") then of_second version (read_plain_call FailureGetAcked first.1)
    else Err Verb)))))))))))

-- the call of a line of a script of this version
unfoldable pub call_in : Version → List ℕ → Result ScriptCall LineKind
call_in version line = call_from version (first_word line)

-- .. of the first
abbrev pub call_of : List ℕ → Result ScriptCall LineKind
call_of line = call_in First line
