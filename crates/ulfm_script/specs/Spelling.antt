-- The lines that spell calls, apart from how they are read. A call has at most one spelling, and one more where its flag may have all digits.
use Rattle.std.specs.Prelude.{◌≡◌, ℕ, ◌<◌, ◌-◌, ◌^◌, ◌==◌, nat_lt, Bool, false, ◌&&◌, not, List, [], ◌∷◌, ◌++◌, length, slice_index, codes}
use Rattle.std.specs.Fmt.{decimal}
use Rattle.ulfm_model.specs.declared.call.Call.TheVariants.{Fail, GetFailed, Ack, FailureAck, FailureGetAcked, Agree, Shrink, Barrier, Poll, Revoke, IsRevoked, Free}
use Rattle.ulfm_script.specs.declared.version.Version.{Version}
use Rattle.ulfm_script.specs.declared.version.Version.TheVariants.{First, Second}
use Rattle.ulfm_script.specs.Calls.{ScriptCall}
use Rattle.ulfm_script.specs.Digits.{MayPadIn, half_digits, spelled_flag}

-- a line of a verb, a rank and a communicator, and what follows them
pub record IsOnComm (line verb : List ℕ) (rank comm : ℕ) (behind : List ℕ) : Type 0 where
  pub rank_fits : rank < 1024
  pub comm_fits : comm < 256
  pub line_is : line ≡ verb ++ (decimal rank ++ 32 ∷ (decimal comm ++ behind))

-- the verb of each call, and a space
abbrev pub verb_text : ScriptCall → List ℕ
verb_text (Fail rank) = codes "fail "
verb_text (GetFailed rank comm) = codes "get "
verb_text (Ack rank comm count) = codes "ack "
verb_text (FailureAck rank comm) = codes "failure_ack "
verb_text (FailureGetAcked rank comm) = codes "failure_get_acked "
verb_text (Agree rank comm flag) = codes "agree "
verb_text (Shrink rank comm) = codes "shrink "
verb_text (Barrier rank comm) = codes "barrier "
verb_text (Poll rank comm) = codes "poll "
verb_text (Revoke rank comm) = codes "revoke "
verb_text (IsRevoked rank comm) = codes "isrevoked "
verb_text (Free rank comm) = codes "free "

-- the line spells the call in a script of this version: the first doesn't have the calls of 2013
abbrev pub SpellsIn : Version → List ℕ → ScriptCall → Type 0
SpellsIn version line (Fail rank) = (rank < 1024) × (line ≡ verb_text (Fail rank) ++ decimal rank)
SpellsIn version line (GetFailed rank comm) = IsOnComm line (verb_text (GetFailed rank comm)) rank comm []
SpellsIn version line (Ack rank comm count) = (count < 10000) × IsOnComm line (verb_text (Ack rank comm count)) rank comm (32 ∷ decimal count)
SpellsIn version line (FailureAck rank comm) = (version ≡ Second) × IsOnComm line (verb_text (FailureAck rank comm)) rank comm []
SpellsIn version line (FailureGetAcked rank comm) = (version ≡ Second) × IsOnComm line (verb_text (FailureGetAcked rank comm)) rank comm []
SpellsIn version line (Agree rank comm flag) =
    (padded : Bool) × MayPadIn version padded flag × IsOnComm line (verb_text (Agree rank comm flag)) rank comm (32 ∷ spelled_flag padded flag)
SpellsIn version line (Shrink rank comm) = IsOnComm line (verb_text (Shrink rank comm)) rank comm []
SpellsIn version line (Barrier rank comm) = IsOnComm line (verb_text (Barrier rank comm)) rank comm []
SpellsIn version line (Poll rank comm) = IsOnComm line (verb_text (Poll rank comm)) rank comm []
SpellsIn version line (Revoke rank comm) = IsOnComm line (verb_text (Revoke rank comm)) rank comm []
SpellsIn version line (IsRevoked rank comm) = IsOnComm line (verb_text (IsRevoked rank comm)) rank comm []
SpellsIn version line (Free rank comm) = IsOnComm line (verb_text (Free rank comm)) rank comm []

-- .. of the first
abbrev pub Spells : List ℕ → ScriptCall → Type 0
Spells line asked = SpellsIn First line asked

-- a rank and a communicator, and what follows them
abbrev pub on_comm_text : ℕ → ℕ → List ℕ → List ℕ
on_comm_text rank comm behind = decimal rank ++ 32 ∷ (decimal comm ++ behind)

-- what stands behind the verb of a call, whose flag is spelled so
abbrev pub fields_text : Bool → ScriptCall → List ℕ
fields_text padded (Fail rank) = decimal rank
fields_text padded (GetFailed rank comm) = on_comm_text rank comm []
fields_text padded (Ack rank comm count) = on_comm_text rank comm (32 ∷ decimal count)
fields_text padded (FailureAck rank comm) = on_comm_text rank comm []
fields_text padded (FailureGetAcked rank comm) = on_comm_text rank comm []
fields_text padded (Agree rank comm flag) = on_comm_text rank comm (32 ∷ spelled_flag padded flag)
fields_text padded (Shrink rank comm) = on_comm_text rank comm []
fields_text padded (Barrier rank comm) = on_comm_text rank comm []
fields_text padded (Poll rank comm) = on_comm_text rank comm []
fields_text padded (Revoke rank comm) = on_comm_text rank comm []
fields_text padded (IsRevoked rank comm) = on_comm_text rank comm []
fields_text padded (Free rank comm) = on_comm_text rank comm []

-- the line of a call whose flag is spelled so
abbrev pub spelled_text : Bool → ScriptCall → List ℕ
spelled_text padded call = verb_text call ++ fields_text padded call

-- the line of a call, as it is printed
abbrev pub call_text : ScriptCall → List ℕ
call_text call = spelled_text false call

-- whether more digits than so many stand at the end of a line: there is no space before the last ones
abbrev pub has_more : List ℕ → ℕ → Bool
has_more line count = nat_lt count (length line) && not (slice_index line (length line - count - 1) == 32)

-- whether a line that spells a call spells its flag with more digits than are printed
abbrev pub is_padded : List ℕ → ScriptCall → Bool
is_padded line (Agree rank comm flag) = nat_lt flag.bits (16 ^ half_digits) && has_more line half_digits
is_padded line other = false

-- the line spells the call, and its flag so
pub record SpellsAs (padded : Bool) (line : List ℕ) (call : ScriptCall) : Type 0 where
  pub spells : Spells line call
  pub padded_is : padded ≡ is_padded line call

-- a call that some line spells, in a script of some version
abbrev pub IsSpelled : ScriptCall → Type 0
IsSpelled call = (version : Version) × (line : List ℕ) × SpellsIn version line call

-- a call that some line spells, and its flag so
abbrev pub IsSpelledAs : Bool → ScriptCall → Type 0
IsSpelledAs padded call = (line : List ℕ) × SpellsAs padded line call
