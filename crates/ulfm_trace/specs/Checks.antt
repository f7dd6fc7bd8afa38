-- What a check of a reader's text says.
use Rattle.std.specs.Prelude.{◌≡◌, ◌⊎◌, ℕ, ◌≤◌, List, [], ◌∷◌, ◌++◌, length, Option, Some, None, Result, Ok, Err}
use Rattle.std.specs.Io.KnownBytes.{Consumes, IsAtEnd, prepend_known}
use Rattle.ulfm_laws.specs.{Flags.{flag_meld}, declared.flag_and.FlagAnd.{FlagAnd}}
use Rattle.ulfm_model.specs.declared.limits.Limits.{Limits}
use Rattle.ulfm_script.specs.declared.fault.RunFault.TheVariants as fault
use Rattle.ulfm_script.specs.declared.buffers.LineEnd.{LineEnd}
use Rattle.ulfm_script.specs.{Buffers.{HasNoNewline, IsOfLine, TakesLine}, Ends.{Claim, IsTextOf, KnownText, TakesUpTo}, Scripts.{lines_from}}
use Rattle.ulfm_lines.specs.Stepped.{TraceState}
use Rattle.ulfm_model.specs.declared.line.Why.{Why}
use Rattle.ulfm_model.specs.Traces.{MayCome, Told, after, nothing}
use Rattle.ulfm_trace.specs.declared.verdict.{CheckFault.{CheckFault}, CheckFault.TheVariants.{Memory, Read}}
use Rattle.ulfm_trace.specs.declared.verdict.{Verdict.{Verdict}, Verdict.TheVariants.{Legal, Illegal}}
use Rattle.ulfm_trace.specs.Texts.{IsBadLine, IsFirstBad, IsHeader, IsLegalText, IsLine, LacksHeader}

-- how a check ended
abbrev pub CheckEnd : Type 0
CheckEnd = Result Verdict CheckFault

-- A check that stopped inside a line: what was taken of the reader's bytes is a legal trace, or nothing, and then a part of the line that was
-- under work.
pub record StopsInTrace (known left : KnownText) (IsPart : Claim) : Type 0 where
  pub lines : List ℕ
  pub part : List ℕ
  pub taken : Consumes known left (lines ++ part)
  pub right : (lines ≡ []) ⊎ IsLegalText lines
  pub partly : IsPart part

-- How the check of a reader's text ended, where these bytes were read and not taken: the whole text is a legal trace; this line of it is the
-- first that is bad, and nothing behind it was taken; memory was refused; or the reader failed.
abbrev pub ChecksThrough : KnownText → KnownText → List ℕ → CheckEnd → Type 0
ChecksThrough known left ahead (Ok Legal) = (text : List ℕ) × IsTextOf known text × IsLegalText text × IsAtEnd left
ChecksThrough known left ahead (Ok (Illegal line why)) =
    (text : List ℕ) × IsTextOf known text × IsFirstBad text line why × TakesUpTo line known (prepend_known ahead left)
ChecksThrough known left ahead (Err Memory) = StopsInTrace known (prepend_known ahead left) IsOfLine
ChecksThrough known left ahead (Err Read) = StopsInTrace known left HasNoNewline × (ahead ≡ [])

-- a check that reads at most 8192 bytes ahead: what the reader had, and what it has left
abbrev pub Checks : KnownText → KnownText → CheckEnd → Type 0
Checks known left result = (ahead : List ℕ) × (length ahead ≤ 8192) × ChecksThrough known left ahead result

-- a line was taken, and of its bytes the first 8193 are kept
abbrev pub TakesText : KnownText → KnownText → List ℕ → List ℕ → Result LineEnd CheckFault → Type 0
TakesText old new bytes kept (Ok end) = TakesLine 8193 old new bytes kept (Ok end)
TakesText old new bytes kept (Err Memory) = TakesLine 8193 old new bytes kept (Err fault.Memory)
TakesText old new bytes kept (Err Read) = TakesLine 8193 old new bytes kept (Err fault.Read)

-- a judge was opened by the first line
pub record IsJudgeOpened (old new : KnownText) (Stands : TraceState → Type 0) : Type 0 where
  pub line : List ℕ
  pub limits : Limits
  pub free : HasNoNewline line
  pub header : IsHeader line limits
  pub taken : Consumes old new (line ++ 10 ∷ [])
  pub stands : Stands (nothing limits)

-- A judge was opened by the first line; or the text has no header; or memory was refused or the reader failed. In these three cases a part of the
-- first line was taken, or all of it. Where the reader failed, nothing is pending.
abbrev pub OpensJudge : {J : Type 0} → (J → TraceState → Type 0) → KnownText → KnownText → List ℕ → Result (Option J) CheckFault → Type 0
OpensJudge Stands old new bytes (Ok (Some judge)) = IsJudgeOpened old new (Stands judge)
OpensJudge Stands old new bytes (Ok None) = (text : List ℕ) × IsTextOf old text × LacksHeader (lines_from [] text) × TakesUpTo 1 old new
OpensJudge Stands old new bytes (Err Memory) = (part : List ℕ) × IsOfLine part × Consumes old new part
OpensJudge Stands old new bytes (Err Read) = (part : List ℕ) × HasNoNewline part × (bytes ≡ []) × Consumes old new part

-- the line of this number was judged: it may come, and what is said goes on; or it is bad
abbrev pub JudgesLine : TraceState → ℕ → List ℕ → TraceState → Option Why → Type 0
JudgesLine now number text next None =
    (told : Told FlagAnd) × IsLine number text told × MayCome flag_meld now told.group told.line × (next ≡ after now told.line)
JudgesLine now number text next (Some why) = IsBadLine now number text why
