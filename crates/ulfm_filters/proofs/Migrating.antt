-- What comes of a script that is migrated, and that it has the same replies.
use Rattle.std.proofs.Common.{◌≡◌, ℕ, ◌+◌, ◌≤◌, Bool, true, false, if◌then◌else◌, List, [], ◌∷◌, ◌++◌, length, map, take, Option, Some, None, Result, Ok, Err, refl, sym, ap, subst, ◌∙◌, append_assoc, append-nil, arith, inl, inr}
use Rattle.std.specs.{Prelude.{◌↔◌, ◌<◌, IfOk, OnOk, codes, nat_le}, Fmt.{decimal}, Io.KnownBytes.{Appends}}
use Rattle.std.proofs.lemmas.{Bool.{le-ltb}, List.{take_all}}
use Rattle.std.proofs.lemmas.Bool.Decides.{nat_tests}
use Rattle.ulfm_laws.specs.Flags.{flag_meld}
use Rattle.ulfm_model.specs.declared.{event.Caller.{Caller}, limits.Limits.{Limits}, reply.Reply.{Reply}}
use Rattle.ulfm_laws.specs.declared.flag_and.FlagAnd.{FlagAnd}
use Rattle.ulfm_model.specs.declared.call.Call.TheVariants.{Fail, GetFailed, Ack, FailureAck, FailureGetAcked, Agree, Shrink, Barrier, Poll, Revoke, IsRevoked, Free}
use Rattle.ulfm_model.specs.{Answers.{most_failures, traits_of}, Records.{Record}, Runs.{IsRankStep, IsSound, IsStep, new_state}, Terms.{record_at}, Words.{MayOpen}}
use Rattle.ulfm_model.specs.declared.event.Caller.TheVariants.{Outside, Rank}
use Rattle.ulfm_model.proofs.LeftSound.{new_sound, step_sound}
use Rattle.ulfm_script.specs.declared.{heading.Heading.{Heading}, fault.RunFault.{RunFault}}
use Rattle.ulfm_script.specs.declared.{header_kind.HeaderKind.TheVariants.{Calls}, version.Version.TheVariants.{First, Second}}
use Rattle.ulfm_script.specs.{Buffers.{HasNoNewline}, Calls.{ScriptCall}, Ends.{HasRunAll, KnownText, PrintsAll, PrintsFrom, RunEnd, ended}, Headers.{header_text}}
use Rattle.ulfm_script.specs.{Runs.{Prints, PrintsCalls, PrintsReply, ScriptState, call_scripts}, Spelling.{IsOnComm, Spells, SpellsIn, spelled_text}}
use Rattle.ulfm_script.specs.Scripts.{Script, header_at, item_at, lines_from, rest_from, script_of}
use Rattle.ulfm_script.proofs.{HeaderLemmas.{header_again}, ScriptLemmas.{Comes, comes_end, comes_first, comes_on, plain_item}, Short.{header_short, line_short}, Spelled.{spelled_in_again}}
use Rattle.ulfm_filters.specs.Migrations.{IsMigrated, Migrates, migrated, migrated_line, migrated_lines, migrated_script, migrations, stays}
use Rattle.ulfm_filters.proofs.{Acknowledging.{all_acknowledged}, Reading.{Fine, reads_fine, whole}}

-- the same line, if it is one on a communicator
on_same : {line verb behind : List ℕ} {rank comm : ℕ} (other : List ℕ) → IsOnComm line verb rank comm behind
    → (text : List ℕ) → text ≡ other ++ (decimal rank ++ 32 ∷ (decimal comm ++ behind)) → IsOnComm text other rank comm behind
on_same other h text e = record { rank_fits = h.rank_fits; comm_fits = h.comm_fits; line_is = e }

-- what is written for a call that a line of the first version spells, spells the migrated call in the second
second_spells : (line : List ℕ) (call : ScriptCall) → Spells line call → SpellsIn Second (migrated_line call) (migrated call)
second_spells line (Fail rank) h = (h.0, refl)
second_spells line (GetFailed rank comm) h = on_same (codes "get ") h _ refl
second_spells line (Ack rank comm count) h = go (nat_le most_failures count)
  where
    go : (b : Bool) → SpellsIn Second (spelled_text true (if b then FailureAck rank comm else Ack rank comm count)) (if b then FailureAck rank comm else Ack rank comm count)
    go true = (refl, record { rank_fits = h.1.rank_fits; comm_fits = h.1.comm_fits; line_is = refl })
    go false = (h.0, record { rank_fits = h.1.rank_fits; comm_fits = h.1.comm_fits; line_is = refl })
second_spells line (FailureAck rank comm) h = (refl, on_same (codes "failure_ack ") h.1 _ refl)
second_spells line (FailureGetAcked rank comm) h = (refl, on_same (codes "failure_get_acked ") h.1 _ refl)
second_spells line (Agree rank comm flag) h = (true, refl, record { rank_fits = h.2.rank_fits; comm_fits = h.2.comm_fits; line_is = refl })
second_spells line (Shrink rank comm) h = on_same (codes "shrink ") h _ refl
second_spells line (Barrier rank comm) h = on_same (codes "barrier ") h _ refl
second_spells line (Poll rank comm) h = on_same (codes "poll ") h _ refl
second_spells line (Revoke rank comm) h = on_same (codes "revoke ") h _ refl
second_spells line (IsRevoked rank comm) h = on_same (codes "isrevoked ") h _ refl
second_spells line (Free rank comm) h = on_same (codes "free ") h _ refl

-- a line that stays is the migrated one
pub stays_same : (line : List ℕ) (call : ScriptCall) → Spells line call → stays call ≡ true → line ≡ migrated_line call
stays_same line (Fail rank) h is = h.1
stays_same line (GetFailed rank comm) h is = h.line_is
stays_same line (Ack rank comm count) h is = go (nat_le most_failures count) refl
  where
    go : (b : Bool) → nat_le most_failures count ≡ b → line ≡ spelled_text true (if b then FailureAck rank comm else Ack rank comm count)
    go true all = absurd (let few : count < most_failures = grind (arith, nat_tests) in let many : most_failures ≤ count = grind (arith, nat_tests) in omega (arith, few, many))
    go false all = h.1.line_is
stays_same line (FailureAck rank comm) h is = h.1.line_is
stays_same line (FailureGetAcked rank comm) h is = h.1.line_is
stays_same line (Agree rank comm flag) h is = absurd (cc is)
stays_same line (Shrink rank comm) h is = h.line_is
stays_same line (Barrier rank comm) h is = h.line_is
stays_same line (Poll rank comm) h is = h.line_is
stays_same line (Revoke rank comm) h is = h.line_is
stays_same line (IsRevoked rank comm) h is = h.line_is
stays_same line (Free rank comm) h is = h.line_is

-- the first line of what is written
abbrev second : Limits → Heading
second limits = record { version = Second; limits = limits }

-- it is read so
second_header : (limits : Limits) → MayOpen limits → header_at call_scripts (header_text (Calls Second) limits) ≡ Ok (second limits)
second_header limits h =
    let line = header_text (Calls Second) limits in
    let short = (header_short (Calls Second) limits h).few in
    rw (le-ltb 64 (length line) (omega (arith, short)), header_again (Calls Second) line limits h refl) refl

-- each line that is written is read as the migrated call
line_second : (number : ℕ) (line : List ℕ) (call : ScriptCall) → number ≤ 100000 → Spells line call
    → HasNoNewline (migrated_line call) × (item_at call_scripts Second number (take 65 (migrated_line call)) ≡ Ok (migrated call))
line_second number line call few h =
    let text = migrated_line call in
    let spells = second_spells line call h in
    let short = line_short Second text (migrated call) spells in
    let fits = short.few in (
      short.free,
      ap (item_at call_scripts Second number) (take_all 65 text (omega (arith, fits)))
          ∙ plain_item call_scripts Second number text (omega (arith, fits)) few ∙ spelled_in_again Second text (migrated call) spells,
    )

-- all lines that are written, behind what was written
lines_come : (limits : Limits) (calls : List ScriptCall) (number : ℕ) (done : List ℕ) (before : List ScriptCall) → Fine number calls
    → Comes call_scripts done (second limits) before number
    → (last : ℕ) × Comes call_scripts (done ++ migrated_lines calls) (second limits) (before ++ map migrated calls) last
lines_come limits [] number done before all so_far = (
  number,
  subst (λ (text : List ℕ). Comes call_scripts text (second limits) (before ++ []) number) (sym (append-nil done))
      (subst (λ (items : List ScriptCall). Comes call_scripts done (second limits) items number) (sym (append-nil before)) so_far),
)
lines_come limits (call ∷ calls) number done before all so_far =
    let text = migrated_line call in
    let this = line_second number all.1.0 call all.0 all.1.1 in
    let on = comes_on call_scripts done text (second limits) before number (migrated call) so_far this.0 this.1 in
    let rest = lines_come limits calls (number + 1) (done ++ (text ++ 10 ∷ [])) (before ++ migrated call ∷ []) all.2 on in (
      rest.0,
      subst (λ (t : List ℕ). Comes call_scripts t (second limits) (before ++ migrated call ∷ map migrated calls) rest.0)
          (append_assoc done (text ++ 10 ∷ []) (migrated_lines calls))
          (subst (λ (items : List ScriptCall). Comes call_scripts ((done ++ (text ++ 10 ∷ [])) ++ migrated_lines calls) (second limits) items rest.0)
          (append_assoc before (migrated call ∷ []) (map migrated calls)) rest.1),
    )

-- what is written is a script of the second version without a fault, of the migrated calls
second_script : (limits : Limits) (calls : List ScriptCall) → MayOpen limits → Fine 2 calls
    → script_of call_scripts (migrated_script limits calls) ≡ whole (second limits) (map migrated calls)
second_script limits calls h all =
    let line = header_text (Calls Second) limits in
    let first = comes_first call_scripts line (second limits) (header_short (Calls Second) limits h).free (second_header limits h) in
    let lines = lines_come limits calls 2 (line ++ 10 ∷ []) [] all first in
    comes_end call_scripts (migrated_script limits calls) (second limits) (map migrated calls) lines.0 lines.1

-- a step keeps the limits
rank_limits : (old : ScriptState) (r : ℕ) (own : Option Record) (call : ScriptCall) (reply : Reply FlagAnd) (new : ScriptState)
    → IsRankStep flag_meld old r own call reply new → new.limits ≡ old.limits
rank_limits old r None call reply new step = ap (λ (s : ScriptState). s.limits) step.1
rank_limits old r (Some own) call reply new (inl refused) = ap (λ (s : ScriptState). s.limits) refused.2
rank_limits old r (Some own) call reply new (inr (after, left, run, is)) = ap (λ (s : ScriptState). s.limits) is

step_limits : (old : ScriptState) (by : Caller) (call : ScriptCall) (reply : Reply FlagAnd) (new : ScriptState) → IsStep flag_meld old by call reply new
    → new.limits ≡ old.limits
step_limits old (Rank r) call reply new step = rank_limits old r (record_at old r) call reply new step
step_limits old Outside call reply new (r, is, after, run, ends, left) = ap (λ (s : ScriptState). s.limits) left

-- a call and the migrated one have the same replies
reply_same : (old new : ScriptState) (call : ScriptCall) (line : List ℕ) → IsSound flag_meld old → MayOpen old.limits
    → PrintsReply old call new line ↔ PrintsReply old (migrated call) new line
reply_same old new (Fail rank) line sound wide = ((λ h. h), (λ h. h))
reply_same old new (GetFailed rank comm) line sound wide = ((λ h. h), (λ h. h))
reply_same old new (Ack rank comm count) line sound wide = go (nat_le most_failures count) refl
  where
    go : (b : Bool) → nat_le most_failures count ≡ b
        → PrintsReply old (Ack rank comm count) new line ↔ PrintsReply old (if b then FailureAck rank comm else Ack rank comm count) new line
    go true is = (
      λ h. (h.0, (all_acknowledged old sound wide rank comm count (grind (arith, nat_tests)) new h.0).0 h.1, h.2),
      λ h. (h.0, (all_acknowledged old sound wide rank comm count (grind (arith, nat_tests)) new h.0).1 h.1, h.2),
    )
    go false is = ((λ h. h), (λ h. h))
reply_same old new (FailureAck rank comm) line sound wide = ((λ h. h), (λ h. h))
reply_same old new (FailureGetAcked rank comm) line sound wide = ((λ h. h), (λ h. h))
reply_same old new (Agree rank comm flag) line sound wide = ((λ h. h), (λ h. h))
reply_same old new (Shrink rank comm) line sound wide = ((λ h. h), (λ h. h))
reply_same old new (Barrier rank comm) line sound wide = ((λ h. h), (λ h. h))
reply_same old new (Poll rank comm) line sound wide = ((λ h. h), (λ h. h))
reply_same old new (Revoke rank comm) line sound wide = ((λ h. h), (λ h. h))
reply_same old new (IsRevoked rank comm) line sound wide = ((λ h. h), (λ h. h))
reply_same old new (Free rank comm) line sound wide = ((λ h. h), (λ h. h))

-- and so have calls one after another
prints_same : (old new : ScriptState) (calls : List ScriptCall) (out : List ℕ) → IsSound flag_meld old → MayOpen old.limits
    → Prints old calls out new ↔ Prints old (map migrated calls) out new
prints_same old new [] out sound wide = ((λ h. h), (λ h. h))
prints_same old new (call ∷ calls) out sound wide = (
  λ h. (
      let reply = h.3 in
      let rest = later h.0 call reply.0 reply.1 in
      (h.0, h.1, h.2, (reply_same old h.0 call h.1 sound wide).0 reply, h.4, (prints_same h.0 new calls h.2 rest.0 rest.1).0 h.5)
      ),
  λ h. (
      let reply = (reply_same old h.0 call h.1 sound wide).1 h.3 in
      let rest = later h.0 call reply.0 reply.1 in
      (h.0, h.1, h.2, reply, h.4, (prints_same h.0 new calls h.2 rest.0 rest.1).1 h.5)
      ),
)
  where
    later : (next : ScriptState) (call : ScriptCall) (reply : Reply FlagAnd) → IsStep flag_meld old (traits_of call).by call reply next
        → IsSound flag_meld next × MayOpen next.limits
    later next call reply step = (
      step_sound flag_meld old (traits_of call).by call reply next sound step,
      subst MayOpen (sym (step_limits old (traits_of call).by call reply next step)) wide,
    )

-- whatever a script prints, what comes of it prints, and the other way round
shown_same : (text out : List ℕ) (limits : Limits) (calls : List ScriptCall) (heading : Heading) → heading.limits ≡ limits → MayOpen limits
    → script_of call_scripts text ≡ whole heading calls → script_of call_scripts out ≡ whole (second limits) (map migrated calls)
    → (shown : List ℕ) → PrintsAll call_scripts text shown ↔ PrintsAll call_scripts out shown
shown_same text out limits calls heading same wide read written shown = (
  λ h. (
      let p : PrintsCalls limits calls shown = subst (λ l. PrintsCalls l calls shown) same (subst Printed read h) in
      subst Printed (sym written) (p.0, (both p.0).0 p.1)
      ),
  λ h. (
      let p : PrintsCalls limits (map migrated calls) shown = subst Printed written h in
      let q : PrintsCalls limits calls shown = (p.0, (both p.0).1 p.1) in
      subst Printed (sym read) (subst (λ l. PrintsCalls l calls shown) (sym same) q)
      ),
)
  where
    Printed : Script ScriptCall → Type 0
    Printed s = PrintsFrom call_scripts s.heading s.items shown

    both : (last : ScriptState) → Prints (new_state limits) calls shown last ↔ Prints (new_state limits) (map migrated calls) shown last
    both last = prints_same (new_state limits) last calls shown (new_sound flag_meld limits) wide

-- a faultless text was migrated
text_migrated : (text : List ℕ) (heading : Heading) (calls : List ScriptCall) (out : List ℕ) → script_of migrations text ≡ whole heading calls
    → out ≡ migrated_script heading.limits calls → IsMigrated text out
unfolding script_of
text_migrated text heading calls out is out_is =
    let reads = reads_fine (lines_from [] text) (rest_from [] text) heading calls is in
    let own : heading ≡ record { version = First; limits = heading.limits } =
    ap (λ version. let h : Heading = record { version = version; limits = heading.limits } in h) reads.version in
    let read : script_of call_scripts text ≡ whole heading calls = reads.same in
    let written : script_of call_scripts out ≡ whole (second heading.limits) (map migrated calls) =
    ap (script_of call_scripts) out_is ∙ second_script heading.limits calls reads.opens reads.fine in
    record {
      limits = heading.limits;
      calls = calls;
      read = read ∙ ap (λ h. whole h calls) own;
      out_is = out_is;
      written = written;
      replies = shown_same text out heading.limits calls heading refl reads.opens read written;
    }

-- a reader's text was migrated, and written
has_migrated : (known old new : KnownText) → HasRunAll migrations (λ heading calls out. out ≡ migrated_script heading.limits calls) known (Appends old new)
    → Migrates known old new
has_migrated known old new ran = record {
  text = ran.text;
  out = ran.out;
  whole = ran.whole;
  migrated = text_migrated ran.text ran.heading ran.items ran.out ran.script_is ran.has_run;
  written = ran.told;
}

-- the same of a run that may have failed
pub migrates_ended : {M : Type 0} (known old new : KnownText) (ran : Result M RunFault) (result : RunEnd) → result ≡ ended ran
    → IfOk ran (λ machine. HasRunAll migrations (λ heading calls out. out ≡ migrated_script heading.limits calls) known (Appends old new))
    → OnOk result (Migrates known old new)
migrates_ended known old new (Ok machine) result e h = rw e (has_migrated known old new h)
migrates_ended known old new (Err fault) result e h = rw e tt

-- calls, and one more
lines_on : (calls : List ScriptCall) (call : ScriptCall) → migrated_lines (calls ++ call ∷ []) ≡ migrated_lines calls ++ (migrated_line call ++ 10 ∷ [])
lines_on [] call = append-nil (migrated_line call ++ 10 ∷ [])
lines_on (first ∷ calls) call =
    ap (λ (t : List ℕ). (migrated_line first ++ 10 ∷ []) ++ t) (lines_on calls call)
    ∙ sym (append_assoc (migrated_line first ++ 10 ∷ []) (migrated_lines calls) (migrated_line call ++ 10 ∷ []))

pub migrates_on : (limits : Limits) (calls : List ScriptCall) (call : ScriptCall) (out text : List ℕ) → out ≡ migrated_script limits calls
    → text ≡ migrated_line call ++ 10 ∷ [] → out ++ text ≡ migrated_script limits (calls ++ call ∷ [])
migrates_on limits calls call out text e f =
    let head = header_text (Calls Second) limits ++ 10 ∷ [] in
    ap (λ (t : List ℕ). t ++ text) e ∙ ap (λ (t : List ℕ). migrated_script limits calls ++ t) f
    ∙ append_assoc head (migrated_lines calls) (migrated_line call ++ 10 ∷ []) ∙ ap (λ (t : List ℕ). head ++ t) (sym (lines_on calls call))
