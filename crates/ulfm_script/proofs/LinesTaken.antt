-- A line that is taken part by part, as a reader gives it.
use Rattle.std.proofs.Common.{◌≡◌, ℕ, ◌<◌, List, [], ◌∷◌, ◌++◌, length, take, Result, Ok, Err, refl, sym, ap, subst, ◌∙◌, append_assoc, append-nil, arith}
use Rattle.std.specs.Io.KnownBytes.{Consumes, IsAtEnd, Keeps, prepend_known}
use Rattle.ulfm_script.specs.Buffers.{HasNoNewline, KeepsFirst, TakesLine, text_end}
use Rattle.ulfm_script.specs.Ends.{KnownText}
use Rattle.ulfm_script.specs.declared.buffers.LineEnd.TheVariants.{Newline}
use Rattle.ulfm_script.specs.declared.fault.RunFault.{RunFault}
use Rattle.ulfm_script.specs.declared.fault.RunFault.TheVariants.{Read}
use Rattle.ulfm_script.proofs.ByteLemmas.{consumes_keeps, consumes_start, consumes_then, none_kept, none_taken, some_kept}
use Rattle.ulfm_script.proofs.LineParts.{free_append, part_taken}

-- what was taken of a line so far, of which so many of the first bytes are kept
abbrev pub LineSoFar : ℕ → KnownText → KnownText → List ℕ → Type 0
LineSoFar most a b kept = (done : List ℕ) × HasNoNewline done × (kept ≡ take most done) × Consumes a b done

-- nothing of it
pub line_begun : (most : ℕ) (a : KnownText) (kept : List ℕ) → kept ≡ [] → LineSoFar most a a kept
line_begun most a kept none = ([], tt, none_kept kept most none, consumes_start a)

-- the text ended
pub line_ended : (most : ℕ) (a b c : KnownText) (bytes kept : List ℕ) → LineSoFar most a b kept → Keeps b c × (bytes ≡ [] → IsAtEnd c) → bytes ≡ [] → 0 < most
    → TakesLine most a c bytes kept (Ok (text_end kept))
line_ended most a b c bytes [] i filled none some = (none_taken a b c [] i.0 most i.2 refl some i.3 filled.0, filled.1 none, refl)
line_ended most a b c bytes (x ∷ kept) i filled none some =
    (i.0, i.1, some_kept (x ∷ kept) i.0 most i.2 (omega arith), consumes_keeps a b c i.0 i.3 filled.0, filled.1 none, i.2)

-- the reader broke the line off
pub failed_line : (most : ℕ) (a b c : KnownText) (bytes kept : List ℕ) (fault : RunFault) → LineSoFar most a b kept → Keeps b c × (bytes ≡ []) × (fault ≡ Read)
    → TakesLine most a c bytes kept (Err fault)
failed_line most a b c bytes kept fault i k = rw k.2 (i.0, i.1, k.1, consumes_keeps a b c i.0 i.3 k.0)

-- the pending bytes that were taken came behind what was taken of the line
taken_behind : (a b known : KnownText) (old part new done : List ℕ) → Consumes a b done → Keeps b (prepend_known old known) → old ≡ part ++ new
    → Consumes a (prepend_known new known) (done ++ part)
taken_behind a b known old part new done h keeps is =
    let filled = prepend_known old known in
    consumes_then a filled (prepend_known new known) done part (consumes_keeps a b filled done h keeps) (part_taken old part new known is)

-- the pending bytes are more of the line
pub more_of_line : (most : ℕ) (a b known : KnownText) (old new before kept : List ℕ) → LineSoFar most a b before → Keeps b (prepend_known old known)
    → HasNoNewline old × (new ≡ []) × KeepsFirst most before old kept → LineSoFar most a (prepend_known new known) kept
more_of_line most a b known old new before kept i keeps t =
    let whole : old ≡ old ++ new = sym (append-nil old) ∙ ap (λ ys. old ++ ys) (sym t.1) in
    (i.0 ++ old, free_append i.0 old i.1 t.0, t.2 i.0 i.2, taken_behind a b known old old new i.0 i.3 keeps whole)

-- the line's newline was among them
pub whole_line : (most : ℕ) (a b known : KnownText) (old new bytes before kept : List ℕ) → LineSoFar most a b before
    → Keeps b (prepend_known old known) → ((part : List ℕ) × HasNoNewline part × (old ≡ part ++ 10 ∷ new) × KeepsFirst most before part kept)
    → TakesLine most a (prepend_known new known) bytes kept (Ok Newline)
whole_line most a b known old new bytes before kept i keeps t =
    let left = prepend_known new known in
    let part = t.0 ++ 10 ∷ [] in
    let taken = taken_behind a b known old part new i.0 i.3 keeps (t.2 ∙ sym (append_assoc t.0 (10 ∷ []) new)) in
    (i.0 ++ t.0, free_append i.0 t.0 i.1 t.1, t.3 i.0 i.2, subst (Consumes a left) (sym (append_assoc i.0 t.0 (10 ∷ []))) taken)
