-- What a line of a trace changes for a rank: another's line nothing but the history, and its own reply its record.
use Rattle.std.proofs.Common.{◌≡◌, ℕ, zero, suc, ◌+◌, ◌<◌, ◌==◌, Bool, true, false, List, [], ◌∷◌, ◌++◌, find, map, take, Option, Some, None, is_some, refl, ap, sym, ◌∙◌, arith, append-nil, if◌then◌else◌}
use Rattle.std.proofs.lemmas.Bool.{eqb-false, ne_eqb}
use Rattle.std.proofs.lemmas.{List.{map-append}, List.Folds.{find-append}}
use Rattle.std.specs.Option.{option_or}
use Rattle.ulfm_model.specs.declared.{event.Caller.{Caller}, limits.Limits.{Limits}, reply.Reply.{Reply}}
use Rattle.ulfm_model.specs.declared.line.Line.{Line}
use Rattle.ulfm_model.specs.{History.{History, first_ranks}, Records.{Record, new_record}}
use Rattle.ulfm_model.specs.Traces.{Traced, Under, after, after_reply, call_by, caller_of, found_by, record_in, records_after, same_caller, taken_in, with_event}
use Rattle.ulfm_model.proofs.{Kept.{find_other_record}, LeftRuns.{left_keeps}}
use Rattle.ulfm_lines.specs.Callers.{line_by}
use Rattle.ulfm_lines.proofs.Calls.{find_behind, find_kept, find_unchanged, keeps_asked}

-- the record that is changed is found
pub find_changed : (r : ℕ) (f : Record → Record) → ((own : Record) → (f own).number ≡ own.number) → (records : List Record) (own : Record) → find (λ x. x.number == r) records ≡ Some own
    → find (λ x. x.number == r) (map (λ x. if x.number == r then f x else x) records) ≡ Some (f own)
find_changed r f keeps [] own is = absurd (cc is)
find_changed r f keeps (x ∷ xs) own is = go (x.number == r) refl is (λ more. find_changed r f keeps xs own more)
  where
    others : List Record
    others = map (λ y. if y.number == r then f y else y) xs

    go : (b : Bool) → x.number == r ≡ b → (if b then Some x else find (λ y. y.number == r) xs) ≡ Some own → (find (λ y. y.number == r) xs ≡ Some own → find (λ y. y.number == r) others ≡ Some (f own))
        → find (λ y. y.number == r) ((if b then f x else x) ∷ others) ≡ Some (f own)
    go true here is more =
        let same : x ≡ own = cc is in
        ap (λ (b : Bool). if b then Some (f x) else find (λ y. y.number == r) others) (ap (λ n. n == r) (keeps x) ∙ here) ∙ ap (λ w. Some (f w)) same
    go false here is more = ap (λ (b : Bool). if b then Some x else find (λ y. y.number == r) others) here ∙ more is

-- what is found in a list is found with more behind it
pub find_append : {X : Type 0} (p : X → Bool) (xs ys : List X) (x : X) → find p xs ≡ Some x → find p (xs ++ ys) ≡ Some x
find_append p xs ys x is = find-append p xs ys ∙ ap (λ o. option_or o (find p ys)) is

-- what is not found there is looked for behind it
find_beyond : {X : Type 0} (p : X → Bool) (xs ys : List X) → find p xs ≡ None → find p (xs ++ ys) ≡ find p ys
find_beyond p xs ys none = find-append p xs ys ∙ ap (λ o. option_or o (find p ys)) none

-- a call that begins is found where none was
pub find_push : {X : Type 0} (p : X → Bool) (xs : List X) (x : X) → find p xs ≡ None → p x ≡ true → find p (xs ++ x ∷ []) ≡ Some x
find_push p xs x none is = find_beyond p xs (x ∷ []) none ∙ ap (λ (b : Bool). if b then Some x else None) is

-- the records of the first n ranks
module _ (limits : Limits) where
  abbrev first : ℕ → List Record
  first n = map (new_record limits) (first_ranks n)

  none_above : (n r : ℕ) → n < r + 1 → find (λ own. own.number == r) (first n) ≡ None
  none_above zero r above = refl
  none_above (suc n) r above =
      ap (find (λ own. own.number == r)) (map-append (new_record limits) (first_ranks n) (n ∷ []))
      ∙ (find_beyond (λ (own : Record). own.number == r) (first n) (new_record limits n ∷ []) (none_above n r (omega (arith, above)))
      ∙ ap (λ (b : Bool). if b then Some (new_record limits n) else None) (ne_eqb n r (λ e. omega (arith, e, above))))

  pub new_found : (n r : ℕ) → r < n → find (λ own. own.number == r) (first n) ≡ Some (new_record limits r)
  new_found zero r below = absurd (omega (arith, below))
  new_found (suc n) r below = ap (find (λ own. own.number == r)) (map-append (new_record limits) (first_ranks n) (n ∷ [])) ∙ go (n == r) refl (λ less. new_found n r less)
    where
      go : (b : Bool) → n == r ≡ b → (r < n → find (λ own. own.number == r) (first n) ≡ Some (new_record limits r)) → find (λ own. own.number == r) (first n ++ new_record limits n ∷ []) ≡ Some (new_record limits r)
      go true same rest =
          let is : n ≡ r = grind arith in
          find_beyond (λ (own : Record). own.number == r) (first n) (new_record limits n ∷ []) (none_above n r (omega (arith, is))) ∙ (ap (λ (b : Bool). if b then Some (new_record limits n) else None) same ∙ ap (λ m. Some (new_record limits m)) is)
      go false other rest =
          let apart : r < n = grind (arith, below, other) in find_append (λ (own : Record). own.number == r) (first n) (new_record limits n ∷ []) (new_record limits r) (rest apart)

-- the event that a line tells, if it tells one
abbrev pub line_entries : {P : Type 0} → Line P → History P
line_entries (Line.Happened by (Some event)) = record { by = by; event = event } ∷ []
line_entries _ = []

module _ {P : Type 0} where
  -- a reply changes no other's call
  reply_call : (now : Traced P) (by other : Caller) (point : ℕ) (reply : Reply P) (answered : Option (Under P)) → same_caller by other ≡ false → call_by (after_reply now by point reply answered) other ≡ call_by now other
  reply_call now by other point reply None differ = refl
  reply_call now by other point reply (Some u) differ = find_kept by other differ now.calls

  -- nor does any line of another's
  pub line_call : (now : Traced P) (line : Line P) (other : Caller) → same_caller (line_by line) other ≡ false → call_by (after now line) other ≡ call_by now other
  line_call now (Line.Called asked padded) other differ = find_behind (λ v. same_caller (caller_of v) other) now.calls _ differ
  line_call now (Line.Looked r count) other differ = find_unchanged (Caller.Rank r) other (λ u. record u { look = Some count }) (λ u. refl) differ now.calls
  line_call now (Line.Happened c None) other differ = refl
  line_call now (Line.Happened c (Some event)) other differ = find_unchanged c other (with_event event) (keeps_asked event) differ now.calls
  line_call now (Line.Replied c point None) other differ = refl
  line_call now (Line.Replied c point (Some reply)) other differ = reply_call now c other point reply (call_by now c) differ

  -- what is taken in keeps the rank's number
  pub taken_number : (now : Traced P) (u : Under P) (point : ℕ) (reply : Reply P) (own : Record) → (taken_in now u point reply own).number ≡ own.number
  taken_number now u point reply own = (left_keeps now.limits.ranks (take point now.history) (record own { seen = if is_some u.look then found_by now u else own.seen }) u.asked reply).0

  -- a reply to its own call leaves a rank's record as it says
  pub own_record : (now : Traced P) (r : ℕ) (u : Under P) (point : ℕ) (reply : Reply P) (own : Record) → record_in now r ≡ Some own
      → find (λ x. x.number == r) (records_after now (Caller.Rank r) u point reply) ≡ Some (taken_in now u point reply own)
  own_record now r u point reply own at = find_changed r (taken_in now u point reply) (taken_number now u point reply) now.records own at

  -- it changes no other's record
  reply_record : (now : Traced P) (by : Caller) (s point : ℕ) (reply : Reply P) (answered : Option (Under P)) → same_caller by (Caller.Rank s) ≡ false → record_in (after_reply now by point reply answered) s ≡ record_in now s
  reply_record now by s point reply None differ = refl
  reply_record now Caller.Outside s point reply (Some u) differ = refl
  reply_record now (Caller.Rank r) s point reply (Some u) differ =
      find_other_record (λ (a b : P). a) r s (taken_in now u point reply) (taken_number now u point reply) (ne_eqb s r (λ e. eqb-false r s differ (sym e))) now.records

  -- nor does any line of another's
  pub line_record : (now : Traced P) (line : Line P) (s : ℕ) → same_caller (line_by line) (Caller.Rank s) ≡ false → record_in (after now line) s ≡ record_in now s
  line_record now (Line.Called asked padded) s differ = refl
  line_record now (Line.Looked r count) s differ = refl
  line_record now (Line.Happened c None) s differ = refl
  line_record now (Line.Happened c (Some event)) s differ = refl
  line_record now (Line.Replied c point None) s differ = refl
  line_record now (Line.Replied c point (Some reply)) s differ = reply_record now c s point reply (call_by now c) differ

  reply_history : (now : Traced P) (by : Caller) (point : ℕ) (reply : Reply P) (answered : Option (Under P)) → (after_reply now by point reply answered).history ≡ now.history
  reply_history now by point reply None = refl
  reply_history now by point reply (Some u) = refl

  -- a line adds the event that it tells
  pub line_history : (now : Traced P) (line : Line P) → (after now line).history ≡ now.history ++ line_entries line
  line_history now (Line.Called asked padded) = sym (append-nil now.history)
  line_history now (Line.Looked r count) = sym (append-nil now.history)
  line_history now (Line.Happened c None) = sym (append-nil now.history)
  line_history now (Line.Happened c (Some event)) = refl
  line_history now (Line.Replied c point None) = sym (append-nil now.history)
  line_history now (Line.Replied c point (Some reply)) = reply_history now c point reply (call_by now c) ∙ sym (append-nil now.history)
