-- What a reply leaves of the world's communicator in a rank's record.
use Rattle.std.proofs.Common.{◌≡◌, ℕ, ◌==◌, not, Bool, true, false, List, [], ◌∷◌, filter, find, Option, Some, None, refl, ap, sym, ◌∙◌, subst, if◌then◌else◌}
use Rattle.std.proofs.lemmas.Bool.{eqb-true}
use Rattle.ulfm_model.specs.declared.{call.Call.{Call}, call.Request.{Request}, call.Request.TheVariants.{Agree, Shrink, Barrier}, reply.Reply.{Reply}}
use Rattle.ulfm_model.specs.declared.reply.Reply.TheVariants.{Started, Pending, Agreed, Shrunk, Done, FailedGroup, Acked, Declared, AlreadyFailed, Revoked, AlreadyRevoked, Standing, Freed, Refused}
use Rattle.ulfm_model.specs.{Answers.{Effect, closed, comm_of, left_by, left_with, opened, printed, traits_of}, Answers.Effect.{Ends, ForGood, Keeps}}
use Rattle.ulfm_model.specs.{History.{History, members}, Records.{Held, Record, change_at, held_at, new_held}}
use Rattle.ulfm_model.proofs.Telling.{find_change}
use Rattle.ulfm_lines.proofs.Bystanders.{find_append}

abbrev is_worlds : Held → Bool
is_worlds y = y.comm == 0

opened_comm : (y : Held) (request : Option Request) → (opened y request).comm ≡ y.comm
opened_comm y None = refl
opened_comm y (Some (Agree k)) = refl
opened_comm y (Some (Shrink k)) = refl
opened_comm y (Some (Barrier k)) = refl

-- a change to another communicator changes nothing for the world's
find_elsewhere : (c : ℕ) → (c == 0) ≡ false → (f : Held → Held) → ((y : Held) → (f y).comm ≡ y.comm) → (held : List Held) → find is_worlds (change_at c f held) ≡ find is_worlds held
find_elsewhere c other f keeps [] = refl
find_elsewhere c other f keeps (y ∷ held) = go (y.comm == c) refl (find_elsewhere c other f keeps held)
  where
    go : (b : Bool) → y.comm == c ≡ b → find is_worlds (change_at c f held) ≡ find is_worlds held
        → find is_worlds (if b then f y ∷ held else y ∷ change_at c f held) ≡ (if y.comm == 0 then Some y else find is_worlds held)
    go true is rest =
        let no : y.comm == 0 ≡ false = ap (λ n. n == 0) (eqb-true y.comm c is) ∙ other in
        ap (λ (b : Bool). if b then Some (f y) else find is_worlds held) (ap (λ n. n == 0) (keeps y) ∙ no) ∙ sym (ap (λ (b : Bool). if b then Some y else find is_worlds held) no)
    go false is rest = ap (λ more. if y.comm == 0 then Some y else more) rest

-- nor does its end
find_without : (c : ℕ) → (c == 0) ≡ false → (held : List Held) → find is_worlds (filter (λ y. not (y.comm == c)) held) ≡ find is_worlds held
find_without c other [] = refl
find_without c other (y ∷ held) = go (y.comm == c) refl (find_without c other held)
  where
    go : (b : Bool) → y.comm == c ≡ b → find is_worlds (filter (λ y. not (y.comm == c)) held) ≡ find is_worlds held
        → find is_worlds (if not b then y ∷ filter (λ y. not (y.comm == c)) held else filter (λ y. not (y.comm == c)) held) ≡ (if y.comm == 0 then Some y else find is_worlds held)
    go true is rest =
        let no : y.comm == 0 ≡ false = ap (λ n. n == 0) (eqb-true y.comm c is) ∙ other in
        rest ∙ sym (ap (λ (b : Bool). if b then Some y else find is_worlds held) no)
    go false is rest = ap (λ more. if y.comm == 0 then Some y else more) rest

-- the world's communicator, changed, is found as it is changed
find_here : (c : ℕ) → c ≡ 0 → (f : Held → Held) → ((y : Held) → (f y).comm ≡ y.comm) → (held : List Held) (x : Held) → find is_worlds held ≡ Some x → find is_worlds (change_at c f held) ≡ Some (f x)
find_here c here f keeps held x at = subst (λ n. find is_worlds (change_at n f held) ≡ Some (f x)) (sym here) (find_change 0 f keeps held x at)

module _ {P : Type 0} (ranks : ℕ) (h : History P) (own : Record) (asked : Call P) (x : Held) (at : held_at own 0 ≡ Some x) where
  abbrev left : Reply P → Option Held
  left reply = held_at (left_by ranks h own asked reply) 0

  abbrev ended : Held
  ended = record x { request = None }

  -- a call on another communicator leaves the world's
  module _ (other : (comm_of asked == 0) ≡ false) where
    closed_elsewhere : find is_worlds (closed own (comm_of asked)).held ≡ Some x
    closed_elsewhere = find_elsewhere (comm_of asked) other (λ y. record y { request = None }) (λ y. refl) own.held ∙ at

    effect_elsewhere : (effect : Effect) → held_at (left_with own (comm_of asked) effect) 0 ≡ Some x
    effect_elsewhere Keeps = at
    effect_elsewhere Ends = closed_elsewhere
    effect_elsewhere ForGood = at

    pub left_elsewhere : (reply : Reply P) → left reply ≡ Some x
    left_elsewhere Started = find_elsewhere (comm_of asked) other (λ y. opened y ((traits_of asked).starts y)) (λ y. opened_comm y ((traits_of asked).starts y)) own.held ∙ at
    left_elsewhere (Shrunk j context size) = find_append is_worlds (closed own (comm_of asked)).held (new_held j context (members ranks h j) ∷ []) x closed_elsewhere
    left_elsewhere (Acked count) = find_elsewhere (comm_of asked) other (λ y. record y { acked = count }) (λ y. refl) own.held ∙ at
    left_elsewhere Freed = find_without (comm_of asked) other own.held ∙ at
    left_elsewhere Pending = at
    left_elsewhere (Agreed raised count value) = closed_elsewhere
    left_elsewhere Done = closed_elsewhere
    left_elsewhere (FailedGroup count) = at
    left_elsewhere Declared = at
    left_elsewhere AlreadyFailed = at
    left_elsewhere Revoked = at
    left_elsewhere AlreadyRevoked = at
    left_elsewhere (Standing revoked) = at
    left_elsewhere (Refused why) = effect_elsewhere (printed why).2

  -- and one on the world's leaves it changed
  module _ (here : comm_of asked ≡ 0) where
    pub left_started : left Started ≡ Some (opened x ((traits_of asked).starts x))
    left_started = find_here (comm_of asked) here (λ y. opened y ((traits_of asked).starts y)) (λ y. opened_comm y ((traits_of asked).starts y)) own.held x at

    closed_here : find is_worlds (closed own (comm_of asked)).held ≡ Some ended
    closed_here = find_here (comm_of asked) here (λ y. record y { request = None }) (λ y. refl) own.held x at

    pub left_agreed : (value : P) (count : ℕ) (raised : Bool) → left (Agreed raised count value) ≡ Some ended
    left_agreed value count raised = closed_here

    pub left_done : left Done ≡ Some ended
    left_done = closed_here

    pub left_shrunk : (j context size : ℕ) → left (Shrunk j context size) ≡ Some ended
    left_shrunk j context size = find_append is_worlds (closed own (comm_of asked)).held (new_held j context (members ranks h j) ∷ []) ended closed_here

    pub left_acked : (count : ℕ) → left (Acked count) ≡ Some (record x { acked = count })
    left_acked count = find_here (comm_of asked) here (λ y. record y { acked = count }) (λ y. refl) own.held x at
