-- What a reply leaves: of its rank's record, of all records, and of the calls under way.
use Rattle.std.proofs.Common.{◌≡◌, ℕ, zero, suc, ◌<◌, ◌==◌, ◌&&◌, Bool, true, false, cond, not, List, [], ◌∷◌, map, filter, length, Option, Some, None, is_some, get_or, set, refl, ap, ap₂, sym, ◌∙◌, subst, arith, nat_eq, if◌then◌else◌, inl, inr, IsTrue}
use Rattle.std.specs.Prelude.{IfOk, OnOk, Result, Ok, Err, find}
use Rattle.std.specs.List.{AllByRecursion, IsDistinct, position}
use Rattle.std.proofs.lemmas.Bool.{eq-eqb, eqb-true, ne_eqb}
use Rattle.std.proofs.lemmas.List.Quantifiers.{position-Some}
use Rattle.std.proofs.lemmas.Map.Keys.{IsDistinct-head, IsDistinct-tail}
use Rattle.ulfm_model.specs.declared.{call.Call.{Call}, event.Caller.{Caller}, limits.Limits.{Limits}, reply.Reply.{Reply}}
use Rattle.ulfm_model.specs.{Answers.{Effect, comm_of, left_by, left_with, printed, traits_of}, History.{History}, Records.{Held, Record, held_at}}
use Rattle.ulfm_model.proofs.Lists.{each_from}
use Rattle.ulfm_model.specs.{declared.record.RankRecord.{RankRecord}, Kept.{FitsNext, record_of}}
use Rattle.ulfm_model.specs.declared.line.{Line.{Line}, Why.{Why}}
use Rattle.ulfm_model.specs.Traces.{MayReply, Takes, Traced, Under, after_reply, call_by, caller_of, record_in, records_after, same_caller}
use Rattle.ulfm_judge.specs.ReplyTests.{reply_test}
use Rattle.ulfm_judge.specs.{declared.calls.OpenCall.{OpenCall}, Kept.{AreCalls, GoesWith, MayLeave, traced_of}, Telling.{TellsSome}}
use Rattle.ulfm_numbers.specs.{declared.numbers.Numbers.{Numbers}, Telling.{TablesTell}}
use Rattle.ulfm_judge.proofs.Answering.{reply_decides}
use Rattle.ulfm_numbers.proofs.Deciding.{first_fails, true_and}

-- a reply leaves a record's number
by_effect : (now : Record) (c : ℕ) (effect : Effect) → (left_with now c effect).number ≡ now.number
by_effect now c Effect.Keeps = refl
by_effect now c Effect.Ends = refl
by_effect now c Effect.ForGood = refl

pub left_number : {P : Type 0} (ranks : ℕ) (h : History P) (now : Record) (asked : Call P) (reply : Reply P) → (left_by ranks h now asked reply).number ≡ now.number
left_number ranks h now asked (Reply.Refused refusal) = by_effect now (comm_of asked) (printed refusal).2
left_number ranks h now asked _ = refl

module _ {X Y : Type 0} (v : X → Y) (number : Y → ℕ) (r : ℕ) (f : Y → Y) where
  -- the elements with those of number r changed
  abbrev changed : List X → List Y
  changed xs = map (λ x. if number x == r then f x else x) (map v xs)

  unchanged : (xs : List X) → AllByRecursion (λ n. (n == r) ≡ false) (map (λ x. number (v x)) xs) → changed xs ≡ map v xs
  unchanged [] apart = refl
  unchanged (x ∷ xs) apart = ap₂ (λ z zs. z ∷ zs) (ap (λ (b : Bool). if b then f (v x) else v x) apart.0) (unchanged xs apart.1)

  changed_at : (xs : List X) (i : ℕ) (d y : X) → IsDistinct nat_eq (map (λ x. number (v x)) xs) → v y ≡ f (v (get_or xs i d)) → i < length xs → (number (v (get_or xs i d)) == r) ≡ true
      → ((k : ℕ) → k < i → (number (v (get_or xs k d)) == r) ≡ false) → map v (set xs i y) ≡ changed xs
  changed_at [] i d y distinct is within here before = absurd (omega (arith, within))
  changed_at (x ∷ xs) zero d y distinct is within here before =
      let same : number (v x) ≡ r = eqb-true (number (v x)) r here in
      let apart : AllByRecursion (λ n. (n == r) ≡ false) (map (λ x. number (v x)) xs) =
      each_from (λ n. nat_eq (number (v x)) n ≡ false) (λ n. (n == r) ≡ false) (λ n differs. turned n (subst (λ w. nat_eq w n ≡ false) same differs)) (map (λ x. number (v x)) xs)
      (IsDistinct-head nat_eq (number (v x)) (map (λ x. number (v x)) xs) distinct) in
      ap₂ (λ z zs. z ∷ zs) (is ∙ sym (ap (λ (b : Bool). if b then f (v x) else v x) here)) (sym (unchanged xs apart))
    where
      turned : (n : ℕ) → nat_eq r n ≡ false → (n == r) ≡ false
      turned n differs = ne_eqb n r (λ same. absurd (cc (eq-eqb r n (sym same), differs)))
  changed_at (x ∷ xs) (suc i) d y distinct is within here before =
      ap₂ (λ z zs. z ∷ zs) (sym (ap (λ (b : Bool). if b then f (v x) else v x) (before 0 (omega arith))))
      (changed_at xs i d y (IsDistinct-tail nat_eq (number (v x)) (map (λ x. number (v x)) xs) distinct) is (omega (arith, within)) here (λ k less. before (suc k) (omega (arith, less))))

  -- where none has the number, none is changed
  pub none_changed : (xs : List X) → find (λ y. number y == r) (map v xs) ≡ None → map v xs ≡ changed xs
  none_changed [] none = refl
  none_changed (x ∷ xs) none = go (number (v x) == r) none (λ more. none_changed xs more)
    where
      go : (b : Bool) → cond b (Some (v x)) (find (λ y. number y == r) (map v xs)) ≡ None → (find (λ y. number y == r) (map v xs) ≡ None → map v xs ≡ changed xs)
          → v x ∷ map v xs ≡ cond b (f (v x)) (v x) ∷ changed xs
      go true none rest = absurd (cc none)
      go false none rest = ap (λ zs. v x ∷ zs) (rest none)

  -- where the numbers differ, a write at the first of number r changes those of it
  pub one_changed : (xs : List X) (i : ℕ) (d y : X) → IsDistinct nat_eq (map (λ x. number (v x)) xs) → position (λ x. number (v x) == r) xs ≡ Some i → v y ≡ f (v (get_or xs i d))
      → map v (set xs i y) ≡ changed xs
  one_changed xs i d y distinct at is = let first = position-Some (λ (x : X). number (v x) == r) xs i d at in changed_at xs i d y distinct is first.0 first.1 first.2

-- what a rank's reply says that has started has a round whose next number fits, if so it is by the record that is found
pub may_leave : {P : Type 0} (now : Traced P) (r : ℕ) (u : Under P) (reply : Reply P) (own : Record) → record_in now r ≡ Some own
    → ((x : Held) → reply ≡ Reply.Started → held_at own (comm_of u.asked) ≡ Some x → FitsNext ((traits_of u.asked).starts x)) → MayLeave now (Caller.Rank r) u reply
may_leave now r u reply own has fits = λ s other x is found starts holds.
    let same : r ≡ s = cc is in
    let one : other ≡ own = cc (found, ap (record_in now) (sym same) ∙ has) in
    fits x starts (ap (λ (o : Record). held_at o (comm_of u.asked)) (sym one) ∙ holds)

module _ {P A : Type 0} (meld : P → P → P) (pack : P → ℕ) (tells : (x y : P) → pack x ≡ pack y → x ≡ y)
    (limits : Limits) (h : History P) (records : List (RankRecord A)) (us : List (Under P)) (group : List ℕ) where
  abbrev now : Traced P
  now = traced_of limits h records us

  module _ (by : Caller) (point : ℕ) (reply : Reply P) where
    abbrev line : Line P
    line = Line.Replied by point (Some reply)

    abbrev IsTest : Under P → Bool → Type 0
    IsTest u b = reply_test meld pack now group line (Some u) ≡ b

    at_call : (u : Under P) → call_by now by ≡ Some u → (b : Bool) → IsTest u b → reply_test meld pack now group line (call_by now by) ≡ b
    at_call u there b is = ap (λ o. reply_test meld pack now group line o) there ∙ is

    -- a reply to a caller that has no call open
    pub no_call_replied : call_by now by ≡ None → Takes meld now group line now (Some Why.Call)
    no_call_replied none = (inl (refl, λ is_open. absurd (cc (ap is_some none, is_open))), refl)

    -- one that isn't an answer
    pub not_answered : (u : Under P) → call_by now by ≡ Some u → IsTest u false → Takes meld now group line now (Some Why.Reply)
    not_answered u there is = (
      inr (
        refl,
        ap is_some there,
        λ may.
            let yes_it : reply_test meld pack now group line (call_by now by) ≡ true = (reply_decides meld pack tells now by point group reply).1 may in
            absurd (cc (yes_it, at_call u there false is)),
      ),
      refl,
    )

    -- one that is
    pub answered : (u : Under P) → call_by now by ≡ Some u → IsTest u true → MayReply meld now by point group reply
    answered u there is = (reply_decides meld pack tells now by point group reply).0 (at_call u there true is)

    -- and it is taken
    pub taken : (u : Under P) (new : List (RankRecord A)) → call_by now by ≡ Some u → IsTest u true → map (record_of limits) new ≡ records_after now by u point reply
        → Takes meld now group line (traced_of limits h new (filter (λ v. not (same_caller (caller_of v) by)) us)) None
    taken u new there is left = (
      answered u there is,
      ap (λ (rs : List Record). record now { records = rs; calls = filter (λ v. not (same_caller (caller_of v) by)) us }) left ∙ sym (ap (after_reply now by point reply) there),
    )

-- a word tells its value apart from others
pub packs_apart : {P : Type 0} (pack : P → ℕ) (unpack : ℕ → Option P) → ((x : P) → unpack (pack x) ≡ Some x) → (x y : P) → pack x ≡ pack y → x ≡ y
packs_apart pack unpack back x y e = let same : Some x ≡ Some y = sym (back x) ∙ (ap unpack e ∙ back y) in cc same

-- a rank without a record has none
pub no_record : {P : Type 0} (now : Traced P) (r s : ℕ) (own : Record) → record_in now r ≡ None → Caller.Rank r ≡ Caller.Rank s → record_in now s ≡ Some own → ⊥
no_record now r s own none is found = let same : r ≡ s = cc is in let gone : None ≡ Some own = sym none ∙ (ap (record_in now) same ∙ found) in cc gone

-- where three tests hold, a fourth is that of them all
pub all_and : (a b d l x : Bool) → a ≡ true → b ≡ true → d ≡ true → x ≡ l → x ≡ (a && (b && (d && l)))
all_and a b d l x one two three is = is ∙ (true_and d l three ∙ (true_and b (d && l) two ∙ true_and a (b && (d && l)) one))

-- one of the tests fails
pub second_fails : (a b c : Bool) → b ≡ false → false ≡ (a && (b && c))
second_fails true b c fails = first_fails b c fails
second_fails false b c fails = refl

pub third_fails : (a b c d : Bool) → c ≡ false → false ≡ (a && (b && (c && d)))
third_fails true b c d fails = second_fails b c d fails
third_fails false b c d fails = refl

-- what follows where a call went well
pub on_ok : {X E : Type 0} (result : Result X E) (Q R : Type 0) → (Q → R) → OnOk result Q → OnOk result R
on_ok (Ok x) Q R goes q = goes q
on_ok (Err e) Q R goes q = tt

-- what follows where a test went well and holds
pub on_test : {E : Type 0} (result : Result Bool E) (test : Bool) (Q : Type 0) → (test ≡ true → Q) → IfOk result (λ b. b ≡ test) → IfOk result (λ b. IsTrue b → Q)
on_test (Ok b) test Q goes same = λ is. goes (sym same ∙ is)
on_test (Err e) test Q goes same = tt

-- a state whose history stays passes where what is said with it does
pub goes_on : {P A E W : Type 0} {g : _} {k : _} (limits : Limits) (numbers : Numbers P A g k) (records : List (RankRecord A)) (calls : List (OpenCall P A)) (Taken : Traced P → W → Type 0) (h : History P) (result : Result W E)
    → TablesTell limits.ranks numbers h → IfOk result (GoesWith calls (λ next. Taken (traced_of limits h records next))) → IfOk result (TellsSome limits numbers records calls Taken)
goes_on limits numbers records calls Taken h (Ok why) tells taken = (h, taken.0, tells, taken.1, taken.2)
goes_on limits numbers records calls Taken h (Err e) tells taken = tt

-- what is kept stands for what lines said, before a line and after it
pub stands_on : {P A E : Type 0} {g : _} {k : _} (meld : P → P → P) (limits : Limits) (numbers : Numbers P A g k) (records : List (RankRecord A)) (calls : List (OpenCall P A)) (group : List ℕ) (told : Line P) (result : Result (Option Why) E) (old new : Traced P)
    → new ≡ old → IfOk result (TellsSome limits numbers records calls (Takes meld old group told))
    → IfOk result (λ why. (next : Traced P) × Takes meld new group told next why
    × (TablesTell limits.ranks numbers next.history × AreCalls calls next.calls × (next ≡ traced_of limits next.history records next.calls)))
stands_on meld limits numbers records calls group told (Ok why) old new same goes =
    let next = traced_of limits goes.0 records goes.1 in (next, subst (λ w. Takes meld w group told next why) (sym same) goes.4, (goes.2, goes.3, refl))
stands_on meld limits numbers records calls group told (Err e) old new same goes = tt
