-- What is gathered of all workers.
use Rattle.std.proofs.Common.{◌≡◌, ℕ, zero, suc, ◌+◌, ◌<◌, ◌≤◌, Bool, true, false, cond, List, [], ◌∷◌, ◌++◌, length, map, Option, Some, None, IfSome, Result, Ok, Err, IfErr, IfOk, MatchResult, unwrap_or, inl, inr, refl, ap, sym, ◌∙◌, subst, arith, length-append}
use Rattle.std.specs.{List.{AllByRecursion, list_any}, Prelude.{Vec, ⊤}}
use Rattle.boxcar.specs.Table.{Shelves, Where}
use mathlib.Core.{Bool.{◌||◌}, List.{IsPrefix}}
use Rattle.ulfm_laws.specs.{declared.flag_and.FlagAnd.{FlagAnd}, Flags.{flag_meld}}
use Rattle.ulfm_model.specs.declared.{limits.Limits.{Limits}, reply.Reply.{Reply}}
use Rattle.ulfm_model.specs.{History.{Exists, History, IsLegal, failures, first_ranks, members}, Records.{Fits, Held, Record, held_at, new_record}}
use Rattle.ulfm_model.proofs.{Histories.{failures_begin, members_stay}, LeftFits.{held_fits}, Lists.{has_prefix}}
use Rattle.ulfm_comm.specs.Counts.{Ranked, new_rank, records_of}
use Rattle.ulfm_comm.proofs.Opening.{records_are}
use Rattle.ulfm_model.proofs.Staying.{replies_last}
use Rattle.ulfm_race.specs.Races.{AreAnswered, EndsFor, IsAnswered, IsDeclared, IsEnded, IsGathered, IsGroup, IsHeard, IsNewRank, IsReported, Numbered, StartIs, StopsFor, WasAnswered, WasTold, flag_of, is_refused, is_shrunk, limits_of}
use Rattle.ulfm_race.specs.declared.{gather.Heard.{Heard}, plan.Plan.{Plan}, plan.RaceFault.{RaceFault}, plan.RaceFault.TheVariants.{Held as HeldBack, Memory}, plan.Turn.{Turn}, worker.Report.{Report}}
use Rattle.ulfm_words.specs.Steps.{Name}
use Rattle.ulfm_race.proofs.Turns.{any_push, at_push}

-- one element more, with the number that comes next
pub number_push : {X : Type 0} (Q : ℕ → X → Type 0) (n : ℕ) (xs : List X) (x : X) (m : ℕ) → m ≡ n + length xs → Numbered Q n xs → Q m x → Numbered Q n (xs ++ x ∷ [])
number_push Q n [] x m is all last = (subst (λ k. Q k x) (omega (arith, is)) last, tt)
number_push Q n (y ∷ xs) x m is all last = (all.0, number_push Q (n + 1) xs x m (omega (arith, is)) all.1 last)

-- what follows of each element, by its number
pub number_all : {X : Type 0} (Q W : ℕ → X → Type 0) → ((i : ℕ) (x : X) → Q i x → W i x) → (n : ℕ) (xs : List X) → Numbered Q n xs → Numbered W n xs
number_all Q W imp n [] all = tt
number_all Q W imp n (x ∷ xs) all = (imp n x all.0, number_all Q W imp (n + 1) xs all.1)

count_first : (n : ℕ) → length (first_ranks n) ≡ n
count_first zero = refl
count_first (suc n) = omega (arith, length-append (first_ranks n) (n ∷ []), count_first n)

map_push : {X Y : Type 0} (f : X → Y) (xs : List X) (x : X) → map f (xs ++ x ∷ []) ≡ map f xs ++ f x ∷ []
map_push f [] x = refl
map_push f (y ∷ xs) x = ap (λ ys. f y ∷ ys) (map_push f xs x)

count_map : {X Y : Type 0} (f : X → Y) (xs : List X) → length (map f xs) ≡ length xs
count_map f [] = refl
count_map f (x ∷ xs) = ap suc (count_map f xs)

number_first : {X : Type 0} (f : ℕ → X) (n : ℕ) → Numbered (λ i x. x ≡ f i) 0 (map f (first_ranks n))
number_first f zero = tt
number_first f (suc n) =
    subst (Numbered (λ i x. x ≡ f i) 0) (sym (map_push f (first_ranks n) n))
    (number_push (λ i x. x ≡ f i) 0 (map f (first_ranks n)) (f n) n (omega (arith, count_map f (first_ranks n), count_first n)) (number_first f n) refl)

both_new : (plan : Plan) (n : ℕ) (ranks : List Record) → Numbered (λ i own. own ≡ new_record (limits_of plan) i) n ranks → AllByRecursion (Fits flag_meld (limits_of plan) []) ranks → Numbered (IsNewRank plan) n ranks
both_new plan n [] are fit = tt
both_new plan n (own ∷ ranks) are fit = (record { record_is = are.0; fits = fit.0 }, both_new plan (n + 1) ranks are.1 fit.1)

-- the ranks of a new world
pub new_ranks : (plan : Plan) (limits : Limits) → limits ≡ limits_of plan → (ranks : List Ranked) → ranks ≡ map (new_rank limits) (first_ranks limits.ranks) → AllByRecursion (Fits flag_meld limits []) (records_of ranks)
    → Numbered (IsNewRank plan) 0 (records_of ranks) × (length ranks ≡ plan.ranks)
new_ranks plan limits same ranks are fit =
    let mine : ranks ≡ map (new_rank (limits_of plan)) (first_ranks plan.ranks) = subst (λ l. ranks ≡ map (new_rank l) (first_ranks l.ranks)) same are in
    let records : records_of ranks ≡ map (new_record (limits_of plan)) (first_ranks plan.ranks) = ap records_of mine ∙ records_are (limits_of plan) (first_ranks plan.ranks) in (
      both_new plan 0 (records_of ranks) (subst (Numbered (λ i own. own ≡ new_record (limits_of plan) i) 0) (sym records) (number_first (new_record (limits_of plan)) plan.ranks)) (subst (λ l. AllByRecursion (Fits flag_meld l []) (records_of ranks)) same fit),
      ap length mine ∙ (count_map (new_rank (limits_of plan)) (first_ranks plan.ranks) ∙ count_first plan.ranks),
    )

module _ (plan : Plan) (h longer : History FlagAnd) (begins : IsPrefix h longer) (legal : IsLegal flag_meld (limits_of plan) longer) where
  -- what a rank was answered stays
  pub answered_stays : (r : ℕ) (said : List (Reply FlagAnd)) → WasAnswered plan h r said → WasAnswered plan longer r said
  answered_stays r said was = replies_last flag_meld (limits_of plan) h longer 0 plan.rounds (flag_of r) r said (omega arith) (omega arith) begins legal was

  declared_stays : (r : ℕ) → IsDeclared h r → IsDeclared longer r
  declared_stays r found = has_prefix (failures h) (failures longer) r (failures_begin h longer begins) found

  -- what it was told stays
  pub told_stays : (r : ℕ) (said : List (Reply FlagAnd)) → WasTold plan h r said → WasTold plan longer r said
  told_stays r said was = record { answered = answered_stays r said was.answered; stopped = λ some. declared_stays r (was.stopped some) }

  -- a worker that was started was, and a rank that has none is declared still
  pub starts_stay : {X : Type 0} (runs : X → Type 0) (r : ℕ) (one : Result X RaceFault) → StartIs runs h r one → StartIs runs longer r one
  starts_stay runs r (Ok x) start = start
  starts_stay runs r (Err fault) start = (start.0, declared_stays r start.1)

  -- the same of each rank, by its number
  pub starts_later : {X : Type 0} (runs : ℕ → X → Type 0) (n : ℕ) (xs : List (Result X RaceFault)) → Numbered (λ i one. StartIs (runs i) h i one) n xs → Numbered (λ i one. StartIs (runs i) longer i one) n xs
  starts_later runs n xs all =
      number_all (λ i one. StartIs (runs i) h i one) (λ i one. StartIs (runs i) longer i one) (λ i one is. starts_stay (runs i) i one is) n xs all

  -- and of one rank more
  pub starts_push : {X : Type 0} (runs : ℕ → X → Type 0) (xs new : List (Result X RaceFault)) (one : Result X RaceFault) (r : ℕ) → new ≡ xs ++ one ∷ [] → length xs ≡ r → Numbered (λ i one. StartIs (runs i) h i one) 0 xs → StartIs (runs r) longer r one → Numbered (λ i one. StartIs (runs i) longer i one) 0 new
  starts_push runs xs new one r pushed count all here =
      subst (Numbered (λ i one. StartIs (runs i) longer i one) 0) (sym pushed)
      (number_push (λ i one. StartIs (runs i) longer i one) 0 xs one r (omega (arith, count)) (starts_later runs 0 xs all) here)

  -- the rank of the plan stays declared
  pub plan_stays : (rank : Option ℕ) → IfSome rank (IsDeclared h) → IfSome rank (IsDeclared longer)
  plan_stays None found = tt
  plan_stays (Some r) found = declared_stays r found

  -- how it ended stays
  pub ended_stays : (r : ℕ) → IsEnded plan h r → IsEnded plan longer r
  ended_stays r (inl whole) = inl (whole.0, told_stays r whole.0 whole.1)
  ended_stays r (inr found) = inr (declared_stays r found)

  -- how the rank of a worker ended, by its report
  ended_by : {A : Type 0} (r : ℕ) (own : Record) (said : Result (Where (Vec (Reply FlagAnd) A)) RaceFault) → IfOk said (λ t. IsAnswered plan h r own t.value.items)
      → IfOk said (λ t. list_any is_refused t.value.items ≡ true → IsDeclared h r) → IfErr said (λ _. IsDeclared h r) → IsEnded plan longer r
  ended_by r own (Ok token) answered refused declared = ended_stays r (inl (token.value.items, record { answered = answered.answered; stopped = refused }))
  ended_by r own (Err fault) answered refused declared = inr (declared_stays r declared)

  group_stays : (made : Bool) (group : List ℕ) → IsGroup plan h made group → IsGroup plan longer made group
  group_stays true group is = let same = members_stay plan.ranks h longer 1 begins is.0 in (same.0, is.1 ∙ sym same.1)
  group_stays false group is = is

  -- what a worker reported, heard later
  module _ (own : Record) (fits : Fits flag_meld (limits_of plan) h own) (r : ℕ) (said replies : List (Reply FlagAnd)) (read : replies ≡ said) (is : IsAnswered plan h r own said) (refused : list_any is_refused said ≡ true → IsDeclared h r) where
    group_of : (made : Bool) (group : List ℕ) → made ≡ list_any is_shrunk said → (made ≡ true → (y : Held) → held_at own 1 ≡ Some y → group ≡ y.group) → (made ≡ false → group ≡ []) → IsGroup plan longer made group
    group_of true group made_is members_are nobody =
        let x = is.holds (sym made_is) in
        let both = held_fits flag_meld (limits_of plan) h own 1 x.0 fits x.1 in
        let here : Exists h 1 = subst (Exists h) both.1 both.0.exists in
        let same = members_stay plan.ranks h longer 1 begins here in
        (same.0, members_are refl x.0 x.1 ∙ (both.0.group ∙ (ap (λ n. members plan.ranks h n) both.1 ∙ sym same.1)))
    group_of false group made_is members_are nobody = nobody refl

    pub heard_is : (made : Bool) (group : List ℕ) → made ≡ list_any is_shrunk replies → (made ≡ true → (y : Held) → held_at own 1 ≡ Some y → group ≡ y.group) → (made ≡ false → group ≡ []) → IsHeard plan longer r replies made group
    heard_is made group made_is members_are nobody = record {
      told = subst (WasTold plan longer r) (sym read) (told_stays r said (record { answered = is.answered; stopped = refused }));
      made_is = made_is;
      group_is = group_of made group (made_is ∙ ap (list_any is_shrunk) read) members_are nobody;
    }

  -- what is gathered stays
  pub gathered_stays : (n : ℕ) (replies : List (List (Reply FlagAnd))) (group : List ℕ) (fault : Option RaceFault) → IsGathered plan h n replies group fault → IsGathered plan longer n replies group fault
  gathered_stays n replies group fault is none =
      let was = is none in
      record {
        all = was.all;
        each = λ r said at. told_stays r said (was.each r said at);
        group_is = group_stays (list_any (list_any is_shrunk) replies) group was.group_is;
      }

-- how the rank of a worker ended, by its report, in a legal history that goes on from what was reported
pub report_ended : {name : Name} {shelves : Shelves} {may_say : ℕ → Turn → Bool → Type 0} {plan : Plan} {r : ℕ} {report : Report} {seen : History FlagAnd} → IsReported name shelves may_say plan r report
    → name.limits ≡ limits_of plan → IsLegal flag_meld name.limits seen → IsPrefix report.told.seen seen → IsEnded plan seen r
report_ended {plan = plan} {r = r} {report = report} {seen = seen} kept same legal begins =
    ended_by plan report.told.seen seen begins (subst (λ l. IsLegal flag_meld l seen) same legal) r report.rank.own report.said kept.answered kept.refused kept.declared

-- nothing is gathered at first
pub gathered_none : {V : Type 0} (items : V → List (Reply FlagAnd)) (plan : Plan) (h : History FlagAnd) (old : List V) (group : List ℕ) (fault : Option RaceFault) → old ≡ [] → group ≡ [] → IsGathered plan h 0 (map items old) group fault
gathered_none items plan h old group fault nothing nobody none =
    subst (λ w. AreAnswered plan h 0 (map items w) group) (sym nothing) (record { all = refl; each = λ r said at. absurd (cc at); group_is = nobody })

-- the same by another name of the plan
pub gathered_by : (plan other : Plan) (h : History FlagAnd) (n : ℕ) (replies : List (List (Reply FlagAnd))) (group : List ℕ) (fault : Option RaceFault) → plan ≡ other → IsGathered plan h n replies group fault → IsGathered other h n replies group fault
gathered_by plan other h n replies group fault same is = subst (λ p. IsGathered p h n replies group fault) same is

module _ (plan : Plan) (h : History FlagAnd) (r : ℕ) (replies : List (List (Reply FlagAnd))) (group : List ℕ) (was : AreAnswered plan h r replies group) (said : List (Reply FlagAnd)) where
  group_push : (earlier made : Bool) (more : List ℕ) → IsGroup plan h earlier group → IsGroup plan h made more → IsGroup plan h (earlier || made) (cond made more group)
  group_push true true more old new = new
  group_push true false more old new = old
  group_push false true more old new = new
  group_push false false more old new = old

  -- one rank more
  pub answered_push : (made : Bool) (more : List ℕ) → IsHeard plan h r said made more → AreAnswered plan h (r + 1) (replies ++ said ∷ []) (cond made more group)
  answered_push made more heard =
      let count = was.all in
      record {
        all = omega (arith, length-append replies (said ∷ []), count);
        each = λ i given here. elim (at_push replies said given i here) [
          | inl old ↦ was.each i given old
          | inr this ↦
              let one : r ≡ i = omega (arith, count, this.0) in
              subst (λ n. WasTold plan h n given) one (subst (WasTold plan h r) this.1 heard.told)
        ];
        group_is = subst (λ b. IsGroup plan h b (cond made more group)) (sym (any_push (list_any is_shrunk) replies said ∙ ap (λ b. list_any (list_any is_shrunk) replies || b) (sym heard.made_is)))
            (group_push (list_any (list_any is_shrunk) replies) made more was.group_is heard.group_is);
      }

-- one rank more, pushed
pub adds : {V : Type 0} (items : V → List (Reply FlagAnd)) (plan : Plan) (h : History FlagAnd) (r : ℕ) (old new : List V) (x : V) (group : List ℕ) (made : Bool) (more : List ℕ) (b : Bool)
    → new ≡ old ++ x ∷ [] → made ≡ b → AreAnswered plan h r (map items old) group → IsHeard plan h r (items x) made more → AreAnswered plan h (r + 1) (map items new) (cond b more group)
adds items plan h r old new x group made more b pushed made_is was heard =
    subst (λ w. AreAnswered plan h (r + 1) w (cond b more group)) (sym (ap (map items) pushed ∙ map_push items old x))
    (subst (λ w. AreAnswered plan h (r + 1) (map items old ++ items x ∷ []) (cond w more group)) made_is (answered_push plan h r (map items old) group was (items x) made more heard))

-- what was heard of a rank, by another name of its plan and number
pub heard_if : (plan other : Plan) (h : History FlagAnd) (r n : ℕ) → plan ≡ other → r ≡ n → (o : Result Heard RaceFault) → IfOk o (λ x. IsHeard plan h r x.replies.items x.made x.group.items) → IfOk o (λ x. IsHeard other h n x.replies.items x.made x.group.items)
heard_if plan other h r n same is (Ok x) heard = subst (λ m. IsHeard other h m x.replies.items x.made x.group.items) is (subst (λ p. IsHeard p h r x.replies.items x.made x.group.items) same heard)
heard_if plan other h r n same is (Err e) heard = tt

-- a fault of one rank's is one of the race's
pub rank_ends : (plan : Plan) (may_say : ℕ → Turn → Bool → Type 0) (r : ℕ) → r < plan.ranks → (fault : RaceFault) → StopsFor ⊤ (may_say r) fault → EndsFor plan may_say fault
rank_ends plan may_say r below Memory stops = tt
rank_ends plan may_say r below HeldBack stops = (r, below, stops)

-- the fault that is kept, of one rank more
pub faults_go_on : (plan : Plan) (may_say : ℕ → Turn → Bool → Type 0) (r : ℕ) (P : Heard → Type 0) → r < plan.ranks → (heard : Result Heard RaceFault) (old new : Option RaceFault)
    → MatchResult heard P (StopsFor ⊤ (may_say r)) → IfOk heard (λ _. new ≡ old) → IfErr heard (λ fault. new ≡ Some (unwrap_or old fault))
    → ((fault : RaceFault) → old ≡ Some fault → EndsFor plan may_say fault) → (fault : RaceFault) → new ≡ Some fault → EndsFor plan may_say fault
faults_go_on plan may_say r P below (Ok x) old new is same first was fault met = was fault (sym same ∙ met)
faults_go_on plan may_say r P below (Err f) None new is same first was fault met =
    subst (EndsFor plan may_say) (cc (first, met)) (rank_ends plan may_say r below f is)
faults_go_on plan may_say r P below (Err f) (Some g) new is same first was fault met = was fault (sym first ∙ met)

pub heard_ok : (P : Heard → Type 0) (Q : RaceFault → Type 0) (heard : Result Heard RaceFault) → MatchResult heard P Q → IfOk heard P
heard_ok P Q (Ok x) is = is
heard_ok P Q (Err f) is = tt

pub ok_parts : (P Q : Heard → Type 0) (heard : Result Heard RaceFault) → IfOk heard (λ x. P x × Q x) → IfOk heard P × IfOk heard Q
ok_parts P Q (Ok x) is = is
ok_parts P Q (Err f) is = (tt, tt)

-- one rank more, or none
pub few_more : {V : Type 0} (of : Heard → V) (heard : Result Heard RaceFault) (was now : List V) (r : ℕ) → MatchResult heard (λ x. now ≡ was ++ of x ∷ []) (λ _. now ≡ was) → length was ≤ r → length now ≤ r + 1
few_more of (Ok x) was now r is few = omega (arith, ap length is, length-append was (of x ∷ []), few)
few_more of (Err f) was now r is few = omega (arith, ap length is, few)

-- what the gate may say to each rank so far
pub lets_go_on : {V : Type 0} (of : Heard → V) (W : ℕ → V → Type 0) (r : ℕ) (heard : Result Heard RaceFault) (old new : Option RaceFault) (was now : List V)
    → MatchResult heard (λ x. now ≡ was ++ of x ∷ []) (λ _. now ≡ was) → IfOk heard (λ _. new ≡ old) → IfErr heard (λ fault. new ≡ Some (unwrap_or old fault)) → IfOk heard (λ x. W r (of x))
    → (old ≡ None → Numbered W 0 was × (length was ≡ r)) → new ≡ None → Numbered W 0 now × (length now ≡ r + 1)
lets_go_on of W r (Ok x) old new was now is same first last before none =
    let all = before (sym same ∙ none) in
    let count = all.1 in
    (subst (Numbered W 0) (sym is) (number_push W 0 was (of x) r (omega (arith, count)) all.0 last), omega (arith, ap length is, length-append was (of x ∷ []), count))
lets_go_on of W r (Err f) old new was now is same first last before none = absurd (cc (first, none))
