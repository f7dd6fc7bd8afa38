-- Two ranks whose lines can't stand together are in no legal trace.
use Rattle.std.proofs.Common.{◌≡◌, ℕ, ◌<◌, ◌==◌, ◌&&◌, ◌||◌, not, Bool, true, false, List, [], ◌∷◌, filter, length, map, Option, Some, None, refl, ap, sym, ◌∙◌, subst, IsTrue, arith, if◌then◌else◌}
use Rattle.std.specs.Prelude.{nat_lt}
use Rattle.std.proofs.lemmas.{Bool.{eq-eqb}, Option.{same_Some}}
use Rattle.ulfm_laws.specs.{Flags.{flag_meld}, declared.flag_and.FlagAnd.{FlagAnd}}
use Rattle.ulfm_laws.specs.declared.summary.{Body.{Body}, Body.TheVariants.{Flag}}
use Rattle.ulfm_model.specs.declared.{event.Caller.TheVariants.{Rank}, limits.Limits.{Limits}, reply.Reply.{Reply}}
use Rattle.ulfm_model.specs.declared.reply.Reply.TheVariants as reply_of
use Rattle.ulfm_model.specs.{History.{History, IsLegal, decision, first_ranks}, Records.{new_held, new_record}}
use Rattle.ulfm_model.specs.declared.line.Line.{Line}
use Rattle.ulfm_model.specs.declared.line.Line.TheVariants as line
use Rattle.ulfm_model.specs.Traces.{IsLegalTrace, Told, nothing, said_by}
use Rattle.ulfm_model.proofs.Kept.{kept_along, kept_nothing, limits_stay}
use Rattle.ulfm_lines.proofs.Bystanders.{new_found}
use Rattle.ulfm_observed.specs.declared.log.{Item.{Item}, Log.{Log}, Order.{Order}, Order.TheVariants.{Time, Ranks}, Seen.{Seen}, Seen.TheVariants.{Agreed, Shrunk, Whole}}
use Rattle.ulfm_observed.specs.declared.log.Item.TheVariants as item
use Rattle.ulfm_observed.specs.declared.{shows.Whose.TheVariants.{Everyone, Of}, step.Step.{Step}}
use Rattle.ulfm_observed.specs.declared.stages.Stage.TheVariants as stage
use Rattle.ulfm_observed.specs.Explains.{AreAllHeard, AreHeard, Explains, IsAs, IsHeard, IsSeen, is_heard_by, is_lost, is_shown_by, is_told_by}
use Rattle.ulfm_observed.specs.{LogTexts.{Heard, heard_in}, Stages.{Shown, may_stop, shown_of, stage_after}}
use Rattle.ulfm_observed.specs.declared.walk.Walk.{Walk}
use Rattle.ulfm_observed.specs.Refuted.{clash_in, counts_differ, decisions_differ, errors_differ, flags_differ, is_whole, new_walk, told_exceeds, walk_of, walks_clash}
use Rattle.ulfm_observed.specs.Tells.{IsSaid}
use Rattle.ulfm_observed.proofs.{Bounded.{decided_within}, Walked.{along}}
use Rattle.ulfm_model.specs.Rounds.{Gave, IsDecision}

-- where all lines are the log's in its order, a rank's own are
module _ (r : ℕ) where
  abbrev mine : Heard → Bool
  mine heard = is_heard_by (Of (Rank r)) heard.item

  abbrev all : Heard → Bool
  all heard = is_heard_by Everyone heard.item

  mine_of_all : (log : List Heard) → filter mine (filter all log) ≡ filter mine log
  mine_of_all [] = refl
  mine_of_all (heard ∷ log) = go heard.item (mine_of_all log)
    where
      go : (i : Item) → filter mine (filter all log) ≡ filter mine log
          → filter mine (if is_heard_by Everyone i then record { item = i; group = heard.group } ∷ filter all log else filter all log)
          ≡ (if is_heard_by (Of (Rank r)) i then record { item = i; group = heard.group } ∷ filter mine log else filter mine log)
      go (item.Called asked padded) rest = ap (λ hs. if is_heard_by (Of (Rank r)) (item.Called asked padded) then record { item = item.Called asked padded; group = heard.group } ∷ hs else hs) rest
      go (item.Replied by seen) rest = ap (λ hs. if is_heard_by (Of (Rank r)) (item.Replied by seen) then record { item = item.Replied by seen; group = heard.group } ∷ hs else hs) rest
      go (item.Lost n) rest = rest

  left_of : (a b : Bool) → (a && b) ≡ true → a ≡ true
  left_of true b is = refl
  left_of false b is = absurd (cc is)

  right_of : (a b : Bool) → (a && b) ≡ true → b ≡ true
  right_of true b is = is
  right_of false b is = absurd (cc is)

  -- a line that is heard is the rank's where the log's line is
  same_mine : (i : Item) (shown : Shown) → IsHeard i shown.told.line → shown.logged ≡ true → is_heard_by (Of (Rank r)) i ≡ is_shown_by (Of (Rank r)) shown
  same_mine i shown is logged = by_line i shown.told.line is ∙ sym (ap (λ (b : Bool). b && is_told_by (Of (Rank r)) shown.told.line) logged)
    where
      by_line : (i : Item) (l : Line FlagAnd) → IsHeard i l → is_heard_by (Of (Rank r)) i ≡ is_told_by (Of (Rank r)) l
      by_line (item.Called asked padded) (line.Called other spelled) is = ap (λ a. is_heard_by (Of (Rank r)) (item.Called a padded)) is
      by_line (item.Replied by seen) (line.Replied c point (Some given)) is = ap (λ c. is_heard_by (Of (Rank r)) (item.Replied c seen)) is.0
      by_line (item.Replied by seen) (line.Replied c point None) is = absurd is
      by_line (item.Lost n) _ is = absurd is
      by_line (item.Called asked padded) _ is = absurd is
      by_line (item.Replied by seen) _ is = absurd is

  pub only_mine : (log : List Heard) (trace : List Shown) → AreHeard log (filter (is_shown_by Everyone) trace) → AreHeard (filter mine log) (filter (is_shown_by (Of (Rank r))) trace)
  only_mine [] [] are = tt
  only_mine (heard ∷ log) [] are = absurd are
  only_mine log (shown ∷ trace) are = go (is_shown_by Everyone shown) refl are (λ rest those. only_mine rest trace those)
    where
      hidden : is_shown_by Everyone shown ≡ false → is_shown_by (Of (Rank r)) shown ≡ false
      hidden is = by_logged shown.logged refl
        where
          told_none : (l : Line FlagAnd) → is_told_by Everyone l ≡ false → is_told_by (Of (Rank r)) l ≡ false
          told_none (line.Called asked padded) none = absurd (cc none)
          told_none (line.Replied c point given) none = absurd (cc none)
          told_none (line.Looked n count) none = refl
          told_none (line.Happened by event) none = refl

          by_logged : (b : Bool) → shown.logged ≡ b → is_shown_by (Of (Rank r)) shown ≡ false
          by_logged false logged = ap (λ (b : Bool). b && is_told_by (Of (Rank r)) shown.told.line) logged
          by_logged true logged =
              ap (λ (b : Bool). b && is_told_by (Of (Rank r)) shown.told.line) logged
              ∙ told_none shown.told.line (sym (ap (λ (b : Bool). b && is_told_by Everyone shown.told.line) logged) ∙ is)

      both : (those : List Heard) → is_shown_by Everyone shown ≡ true → AreHeard those (shown ∷ filter (is_shown_by Everyone) trace)
          → ((rest : List Heard) → AreHeard rest (filter (is_shown_by Everyone) trace) → AreHeard (filter mine rest) (filter (is_shown_by (Of (Rank r))) trace))
          → AreHeard (filter mine those) (if is_shown_by (Of (Rank r)) shown then shown ∷ filter (is_shown_by (Of (Rank r))) trace else filter (is_shown_by (Of (Rank r))) trace)
      both [] is are more = absurd are
      both (heard ∷ rest) is are more = by_mine (is_heard_by (Of (Rank r)) heard.item) refl
        where
          same : is_heard_by (Of (Rank r)) heard.item ≡ is_shown_by (Of (Rank r)) shown
          same = same_mine heard.item shown are.0 (left_of shown.logged (is_told_by Everyone shown.told.line) is)

          by_mine : (b : Bool) → is_heard_by (Of (Rank r)) heard.item ≡ b
              → AreHeard (if is_heard_by (Of (Rank r)) heard.item then heard ∷ filter mine rest else filter mine rest) (if is_shown_by (Of (Rank r)) shown then shown ∷ filter (is_shown_by (Of (Rank r))) trace else filter (is_shown_by (Of (Rank r))) trace)
          by_mine true it =
              subst (λ (b : Bool). AreHeard (if b then heard ∷ filter mine rest else filter mine rest) (if is_shown_by (Of (Rank r)) shown then shown ∷ filter (is_shown_by (Of (Rank r))) trace else filter (is_shown_by (Of (Rank r))) trace)) (sym it)
              (subst (λ (b : Bool). AreHeard (heard ∷ filter mine rest) (if b then shown ∷ filter (is_shown_by (Of (Rank r))) trace else filter (is_shown_by (Of (Rank r))) trace)) (sym it ∙ same)
              (are.0, (are.1.0, more rest are.1.1)))
          by_mine false it =
              subst (λ (b : Bool). AreHeard (if b then heard ∷ filter mine rest else filter mine rest) (if is_shown_by (Of (Rank r)) shown then shown ∷ filter (is_shown_by (Of (Rank r))) trace else filter (is_shown_by (Of (Rank r))) trace)) (sym it)
              (subst (λ (b : Bool). AreHeard (filter mine rest) (if b then shown ∷ filter (is_shown_by (Of (Rank r))) trace else filter (is_shown_by (Of (Rank r))) trace)) (sym it ∙ same)
              (more rest are.1.1))

      go : (b : Bool) → is_shown_by Everyone shown ≡ b → AreHeard log (if b then shown ∷ filter (is_shown_by Everyone) trace else filter (is_shown_by Everyone) trace)
          → ((rest : List Heard) → AreHeard rest (filter (is_shown_by Everyone) trace) → AreHeard (filter mine rest) (filter (is_shown_by (Of (Rank r))) trace))
          → AreHeard (filter mine log) (if is_shown_by (Of (Rank r)) shown then shown ∷ filter (is_shown_by (Of (Rank r))) trace else filter (is_shown_by (Of (Rank r))) trace)
      go true is are more = both log is are more
      go false is are more =
          subst (λ (b : Bool). AreHeard (filter mine log) (if b then shown ∷ filter (is_shown_by (Of (Rank r))) trace else filter (is_shown_by (Of (Rank r))) trace)) (sym (hidden is)) (more log are)

-- what the lines of an explanation tell
told_all : {A : Type 0} (steps : List (Step A)) → map (λ shown. shown.told) (map shown_of steps) ≡ map (λ step. (shown_of step).told) steps
told_all [] = refl
told_all (step ∷ steps) = ap (λ rest. (shown_of step).told ∷ rest) (told_all steps)

-- a log that a trace explains: what a rank's walk says holds of the trace's history
module _ {A B : Type 0} (log : Log A) (steps : List (Step B)) (e : Explains log steps) where
  abbrev trace : List Shown
  trace = map shown_of steps

  abbrev lines : List (Told FlagAnd)
  lines = map (λ shown. shown.told) trace

  abbrev last : History FlagAnd
  last = (said_by (nothing log.limits) lines).history

  legal_lines : IsLegalTrace flag_meld log.limits lines
  legal_lines = subst (IsLegalTrace flag_meld log.limits) (sym (told_all steps)) e.legal

  legal_last : IsLegal flag_meld log.limits last
  legal_last =
      subst (λ l. IsLegal flag_meld l last) (limits_stay flag_meld (nothing log.limits) lines)
      (kept_along flag_meld (nothing log.limits) lines legal_lines (kept_nothing flag_meld log.limits)).legal

  walk_holds : (r k : ℕ) → r < log.limits.ranks → is_lost r (heard_in log) ≡ false → IsSaid log.limits r k last (walk_of r k (heard_in log))
  walk_holds r k within whole =
      along log.limits r k (nothing log.limits) (kept_nothing flag_meld log.limits) refl (new_walk k) stage.Idle
      (record {
        own = new_record log.limits r;
        has_record = new_found log.limits log.limits.ranks r within;
        stands = (
          refl,
          record {
            x = new_held 0 0 (first_ranks log.limits.ranks);
            held = refl;
            at = record { left = λ n is. let due : k ≡ n = same_Some {A = ℕ} _ _ is in omega (arith, due); waits = λ none. absurd (cc none) };
            said = record { gave = λ flag none. absurd (cc none); told = λ seen none. absurd (cc none) };
          },
        );
      })
      trace (filter (λ heard. is_heard_by (Of (Rank r)) heard.item) (heard_in log)) legal_lines
      (subst (λ (b : Bool). IsTrue (may_stop (stage_after r b stage.Idle trace))) whole (e.wills r))
      (by_order log.order e.heard)
    where
      by_order : (order : Order) → AreAllHeard order (heard_in log) (map shown_of steps)
          → AreHeard (filter (λ heard. is_heard_by (Of (Rank r)) heard.item) (heard_in log)) (filter (is_shown_by (Of (Rank r))) (map shown_of steps))
      by_order Ranks heard = heard.1 r
      by_order Time heard =
          subst (λ hs. AreHeard hs (filter (is_shown_by (Of (Rank r))) (map shown_of steps))) (mine_of_all r (heard_in log))
          (only_mine r (filter (λ heard. is_heard_by Everyone heard.item) (heard_in log)) (map shown_of steps) heard)

-- a round has one decision
one_decision : (limits : Limits) (k : ℕ) (h : History FlagAnd) (one other : Reply FlagAnd) → IsDecision flag_meld limits h 0 k one → IsDecision flag_meld limits h 0 k other → one ≡ other
one_decision limits k h one other a b =
    let value : a.value ≡ b.value = same_body a.value b.value (sym a.body ∙ b.body) in
    a.reply_is ∙ (ap (λ v. reply_of.Agreed (decision flag_meld limits.ranks h 0 k).raised (length (decision flag_meld limits.ranks h 0 k).failed) v) value ∙ sym b.reply_is)
  where
    same_body : (x y : FlagAnd) → ◌≡◌ {A = Body FlagAnd} (Flag x) (Flag y) → x ≡ y
    same_body x y is = cc is

is_same : (n : ℕ) → (n == n) ≡ true
is_same n = eq-eqb n n refl

flags_one : (a b : Option FlagAnd) (v : FlagAnd) → IsAs a v → IsAs b v → flags_differ a b ≡ false
flags_one (Some a) (Some b) v one other = ap not (ap (λ (f : FlagAnd). f.bits == b.bits) (one ∙ sym other) ∙ is_same b.bits)
flags_one None b v one other = refl
flags_one (Some a) None v one other = refl

counts_one : (a b : Option ℕ) (v : ℕ) → IsAs a v → IsAs b v → counts_differ a b ≡ false
counts_one (Some a) (Some b) v one other = ap not (ap (λ n. n == b) (one ∙ sym other) ∙ is_same b)
counts_one None b v one other = refl
counts_one (Some a) None v one other = refl

errors_one : (a b : Bool) → a ≡ b → errors_differ a b ≡ false
errors_one true true is = refl
errors_one false false is = refl
errors_one true false is = absurd (cc is)
errors_one false true is = absurd (cc is)

all_one : (a b c : Bool) → a ≡ false → b ≡ false → c ≡ false → (a || (b || c)) ≡ false
all_one false false false x y z = refl
all_one true b c x y z = absurd (cc x)
all_one false true c x y z = absurd (cc y)
all_one false false true x y z = absurd (cc z)

-- what was seen of one reply doesn't differ
seen_one : (a b : Seen) (reply : Reply FlagAnd) → IsSeen a reply → IsSeen b reply → decisions_differ (Some a) (Some b) ≡ false
seen_one (Agreed v n e) (Agreed w m d) (reply_of.Agreed raised count value) one other =
    all_one (flags_differ v w) (counts_differ n m) (errors_differ e d) (flags_one v w value one.0 other.0) (counts_one n m count one.1.0 other.1.0) (errors_one e d (one.1.1 ∙ sym other.1.1))
seen_one (Agreed v n e) (Agreed w m d) _ one other = absurd one
seen_one (Agreed v n e) (Shrunk comm context) reply one other = refl
seen_one (Agreed v n e) (Whole g) reply one other = refl
seen_one (Shrunk comm context) b reply one other = refl
seen_one (Whole g) b reply one other = refl

-- nor has it a bit that a contributor's flag lacks
within_one : (limits : Limits) (r k : ℕ) (h : History FlagAnd) → IsLegal flag_meld limits h → (a : Seen) (reply : Reply FlagAnd) → IsSeen a reply → IsDecision flag_meld limits h 0 k reply → (flag : FlagAnd) → Gave h 0 k r flag
    → told_exceeds (Some a) (Some flag) ≡ false
within_one limits r k h legal (Agreed (Some v) n e) (reply_of.Agreed raised count value) seen decided flag gave =
    let same : value ≡ decided.value = same_value value decided.value count _ raised _ decided.reply_is in
    let within : flag_meld v flag ≡ v =
    subst (λ x. flag_meld x flag ≡ x) (sym (seen.0 ∙ same)) (decided_within limits h 0 k r decided.value flag legal decided.body gave) in
    ap not (ap (λ (f : FlagAnd). f.bits == v.bits) within ∙ is_same v.bits)
  where
    same_value : (x y : FlagAnd) (m n : ℕ) (d e : Bool) → reply_of.Agreed d m x ≡ reply_of.Agreed e n y → x ≡ y
    same_value x y m n d e is = cc is
within_one limits r k h legal (Agreed (Some v) n e) _ seen decided flag gave = absurd seen
within_one limits r k h legal (Agreed None n e) reply seen decided flag gave = refl
within_one limits r k h legal (Shrunk comm context) reply seen decided flag gave = refl
within_one limits r k h legal (Whole g) reply seen decided flag gave = refl

-- what one walk was told hasn't a bit that another walk's flag lacks
told_within : (limits : Limits) (r s k : ℕ) (h : History FlagAnd) → IsLegal flag_meld limits h → (one other : Walk) → IsSaid limits r k h one → IsSaid limits s k h other
    → (x : Option Seen) (y : Option FlagAnd) → one.told ≡ x → other.gave ≡ y → told_exceeds x y ≡ false
told_within limits r s k h legal one other a b (Some x) (Some flag) is it =
    let tells = a.told x is in within_one limits s k h legal x tells.reply tells.seen_is tells.decided flag (b.gave flag it)
told_within limits r s k h legal one other a b None y is it = refl
told_within limits r s k h legal one other a b (Some (Agreed (Some v) n e)) None is it = refl
told_within limits r s k h legal one other a b (Some (Agreed None n e)) None is it = refl
told_within limits r s k h legal one other a b (Some (Shrunk comm context)) None is it = refl
told_within limits r s k h legal one other a b (Some (Whole g)) None is it = refl

module _ (limits : Limits) (r s k : ℕ) (h : History FlagAnd) (legal : IsLegal flag_meld limits h) (one other : Walk) (a : IsSaid limits r k h one) (b : IsSaid limits s k h other) where
  decisions_one : (x y : Option Seen) → one.told ≡ x → other.told ≡ y → decisions_differ x y ≡ false
  decisions_one (Some x) (Some y) is it =
      let tells = a.told x is in
      let others = b.told y it in
      seen_one x y tells.reply tells.seen_is (subst (IsSeen y) (one_decision limits k h others.reply tells.reply others.decided tells.decided) others.seen_is)
  decisions_one None y is it = refl
  decisions_one (Some (Agreed v n e)) None is it = refl
  decisions_one (Some (Shrunk comm context)) None is it = refl
  decisions_one (Some (Whole g)) None is it = refl

  no_clash : walks_clash one other ≡ false
  no_clash =
      all_one (decisions_differ one.told other.told) (told_exceeds one.told other.gave) (told_exceeds other.told one.gave)
      (decisions_one one.told other.told refl refl) (told_within limits r s k h legal one other a b one.told other.gave refl refl)
      (told_within limits s r k h legal other one b a other.told one.gave refl refl)

below_is : (m n : ℕ) → nat_lt m n ≡ true → m < n
below_is m n is = grind (arith, is)

not_lost : (b : Bool) → not b ≡ true → b ≡ false
not_lost false is = refl
not_lost true is = absurd (cc is)

-- where the lines of two ranks clash no trace explains the log
pub refuted : {A B : Type 0} (log : Log A) (one other k : ℕ) → clash_in log.limits.ranks (heard_in log) one other k ≡ true → (steps : List (Step B)) → Explains log steps → ⊥
refuted log one other k clash steps e =
    let first = is_whole log.limits.ranks one (heard_in log) in
    let second = is_whole log.limits.ranks other (heard_in log) in
    let bad = walks_clash (walk_of one k (heard_in log)) (walk_of other k (heard_in log)) in
    let rest : (second && bad) ≡ true = right_of one first (second && bad) clash in
    let stands =
    no_clash log.limits one other k (last log steps e) (legal_last log steps e) (walk_of one k (heard_in log)) (walk_of other k (heard_in log))
    (holds one (left_of one first (second && bad) clash)) (holds other (left_of one second bad rest)) in
    cc (right_of one second bad rest, stands)
  where
    holds : (r : ℕ) → is_whole log.limits.ranks r (heard_in log) ≡ true → IsSaid log.limits r k (last log steps e) (walk_of r k (heard_in log))
    holds r is =
        walk_holds log steps e r k (below_is r log.limits.ranks (left_of r (nat_lt r log.limits.ranks) (not (is_lost r (heard_in log))) is))
        (not_lost (is_lost r (heard_in log)) (right_of r (nat_lt r log.limits.ranks) (not (is_lost r (heard_in log))) is))
