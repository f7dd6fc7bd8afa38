-- Whom a shrink that was started leaves out.
use Rattle.std.proofs.Common.{◌≡◌, ℕ, ◌+◌, ◌-◌, ◌≤◌, ◌==◌, ◌||◌, Bool, true, false, List, [], ◌∷◌, ◌++◌, inl, inr, filter, filter_map, length, take, Option}
use Rattle.std.proofs.Common.{Some, None, Result, Ok, Err, IfOk, refl, ap, sym, ◌∙◌, subst, arith, IsTrue}
use Rattle.std.specs.List.{cons_option, list_any}
use Rattle.std.proofs.Math.Seq.{take-append-add}
use Rattle.std.proofs.lemmas.Bool.{eqb-true, or_left, or_right}
use mathlib.Core.List.{IsPrefix}
use Rattle.ulfm_model.specs.declared.{contribution.Contribution.{Contribution}, contribution.Offer.TheVariants.{Ctx}, contribution.Slot.TheVariants.{Given}}
use Rattle.ulfm_model.specs.declared.{event.Caller.TheVariants.{Rank}, limits.Limits.{Limits}, refusal.Refusal.{Refusal}, reply.Reply.TheVariants.{Started}}
use Rattle.ulfm_model.specs.declared.call.Call.TheVariants as call
use Rattle.ulfm_model.specs.{Answers.{Contributes, StartReplies}, History.{History, IsLegal, decision, failed, failures, has, known_of, members, round, slot}}
use Rattle.ulfm_model.specs.{Records.{Fits, Held, Record, free_ids, held_at}, Runs.{IsCall, IsSpan}}
use Rattle.ulfm_model.specs.Terms.{rests_on}
use Rattle.ulfm_model.specs.Records.{moment}
use Rattle.ulfm_model.proofs.{Decisions.{slot_stands}, Histories.{failures_begin, slot_stays}}
use Rattle.ulfm_model.proofs.{Lists.{all_has, each_from, has_kept, has_prefix, length_prefix, not_in_take, prefix_trans}, Stable.{failed_begins}}
use Rattle.ulfm_words.proofs.Trails.{did_prefix}
use Rattle.ulfm_comm.specs.{Calls.{reply_of}, Excludes.{Excludes}}
use Rattle.ulfm_comm.proofs.{Holding.{comm_is, exists_is, failed_is}, LeftOut.{filter_begins}, ReplyKinds.{answered_on}}

-- a beginning of a list begins each longer beginning of it
prefix_taken : (xs ys : List ℕ) (n : ℕ) → IsPrefix xs ys → length xs ≤ n → IsPrefix xs (take n ys)
prefix_taken xs ys n begins le =
    let more : n ≡ length xs + (n - length xs) = omega arith in
    (take (n - length xs) begins.0, sym (ap (take n) (sym begins.1) ∙ (ap (λ k. take k (xs ++ begins.0)) more ∙ take-append-add xs begins.0 (n - length xs))))

-- what stands at one place passes, so some of all does
any_at : {Y : Type 0} (f : ℕ → Option Y) (p : Y → Bool) (ms : List ℕ) (m : ℕ) (s : Y) → has ms m ≡ true → f m ≡ Some s → p s ≡ true
    → list_any p (filter_map f ms) ≡ true
any_at f p [] m s is at passes = absurd (cc is)
any_at {Y} f p (x ∷ ms) m s is at passes = go (x == m) refl is (λ later. any_at f p ms m s later at passes)
  where
    after : (o : Option Y) → list_any p (filter_map f ms) ≡ true → list_any p (cons_option o (filter_map f ms)) ≡ true
    after None rest = rest
    after (Some y) rest = or_right (p y) (list_any p (filter_map f ms)) rest

    go : (b : Bool) → (x == m) ≡ b → (b || has ms m) ≡ true → (has ms m ≡ true → list_any p (filter_map f ms) ≡ true)
        → list_any p (cons_option (f x) (filter_map f ms)) ≡ true
    go true same here rest =
        subst (λ o. list_any p (cons_option o (filter_map f ms)) ≡ true) (sym (ap f (eqb-true x m same) ∙ at))
        (or_left (p s) (list_any p (filter_map f ms)) passes)
    go false same later rest = after (f x) (rest later)

has_taken : (n : ℕ) (xs : List ℕ) (r : ℕ) → has (take n xs) r ≡ true → has xs r ≡ true
has_taken n xs r is = go (has xs r) refl
  where
    go : (b : Bool) → has xs r ≡ b → b ≡ true
    go true same = refl
    go false same = let none = not_in_take n xs r same in absurd (cc (none, is))

module _ {P : Type 0} (meld : P → P → P) (limits : Limits) where
  -- a rank that a contributor knew is in the round's failed group
  left_out : (h : History P) (c k m r : ℕ) (given : Contribution P) → IsLegal meld limits h → slot h c k m ≡ Some (Given given)
      → has (take given.known.count (failed limits.ranks h c)) r ≡ true → IsTrue (has (decision meld limits.ranks h c k).failed r)
  left_out h c k m r given legal stands known =
      let group = failed limits.ranks h c in
      let member = (slot_stands meld limits h legal c k m (Given given) stands).place.member in
      has_kept (λ r. list_any (λ s. has (take (known_of s) group) r) (round limits.ranks h c k)) group r (has_taken given.known.count group r known)
      (any_at (slot h c k) (λ s. has (take (known_of s) group) r) (members limits.ranks h c) m (Given given) member stands known)

  -- the contribution of a shrink stands, and names all of the failed group of before
  module _ (alone : Bool) (before after : History P) (old : Record) (c : ℕ) (x : Held) (fits : Fits meld limits before old) (held : held_at old c ≡ Some x)
      (span : IsSpan meld limits alone before after (Rank old.number)) where
    contributed : Contributes (rests_on span) old x (Ctx (free_ids old.held)) → Excludes meld limits before after old c
    contributed gave =
        let exists = exists_is meld limits before old c x fits held in
        let to_look = did_prefix alone [] before span.look span.looked in
        let to_after = prefix_trans before span.look after to_look (did_prefix alone _ span.look after span.did) in
        let known = filter_begins (has x.group) (failures before) (failures span.look) (failures_begin before span.look to_look) in
        let longer = length_prefix (filter (has x.group) (failures before)) (filter (has x.group) (failures span.look)) known in
        let all = ap length (failed_is meld limits before old c x fits held) in
        let enough : length (failed limits.ranks before c) ≤ gave.given.known.count = omega (arith, longer, all, gave.known) in
        let at_point : slot span.point c x.next_agreement old.number ≡ Some (Given gave.given) =
        subst (λ w. slot span.point w x.next_agreement old.number ≡ Some (Given gave.given)) (comm_is meld limits before old c x fits held) gave.stands in
        let stands = slot_stays span.point after c x.next_agreement old.number (Given gave.given) span.point_ends at_point in
        record {
          x = x;
          held = held;
          given = gave.given;
          stands = stands;
          offers = gave.offer_is;
          knows = prefix_taken (failed limits.ranks before c) (failed limits.ranks after c) gave.given.known.count
              (failed_begins meld limits before after c to_after span.legal exists) enough;
          excludes = λ more begins more_legal decided.
              let to_more = prefix_trans before after more to_after begins in
              let group = prefix_taken (failed limits.ranks before c) (failed limits.ranks more c) gave.given.known.count
              (failed_begins meld limits before more c to_more more_legal exists) enough in
              let stays = slot_stays after more c x.next_agreement old.number (Given gave.given) begins stands in
              each_from (λ r. has (failed limits.ranks before c) r ≡ true) (λ r. IsTrue (has (decision meld limits.ranks more c x.next_agreement).failed r))
              (λ r among. left_out more c x.next_agreement old.number r gave.given more_legal stays
              (has_prefix (failed limits.ranks before c) (take gave.given.known.count (failed limits.ranks more c)) r group among))
              (failed limits.ranks before c) (all_has (failed limits.ranks before c));
        }

    by_start : StartReplies (rests_on span) old x (Ctx (free_ids old.held)) Started → Excludes meld limits before after old c
    by_start (inl started) = contributed started.1
    by_start (inr twice) = absurd (cc (twice.0))

  -- a shrink that was started does
  pub shrink_excludes : (alone : Bool) (before after : History P) (old : Record) (rank c : ℕ) (new : Record) → Fits meld limits before old
      → IsCall meld limits alone (moment old before) (call.Shrink rank c) Started (moment new after) → Excludes meld limits before after old c
  shrink_excludes alone before after old rank c new fits (inl refused) = absurd (cc (refused.2))
  shrink_excludes alone before after old rank c new fits (inr run) =
      let answered = answered_on meld limits alone before after old (call.Shrink rank c) Started new run (λ refusal is. absurd (cc is)) in
      by_start alone before after old c answered.x fits answered.held run.span answered.replies

  -- so is whether it was
  pub start_excludes : (alone : Bool) (before after : History P) (old : Record) (rank c : ℕ) (result : Result (Unit {0}) Refusal) (new : Record)
      → Fits meld limits before old
      → IsCall meld limits alone (moment old before) (call.Shrink rank c) (reply_of (λ _. Started) result) (moment new after)
      → IfOk result (λ _. Excludes meld limits before after old c)
  start_excludes alone before after old rank c (Ok done) new fits called = shrink_excludes alone before after old rank c new fits called
  start_excludes alone before after old rank c (Err refusal) new fits called = tt
