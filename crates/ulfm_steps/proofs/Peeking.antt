-- A peek goes on: a block is found to be empty, its first word is loaded, or what it says is known.
use Rattle.std.proofs.Common.{◌≡◌, ℕ, ◌+◌, ◌-◌, ◌≤◌, subst, ap, sym, refl, ◌∙◌, arith, true, false, not, is_some, List, Option, Some, None, IfSome, length, if◌then◌else◌, Bool}
use mathlib.Core.List.{IsPrefix}
use Rattle.ulfm_laws.specs.{declared.summary.Summary.{Summary}}
use Rattle.ulfm_model.specs.{Blocks.{block_of, has_block}, declared.{block.Beside.{Beside}, block.Side.{Side}, block.Side.TheVariants.{Front, Back}}}
use Rattle.ulfm_model.proofs.Blocks.{has_block_stays}
use Rattle.ulfm_words.specs.{Blocks.{BlockSays, IsBlockIn}, Steps.{Goes, Over, Sight, view_at}}
use Rattle.ulfm_words.proofs.Trails.{did_prefix}
use Rattle.ulfm_steps.specs.{Blocks.{BothTell, FindsSet, MayPeek, MembersTell, PeeksOn, block_at, ends_at, ends_peek, has_back, peek_site, peeks_after, peeks_from, peeks_left, told_peek, told_side}, Turns.{IsStepAt, TakesAt, running}, declared.blocks.Peek.{Peek}}
use Rattle.ulfm_steps.proofs.{InBlocks.{apart_lt, are_later, from_some, told_of}, KnownBlocks.{set_back, set_front, set_later}, Reading.{round_stays}}

module _ {P : Type 0} (meld : P → P → P) (alone : Bool) (group : List ℕ) (words : Over P) (peek : Peek P) (old new : Sight P) (may : MayPeek meld group (running peek (view_at words old)))
    (goes : Goes meld alone false 4 (view_at words old) (view_at words new)) (step : IsStepAt (peek_site peek) true old new) where
  later : BothTell meld new.seen peek.comm peek.round group peek.blocks
  later = are_later meld old.seen new.seen peek.comm peek.round group peek.blocks (did_prefix alone _ old.seen new.seen goes.did) may.are

  takes : (after : ℕ) → after + 1 ≤ peeks_left (length group) peek → TakesAt false (peek_site peek) true (peeks_left (length group) peek) after old new
  takes after fewer = record { one = λ _. step; some = omega (arith, step.steps); turns = omega (arith, step.steps, fewer) }

  -- the next block's first word is loaded
  pub held_on : (word : ℕ) → peek.first ≡ None → IsBlockIn meld words.pack (view_at words new) (block_at peek.comm peek.round peek.side) word → has_block new.cached (block_at peek.comm peek.round peek.side) ≡ true
      → PeeksOn meld alone false group (running peek (view_at words old)) false (running (record peek { first = Some word }) (view_at words new))
  held_on word none is has = record {
    goes = goes;
    takes = takes _ (let some = from_some (length group) peek.side in rw none (omega (arith, some)));
    comm = refl;
    round = refl;
    are = later;
    some = λ _. may.some;
    first = λ _. (is, has);
    ends = λ no. absurd (cc no);
    front = λ a b. absurd (cc (a, b));
    onward = λ e. e;
    last = λ no. absurd (cc no);
    back = λ no. absurd (cc no);
    kept = λ _. refl;
    sets = λ are. set_later old.cached new.cached peek.comm peek.round peek.blocks goes.cached are;
  }

  module _ (said : Option (Summary P)) (says : IfSome said (BlockSays meld words.limits.ranks new.seen (block_at peek.comm peek.round peek.side)))
      (finds : has_block old.cached (block_at peek.comm peek.round peek.side) ≡ true → is_some said ≡ true) (known : is_some said ≡ true → has_block new.cached (block_at peek.comm peek.round peek.side) ≡ true) where
    told : (side : Side) → peek.side ≡ side → MembersTell meld new.seen peek.comm peek.round (block_of side group) said
    told side is =
        let round = round_stays words.limits old.seen new.seen peek.comm peek.round group (did_prefix alone _ old.seen new.seen goes.did) may.round in
        subst (λ s. MembersTell meld new.seen peek.comm peek.round (block_of s group) said) is (told_of meld words.limits new.seen peek.comm peek.round peek.side group said round says)

    finds_at : (side : Side) → peek.side ≡ side → has_block old.cached (block_at peek.comm peek.round side) ≡ true → is_some said ≡ true
    finds_at side is = subst (λ s. has_block old.cached (block_at peek.comm peek.round s) ≡ true → is_some said ≡ true) is finds

    known_at : (side : Side) → peek.side ≡ side → is_some said ≡ true → has_block new.cached (block_at peek.comm peek.round side) ≡ true
    known_at side is = subst (λ s. is_some said ≡ true → has_block new.cached (block_at peek.comm peek.round s) ≡ true) is known

    fewer_front : (t f : Bool) → has_back (length group) ≡ t → peeks_after (not t) (length group) (told_side peek Front said) + 1 ≤ (if t then 4 else 2) - (if f then 1 else 0)
    fewer_front true true e = omega arith
    fewer_front true false e = omega arith
    fewer_front false true e = omega arith
    fewer_front false false e = omega arith

    front_left : peek.side ≡ Front → peeks_after (ends_at Front (length group)) (length group) (told_side peek Front said) + 1 ≤ peeks_left (length group) peek
    front_left is = rw is (fewer_front (has_back (length group)) (is_some peek.first) refl)

    back_left : peek.side ≡ Back → 0 + 1 ≤ peeks_left (length group) peek
    back_left is = rw is (go (is_some peek.first))
      where
        go : (f : Bool) → 0 + 1 ≤ 2 - (if f then 1 else 0)
        go true = omega arith
        go false = omega arith

    apart : (t : Bool) → not t ≡ false → t ≡ true
    apart true e = refl
    apart false e = absurd (cc e)

    at : (side : Side) → peek.side ≡ side → PeeksOn meld alone false group (running peek (view_at words old)) (ends_at side (length group)) (running (told_side peek side said) (view_at words new))
    at Front is = record {
      goes = goes;
      takes = takes _ (front_left is);
      comm = refl;
      round = refl;
      are = record { front = told Front is; back = later.back };
      some = λ more. apart_lt (length group) (apart (has_back (length group)) more);
      first = λ _. tt;
      ends = λ no. absurd (cc no);
      front = λ _ _. finds_at Front is;
      onward = λ _. refl;
      last = λ _. refl;
      back = λ whole more. absurd (cc (whole, more));
      kept = λ other. absurd (cc (is, other));
      sets = λ are. set_front old.cached new.cached peek.comm peek.round peek.blocks goes.cached are said (known_at Front is);
    }
    at Back is = record {
      goes = goes;
      takes = takes 0 (back_left is);
      comm = refl;
      round = refl;
      are = record { front = later.front; back = told Back is };
      some = λ no. absurd (cc no);
      first = λ _. tt;
      ends = λ no. absurd (cc no);
      front = λ other. absurd (cc (is, other));
      onward = λ e. e;
      last = λ _. is;
      back = λ _ _. finds_at Back is;
      kept = λ _. refl;
      sets = λ are. set_back old.cached new.cached peek.comm peek.round peek.blocks goes.cached are said (known_at Back is);
    }

    -- what the next block says is known, or it is found empty
    pub told_on : PeeksOn meld alone false group (running peek (view_at words old)) (ends_peek peek (length group)) (running (told_peek peek said) (view_at words new))
    told_on = at peek.side refl

-- a front block that was set was found set, by the step that went on to the back one or by one before it
pub finds_front : {P : Type 0} (cached longer : List Beside) (first now next : Peek P) → now.comm ≡ first.comm → now.round ≡ first.round → IsPrefix cached longer → first.side ≡ Front → next.side ≡ Back
    → (first.side ≡ Front → now.side ≡ Back → FindsSet cached now Front) → (now.side ≡ Front → next.side ≡ Back → FindsSet longer next Front) → (now.side ≡ Back → next.blocks.front ≡ now.blocks.front)
    → next.comm ≡ now.comm → next.round ≡ now.round → FindsSet cached next Front
finds_front {P} cached longer first now next comm round begins front back before after kept comm_is round_is = go now.side refl
  where
    go : (side : Side) → now.side ≡ side → FindsSet cached next Front
    go Front is has = after is back (has_block_stays cached longer (block_at next.comm next.round Front) begins has)
    go Back is has = ap is_some (kept is) ∙ before front is (rw (sym comm_is, sym round_is) has)
