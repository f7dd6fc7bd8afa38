-- What an intruder lets in may come at any time.
use Rattle.std.proofs.Common.{◌≡◌, ℕ, ◌<◌, ◌==◌, ◌&&◌, Bool, true, false, nat_lt, List, [], Option, ap, sym, ◌∙◌, subst, arith}
use Rattle.std.specs.Prelude.{MatchBool}
use Rattle.std.proofs.lemmas.Bool.{and_parts, eqb-true}
use Rattle.std.proofs.lemmas.Bool.Decides.{nat_tests}
use mathlib.Core.List.{IsPrefix}
use Rattle.ulfm_model.specs.declared.{block.Beside.{Beside}, block.Wing.{Wing}, contribution.Contribution.{Contribution}, contribution.Slot.TheVariants.{Given}, event.Caller.{Caller}, event.Entry.{Entry}, event.Event.{Event}, event.Event.TheVariants.{Fail, Settle, Mark, Arrive, Revoke, Spawn}, limits.Limits.{Limits}, place.Place.{Place}}
use Rattle.ulfm_model.specs.{History.{History, IsPlace, has}, Runs.{Did}, Words.{slot_wing}}
use Rattle.ulfm_model.proofs.{Blocks.{has_block_stays, has_wing_stays, wing_stays}, Histories.{members_stay, slot_stays}, Lists.{prefix_trans}}
use Rattle.ulfm_words.specs.{Blocks.{IsSpread, MaySetWing}, Places.{IsCell}, Steps.{IsAdded, IsWinged, Loses, MaySet, Sight, View, Wins, view_at}, Tries.{MayPut, MayArrive, MayEnd}, declared.step.Step.{Step}}
use Rattle.ulfm_words.proofs.{Growing.{prefix_push}, Trails.{added_after, did_prefix, did_wait}}
use Rattle.ulfm_steps.specs.Appends.{AppendIs}
use Rattle.ulfm_steps.specs.declared.{append.Appended.{Appended}, append.Appended.TheVariants.{Won, Found, Full}, item.Item.{Item}}
use Rattle.ulfm_steps.proofs.Coming.{world_place}
use Rattle.ulfm_intruder.specs.Intrusions.{is_welcome}

-- where others may come, any growth is theirs
pub grown : {P : Type 0} (old new : History P) → IsPrefix old new → Did false [] old new
grown old new begins = record { since = begins.0; goes_on = begins.1; stands = tt; quiet = λ never. absurd (cc never) }

-- what came where nobody else did is what came where others might
pub unalone : {P : Type 0} (alone : Bool) (own : List (Entry P)) (old new : History P) → Did alone own old new → Did false own old new
unalone alone own old new did = record { since = did.since; goes_on = did.goes_on; stands = did.stands; quiet = λ never. absurd (cc never) }

-- others' events came before an exchange that was won
pub wins_before : {P : Type 0} (pack : P → ℕ) (unpack : ℕ → Option P) (alone : Bool) (s : Step) (x y z : History P) → Did false [] x y → Wins pack unpack alone s y z → Wins pack unpack false s x z
wins_before pack unpack alone s x y z did wins =
    let added = wins.added in
    record {
      entry = wins.entry;
      is_entry = wins.is_entry;
      added = added_after false wins.entry x y z did (record { before = added.before; did = unalone alone [] y added.before added.did; is = added.is });
      stands = wins.stands;
    }

-- .. or lost
pub loses_before : {P : Type 0} (pack : P → ℕ) (alone : Bool) (place : Place) (w : ℕ) (x y z : History P) → Did false [] x y → Loses pack alone place w y z → Loses pack false place w x z
loses_before pack alone place w x y z did loses = record { some = loses.some; stands = loses.stands; did = did_wait false [] x y z did (unalone alone [] y z loses.did) }

-- what may be set may be set later
pub sets_later : {P : Type 0} (meld : P → P → P) (pack : P → ℕ) (unpack : ℕ → Option P) (limits : Limits) (seen longer : History P) (s : Step) → IsPrefix seen longer → MaySet meld pack unpack limits seen s → MaySet meld pack unpack limits longer s
sets_later meld pack unpack limits seen longer s begins may =
    record { entry = may.entry; is_entry = may.is_entry; word = may.word; half = may.half; legal = λ more further. may.legal more (prefix_trans seen longer more begins further) }

-- what is known of wings stays
pub winged_later : {P : Type 0} (pack : P → ℕ) (cached longer : List Beside) (e : Event P) → IsPrefix cached longer → IsWinged pack cached e → IsWinged pack longer e
winged_later pack cached longer (Fail rank) begins winged = tt
winged_later pack cached longer (Settle c k r given) begins winged = has_wing_stays cached longer (Wing.Slot c k r) (slot_wing pack (Given given)) begins winged
winged_later pack cached longer (Mark c k r mark) begins winged = tt
winged_later pack cached longer (Arrive c k r) begins winged = tt
winged_later pack cached longer (Revoke c) begins winged = tt
winged_later pack cached longer (Spawn j c k) begins winged = tt

-- what stands beside a wing stays
pub spread_on : {P : Type 0} (old new : View P) (wing : Wing) → IsPrefix old.pass.seen new.pass.seen → IsPrefix old.pass.cached new.pass.cached → IsSpread old wing → IsSpread new wing
spread_on old new (Wing.Slot c k r) begins known is = (is.0, slot_stays old.pass.seen new.pass.seen c k r (Given is.0) begins is.1)
spread_on old new (Wing.Block b) begins known is = has_block_stays old.pass.cached new.pass.cached b known is

-- a wing that may be set may be set later
pub may_spread_on : {P : Type 0} (meld : P → P → P) (pack : P → ℕ) (old : View P) (new : Sight P) (wing : Wing) (w : ℕ) → IsPrefix old.pass.seen new.seen → MaySetWing meld pack old wing w → MaySetWing meld pack (view_at old.words new) wing w
may_spread_on meld pack old new (Wing.Slot c k r) w begins may =
    let place = may.0 in
    let same = members_stay old.words.limits.ranks old.pass.seen new.seen c begins place.exists in
    (record { exists = same.0; member = ap (λ ms. has ms r) same.1 ∙ place.member; in_rounds = place.in_rounds }, may.1)
may_spread_on meld pack old new (Wing.Block b) w begins may = wing_stays meld pack old.words.limits.ranks old.pass.seen new.seen (Wing.Block b) w begins may

pub lt_of : (m n : ℕ) → nat_lt m n ≡ true → m < n
lt_of m n e = grind (arith, nat_tests)

module _ {P : Type 0} (meld : P → P → P) (limits : Limits) where
  pub welcome_arrival : (c k r : ℕ) → is_welcome limits (let e : Event P = Arrive c k r in e) ≡ true → 0 < limits.comms → IsCell limits c k r × ((seen : History P) → MayArrive meld limits seen c k r)
  welcome_arrival c k r is some =
      let both = and_parts ((c == 0) && nat_lt k limits.rounds) (nat_lt r limits.ranks) is in
      let first = and_parts (c == 0) (nat_lt k limits.rounds) both.0 in
      let world : c ≡ 0 = eqb-true c 0 first.0 in
      let k_lt = lt_of k limits.rounds first.1 in
      let r_lt = lt_of r limits.ranks both.1 in
      (record { comm = omega (arith, world, some); round = k_lt; rank = r_lt }, λ seen more begins legal none. (rw world (world_place meld limits more k r k_lt r_lt), none))

  pub welcome_end : (c : ℕ) → is_welcome limits (let e : Event P = Revoke c in e) ≡ true → 0 < limits.comms → (c < limits.comms) × ((seen : History P) → MayEnd meld limits seen c)
  welcome_end c is some =
      let world : c ≡ 0 = eqb-true c 0 is in
      (omega (arith, world, some), λ seen more begins legal none. (omega (arith, world), none))

  -- a contribution that is let in is of a rank that has the place
  pub welcome_place : (seen : History P) (c k r : ℕ) (given : Contribution P) → is_welcome limits (Settle c k r given) ≡ true → IsPlace limits seen c k r
  welcome_place seen c k r given is =
      let all = and_parts ((c == 0) && nat_lt k limits.rounds && nat_lt r limits.ranks) (given.known.count == 0) is in
      let both = and_parts ((c == 0) && nat_lt k limits.rounds) (nat_lt r limits.ranks) all.0 in
      let first = and_parts (c == 0) (nat_lt k limits.rounds) both.0 in
      rw (eqb-true c 0 first.0) (world_place meld limits seen k r (lt_of k limits.rounds first.1) (lt_of r limits.ranks both.1))

  pub welcome_give : (c k r : ℕ) (given : Contribution P) → is_welcome limits (Settle c k r given) ≡ true → 0 < limits.comms → IsCell limits c k r × ((seen : History P) → MayPut meld limits seen c k r (Given given))
  welcome_give c k r given is some =
      let all = and_parts ((c == 0) && nat_lt k limits.rounds && nat_lt r limits.ranks) (given.known.count == 0) is in
      let both = and_parts ((c == 0) && nat_lt k limits.rounds) (nat_lt r limits.ranks) all.0 in
      let first = and_parts (c == 0) (nat_lt k limits.rounds) both.0 in
      let world : c ≡ 0 = eqb-true c 0 first.0 in
      let k_lt = lt_of k limits.rounds first.1 in
      let r_lt = lt_of r limits.ranks both.1 in
      let nobody : given.known.count ≡ 0 = eqb-true given.known.count 0 all.1 in
      (record { comm = omega (arith, world, some); round = k_lt; rank = r_lt }, λ seen more begins legal none. (rw world (world_place meld limits more k r k_lt r_lt), none, omega (arith, nobody)))

added_begins : {P : Type 0} (alone : Bool) (e : _) (old new : History P) → IsAdded alone e old new → IsPrefix old new
added_begins alone e old new added = subst (IsPrefix old) (sym added.is) (prefix_push old added.before e (did_prefix alone [] old added.before added.did))

-- however an exchange or an appending ends, what was seen goes on
pub tried_begins : {P : Type 0} (alone : Bool) (e : Entry P) (won : Bool) (old new : History P) → MatchBool won (IsAdded alone e old new) (Did alone [] old new) → IsPrefix old new
tried_begins alone e true old new is = added_begins alone e old new is
tried_begins alone e false old new is = did_prefix alone [] old new is

pub append_begins : {P : Type 0} (alone : Bool) (limits : Limits) (item : Item) (by : Caller) (old new : History P) (result : Appended) → AppendIs alone limits item by old new result → IsPrefix old new
append_begins alone limits item by old new (Won i) is = added_begins alone _ old new is.0
append_begins alone limits item by old new (Found i) is = did_prefix alone [] old new is.0
append_begins alone limits item by old new Full is = did_prefix alone [] old new is.0
