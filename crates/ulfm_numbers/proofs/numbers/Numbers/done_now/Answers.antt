use Rattle.std.proofs.Common.{◌≡◌, ◌<◌, ◌≤◌, ◌+◌, ◌&&◌, [], ◌∷◌, List, ℕ, Option, Some, None, true, is_some, length, map, take, filter, nat_le, refl, sym, ap, ap₂, ◌∙◌, arith}
use Rattle.std.proofs.Math.Seq.{take-length}
use Rattle.std.specs.List.{cons_option, filter_map, list_all}
use Rattle.ulfm_model.specs.History.{decided_by, has, known_of}
use Rattle.ulfm_model.specs.declared.contribution.Slot.{Slot}
use Rattle.ulfm_numbers.specs.declared.groups.Group.{Group}
use Rattle.ulfm_numbers.specs.{Failed.{members_of}, Groups.{group_at}, Rounds.{failed_of}, Telling.{seen_at}}
use Rattle.ulfm_numbers.proofs.Lasting.{is_done, mapped_length}
use Rattle.ulfm_numbers.proofs.numbers.Numbers.done_now.Goals as goal

-- no more is found than is looked through
found_few : {X Y : Type 0} (f : X → Option Y) (xs : List X) → length (filter_map f xs) ≤ length xs
found_few f [] = omega arith
found_few {Y = Y} f (x ∷ xs) = go (found_few f xs) (f x)
  where
    go : length (filter_map f xs) ≤ length xs → (o : Option Y) → length (cons_option o (filter_map f xs)) ≤ length (x ∷ xs)
    go few None = omega (arith, few)
    go few (Some y) = omega (arith, few)

-- where as much is found as is looked through, each gives something
found_all : {X Y : Type 0} (f : X → Option Y) (xs : List X) → length (filter_map f xs) ≡ length xs → list_all (λ x. is_some (f x)) xs ≡ true
found_all f [] same = refl
found_all {Y = Y} f (x ∷ xs) same = go (found_few f xs) (found_all f xs) (f x) same
  where
    go : length (filter_map f xs) ≤ length xs → (length (filter_map f xs) ≡ length xs → list_all (λ x. is_some (f x)) xs ≡ true) → (o : Option Y)
        → length (cons_option o (filter_map f xs)) ≡ length (x ∷ xs) → is_some o && list_all (λ x. is_some (f x)) xs ≡ true
    go few rest None same = absurd (omega (arith, few, same))
    go few rest (Some y) same = rest (omega (arith, same))

pub returns : goal.returns
returns g c =
    let old = c.args.self.now in
    let comm = c.args.comm in
    let groups = map members_of old.groups.items in
    let group = c.group_at-group.result.now in
    let failed = c.failed_of-failed.result.now in
    let settled = c.in_ok-settled.settled.items in
    let members_are : group ≡ group_at groups comm = c.group_at-group.ensures ∙ ap (λ (gs : List (Group g.row.A.Denot)). group_at (map members_of gs) comm) c.deref.ensures.value in
    let count : c.len.result ≡ length old.failures.items = omega (arith, c.len.ensures) in
    let whole : take c.len.result old.failures.items ≡ old.failures.items = ap (λ n. take n old.failures.items) count ∙ take-length old.failures.items in
    let failed_are : failed ≡ failed_of groups old.failures.items comm =
    c.failed_of-failed.ensures ∙ (ap₂ (λ (gs : List (Group g.row.A.Denot)) (fs : List ℕ). filter (has (group_at (map members_of gs) comm)) (take c.len.result fs)) c.deref-2.ensures.value c.deref-3.ensures.value
    ∙ ap (filter (has (group_at groups comm))) whole) in
    let within : comm < length groups = omega (arith, c.if-not-is_there.false, c.from.ensures, c.len-2.ensures, mapped_length members_of old.groups.items) in
    let slots = λ (r : ℕ). (seen_at old old.count).slots (comm, c.args.round, r) in
    let all = found_all slots group (ap length (sym c.in_ok-settled.ensures) ∙ omega (arith, c.if-not-is_full.false, c.len-3.ensures)) in
    let fits = ap (list_all (λ (s : Slot g.row.P.Denot). nat_le (known_of s) (length failed))) (sym c.deref-4.ensures.value) ∙ (sym c.know_few-fits.ensures ∙ c.if-not-fits.false) in
    is_done g.P.Meld.meld old.slots old.failures.items groups comm c.args.round old.count (length failed) c.in_ok-made.made group failed settled members_are failed_are c.in_ok-settled.ensures within all fits refl
    (c.in_ok-made.ensures ∙ ap (decided_by g.P.Meld.meld failed) c.deref-5.ensures.value)
