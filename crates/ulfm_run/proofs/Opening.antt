-- A machine to which nothing has happened.
use Rattle.std.proofs.Common.{◌≡◌, ℕ, zero, suc, ◌<◌, ◌≤◌, List, [], ◌∷◌, length, map, option_map, Option, Some, None, refl, ap, sym, ◌∙◌, subst, arith}
use Rattle.std.specs.{List.{AllByRecursion}, Prelude.{slice_get}}
use Rattle.std.proofs.lemmas.List.{length-map}
use Rattle.ulfm_laws.specs.Flags.{flag_meld}
use Rattle.ulfm_laws.specs.declared.flag_and.FlagAnd.{FlagAnd}
use Rattle.ulfm_model.specs.declared.limits.Limits.{Limits}
use Rattle.ulfm_model.specs.{History.{first_ranks}, Records.{Fits, Record, new_record}}
use Rattle.ulfm_model.proofs.RankGroups.{first_at, first_length}
use Rattle.ulfm_words.specs.Steps.{view_at, IsNew, Name, Sight}
use Rattle.ulfm_comm.specs.Counts.{Ranked, new_rank, records_of}
use Rattle.ulfm_comm.proofs.InOrder.{rank_missing}
use Rattle.ulfm_model.specs.Traces.{nothing}
use Rattle.ulfm_run.proofs.Newly.{sits_new}
use Rattle.ulfm_run.specs.{Table.{IsNobody, IsSeatOf, StandsFor, idle_seat}, Walks.{FlagSeat, flag_words}}
use Rattle.std.proofs.lemmas.Option.{get_or_from_slice_get, slice_get-map, slice_get_within}

-- the element of a mapped list
get_map : {X Y : Type 0} (f : X → Y) (xs : List X) (i : ℕ) (y : Y) → slice_get (map f xs) i ≡ Some y → (x : X) × (slice_get xs i ≡ Some x) × (y ≡ f x)
get_map {X} {Y} f xs i y is = go (slice_get xs i) (sym (slice_get-map f xs i) ∙ is)
  where
    go : (o : Option X) → option_map f o ≡ Some y → (x : X) × (o ≡ Some x) × (y ≡ f x)
    go None is = absurd (cc is)
    go (Some x) is = (x, refl, cc is)

-- what holds of each of a mapped list holds of the one at an index
all_get : {X Y : Type 0} (Q : Y → Type 0) (f : X → Y) (xs : List X) (i : ℕ) (x : X) → AllByRecursion Q (map f xs) → slice_get xs i ≡ Some x → Q (f x)
all_get Q f [] i x all is = absurd (cc is)
all_get Q f (y ∷ ys) zero x all is = let same : y ≡ x = cc is in subst (λ w. Q (f w)) same all.0
all_get Q f (y ∷ ys) (suc i) x all is = all_get Q f ys i x all.1 is

-- the ranks of a world in their order
first_get : (n i r : ℕ) → slice_get (first_ranks n) i ≡ Some r → (r ≡ i) × (i < n)
first_get n i r is =
    let below : i < n = omega (arith, slice_get_within (first_ranks n) i r is, first_length n) in
    (sym (get_or_from_slice_get (first_ranks n) i r 0 is) ∙ first_at n i below, below)

numbers : (limits : Limits) (ranks : List ℕ) → map (λ (x : Record). x.number) (map (new_record limits) ranks) ≡ ranks
numbers limits [] = refl
numbers limits (r ∷ ranks) = ap (λ ns. r ∷ ns) (numbers limits ranks)

module _ (name : Name) (pass : Sight FlagAnd) (new : IsNew flag_meld (view_at (flag_words name) pass)) (ranks : List Ranked) (are : ranks ≡ map (new_rank name.limits) (first_ranks name.limits.ranks)) (fit : AllByRecursion (Fits flag_meld name.limits []) (records_of ranks)) where
  each : (r : ℕ) (seat : FlagSeat) → slice_get (map idle_seat ranks) r ≡ Some seat → IsSeatOf name (nothing name.limits) pass r seat
  each r seat is =
      let own = get_map idle_seat ranks r seat is in
      let rank = get_map (new_rank name.limits) (first_ranks name.limits.ranks) r own.0 (subst (λ rs. slice_get rs r ≡ Some own.0) are own.1) in
      let at = first_get name.limits.ranks r rank.0 rank.1 in
      let rank_is : own.0 ≡ new_rank name.limits r = rank.2 ∙ ap (new_rank name.limits) at.0 in
      let seat_is : seat ≡ idle_seat (new_rank name.limits r) = own.2 ∙ ap idle_seat rank_is in
      let fits : Fits flag_meld name.limits [] (new_record name.limits r) = subst (λ (w : Ranked). Fits flag_meld name.limits [] w.own) rank_is (all_get (Fits flag_meld name.limits []) (λ (w : Ranked). w.own) ranks r own.0 fit own.1) in
      subst (IsSeatOf name (nothing name.limits) pass r) (sym seat_is) (record { number = refl; sits = sits_new flag_meld (flag_words name) pass 0 r new.seen at.1 fits })

  beyond : (r : ℕ) → name.limits.ranks ≤ r → IsNobody (nothing name.limits) r
  beyond r above =
      record {
        record_is = rank_missing name.limits.ranks (map (new_record name.limits) (first_ranks name.limits.ranks)) (numbers name.limits (first_ranks name.limits.ranks)) r (new_record name.limits 0) above;
        free = refl;
      }

  pub stands_new : (seats : List FlagSeat) → seats ≡ map idle_seat ranks → StandsFor name pass seats (nothing name.limits)
  stands_new seats is =
      subst (λ ss. StandsFor name pass ss (nothing name.limits)) (sym is)
      (record {
        of = new.of;
        limits = refl;
        history = sym new.seen;
        no_declaration = refl;
        size = length-map ranks idle_seat ∙ (ap length are ∙ (length-map (first_ranks name.limits.ranks) (new_rank name.limits) ∙ first_length name.limits.ranks));
        each = each;
        beyond = beyond;
      })
