-- Queries of the failed group, and of those in it that are acknowledged.
use Rattle.std.proofs.Common.{◌≡◌, ◌<◌, ◌≤◌, ℕ, Bool, false, true, List, [], append-nil, get_or, length, take, Some, refl, ap, sym, ◌∙◌, subst, arith}
use Rattle.std.specs.Option.{option_and_then}
use Rattle.ulfm_model.specs.declared.event.Caller.TheVariants.{Rank}
use Rattle.ulfm_model.specs.{Answers.{traits_of}, History.{failed, members}, Records.{Record, held_at}}
use Rattle.ulfm_model.proofs.{Lists.{length_prefix}, Marking.{failed_few}}
use Rattle.ulfm_words.specs.Steps.{IsView, Over, Sight, view_at}
use Rattle.ulfm_comm.specs.{Counts.{Ranked, records_of}, Local.{local}, Queries.{acked_of, listed_in, query}}
use Rattle.ulfm_comm.proofs.{InOrder.{rank_found}, LeftOut.{first_ones, take_prefix}}
use Rattle.ulfm_run.specs.Jobs.{IsJob, acked_by, queried}
use Rattle.ulfm_run.proofs.Jobs.{ranked_below, ranked_own}

-- it is a call of its rank
pub query_by : (P : Type 0) (some : Bool) (i c : ℕ) → (traits_of {P = P} (query some i c)).by ≡ Rank i
query_by P false i c = refl
query_by P true i c = refl

module _ {P : Type 0} (name : Over P) (own : Record) (after : Sight P) (c : ℕ) where
  abbrev whole : List ℕ
  whole = failed name.limits.ranks after.seen c

  -- it lists the first ones of the failed group
  pub first_listed : (some : Bool) (found : List ℕ) → found ≡ listed_in some (local own (view_at name after)) c → found ≡ take (length found) whole
  first_listed false found is = is ∙ (sym (first_ones whole whole (length whole) ([], append-nil whole) refl) ∙ ap (λ xs. take (length xs) whole) (sym is))
  first_listed true found is =
      let listed = take (acked_of (held_at own c)) whole in
      is ∙ (sym (first_ones listed whole (length listed) (take_prefix (acked_of (held_at own c)) whole) refl) ∙ ap (λ xs. take (length xs) whole) (sym is))

  -- so no more than the world has ranks
  pub few_listed : (meld : P → P → P) → IsView meld (view_at name after) → (some : Bool) (found : List ℕ)
      → found ≡ listed_in some (local own (view_at name after)) c → length found ≤ name.limits.ranks
  few_listed meld of some found is =
      let few = failed_few meld name.limits after.seen (members name.limits.ranks after.seen c) of.legal in
      let first = ap length (first_listed some found is) in
      omega (arith, few, length_prefix (take (length found) whole) whole (take_prefix (length found) whole), first)

-- what it lists, by the records of all ranks before it
pub lacks_listed : {P : Type 0} (meld : P → P → P) (alone : Bool) (name : Over P) (before : Sight P) (ranks : List Ranked)
    (job : IsJob meld alone (view_at name before) (records_of ranks)) (i : ℕ) (d : Ranked) → i < length ranks → (new : Record) (after : Sight P)
    → new ≡ record (get_or ranks i d).own { seen = new.seen } → (some : Bool) (c capacity : ℕ)
    → capacity < length (listed_in some (local new (view_at name after)) c)
    → capacity < length (queried some (records_of ranks) i c (failed name.limits.ranks after.seen c))
lacks_listed meld alone name before ranks job i d below new after is false c capacity less = less
lacks_listed meld alone name before ranks job i d below new after is true c capacity less =
    let found = rank_found name.limits.ranks (records_of ranks) job.sound.numbers i d.own (ranked_below meld alone name before ranks job i d below)
    ∙ ap Some (ranked_own meld alone name before ranks job i d below) in
    let same : acked_of (held_at new c) ≡ acked_by (records_of ranks) i c =
    ap (λ (w : Record). acked_of (held_at w c)) is ∙ sym (ap (λ own. acked_of (option_and_then (λ (w : Record). held_at w c) own)) found) in
    subst (λ n. capacity < length (take n (failed name.limits.ranks after.seen c))) same less
