-- What a rank holds after the poll of a shrink.
use Rattle.std.proofs.Common.{◌≡◌, ◌==◌, ℕ, Bool, true, false, cond, List, [], ◌∷◌, ◌++◌, Some, None, refl, ap, ◌∙◌, arith, inl, inr}
use Rattle.std.proofs.lemmas.Bool.Decides.{nat_tests}
use Rattle.std.specs.List.{find}
use Rattle.ulfm_model.specs.declared.{call.Call.TheVariants.{Poll}, reply.Reply.TheVariants.{Shrunk}}
use Rattle.ulfm_model.specs.{Answers.{closed}, History.{members}, Records.{Held, Record, held_at}, Runs.{IsCall}}
use Rattle.ulfm_model.specs.Records.{moment}
use Rattle.ulfm_words.specs.Steps.{Over, Sight, view_at}
use Rattle.ulfm_comm.specs.Calls.{Calls}
use Rattle.ulfm_comm.proofs.{CallRuns.{called_run}, Holding.{group_is}}
use Rattle.ulfm_comm.specs.Local.{local}

-- a list with one that passes at its end has one that is found
found_last : (p : Held → Bool) (xs : List Held) (y : Held) → p y ≡ true → (x : Held) × (find p (xs ++ y ∷ []) ≡ Some x)
found_last p [] y is = (y, ap (λ b. cond b (Some y) (find p [])) is)
found_last p (x ∷ xs) y is =
    let rest = found_last p xs y is in
    elim (p x) as (λ b. (z : Held) × (cond b (Some x) (find p (xs ++ y ∷ [])) ≡ Some z)) [ true ↦ (x, refl) | false ↦ rest ]

module _ {P : Type 0} (meld : P → P → P) (alone : Bool) (name : Over P) (c : ℕ) (old : Record) (before : Sight P) (j context size : ℕ) (new : Record)
    (after : Sight P) where
  -- it holds the communicator that was made
  holds_made : Calls meld alone (Poll old.number c) (local old (view_at name before)) (Shrunk j context size) (local new (view_at name after)) → (x : Held) × (held_at new j ≡ Some x)
  holds_made calls = by_run (called_run meld alone name (Poll old.number c) old before (Shrunk j context size) new after calls)
    where
      by_run : IsCall meld name.limits alone (moment old before.seen) (Poll old.number c) (Shrunk j context size) (moment new after.seen) → (x : Held) × (held_at new j ≡ Some x)
      by_run (inl refused) = absurd (cc refused.2)
      by_run (inr run) =
          let is = run.answer.leaves.record_is in
          let now : Record = record old { seen = new.seen } in
          let y : Held = record {
            comm = j;
            group = members name.limits.ranks run.span.point j;
            context = context;
            acked = 0;
            next_agreement = 0;
            next_barrier = 0;
            request = None;
          } in
          let last = found_last (λ x. x.comm == j) (closed now c).held y (grind (arith, nat_tests)) in
          (last.0, ap (λ (r : Record). held_at r j) is ∙ last.1)

  -- and has its members
  pub has_members : Calls meld alone (Poll old.number c) (local old (view_at name before)) (Shrunk j context size) (local new (view_at name after)) → (group : List ℕ)
      → ((x : Held) → held_at new j ≡ Some x → group ≡ x.group) → group ≡ members name.limits.ranks after.seen j
  has_members calls group is =
      let held = holds_made calls in
      is held.0 held.1 ∙ group_is meld name.limits after.seen new j held.0 calls.linearizes.fits held.1
