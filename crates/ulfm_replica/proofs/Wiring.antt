-- The numbers of an entry are read as that entry.
use Rattle.std.proofs.Common.{◌≡◌, ◌≢◌, ℕ, ◌<◌, Option, Some, refl, ap, ◌∙◌, arith}
use Rattle.ulfm_model.specs.declared.{contribution.Contribution.{Contribution}, contribution.MarkCount.{MarkCount}, contribution.Offer.{Offer}, contribution.Offer.TheVariants.{Flag, Ctx}}
use Rattle.ulfm_model.specs.declared.{event.Caller.{Caller}, event.Event.{Event}, event.Event.TheVariants.{Fail, Settle, Mark, Arrive, Revoke, Spawn}}
use Rattle.ulfm_laws.specs.declared.summary.CtxMask.{CtxMask}
use Rattle.ulfm_replica.specs.Wire.{fields_by, kind_of, payload_of}
use Rattle.ulfm_replica.specs.declared.wire.Fields.{Fields}

small : {P : Type 0} (offer : Offer P) → kind_of offer < 4
small (Flag flag) = omega arith
small (Ctx mask) = omega arith

-- an offer of kind 2 is a flag, to which its payload unpacks
pub flag_read : {P : Type 0} (pack : P → ℕ) (unpack : ℕ → Option P) → ((x : P) → unpack (pack x) ≡ Some x) → (offer : Offer P) (kind payload : ℕ) → kind ≡ 2 → kind ≡ kind_of offer → payload ≡ payload_of pack offer
    → (x : P) × (offer ≡ Flag x) × (unpack payload ≡ Some x)
flag_read pack unpack back (Flag x) kind payload two is pays = (x, refl, ap unpack pays ∙ back x)
flag_read pack unpack back (Ctx mask) kind payload two is pays = absurd (omega (arith, two, is))

-- and one of another kind is a mask, which is its payload
pub mask_read : {P : Type 0} (pack : P → ℕ) (offer : Offer P) (kind payload : ℕ) → kind ≢ 2 → kind ≡ kind_of offer → payload ≡ payload_of pack offer → (m : CtxMask) × (offer ≡ Ctx m) × (payload ≡ m.bits)
mask_read pack (Flag x) kind payload other is pays = absurd (omega (arith, other, is))
mask_read pack (Ctx mask) kind payload other is pays = (mask, refl, pays)

-- what such numbers tell
pub record TellsGiven {P : Type 0} (pack : P → ℕ) (f : Fields) (event : Event P) : Type 0 where
  pub given : Contribution P
  pub kind : f.kind ≡ kind_of given.offer
  pub payload : f.payload ≡ payload_of pack given.offer
  pub known : f.known ≡ given.known.count
  pub acked : f.acked ≡ given.acked.count
  pub is : Settle f.comm f.round f.rank given ≡ event

module _ {P : Type 0} (pack : P → ℕ) (f : Fields) (by : Caller) where
  -- those of these kinds are a contribution's
  pub given_told : (event : Event P) → f ≡ fields_by pack by event → 1 < f.kind → f.kind < 4 → TellsGiven pack f event
  given_told (Fail r) is low high = let kind : f.kind ≡ 1 = ap (λ (x : Fields). x.kind) is in absurd (omega (arith, kind, low))
  given_told (Settle c k r given) is low high =
      let comm : f.comm ≡ c = ap (λ (x : Fields). x.comm) is in
      let round : f.round ≡ k = ap (λ (x : Fields). x.round) is in
      let rank : f.rank ≡ r = ap (λ (x : Fields). x.rank) is in
      let told : Settle f.comm f.round f.rank given ≡ Settle c k r given = cc (comm, round, rank) in
      record {
        given = given;
        kind = ap (λ (x : Fields). x.kind) is;
        payload = ap (λ (x : Fields). x.payload) is;
        known = ap (λ (x : Fields). x.known) is;
        acked = ap (λ (x : Fields). x.acked) is;
        is = told;
      }
  given_told (Mark c k r mark) is low high = let kind : f.kind ≡ 4 = ap (λ (x : Fields). x.kind) is in absurd (omega (arith, kind, high))
  given_told (Arrive c k r) is low high = let kind : f.kind ≡ 5 = ap (λ (x : Fields). x.kind) is in absurd (omega (arith, kind, high))
  given_told (Revoke c) is low high = let kind : f.kind ≡ 6 = ap (λ (x : Fields). x.kind) is in absurd (omega (arith, kind, high))
  given_told (Spawn j c k) is low high = let kind : f.kind ≡ 7 = ap (λ (x : Fields). x.kind) is in absurd (omega (arith, kind, high))

  -- and these a mark's
  pub mark_told : (event : Event P) → f ≡ fields_by pack by event → f.kind ≡ 4 → (mark : MarkCount) × (f.known ≡ mark.known.count) × (Mark f.comm f.round f.rank mark ≡ event)
  mark_told (Fail r) is four = let kind : f.kind ≡ 1 = ap (λ (x : Fields). x.kind) is in absurd (omega (arith, kind, four))
  mark_told (Settle c k r given) is four = let kind : f.kind ≡ kind_of given.offer = ap (λ (x : Fields). x.kind) is in absurd (omega (arith, kind, four, small given.offer))
  mark_told (Mark c k r mark) is four =
      let comm : f.comm ≡ c = ap (λ (x : Fields). x.comm) is in
      let round : f.round ≡ k = ap (λ (x : Fields). x.round) is in
      let rank : f.rank ≡ r = ap (λ (x : Fields). x.rank) is in
      let told : Mark f.comm f.round f.rank mark ≡ Mark c k r mark = cc (comm, round, rank) in
      (mark, ap (λ (x : Fields). x.known) is, told)
  mark_told (Arrive c k r) is four = let kind : f.kind ≡ 5 = ap (λ (x : Fields). x.kind) is in absurd (omega (arith, kind, four))
  mark_told (Revoke c) is four = let kind : f.kind ≡ 6 = ap (λ (x : Fields). x.kind) is in absurd (omega (arith, kind, four))
  mark_told (Spawn j c k) is four = let kind : f.kind ≡ 7 = ap (λ (x : Fields). x.kind) is in absurd (omega (arith, kind, four))

-- a payload has as many bits as the packing of each value, and as each mask
pub payload_small : {P : Type 0} (pack : P → ℕ) (limit : ℕ) → ((x : P) → pack x < limit) → ((m : CtxMask) → m.bits < limit) → 0 < limit → (by : Caller) (event : Event P) → (fields_by pack by event).payload < limit
payload_small pack limit fits ids some by (Fail r) = some
payload_small {P} pack limit fits ids some by (Settle c k r given) = go given.offer
  where
    go : (offer : Offer P) → payload_of pack offer < limit
    go (Flag x) = fits x
    go (Ctx m) = ids m
payload_small pack limit fits ids some by (Mark c k r mark) = some
payload_small pack limit fits ids some by (Arrive c k r) = some
payload_small pack limit fits ids some by (Revoke c) = some
payload_small pack limit fits ids some by (Spawn j c k) = some
