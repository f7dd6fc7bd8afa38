use Rattle.std.proofs.Common.{◌≡◌, ◌<◌, ◌/◌, ◌%◌, ◌^◌, ℕ, inl, inr, refl, sym, ◌∙◌, ap, subst, arith}
use Rattle.ulfm_model.specs.Blocks.{block_number}
use Rattle.ulfm_words.specs.{Blocks.{IsBodyOf}, Slots.{acked_in, half_in, known_in, number_in, payload_in, tag_in}}
use Rattle.ulfm_words.proofs.{BlockWords.{no_payload, number_below, said_is}, Pairs.{number_acked, number_known, number_tag, words_number}}
use Rattle.ulfm_words.proofs.summaries.said_in.Goals as goal
use Rattle.ulfm_words.proofs.summaries.said_in.Goals.{then-tag-eq0, else-tag-eq0+then-tag-eq1, else-tag-eq0+else-tag-eq1+then-tag-eq2, else-tag-eq0+else-tag-eq1+else-tag-eq2}

three : (t : ℕ) → t < 4 → (t ≡ 0 → ⊥) → (t ≡ 1 → ⊥) → (t ≡ 2 → ⊥) → t ≡ 3
three t lt zero one two = omega (arith, lt, zero, one, two)

pub payload_in-payload-requires-clause-word : goal.payload_in-payload-requires-clause-word
payload_in-payload-requires-clause-word g c = omega (arith, c.requires.1)

pub payload_in-payload-requires-clause-wing : goal.payload_in-payload-requires-clause-wing
payload_in-payload-requires-clause-wing g c = omega (arith, c.requires.2, number_below g.P.Packed.pack g.P.Packed.unpack g.met.P.Packed.unpack_pack g.met.P.Packed.pack_fits c.requires.0)

pub returns : goal.returns
returns g c =
    let pack = g.P.Packed.pack in
    let unpack = g.P.Packed.unpack in
    let law = g.met.P.Packed.unpack_pack in
    let own = c.requires in
    let half = half_in c.args.wing in
    let n = number_in c.args.word half in
    let is : n ≡ block_number pack own.0 = words_number pack c.args.word c.args.wing own.0 own.1 own.2 in
    let tag : tag_in n ≡ tag_in c.args.word = number_tag c.args.word half in
    let body : IsBodyOf unpack (tag_in n) (payload_in n) c.if-tag-eq0.body =
    elim c.if-tag-eq0.branch [
      | then-tag-eq0 b ↦ subst (IsBodyOf unpack (tag_in n) (payload_in n)) (sym b.body-is) (tag ∙ b.if-tag-eq0.true, no_payload pack unpack law n own.0 is (inl (tag ∙ b.if-tag-eq0.true)))
      | else-tag-eq0+then-tag-eq1 b ↦ subst (IsBodyOf unpack (tag_in n) (payload_in n)) (sym b.body-is) (tag ∙ b.if-tag-eq1.true, ap unpack (sym c.payload_in-payload.ensures) ∙ (sym b.unpack.ensures ∙ b.unwrap.ensures))
      | else-tag-eq0+else-tag-eq1+then-tag-eq2 b ↦ subst (IsBodyOf unpack (tag_in n) (payload_in n)) (sym b.body-is) (tag ∙ b.if-tag-eq2.true, c.payload_in-payload.ensures)
      | else-tag-eq0+else-tag-eq1+else-tag-eq2 b ↦
          let clash = tag ∙ three (tag_in c.args.word) (omega arith) b.if-tag-eq0.false b.if-tag-eq1.false b.if-tag-eq2.false in
          subst (IsBodyOf unpack (tag_in n) (payload_in n)) (sym b.body-is) (clash, no_payload pack unpack law n own.0 is (inr clash))
    ] in
    λ s e f. said_is pack unpack law n s _ (sym (number_known c.args.word half)) (sym (number_acked c.args.word half)) body (words_number pack c.args.word c.args.wing s e f)
