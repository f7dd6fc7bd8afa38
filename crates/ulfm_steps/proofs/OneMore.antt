-- One more member of a block is read.
use Rattle.std.proofs.Common.{◌≡◌, ℕ, ◌+◌, ◌<◌, Bool, true, false, List, [], ◌∷◌, ◌++◌, take, slice_index_or, length, Option, None, Some, refl, ap, sym, ◌∙◌, arith}
use mathlib.Core.List.{IsPrefix}
use Rattle.ulfm_laws.specs.{declared.summary.Summary.{Summary}, Lawful.{IsLawful}, Summaries.{summary_meld}}
use Rattle.ulfm_model.specs.{Blocks.{IsSummed, block_of, width}, History.{History, slot}, Laws.{summary_of}, declared.contribution.Slot.{Slot}}
use Rattle.ulfm_model.proofs.Summed.{summed_later, summed_push}
use Rattle.ulfm_words.specs.Steps.{Goes, Over, Sight, view_at}
use Rattle.ulfm_words.specs.Places.{IsCell}
use Rattle.ulfm_words.proofs.Trails.{did_prefix}
use Rattle.ulfm_steps.specs.{Blocks.{AtBlock, BlocksTake, MayReadBlocks, ReadsBlocks, block_at, reads_most}, Turns.{Running, running}, declared.blocks.ReadBlocks.{ReadBlocks}}
use Rattle.ulfm_steps.proofs.{InBlocks.{are_later, block_index, block_length, few_members, rank_is, rank_within}, KnownBlocks.{no_first, set_later, spread_later}, Reading.{has_at, member_within, take_one_more}}

module _ {P : Type 0} (meld : P → P → P) (group : List ℕ) (now : Running (ReadBlocks P) P) where
  -- the next member stands in the group
  pub next_within : MayReadBlocks meld group now → now.state.read < width (length group) → now.state.begin + now.state.read < length group
  next_within may more = rank_within meld now.view.pass.seen group now.state may.at more

  -- .. which has few
  pub next_few : MayReadBlocks meld group now → now.state.read < width (length group) → now.state.begin + now.state.read < 1024
  next_few may more =
      let few = few_members now.view.words.limits now.view.pass.seen now.state.comm now.state.round group may.of.may_open may.round in
      let lt = next_within may more in omega (arith, lt, few)

  -- .. and has a place in the round
  pub next_cell : MayReadBlocks meld group now → now.state.read < width (length group) → IsCell now.view.words.limits now.state.comm now.state.round (slice_index_or group (now.state.begin + now.state.read) 0)
  next_cell may more =
      let at = now.state.begin + now.state.read in
      member_within now.view.words.limits meld now.view.pass.seen now.state.comm now.state.round (slice_index_or group at 0) group may.of.legal may.of.may_open may.round (has_at group at 0 (next_within may more))

-- what the members say together that were read before, and the next one
pub one_more : {P : Type 0} {unit : P} (meld : P → P → P) → IsLawful unit meld → (old new : History P) (group : List ℕ) (r : ReadBlocks P) → IsPrefix old new → (at : AtBlock meld old group r) → r.read < width (length group) → (s : Slot P)
    → slot new r.comm r.round (slice_index_or group (r.begin + r.read) 0) ≡ Some s → (said : Summary P) → said ≡ summary_of s → (all : Summary P) → all ≡ summary_meld meld r.all said
    → IsSummed meld new r.comm r.round (take (r.read + 1) (block_of r.side group)) all
one_more {P} meld laws old new group r begins at lt s stands said tells all is =
    let block = block_of r.side group in
    let done = take r.read block in
    let rank = slice_index_or group (r.begin + r.read) 0 in
    let later = summed_later meld old new r.comm r.round done r.all begins at.read in
    let more = summed_push meld laws new r.comm r.round done r.all rank s later stands in
    let same : slice_index_or block r.read 0 ≡ rank = block_index r.side r.read group lt ∙ sym (rank_is meld old group r at) in
    let push : take (r.read + 1) block ≡ done ++ rank ∷ [] = take_one_more block r.read 0 (omega (arith, lt, block_length r.side group)) ∙ ap (λ x. done ++ x ∷ []) same in
    let whole : all ≡ summary_meld meld r.all (summary_of s) = is ∙ ap (summary_meld meld r.all) tells in
    rw (whole, push) more

-- .. and the reading goes on behind it
pub reads_one : {P : Type 0} {unit : P} (meld : P → P → P) → IsLawful unit meld → (alone : Bool) (name : Over P) (old new : Sight P) (group : List ℕ) (r : ReadBlocks P) (first : Option ℕ) → first ≡ None
    → MayReadBlocks meld group (running r (view_at name old)) → r.read < width (length group) → (s : Slot P) → slot new.seen r.comm r.round (slice_index_or group (r.begin + r.read) 0) ≡ Some s → (said : Summary P) → said ≡ summary_of s
    → (all : Summary P) → all ≡ summary_meld meld r.all said → Goes meld alone true (reads_most (length group)) (view_at name old) (view_at name new) → BlocksTake false group r None (record r { read = r.read + 1; all = all; first = first }) old new
    → ReadsBlocks meld alone false group (running r (view_at name old)) None (running (record r { read = r.read + 1; all = all; first = first }) (view_at name new))
reads_one meld laws alone name old new group r first none may more s stands said tells all is goes takes =
    let at = may.at in
    let begins = did_prefix alone [] old.seen new.seen goes.did in
    record {
      goes = goes;
      takes = takes;
      comm = refl;
      round = refl;
      tells = record {
        are = are_later meld old.seen new.seen r.comm r.round group r.blocks begins at.are;
        unknown = at.unknown;
        side = at.side;
        front = at.front;
        wide = at.wide;
        begins = at.begins;
        within = omega (arith, more);
        read = one_more meld laws old.seen new.seen group r begins at more s stands said tells all is;
      };
      half = λ _. record {
        first = rw none tt;
        more = λ some. absurd (no_first first none some);
        winged = λ set. spread_later (view_at name old) (view_at name new) (block_at r.comm r.round r.side) goes.cached (may.half.winged set);
      };
      sets = λ are. set_later old.cached new.cached r.comm r.round r.blocks goes.cached are;
      ends = λ whole. absurd (cc whole);
    }
