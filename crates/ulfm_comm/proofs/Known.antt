-- What a call knows of its round's blocks, as it goes on.
use Rattle.std.proofs.Common.{◌≡◌, ◌⊎◌, inl, inr, ℕ, Bool, true, false, List, [], Some, None, IsTrue, is_some, refl, ap, sym, ◌∙◌}
use Rattle.ulfm_words.specs.Steps.{TriesFurther}
use Rattle.ulfm_words.specs.declared.accesses.Settled.{Settled}
use Rattle.std.proofs.Common.{subst, append-nil, arith}
use Rattle.std.specs.Prelude.{Result, Ok, Err}
use Rattle.std.proofs.lemmas.Bool.{false≢true}
use mathlib.Core.List.{IsPrefix}
use Rattle.ulfm_model.specs.declared.call.Call.TheVariants as call
use Rattle.ulfm_model.specs.declared.{block.Beside.{Beside}, block.Side.TheVariants.{Front, Back}, call.Call.{Call}}
use Rattle.ulfm_model.specs.declared.{refusal.Refusal.{Refusal}, refusal.Refusal.TheVariants.{OutOfMemory}, reply.Reply.{Reply}}
use Rattle.ulfm_model.specs.declared.reply.Reply.TheVariants.{Refused, Started}
use Rattle.ulfm_model.specs.{Answers.{first_refusal, polled_by}, Records.{Held, Record, held_at, is_shrink}}
use Rattle.ulfm_model.specs.Terms.{comm_of, request_of, tests_of}
use Rattle.ulfm_model.proofs.{Blocks.{has_block_stays}, Lists.{prefix_trans}}
use Rattle.ulfm_words.specs.Steps.{Over as Named, Sight, view_at}
use Rattle.ulfm_steps.specs.{Blocks.{AllSet, AreSet, block_at}, declared.blocks.RoundBlocks.{RoundBlocks}}
use Rattle.ulfm_comm.specs.{Calls.{EndsAs, EndsReply, HasReplied, RepliedAs, is_out_of_memory, reply_of, wants_memory}, Exchange.{start_result}}
use Rattle.ulfm_comm.specs.{Known.{KnowsIn, KnowsNext}, Phase.{GoesOn, IsMaking, IsPast, LeadsTo, NextBelow, is_looking}}
use Rattle.ulfm_comm.specs.{Requests.{BlocksStand, LeavesSet, agreement, is_agreement, is_of_round, is_round_refusal}, Wings.{MayTry, WingsSettled}, Revokes.{revoked}}
use Rattle.ulfm_comm.specs.Step.{HasReadOn, StepSees}
use Rattle.ulfm_comm.specs.declared.{phases.phase.Next.{Next}, phases.phase.Next.TheVariants.{Goes, Ends}, phases.phase.Phase.{Phase}}
use Rattle.ulfm_comm.specs.declared.phases.phase.Phase.TheVariants.{Begun, Looking, Peeking, Marking, Reading}
use Rattle.ulfm_comm.specs.declared.phases.phase.Phase.TheVariants.{ReadingOn, Spawning, Waiting}
use Rattle.ulfm_comm.proofs.Look.{idle_poll}
use Rattle.ulfm_comm.specs.Local.{local}

-- two requests of agreement rounds are of one round
one_round : (a b : Bool) (j k : ℕ) → agreement a j ≡ agreement b k → j ≡ k
one_round false false j k is = cc is
one_round true true j k is = cc is
one_round false true j k is = absurd (cc is)
one_round true false j k is = absurd (cc is)

-- what a record holds that has seen more is as it was, and blocks that are set stay so
pub blocks_of : {P : Type 0} (own new : Record) (asked : Call P) (cached longer : List Beside) → ((c : ℕ) → held_at new c ≡ held_at own c)
    → IsPrefix cached longer → BlocksStand own asked cached → BlocksStand new asked longer
blocks_of own new (call.Poll rank c) cached longer same begins stand = λ x shrinks k held open_is side is. has_block_stays cached longer
    (block_at c k side) begins (stand x shrinks k (sym (same c) ∙ held) open_is side is)
blocks_of own new _ cached longer same begins stand = tt

pub blocks_later : {P : Type 0} (own : Record) (asked : Call P) (cached longer : List Beside) → IsPrefix cached longer → BlocksStand own asked cached
    → BlocksStand own asked longer
blocks_later own asked cached longer begins stand = blocks_of own own asked cached longer (λ c. refl) begins stand

-- a poll that knows all blocks of its round to be set
pub round_known : {P : Type 0} (own : Record) (asked : Call P) (rank : ℕ) → asked ≡ call.Poll rank (comm_of asked) → (x : Held)
    → held_at own (comm_of asked) ≡ Some x → (shrinks : Bool) (k : ℕ) → x.request ≡ Some (agreement shrinks k)
    → (c : ℕ) → c ≡ comm_of asked → (members : List ℕ) → members ≡ x.group → (cached : List Beside) → AllSet cached c k members → BlocksStand own asked cached
round_known {P} own asked rank polls x held shrinks k open_is c there members members_are cached all =
    let here : AllSet cached (comm_of asked) k x.group = subst (λ ms. AllSet cached (comm_of asked) k ms) members_are
    (subst (λ j. AllSet cached j k members) there all) in
    subst (λ (a : Call P). BlocksStand own a cached) (sym polls)
    (λ y other j held' open'.
    let both : Some x ≡ Some y = sym held ∙ held' in
    let same : x ≡ y = cc both in
    let requests : Some (agreement shrinks k) ≡ Some (agreement other j) = sym open_is ∙ (ap (λ (z : Held). z.request) same ∙ open') in
    let round : k ≡ j = one_round shrinks other k j (cc requests) in
    subst (λ (z : Held). AllSet cached (comm_of asked) j z.group) same (subst (λ i. AllSet cached (comm_of asked) i x.group) round here))

-- the poll of an open agree or shrink may cache blocks
pub agreement_caches : {P : Type 0} (own : Record) (asked : Call P) (rank : ℕ) → asked ≡ call.Poll rank (comm_of asked) → (x : Held)
    → held_at own (comm_of asked) ≡ Some x → (shrinks : Bool) (k : ℕ) → x.request ≡ Some (agreement shrinks k)
    → is_agreement (polled_by own asked) ≡ true
agreement_caches own asked rank polls x held shrinks k open_is =
    ap (λ a. is_agreement (polled_by own a)) polls ∙ (ap (λ h. is_agreement (request_of h)) held ∙ (ap is_agreement open_is ∙ by_kind shrinks))
  where
    by_kind : (b : Bool) → is_agreement (Some (agreement b k)) ≡ true
    by_kind false = refl
    by_kind true = refl

-- once a poll knows its round's decision, all that it knows is of blocks that are set
pub known_next : {P : Type 0} (own : Record) (asked : Call P) (cached : List Beside) (next : Next P) → NextBelow 5 next → BlocksStand own asked cached
    → KnowsNext own asked cached next
known_next own asked cached (Ends reply) below stand = λ of. stand
known_next own asked cached (Goes (Peeking peek shrinks)) below stand = absurd (omega (arith, below))
known_next own asked cached (Goes (Marking marks blocks shrinks)) below stand = absurd (omega (arith, below))
known_next own asked cached (Goes (Reading reading shrinks)) below stand = absurd (omega (arith, below))
known_next own asked cached (Goes (ReadingOn on made)) below stand = stand
known_next own asked cached (Goes (Spawning append context reach)) below stand = stand
known_next own asked cached (Goes _) below stand = tt

pub known_making : {P : Type 0} (own : Record) (asked : Call P) (cached : List Beside) (next : Next P) → IsMaking next → BlocksStand own asked cached
    → KnowsNext own asked cached next
known_making own asked cached (Ends reply) making stand = λ of. stand
known_making own asked cached (Goes (Peeking peek shrinks)) making stand = absurd (cc making)
known_making own asked cached (Goes (Marking marks blocks shrinks)) making stand = absurd (cc making)
known_making own asked cached (Goes (Reading reading shrinks)) making stand = absurd (cc making)
known_making own asked cached (Goes (ReadingOn on made)) making stand = stand
known_making own asked cached (Goes (Spawning append context reach)) making stand = stand
known_making own asked cached (Goes _) making stand = tt

-- the same of a record that holds the same
module _ {P : Type 0} (own new : Record) (asked : Call P) (cached : List Beside) (same : (c : ℕ) → held_at new c ≡ held_at own c) where
  blocks_same : BlocksStand own asked cached → BlocksStand new asked cached
  blocks_same stand = blocks_of own new asked cached cached same ([], append-nil cached) stand

  pub knows_same : (phase : Phase P) → KnowsIn own asked cached phase → KnowsIn new asked cached phase
  knows_same (ReadingOn on made) known = blocks_same known
  knows_same (Spawning append context reach) known = blocks_same known
  knows_same _ known = known

  pub next_same : (next : Next P) → KnowsNext own asked cached next → KnowsNext new asked cached next
  next_same (Goes phase) known = knows_same phase known
  next_same (Ends reply) known = λ of. blocks_same (known of)

-- nothing is known of blocks yet
pub knows_none : {P : Type 0} (cached : List Beside) (c k : ℕ) (blocks : RoundBlocks P) → (is_some blocks.front ≡ false) × (is_some blocks.back ≡ false)
    → AreSet cached c k blocks
knows_none cached c k blocks none Front some = absurd (false≢true (sym none.0 ∙ some))
knows_none cached c k blocks none Back some = absurd (false≢true (sym none.1 ∙ some))

-- a poll that its record refuses has no round
pub refused_stand : {P : Type 0} (own : Record) (x : Held) (asked : Call P) (refusal : Refusal) (cached : List Beside) → held_at own (comm_of asked) ≡ Some x
    → first_refusal (tests_of own x asked) ≡ Some refusal → BlocksStand own asked cached
refused_stand {P} own x (call.Poll rank c) refusal cached held is = λ y shrinks k held' open_is.
    let none = idle_poll {P = P} own x (call.Poll rank c) refusal refl is in
    let both : Some x ≡ Some y = sym held ∙ held' in
    let same : x ≡ y = cc both in
    let other : None ≡ Some (agreement shrinks k) = sym none ∙ (ap (λ (z : Held). z.request) same ∙ open_is) in
    absurd (cc other)
refused_stand own x _ refusal cached held is = tt

-- what a start or a revocation answers tells of no round
pub start_of_none : (P : Type 0) (settled : Result (Unit {0}) Settled) → is_of_round {P = P} (reply_of (λ _. Started) (start_result settled)) ≡ false
start_of_none P (Ok done) = refl
start_of_none P (Err Settled.Marked) = refl
start_of_none P (Err Settled.Contributed) = refl

pub revoked_of_none : (P : Type 0) (won : Bool) → is_of_round {P = P} (revoked won) ≡ false
revoked_of_none P true = refl
revoked_of_none P false = refl

-- a call behind its look doesn't come back to it
making_past : {P : Type 0} (next : Next P) → IsMaking next → IsPast next
making_past (Ends reply) making = tt
making_past (Goes Begun) making = absurd (cc making)
making_past (Goes Looking) making = absurd (cc making)
making_past (Goes _) making = refl

goes_past : {P : Type 0} (next : Next P) → GoesOn next → IsPast next
goes_past (Ends reply) goes = tt
goes_past (Goes phase) goes = goes

pub leads_past : {P : Type 0} (phase : Phase P) (next : Next P) → is_looking phase ≡ false → LeadsTo phase next → IsPast next
leads_past Begun next past leads = absurd (cc past)
leads_past Looking next past leads = absurd (cc past)
leads_past (ReadingOn on made) next past leads = making_past next leads
leads_past (Spawning append context reach) next past leads = making_past next leads
leads_past (Waiting arrivals) next past leads = goes_past next leads
leads_past _ next past leads = leads

-- a call that is nearer to its reply than its look doesn't either
pub below_past : {P : Type 0} (next : Next P) → NextBelow 8 next → IsPast next
below_past (Ends reply) below = tt
below_past (Goes Begun) below = absurd (omega (arith, below))
below_past (Goes Looking) below = absurd (omega (arith, below))
below_past (Goes _) below = refl

-- whether a call reads on in the list of failures
abbrev pub reads_on : {P : Type 0} → Phase P → Bool
reads_on (ReadingOn on made) = true
reads_on _ = false

-- what has been seen behind the look, a step later
module _ {P : Type 0} (own : Record) (asked : Call P) (cached longer : List Beside) (begins : IsPrefix cached longer) (start mid new : List ℕ) where
  still_read_on : HasReadOn own asked start mid cached → new ≡ mid → HasReadOn own asked start new longer
  still_read_on read same = record {
    shrinks = read.shrinks;
    goes_on = subst (IsPrefix start) (sym same) read.goes_on;
    known = blocks_later own asked cached longer begins read.known;
  }

  sees_still : (mid ≡ start) ⊎ HasReadOn own asked start mid cached → new ≡ mid → (new ≡ start) ⊎ HasReadOn own asked start new longer
  sees_still (inl none) same = inl (same ∙ none)
  sees_still (inr read) same = inr (still_read_on read same)

  sees_more : (mid ≡ start) ⊎ HasReadOn own asked start mid cached → IsTrue (is_shrink (polled_by own asked)) → IsPrefix mid new → BlocksStand own asked longer
      → (new ≡ start) ⊎ HasReadOn own asked start new longer
  sees_more (inl none) shrinks more known = inr (record { shrinks = shrinks; goes_on = subst (λ xs. IsPrefix xs new) none more; known = known })
  sees_more (inr read) shrinks more known = inr (record { shrinks = shrinks; goes_on = prefix_trans start mid new read.goes_on more; known = known })

  pub sees_next : (phase : Phase P) → is_looking phase ≡ false → StepSees phase mid new → (reads_on phase ≡ true → IsTrue (is_shrink (polled_by own asked)))
      → KnowsIn own asked cached phase
      → (mid ≡ start) ⊎ HasReadOn own asked start mid cached → (new ≡ start) ⊎ HasReadOn own asked start new longer
  sees_next Begun past sees shrinks known was = absurd (cc past)
  sees_next Looking past sees shrinks known was = absurd (cc past)
  sees_next (ReadingOn on made) past sees shrinks known was = sees_more was (shrinks refl) sees (blocks_later own asked cached longer begins known)
  sees_next _ past sees shrinks known was = sees_still was sees

-- a call that ran out of memory has read its round
memory_of_round : {P : Type 0} (reply : Reply P) → wants_memory reply ≡ true → is_of_round reply ≡ true
memory_of_round (Refused refusal) wants = go refusal wants
  where
    go : (refusal : Refusal) → is_out_of_memory refusal ≡ true → is_round_refusal refusal ≡ true
    go OutOfMemory wants = refl
    go _ wants = absurd (cc wants)
memory_of_round _ wants = absurd (cc wants)

-- a whole call, by what it comes to
module _ {P : Type 0} (meld : P → P → P) (alone : Bool) (name : Named P) (asked : Call P) (old : Record) (before : Sight P) (reply : Reply P) (new : Record)
    (after : Sight P) where
  pub whole_ends : HasReplied meld alone asked (local old (view_at name before)) reply (local new (view_at name after)) → IsPrefix before.cached after.cached
      → TriesFurther (MayTry old asked) before.caches after.caches → (IsTrue alone → WingsSettled (view_at name before) → WingsSettled (view_at name after)) → LeavesSet old asked reply after.cached
      → EndsReply meld alone asked (local old (view_at name before)) reply (local new (view_at name after))
  whole_ends replied begins caches wings knows = go (wants_memory reply) refl replied
    where
      go : (b : Bool) → wants_memory reply ≡ b → RepliedAs meld alone asked (local old (view_at name before)) reply b (local new (view_at name after))
          → EndsAs meld alone asked (local old (view_at name before)) reply b (local new (view_at name after))
      go true wants ended = (
        record {
          ran_out = ended.0;
          blocks = record { cached = begins; caches = caches; wings = wings; knows = λ _. knows (memory_of_round reply wants) };
        },
        ended.1,
      )
      go false wants ended = record {
        linearizes = ended;
        blocks = record { cached = begins; caches = caches; wings = wings; knows = knows };
      }
